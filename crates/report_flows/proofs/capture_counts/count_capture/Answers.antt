use Rattle.std.proofs.Common.{◌≡◌, ◌+◌, true, false, sym, subst, ◌∙◌, length, refl}
use Rattle.std.specs.Prelude.{is_some}
use Rattle.std.proofs.lemmas.Result.{err_from_is_err_and}
use Rattle.pcap_read.specs.Capture.{current_of}
use Rattle.report_flows.specs.Counting.{IsPlaceOf}
use Rattle.report_flows.proofs.CaptureSteps.{below_number, given_more, read_counted, read_nothing, read_past, read_stopped, read_whole}
use Rattle.report_flows.proofs.capture_counts.count_capture.Goals.{then-at-told+in_ok-count_record-in-Ok-true, else-at-told}
use Rattle.report_flows.proofs.capture_counts.count_capture.Goals as goal

pub loop-places-init : goal.loop-places-init
loop-places-init g c =
    let opened = c.in_ok-capture.ensures.opened in
    record {
      places = c.in_ok-places.ensures;
      read = read_nothing g.S.Source.left g.S.Source.faults c.args.source c.args.moves.now c.args.told.now.capture c.args.told.now.old.now
          c.args.told.now.new.now c.args.counts.now c.in_ok-capture.capture opened c.requires.none;
      limit = opened.limit;
      given = opened.reading.1.count;
    }

pub count_record-requires-clause-few : goal.count_record-requires-clause-few
count_record-requires-clause-few g c =
    let inv = c.loop-places.invariant in
    below_number g.S.Source.left g.S.Source.faults c.args.source c.args.moves.now c.args.told.now.capture c.args.told.now.old.now
    c.args.told.now.new.now c.args.counts.now c.loop-places.capture c.advance.new.self c.loop-places.counts c.loop-places.at inv.read
    c.requires.lengths _ c.place_at-place.result _ c.if-at-told.true
    (subst (IsPlaceOf c.args.moves.now c.args.told.now.capture _) (sym c.place_at-place.ensures) (inv.places _))

pub loop-places-preserved : goal.loop-places-preserved
loop-places-preserved g c =
    let inv = c.loop-places.invariant in
    let held = current_of c.advance.new.self in
    let step = c.in-Ok-true.ensures.advances in
    let is : is_some held ≡ true = let found = c.in-Ok-true.ensures.found in let test = c.in-Ok-true.field-0-test in (cc) in
    let limit = step.limit ∙ inv.limit in
    let given = given_more g.S.Source.left g.S.Source.faults c.args.source c.args.moves.now c.args.told.now.capture c.args.told.now.old.now
    c.args.told.now.new.now c.args.counts.now c.loop-places.capture c.advance.new.self held is step
    in
    elim c.if-at-told.branch [
      | then-at-told+in_ok-count_record-in-Ok-true w ↦
          let place = subst (IsPlaceOf c.args.moves.now c.args.told.now.capture _) (sym w.place_at-place.ensures) (inv.places _) in
          rw w.counts-is (record {
            places = inv.places;
            read = read_counted g.S.Source.left g.S.Source.faults c.args.source c.args.moves.now c.args.told.now.capture c.args.told.now.old.now
                c.args.told.now.new.now c.args.counts.now c.loop-places.capture c.advance.new.self c.loop-places.counts c.loop-places.at
                inv.read c.requires.lengths c.requires.once held is step w.place_at-place.result _ w.if-at-told.true place
                (rw w.flow_held.ensures at w.in_ok-count_record-in-Ok-true.ensures);
            limit = limit;
            given = given ∙ (λ i. inv.given i + 1);
          })
      | else-at-told w ↦
          rw w.counts-is (record {
            places = inv.places;
            read = read_past g.S.Source.left g.S.Source.faults c.args.source c.args.moves.now c.args.told.now.capture c.args.told.now.old.now
                c.args.told.now.new.now c.args.counts.now c.loop-places.capture c.advance.new.self c.loop-places.counts c.loop-places.at
                inv.read c.requires.lengths held is step w.if-at-told.false;
            limit = limit;
            given = given ∙ (λ i. inv.given i + 1);
          })
    ]

pub returns-in-Ok-false-clause-counted : goal.returns-in-Ok-false-clause-counted
returns-in-Ok-false-clause-counted g c =
    let inv = c.loop-places.invariant in
    let held = current_of c.advance.new.self in
    let isn't : is_some held ≡ false = let found = c.in-Ok-false.ensures.found in let test = c.in-Ok-false.field-0-test in (cc) in
    read_whole g.S.Source.left g.S.Source.faults c.args.source c.args.moves.now c.args.told.now.capture c.args.told.now.old.now
    c.args.told.now.new.now c.args.counts.now c.loop-places.capture c.advance.new.self c.loop-places.counts c.loop-places.at inv.read
    c.requires.lengths held isn't c.in-Ok-false.ensures.advances inv.limit

pub returns-in_err-capture-clause-cause : goal.returns-in_err-capture-clause-cause
returns-in_err-capture-clause-cause g c =
    let told = err_from_is_err_and c.from_residual-in_err-capture.result c.from_residual-in_err-capture.ensures.1 in
    rw (told.1, told.2) (c.in_err-capture.ensures.cause (length c.args.told.now.old.now))

pub returns-in-Err-clause-cause : goal.returns-in-Err-clause-cause
returns-in-Err-clause-cause g c =
    let inv = c.loop-places.invariant in (
      refl,
      read_stopped g.S.Source.left g.S.Source.faults c.args.source c.args.moves.now c.args.told.now.capture c.args.told.now.old.now
          c.args.told.now.new.now c.args.counts.now c.loop-places.capture c.advance.new.self c.loop-places.counts c.loop-places.at inv.read
          c.requires.lengths c.in-Err.fault c.in-Err.ensures.advances inv.limit,
    )
