use Rattle.std.proofs.Common.{◌≡◌, ◌∙◌, ◌-◌, ◌<◌, ℕ, List, [], ◌++◌, drop, length, min, refl, sym, subst, arith}
use Rattle.load_maker.specs.Load.{records_from}
use Rattle.load_maker.proofs.Reading.{behind_the_end, has_bytes, next_then_others, front_is_given}
use Rattle.load_maker.proofs.made_capture.MadeCaptureSource.read.Goals as goal
use Rattle.load_maker.proofs.made_capture.MadeCaptureSource.read.Goals.{then-self-len+else-self-eq0, else-self-len}

pub returns-then-self-eq0-clause-bytes : goal.returns-then-self-eq0-clause-bytes
unfolding records_from
returns-then-self-eq0-clause-bytes c =
    let nothing : c.args.self.now ≡ [] =
    sym c.self.view_is ∙ rw (behind_the_end c.self.inside.piece.items c.self.inside.taken (c.if-self-len.true ∙ c.len.ensures.value), c.if-self-eq0.true) refl in
    (refl, λ none room. nothing)

pub returns-clause-bytes : goal.returns-clause-bytes
returns-clause-bytes c =
    let inside = c.if-self-len.self-inside in
    let piece = inside.piece.items in
    let behind = records_from inside.more inside.number inside.generator.state in
    let old = c.self.inside in
    let stands : (c.args.self.now ≡ drop inside.taken piece ++ behind) × (inside.taken < length piece) =
    elim c.if-self-len.branch [
      | then-self-len+else-self-eq0 w ↦
          rw w.self-inside-is (
            sym c.self.view_is
                ∙ rw (behind_the_end old.piece.items old.taken (w.if-self-len.true ∙ c.len.ensures.value), w.made_record-self-inside.ensures.record, w.made_record-self-inside.ensures.state)
                (next_then_others old.more old.number old.generator.state w.if-self-eq0.false),
            rw w.made_record-self-inside.ensures.record (has_bytes _ _),
          )
      | else-self-len w ↦
          let unequal = w.if-self-len.false in
          let len = c.len.ensures.value in
          let fits = c.self.invariant.0 in
          rw w.self-inside-is (sym c.self.view_is, omega (arith, unequal, len, fits))
    ] in
    let count = c.copy_from-count.result in
    let least : count ≡ min (length piece - inside.taken) (length c.args.buf.now) =
    subst (λ (l : List ℕ). count ≡ min (length l - inside.taken) (length c.args.buf.now)) c.deref.ensures.0 c.copy_from-count.ensures.count in
    let size : length c.copy_from-count.new.buffer ≡ length c.args.buf.now = c.copy_from-count.ensures.length in (
      stands.0 ∙ rw (c.copy_from-count.ensures.bytes, c.deref.ensures.0) (front_is_given piece behind c.args.buf.now inside.taken count (omega (arith, least))),
      λ none room. let more = stands.1 in absurd (omega (arith, least, size, none, room, more)),
    )
