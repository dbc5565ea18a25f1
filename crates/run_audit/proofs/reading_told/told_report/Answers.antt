use Rattle.std.proofs.Common.{◌≡◌, ◌+◌, ◌<◌, ◌^◌, None, sym, ap, ◌∙◌, subst, map, arith}
use Rattle.std.specs.Prelude.{IfErr}
use Rattle.std.specs.Arc.{arc_value}
use Rattle.std.proofs.lemmas.Result.{IfOk-weaker, MatchResult-weaker}
use Rattle.run_audit.specs.AuditFaults.{NamesLine}
use Rattle.run_audit.specs.JournalTold.{ToldJournal, wrong_line}
use Rattle.run_audit.specs.Telling.{IsClosed}
use Rattle.run_audit.specs.Opening.{unformed_line, unlawful_line}
use Rattle.run_audit.proofs.FormedLines.{formed_here, formed_more, named_if, none_unformed}
use Rattle.run_audit.proofs.ReadLines.{all_read, read_more, read_wrong, told_all}
use Rattle.run_audit.proofs.reading_told.told_report.Goals as goal

pub returns-in-None-clause-told : goal.returns-in-None-clause-told
returns-in-None-clause-told c =
    IfOk-weaker _ _ _ (λ told closed. told_all _ c.args.report.now c.loop-telling.line c.loop-telling.rest.now c.loop-telling.telling told c.in-None.ensures.lines c.loop-telling.invariant.read closed) c.closed.ensures.closed

pub returns-in-None-clause-few : goal.returns-in-None-clause-few
returns-in-None-clause-few c =
    let fits = c.loop-telling.auto.line-fits in
    IfOk-weaker c.closed.result (IsClosed (map arc_value c.args.editions.items) c.loop-telling.line c.loop-telling.telling) (λ told. told.lines + 1 < 2 ^ 64)
    (λ told closed. let lines = closed.lines in omega (arith, lines, fits)) c.closed.ensures.closed

pub returns-in-None-clause-formed : goal.returns-in-None-clause-formed
returns-in-None-clause-formed c =
    IfOk-weaker c.closed.result (IsClosed (map arc_value c.args.editions.items) c.loop-telling.line c.loop-telling.telling) (λ told. unformed_line c.args.report.now ≡ None)
    (λ told closed. sym c.loop-telling.invariant.formed ∙ none_unformed c.loop-telling.line c.loop-telling.rest.now c.in-None.ensures.lines) c.closed.ensures.closed

pub returns-in-None-clause-wrong : goal.returns-in-None-clause-wrong
returns-in-None-clause-wrong c =
    let named =
    subst (λ (t : ToldJournal). IfErr c.closed.result (NamesLine (wrong_line t)))
    (all_read _ c.args.report.now c.loop-telling.line c.loop-telling.rest.now c.loop-telling.telling c.in-None.ensures.lines c.loop-telling.invariant.read) c.closed.ensures.wrong in
    MatchResult-weaker c.closed.result named (λ told none. none)
    (λ fault names. named_if (unformed_line c.args.report.now ≡ None) (unlawful_line (map arc_value c.args.editions.items) c.args.report.now) fault names)

pub returns-then-not-branch-clause-wrong : goal.returns-then-not-branch-clause-wrong
returns-then-not-branch-clause-wrong c = λ all.
    let false_is = c.if-not-branch.true in
    let formed = formed_here c.loop-telling.line c.loop-telling.rest.now c.in-Some.text.now c.in-Some.behind.now c.in-Some.ensures.lines (c.loop-telling.invariant.formed ∙ all) in
    let found = c.in_ok-take_line-in-Some.ensures.wrong (cc) formed in
    let none = rw c.deref.ensures.value at found in
    ap (λ (t : ToldJournal). wrong_line t)
    (read_wrong (map arc_value c.args.editions.items) c.args.report.now c.loop-telling.line c.loop-telling.rest.now c.in-Some.text.now c.in-Some.behind.now c.loop-telling.telling c.in-Some.ensures.lines none
    c.loop-telling.invariant.read)

pub loop-telling-preserved : goal.loop-telling-preserved
loop-telling-preserved c =
    let true_is = c.if-not-branch.false in
    let shorter = c.in-Some.ensures.shorter in
    let few = c.loop-telling.invariant.few in
    let taken_lent = c.in_ok-take_line-in-Some.ensures.taken (cc) in
    let taken = rw c.deref.ensures.value at taken_lent in
    let under_lent = c.in_ok-take_line-in-Some.ensures.under (cc) in
    let under = rw c.deref.ensures.value at under_lent in
    record {
      read = read_more (map arc_value c.args.editions.items) c.args.report.now c.loop-telling.line c.loop-telling.rest.now c.in-Some.text.now c.in-Some.behind.now c.loop-telling.telling _ c.in-Some.ensures.lines
          taken under c.loop-telling.invariant.read;
      formed = formed_more c.loop-telling.line c.loop-telling.rest.now c.in-Some.text.now c.in-Some.behind.now c.in-Some.ensures.lines (c.in_ok-take_line-in-Some.ensures.formed (cc))
          ∙ c.loop-telling.invariant.formed;
      first = omega arith;
      few = omega (arith, shorter, few);
    }
