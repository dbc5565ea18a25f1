use Rattle.std.proofs.Common.{◌≡◌, List, None, length, map, sym, ap, ◌∙◌, subst, arith}
use Rattle.std.specs.Arc.{arc_value}
use Rattle.std.proofs.lemmas.List.{length-map}
use Rattle.std.proofs.lemmas.Result.{IfOk-weaker, MatchResult-weaker}
use Rattle.generation_store.specs.Published.{Published}
use Rattle.run_audit.specs.Audit.{AuditValue}
use Rattle.run_audit.specs.AuditFaults.{NamesLine}
use Rattle.run_audit.specs.Closing.{IsMadeOf}
use Rattle.run_audit.specs.Judging.{ToldValue}
use Rattle.run_audit.specs.JudgingValues.{judging_value}
use Rattle.run_audit.specs.LeftOver.{first_behind}
use Rattle.run_audit.specs.ToldReport.{lines_told}
use Rattle.run_audit.specs.declared.rebuilt.Rebuilt.{Rebuilt}
use Rattle.run_audit.proofs.AuditSteps.{judged_of, told_of}
use Rattle.run_audit.proofs.Rebuilding.{behind_first, fault_first, rebuilds}
use Rattle.run_audit.proofs.audit.Audit.close.Goals as goal

pub returns-in-Some-clause-wrong : goal.returns-in-Some-clause-wrong
returns-in-Some-clause-wrong c = fault_first c.args.self c.in-Some.fault (ap (λ (a : AuditValue). a.fault) (sym c.self.view_is) ∙ c.in-Some.is)

pub returns-in-None-clause-rebuilt : goal.returns-in-None-clause-rebuilt
returns-in-None-clause-rebuilt c =
    let clear : c.args.self.fault ≡ None = ap (λ (a : AuditValue). a.fault) (sym c.self.view_is) ∙ c.in-None.is in
    IfOk-weaker c.rebuilt_of.result _ _
    (λ rebuilt made config steps report inputs is.
    let told = subst (λ (t : ToldValue). IsMadeOf t c.self.inside.report.items c.self.inside.answers.items (judging_value c.self.inside.judging) rebuilt) c.self.invariant.0 made in
    let whole = subst (λ (a : AuditValue). IsMadeOf (told_of a) a.report a.answers (judged_of a) rebuilt) c.self.view_is told in
    rebuilds config steps report inputs c.args.self is clear rebuilt whole)
    c.rebuilt_of.ensures.made

pub returns-in-None-clause-some : goal.returns-in-None-clause-some
returns-in-None-clause-some c =
    IfOk-weaker c.rebuilt_of.result _ _
    (λ (rebuilt : Rebuilt) (made : IsMadeOf c.self.inside.told c.self.inside.report.items c.self.inside.answers.items (judging_value c.self.inside.judging) rebuilt).
    let many : length (map arc_value rebuilt.editions.items) ≡ length c.self.inside.told.editions = ap (λ (es : List Published). length es) made.editions in
    omega (arith, length-map rebuilt.editions.items arc_value, many, c.self.invariant.1))
    c.rebuilt_of.ensures.made

pub returns-in-None-clause-wrong : goal.returns-in-None-clause-wrong
returns-in-None-clause-wrong c =
    let clear : c.args.self.fault ≡ None = ap (λ (a : AuditValue). a.fault) (sym c.self.view_is) ∙ c.in-None.is in
    MatchResult-weaker c.rebuilt_of.result c.rebuilt_of.ensures.wrong (λ rebuilt none. none)
    (λ fault names.
    let told = subst (λ (t : ToldValue). NamesLine (first_behind t (lines_told c.self.inside.report.items) (judging_value c.self.inside.judging).dockets) fault) c.self.invariant.0 names in
    let whole = subst (λ (a : AuditValue). NamesLine (first_behind (told_of a) (lines_told a.report) a.dockets) fault) c.self.view_is told in
    behind_first c.args.self fault clear whole)
