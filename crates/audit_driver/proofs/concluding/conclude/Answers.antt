use Rattle.std.proofs.Common.{ℕ, ◌∙◌, ◌++◌, Global, Vec, ap, arith, inl, refl, subst}
use Rattle.std.proofs.lemmas.List.{length-map}
use Rattle.std.proofs.lemmas.Result.{IfOk-weaker}
use Rattle.std.specs.Arc.{arc_value}
use Rattle.report_texts.specs.declared.ends.LineAnswer.{LineAnswer}
use Rattle.replay_setup.proofs.SomeEditions.{some_editions}
use Rattle.run_audit.specs.Audit.{IsFirstWrong}
use Rattle.audit_driver.proofs.Conclusions.{concludes_so}
use Rattle.audit_driver.proofs.concluding.conclude.Goals as goal

pub returns-in-Err-Wrong : goal.returns-in-Err-Wrong
returns-in-Err-Wrong c =
    let fault_is = c.in-Err-Wrong.field-0-is in
    let line_is = c.in-Err-Wrong.line-is in
    let wrong = rw c.in-Err-Wrong.field-0-is at c.in-Err-Wrong.ensures.wrong in
    λ config steps report inputs is. inl (subst (λ (line : ℕ). IsFirstWrong config steps report inputs line) (cc) (wrong config steps report inputs is))

pub compare-requires : goal.compare-requires
compare-requires c =
    let r = c.requires in
    let legal = (c.in-Ok.ensures.rebuilt r.config r.steps r.report r.inputs r.is).legal in
    omega (arith, some_editions _ _ _ _ legal.editions, length-map c.in-Ok.rebuilt.editions.items arc_value)

pub returns : goal.returns
returns c =
    IfOk-weaker c.compare.result _ _ (λ result compares.
    concludes_so c.args.first c.args.audit c.args.ends.items c.in-Ok.rebuilt c.in-Ok.rebuilt (record { captures = c.from_vec.result; answers = c.in_ok-join_answers-in-Ok.field-0 }) result c.in-Ok.ensures.rebuilt refl refl
    c.from_vec.ensures (c.in_ok-join_answers-in-Ok.ensures ∙ ap (λ (v : Vec LineAnswer Global). c.args.first ++ v.items) c.replace-behind.ensures.value) compares) c.compare.ensures
