use Rattle.std.proofs.Common.{◌≤◌, refl, sym, ◌∙◌, subst}
use Rattle.std.proofs.lemmas.List.{length-map}
use Rattle.eval_engine.specs.Dockets.{DocketValue}
use Rattle.fw_world.specs.Inputs.{Packet}
use Rattle.run_audit.specs.Audit.{AuditValue, IsAuditOf}
use Rattle.run_audit.specs.AuditFaults.{IfWrong}
use Rattle.run_audit.specs.Entering.{EntersNext, FailsNext}
use Rattle.run_audit.specs.Judging.{ToldValue}
use Rattle.run_audit.specs.JudgingValues.{judging_value}
use Rattle.run_audit.proofs.AuditSteps.{met_before, met_fault, met_so}
use Rattle.run_audit.proofs.audit.Audit.judge.Goals as goal

pub returns-in-Some-clause-met : goal.returns-in-Some-clause-met
returns-in-Some-clause-met c = λ config steps report inputs is.
    let before = subst (λ (a : AuditValue). IsAuditOf config steps report inputs a) (sym c.self.view_is) is in
    let ordered = subst (λ (a : AuditValue). a.lane ≤ c.args.lane) (sym c.self.view_is) c.requires.ordered in
    met_before config steps report c.args.lane (Packet c.args.packet.now c.args.port.now c.args.second) inputs _ _ before c.requires.first ordered refl refl refl refl refl refl c.in-Some.fault c.in-Some.is c.in-Some.is

pub returns-in-Ok-clause-met : goal.returns-in-Ok-clause-met
returns-in-Ok-clause-met c = λ config steps report inputs is.
    let before = subst (λ (a : AuditValue). IsAuditOf config steps report inputs a) (sym c.self.view_is) is in
    let ordered = subst (λ (a : AuditValue). a.lane ≤ c.args.lane) (sym c.self.view_is) c.requires.ordered in
    let captures = length-map c.judge.new.self.dockets.items (λ (d : DocketValue). d.entries) ∙ c.judge.ensures.dockets ∙ sym (length-map c.self.inside.judging.dockets.items (λ (d : DocketValue). d.entries)) in
    let enters = subst (λ (t : ToldValue). EntersNext t c.args.lane (Packet c.args.packet.now c.args.port.now c.args.second) (judging_value c.self.inside.judging) (judging_value c.judge.new.self)) c.self.invariant.0 c.in-Ok.ensures.entered in
    met_so config steps report c.args.lane (Packet c.args.packet.now c.args.port.now c.args.second) inputs _ _ before c.requires.first ordered refl refl refl refl captures c.judge.ensures.lane c.in_default.is c.in_default.is enters

pub returns-in-Err-clause-met : goal.returns-in-Err-clause-met
returns-in-Err-clause-met c = λ config steps report inputs is.
    let before = subst (λ (a : AuditValue). IsAuditOf config steps report inputs a) (sym c.self.view_is) is in
    let ordered = subst (λ (a : AuditValue). a.lane ≤ c.args.lane) (sym c.self.view_is) c.requires.ordered in
    let captures = length-map c.judge.new.self.dockets.items (λ (d : DocketValue). d.entries) ∙ c.judge.ensures.dockets ∙ sym (length-map c.self.inside.judging.dockets.items (λ (d : DocketValue). d.entries)) in
    let fails = subst (λ (t : ToldValue). IfWrong c.in-Err.fault (FailsNext t c.args.lane (Packet c.args.packet.now c.args.port.now c.args.second) (judging_value c.self.inside.judging))) c.self.invariant.0 c.in-Err.ensures.wrong in
    met_fault config steps report c.args.lane (Packet c.args.packet.now c.args.port.now c.args.second) inputs _ _ before c.requires.first ordered refl refl refl refl captures c.judge.ensures.lane c.in_default.is c.in-Err.fault refl fails
