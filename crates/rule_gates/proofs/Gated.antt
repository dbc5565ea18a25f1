-- Lists of gates.
use Rattle.std.proofs.Common.{◌≡◌, Bool, true, false, not, ◌&&◌, ◌||◌, Option, List, [], ◌∷◌, ◌++◌, Some, None, refl, sym, ap, ◌∙◌}
use Rattle.fw_rule.specs.declared.body.Body.{Body}
use Rattle.fw_rule.specs.declared.rule.Rule.{Rule}
use Rattle.rule_gates.specs.Covers.{IsExactGate, IsGateOfBody, IsOpen, TellsBody}
use Rattle.rule_gates.specs.Gates.{AreGates, IsGateOf, is_body_held, is_exact}
use Rattle.rule_gates.specs.Stateful.{looks_up}
use Rattle.rule_gates.specs.Told.{is_told_body}
use Rattle.rule_gates.specs.declared.gate.Gate.{Gate}

-- an open gate is one of every rule that looks something up
pub open_gate : (rule : Rule) (gate : Gate) → looks_up rule ≡ true → IsOpen gate → is_exact gate ≡ false → IsGateOf rule gate
open_gate rule gate looked is_open partial = record {
  sound = λ tables locals packet port key is concerned. is_open packet key is;
  telling = λ body packet key there unlooked is admitted. absurd (cc);
  exact = partial ∙ ap (λ looked. not looked && is_told_body rule.body) (sym looked);
  whole = λ tables locals packet port key all is fit admitted. absurd (cc);
}

-- so is one of a rule without a body
pub open_gate_of_none : (rule : Rule) (gate : Gate) → rule.body ≡ None → IsOpen gate → is_exact gate ≡ false → IsGateOf rule gate
open_gate_of_none rule gate none is_open partial = record {
  sound = λ tables locals packet port key is concerned. is_open packet key is;
  telling = λ body packet key there unlooked is admitted. absurd (cc);
  exact = partial ∙ sym (untold (not (looks_up rule)) rule.body none);
  whole = λ tables locals packet port key all is fit admitted. absurd (cc);
}
  where
    untold : (a : Bool) (body : Option Body) → body ≡ None → (a && is_told_body body) ≡ false
    untold true None is = refl
    untold false None is = refl
    untold a (Some body) is = absurd (cc)

-- a rule that looks nothing up concerns the packets that its body holds of
pub gate_of_body : (rule : Rule) (body : Body) (gate : Gate) → rule.body ≡ Some body → looks_up rule ≡ false → IsGateOfBody body gate → TellsBody body gate → IsExactGate body gate → is_exact gate ≡ is_told_body (Some body) → IsGateOf rule gate
gate_of_body rule body gate there unlooked sound tells exact told = record {
  sound = λ tables locals packet port key is concerned. sound tables locals packet port key is (held (looks_up rule) (is_body_held rule.body tables locals packet port) unlooked concerned (is_body_held (Some body) tables locals packet port) (rw there refl));
  telling = λ other packet key is_other unlooked is admitted. let same : other ≡ body = cc in rw same (tells packet key is admitted);
  exact = told ∙ ap (λ asked. is_told_body asked) (sym there) ∙ ap (λ looked. not looked && is_told_body rule.body) (sym unlooked);
  whole = λ tables locals packet port key all is fit admitted. rw there (exact tables locals packet port key all is fit admitted);
}
  where
    held : (a b : Bool) → a ≡ false → (a || b) ≡ true → (c : Bool) → b ≡ c → c ≡ true
    held true b is either c same = cc
    held false b is either c same = cc

-- one gate more
pub gates-push : (rules : List Rule) (gates : List Gate) (rule : Rule) (gate : Gate) → AreGates rules gates → IsGateOf rule gate → AreGates (rules ++ rule ∷ []) (gates ++ gate ∷ [])
gates-push [] [] rule gate are is = (is, tt)
gates-push [] (other ∷ gates) rule gate are is = absurd are
gates-push (r ∷ rules) [] rule gate are is = absurd are
gates-push (r ∷ rules) (g ∷ gates) rule gate are is = (are.0, gates-push rules gates rule gate are.1 is)
