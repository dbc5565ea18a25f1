-- What a command that touches no rule leaves as it was.
use Rattle.std.proofs.Common.{◌≡◌, ◌∙◌, Bool, true, false, if◌then◌else◌, Ok, Err, refl, ap, sym}
use Rattle.fw_rule.specs.declared.command.Command.TheVariants.{Add, Delete, DeleteSet, Flush, Zero, ListRules, SetMask, MoveSet, MoveRule, SwapSets, Table, Sysctl, Local}
use Rattle.rule_edits.specs.Answers.{Answer, ◌>>=◌}
use Rattle.rule_edits.specs.Apply.{set_mask, change_table, add_locals}
use Rattle.rule_chain.specs.Configuration.{Configuration}
use Rattle.rule_chain.specs.Configuration.{HasRulesOf}
use Rattle.rule_edits.specs.Touching.{UntouchedRulesStay}
use Rattle.rule_edits.specs.declared.apply_fault.ApplyFault.{ApplyFault}

-- the value that is answered
answered : (made after : Configuration) → (let answer : Answer Configuration = Ok made in answer) ≡ Ok after → made ≡ after
answered made after is = cc

-- the value of a condition that isn't refused
value_of_unrefused : (refused : Bool) (fault : ApplyFault) (made after : Configuration) → (if refused then Err fault else Ok made) ≡ Ok after → made ≡ after
value_of_unrefused true fault made after is = cc
value_of_unrefused false fault made after is = cc

-- what a second step that can't fail makes of what the first one answers
made_of : {X : Type 0} (made : X → Configuration) (answer : Answer X) (after : Configuration) → (answer >>= λ x. Ok (made x)) ≡ Ok after → (x : X) × (made x ≡ after)
made_of made (Ok x) after is = (x, cc)
made_of made (Err fault) after is = cc

-- a configuration has the rules and the flow names of the one that it is made from
same_rules : (before made after : Configuration) → made.rules ≡ before.rules → made.names ≡ before.names → made ≡ after → HasRulesOf before after
same_rules before made after rules names is = record {
  rules = sym (ap (λ (c : Configuration). c.rules) is) ∙ rules;
  names = sym (ap (λ (c : Configuration). c.names) is) ∙ names;
}

-- a command that touches no rule leaves the rules and the flow names as they were
pub untouched_rules_stay : UntouchedRulesStay
unfolding set_mask change_table add_locals
untouched_rules_stay before after (Add draft) untouched is = absurd (cc)
untouched_rules_stay before after (Delete numbers) untouched is = absurd (cc)
untouched_rules_stay before after (DeleteSet set) untouched is = absurd (cc)
untouched_rules_stay before after Flush untouched is = absurd (cc)
untouched_rules_stay before after (Zero numbers) untouched is = absurd (cc)
untouched_rules_stay before after ListRules untouched is = same_rules before before after refl refl (answered before after is)
untouched_rules_stay before after (SetMask disable enable) untouched is = same_rules before _ after refl refl (value_of_unrefused _ _ _ after is)
untouched_rules_stay before after (MoveSet from to) untouched is = absurd (cc)
untouched_rules_stay before after (MoveRule number to) untouched is = absurd (cc)
untouched_rules_stay before after (SwapSets first second) untouched is = absurd (cc)
untouched_rules_stay before after (Table name command) untouched is =
    let step = made_of (λ tables. record before { tables = tables }) _ after is in
    same_rules before _ after refl refl step.1
untouched_rules_stay before after (Sysctl setting value) untouched is = same_rules before _ after refl refl (answered _ after is)
untouched_rules_stay before after (Local addresses) untouched is = same_rules before _ after refl refl (answered _ after is)
