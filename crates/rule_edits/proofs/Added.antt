-- What an `add` answers, step by step.
use Rattle.std.proofs.Common.{◌≡◌, ℕ, Bool, true, false, not, nat_le, if◌then◌else◌, Some, None, Ok, Err, IfOk, IfErr, length, refl, ap, ◌∙◌}
use Rattle.std.specs.Prelude.{◌==◌}
use Rattle.fw_rule.specs.declared.rule_draft.RuleDraft.{RuleDraft}
use Rattle.rule_edits.specs.Adding.{adding_fault, with_name_and_tables}
use Rattle.rule_edits.specs.Answers.{Answer, ◌>>=◌, unless_refused, Gives, IsRefusal}
use Rattle.rule_edits.specs.Apply.{add_rule, with_rule, has_counters}
use Rattle.rule_chain.specs.Configuration.{Configuration}
use Rattle.rule_edits.specs.Lookups.{with_uses}
use Rattle.rule_chain.specs.Names.{name_of}
use Rattle.rule_edits.specs.NewNames.{with_name_of}
use Rattle.rule_edits.specs.Rules.{chosen_number}
use Rattle.rule_edits.specs.Uses.{uses_of}
use Rattle.rule_edits.specs.declared.apply_fault.ApplyFault.{ApplyFault}
use Rattle.rule_edits.specs.declared.apply_fault.ApplyFault.TheVariants.{ReservedRule, TooManyRules, TooManyCounters}

-- three tests in turn refuse, or none does
refused_in_turn : {X : Type 0} (first second third : Bool) (a b c : ApplyFault) (answer : Answer X)
    → (if first then Err a else if second then Err b else if third then Err c else answer)
    ≡ unless_refused (if first then Some a else if second then Some b else if third then Some c else None) answer
refused_in_turn true second third a b c answer = refl
refused_in_turn false true third a b c answer = refl
refused_in_turn false false true a b c answer = refl
refused_in_turn false false false a b c answer = refl

-- a step behind two others may as well be taken of what they answer together
step_behind : {X Y Z W : Type 0} (x : Answer X) (y : Answer Y) (both : X → Y → Z) (step : Z → W)
    → (x >>= λ a. y >>= λ b. Ok (step (both a b))) ≡ ((x >>= λ a. y >>= λ b. Ok (both a b)) >>= λ z. Ok (step z))
step_behind (Err fault) y both step = refl
step_behind (Ok a) (Err fault) both step = refl
step_behind (Ok a) (Ok b) both step = refl

-- an `add` is refused, or the name and the tables are made and the rule is put in its place
add_in_steps : (c : Configuration) (draft : RuleDraft) (number : ℕ) → number ≡ chosen_number c.rules draft.number
    → add_rule c draft ≡ unless_refused (adding_fault c number) (with_name_and_tables c draft >>= λ ready. Ok (with_rule ready draft))
unfolding add_rule
add_in_steps c draft number chosen =
    rw chosen
    (refused_in_turn (chosen_number c.rules draft.number == 65535) (nat_le 65535 (length c.rules)) (not (has_counters c 1)) ReservedRule TooManyRules TooManyCounters
    (with_name_of c.names (name_of draft.action draft.body) >>= λ names. with_uses c.tables (uses_of draft.body) >>= λ made. Ok (record (with_rule c draft) { names = names; tables = made }))
    ∙ ap (unless_refused (adding_fault c (chosen_number c.rules draft.number)))
    (step_behind (with_name_of c.names (name_of draft.action draft.body)) (with_uses c.tables (uses_of draft.body)) (λ names made. record c { names = names; tables = made }) (λ ready. with_rule ready draft)))

-- what speaks against the number refuses the `add`
pub add_refused : (c : Configuration) (draft : RuleDraft) (number : ℕ) (fault : ApplyFault) → number ≡ chosen_number c.rules draft.number → adding_fault c number ≡ Some fault → add_rule c draft ≡ Err fault
add_refused c draft number fault chosen is = add_in_steps c draft number chosen ∙ rw is refl

-- and where nothing does, it is as the name and the tables decide
add_decided : (c : Configuration) (draft : RuleDraft) (number : ℕ) → number ≡ chosen_number c.rules draft.number → adding_fault c number ≡ None
    → add_rule c draft ≡ (with_name_and_tables c draft >>= λ ready. Ok (with_rule ready draft))
add_decided c draft number chosen none = add_in_steps c draft number chosen ∙ rw none refl

-- what refuses the name or the tables refuses the `add`
pub add_unready : (c : Configuration) (draft : RuleDraft) (number : ℕ) → number ≡ chosen_number c.rules draft.number → adding_fault c number ≡ None
    → (result : Answer Configuration) → Gives result (with_name_and_tables c draft) → IfErr result (λ fault. IsRefusal fault (add_rule c draft))
add_unready c draft number chosen none (Ok ready) gives = tt
add_unready c draft number chosen none (Err fault) gives = λ other. add_decided c draft number chosen none ∙ rw (gives other) refl

-- and where nothing does, the rule is put in its place
pub add_made : (c : Configuration) (draft : RuleDraft) (number : ℕ) → number ≡ chosen_number c.rules draft.number → adding_fault c number ≡ None
    → (result : Answer Configuration) → Gives result (with_name_and_tables c draft) → IfOk result (λ ready. add_rule c draft ≡ Ok (with_rule ready draft))
add_made c draft number chosen none (Ok ready) gives = add_decided c draft number chosen none ∙ rw gives refl
add_made c draft number chosen none (Err fault) gives = tt
