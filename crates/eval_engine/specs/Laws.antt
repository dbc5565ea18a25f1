-- Laws of an evaluation (ipfw(8), "DESCRIPTION": a packet is compared with each rule in turn, until one
-- matches that ends the search).
use Rattle.std.specs.Prelude.{◌≡◌, ℕ, ⊤, Bool, not, ◌&&◌, ◌==◌, true, is_some, unwrap_or, Option, Some, None, find, List, [], ◌∷◌, ◌++◌}
use Rattle.std.specs.List.{AllByRecursion, list_any}
use Rattle.state_asks.specs.declared.reply.Reply.{Reply}
use Rattle.fw_rule.specs.declared.action.Action.{Action}
use Rattle.fw_rule.specs.declared.action.Action.TheVariants.{Allow, Deny, Reset, Unreach, Count, SkipTo, Call, Return, CheckState}
use Rattle.fw_rule.specs.declared.rule.Rule.{Rule}
use Rattle.eval_engine.specs.declared.judgement.Cause.TheVariants as cause
use Rattle.eval_engine.specs.declared.judgement.Judgement.{Judgement}
use Rattle.eval_engine.specs.declared.judgement.Verdict.{Verdict}
use Rattle.eval_engine.specs.declared.judgement.Verdict.TheVariants as verdict
use Rattle.eval_engine.specs.Encounter.{is_disabled, is_rule_met, state_of, rule_ref}
use Rattle.eval_engine.specs.Evaluated.{Whole, Neither}
use Rattle.eval_engine.specs.Evaluation.{evaluate}
use Rattle.eval_engine.specs.Question.{Question, rules_of}

-- the verdict of an action that ends the search
abbrev pub verdict_of : Action → Option Verdict
verdict_of Allow = Some verdict.Allow
verdict_of Deny = Some verdict.Deny
verdict_of Reset = Some verdict.Reset
verdict_of (Unreach code) = Some (verdict.Unreach code)
verdict_of Count = None
verdict_of (SkipTo number) = None
verdict_of (Call number) = None
verdict_of Return = None
verdict_of (CheckState name) = None

-- the rule decides the packet: its set isn't disabled, its body holds, its action ends the search
abbrev pub decides : Question → Rule → Bool
decides q rule = not (is_disabled q rule) && (is_rule_met q rule && is_some (verdict_of rule.action))

-- the judgement by that rule; rule 65535 denies what no rule decides
abbrev pub judgement_by : Question → Option Rule → Judgement
judgement_by q None = record { edition = q.edition.number; verdict = verdict.Deny; rule = record { id = 0; number = 65535 }; cause = cause.Rule }
judgement_by q (Some rule) = record { edition = q.edition.number; verdict = unwrap_or (verdict_of rule.action) verdict.Deny; rule = rule_ref rule; cause = cause.Rule }

-- the action ends the search or goes on with the next rule
abbrev pub IsPlainAction : Action → Type 0
IsPlainAction Allow = ⊤
IsPlainAction Deny = ⊤
IsPlainAction Reset = ⊤
IsPlainAction (Unreach code) = ⊤
IsPlainAction Count = ⊤
IsPlainAction (SkipTo number) = ⊥
IsPlainAction (Call number) = ⊥
IsPlainAction Return = ⊥
IsPlainAction (CheckState name) = ⊥

-- a rule without a jump, a call or a state
pub record IsPlain (rule : Rule) : Type 0 where
  pub plain : IsPlainAction rule.action
  pub stateless : state_of rule ≡ None

-- Where no rule has a jump, a call or a state the first rule that decides the packet decides it, with
-- nothing asked.
abbrev pub FirstMatchDecides : Type 0
FirstMatchDecides = (q : Question) → AllByRecursion IsPlain (rules_of q) → (evaluate q []).outcome ≡ Whole (judgement_by q (find (decides q) (rules_of q)))

-- an evaluation that is whole is neither whole nor open with more replies
abbrev pub EndsOnce : Type 0
EndsOnce = (q : Question) (judgement : Judgement) (replies : List Reply) (reply : Reply) (more : List Reply)
    → (evaluate q replies).outcome ≡ Whole judgement → (evaluate q (replies ++ reply ∷ more)).outcome ≡ Neither

-- some rule of the list counts under this number
abbrev pub is_counter_of : List Rule → ℕ → Bool
is_counter_of rules counter = list_any (λ rule. rule.counter == counter) rules

-- each hit is of a rule of the edition
abbrev pub HitsAreOfRules : Type 0
HitsAreOfRules = (q : Question) (replies : List Reply) → AllByRecursion (λ counter. is_counter_of (rules_of q) counter ≡ true) (evaluate q replies).hits
