-- A list without jumps, calls and states.
use Rattle.std.proofs.Common.{◌≡◌, ℕ, Bool, true, false, cond, is_some, Option, Some, find, List, [], ◌∷◌, refl, ap}
use Rattle.std.specs.List.{AllByRecursion}
use Rattle.fw_rule.specs.declared.action.Action.{Action}
use Rattle.fw_rule.specs.declared.action.Action.TheVariants.{Allow, Deny, Reset, Unreach, Count, SkipTo, Call, Return, CheckState}
use Rattle.fw_rule.specs.declared.rule.Rule.{Rule}
use Rattle.eval_engine.specs.Encounter.{is_check_state, is_disabled, is_rule_met}
use Rattle.eval_engine.specs.Evaluation.{evaluate, progress_from, outcome_of}
use Rattle.eval_engine.specs.Laws.{verdict_of, decides, judgement_by, IsPlainAction, IsPlain, FirstMatchDecides}
use Rattle.eval_engine.specs.Question.{Question}
use Rattle.eval_engine.specs.Trace.{Seen, Trace, Stop, EndsWith, stop_of_trace}
use Rattle.eval_engine.specs.Walk.{Walk, walk, follows}
use Rattle.eval_engine.proofs.Walks.{none_below}

never_check : (action : Action) → IsPlainAction action → is_check_state action ≡ false
never_check Allow plain = refl
never_check Deny plain = refl
never_check Reset plain = refl
never_check (Unreach code) plain = refl
never_check Count plain = refl
never_check (SkipTo number) plain = absurd plain
never_check (Call number) plain = absurd plain
never_check Return plain = absurd plain
never_check (CheckState name) plain = absurd plain

-- a plain action ends the search with its verdict, or goes on with the next rule
ends_by : (q : Question) (deeper : Option Walk) (rule : Rule) (next : ℕ → Trace) (callers : List ℕ) (back : Option Trace) (action : Action)
    → IsPlainAction action → (rest : Option Rule) → stop_of_trace (next 0) ≡ EndsWith (judgement_by q rest) → rule.action ≡ action
    → stop_of_trace (follows q deeper rule next callers back action) ≡ EndsWith (judgement_by q (cond (is_some (verdict_of action)) (Some rule) rest))
unfolding stop_of_trace
ends_by q deeper rule next callers back Allow plain rest on is = rw is refl
ends_by q deeper rule next callers back Deny plain rest on is = rw is refl
ends_by q deeper rule next callers back Reset plain rest on is = rw is refl
ends_by q deeper rule next callers back (Unreach code) plain rest on is = rw is refl
ends_by q deeper rule next callers back Count plain rest on is = on
ends_by q deeper rule next callers back (SkipTo number) plain rest on is = absurd plain
ends_by q deeper rule next callers back (Call number) plain rest on is = absurd plain
ends_by q deeper rule next callers back Return plain rest on is = absurd plain
ends_by q deeper rule next callers back (CheckState name) plain rest on is = absurd plain

first_match : (deeper : Option Walk) (q : Question) (seen : Seen) (suffix : List Rule) (callers : List ℕ) (back : Option Trace) → AllByRecursion IsPlain suffix
    → stop_of_trace (walk deeper q seen 0 suffix callers back) ≡ EndsWith (judgement_by q (find (decides q) suffix))
unfolding walk stop_of_trace
first_match deeper q seen [] callers back h = refl
first_match deeper q seen (rule ∷ rest) callers back h = go (is_disabled q rule) (is_rule_met q rule) refl refl (first_match deeper q seen rest callers back h.1)
  where
    go : (disabled held : Bool) → is_disabled q rule ≡ disabled → is_rule_met q rule ≡ held
        → stop_of_trace (walk deeper q seen 0 rest callers back) ≡ EndsWith (judgement_by q (find (decides q) rest))
        → stop_of_trace (walk deeper q seen 0 (rule ∷ rest) callers back) ≡ EndsWith (judgement_by q (find (decides q) (rule ∷ rest)))
    go true held off is next = rw (none_below rule.number, off) next
    go false true off is next =
        rw (none_below rule.number, off, never_check rule.action h.0.plain, h.0.stateless)
        (rw (never_check rule.action h.0.plain, is, h.0.stateless)
        (ends_by q deeper rule (λ number. walk deeper q seen number rest callers back) callers back rule.action h.0.plain (find (decides q) rest) next refl))
    go false false off is next = rw (none_below rule.number, off, never_check rule.action h.0.plain, h.0.stateless) (rw (never_check rule.action h.0.plain, is) next)

-- without jumps, calls and states the first rule that decides the packet decides, and nothing is asked
pub first_match_decides : FirstMatchDecides
unfolding evaluate progress_from
first_match_decides q h = ap (λ (stop : Stop). outcome_of stop) (first_match _ q _ q.edition.config.rules [] _ h)
