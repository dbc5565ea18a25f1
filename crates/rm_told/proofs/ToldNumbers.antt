-- The greatest number that a processor has seen never falls, and no entry is before it.
use Rattle.std.proofs.Common.{◌≡◌, ℕ, zero, suc, ◌≤◌, Some, List, [], ◌∷◌, ◌++◌, sym, ◌∙◌, ap, subst, arith, inl, inr}
use Rattle.std.specs.Prelude.{slice_get}
use Rattle.rm_table.specs.declared.view.View.{View}
use Rattle.rm_table.specs.Meanings.{Meanings, numbered_names}
use Rattle.rm_lock.specs.Tokens.{TokenState, told_number, greatest_pair_number}
use Rattle.rm_lock.specs.Calls.{Enters}
use Rattle.rm_lock.specs.declared.reader_calls.Entry.TheVariants as entry
use Rattle.rm_lock.proofs.Told.{told_at_most}
use Rattle.rm_told.specs.DeepState.{DeepState}
use Rattle.rm_told.specs.Laws.{Call, Enter, Refusal, Leave, Regain, LostTry, TakeBook, GiveBook, Hear, CallsThrough, Nests, NestsThrough, last_token, ToldLaw, DepthLaw}

module _ {L : Type 0} where
  grows : (xs ys : List (ℕ × L)) → greatest_pair_number xs ≤ greatest_pair_number (xs ++ ys)
  grows [] ys = omega arith
  grows (x ∷ xs) ys = let e = grows xs ys in omega arith

module _ {E B T L I : Type 0} where
  -- what the views of two tokens tell, where the later one is made from the earlier one
  alike : (v : View E B T L I) (after other : View E B T L I) → after ≡ other → told_number v ≤ told_number other → told_number v ≤ told_number after
  alike v after other is more = subst (λ (w : View E B T L I). told_number v ≤ told_number w) (sym is) more

  module _ (m : Meanings E B T L I) where
    never_falls : (before after : TokenState E B T L I) → Call m before after → told_number before.view ≤ told_number after.view
    never_falls before after (Enter entered) = alike before.view after.view _ entered.1.1 (grows before.view.part.pairs _)
    never_falls before after (Refusal number refused) = alike before.view after.view _ refused.1 (omega arith)
    never_falls before after (Leave left) = alike before.view after.view _ left (omega arith)
    never_falls before after (Regain regained) = alike before.view after.view _ regained.after_is (omega arith)
    never_falls before after (LostTry index holder found) = alike before.view after.view _ found.step (omega arith)
    never_falls before after (TakeBook book taken) = alike before.view after.view _ taken.after_is (omega arith)
    never_falls before after (GiveBook book given) = alike before.view after.view _ given (omega arith)
    never_falls before after (Hear receipt heard) = alike before.view after.view _ heard.heard (grows before.view.part.pairs (numbered_names receipt.view.opened receipt.view.history))

    never_fall : (first : TokenState E B T L I) (calls : List (TokenState E B T L I)) → CallsThrough m first calls → told_number first.view ≤ told_number (last_token m first calls).view
    never_fall first [] through = omega arith
    never_fall first (next ∷ calls) through = let one = never_falls first next through.0 in let later = never_fall next calls through.1 in omega arith

    -- the edition that is entered is no earlier than any that was seen
    pub entered_meets : (before after : TokenState E B T L I) → Enters m before (entry.In after) → (e : E) → after.view.part.reading ≡ Some e → told_number before.view ≤ m.number e
    entered_meets before after entered e reads =
        let met : e ≡ entered.1.0 = let is = ap (λ (v : View E B T L I). v.part.reading) entered.1.1 in cc in
        let same = ap (λ (x : E). m.number x) met in
        let up = told_at_most before.view (m.number entered.1.0) entered.1.3 in
        omega arith

    -- what a receipt told stays told: the law holds
    pub told_holds : ToldLaw m
    told_holds before receipt after hears calls through d entered e reads =
        let some = never_fall after calls through in
        let met = entered_meets (last_token m after calls) d.reading entered.0 e reads in
        let told = hears.told in
        omega arith

  nests_alike : (d x : DeepState E B T L I) → Nests d x → x.reading ≡ d.reading
  nests_alike d x (inl is) = ap (λ (s : DeepState E B T L I). s.reading) is
  nests_alike d x (inr left) = ap (λ (s : DeepState E B T L I). s.reading) left.1

  nests_through : (d : DeepState E B T L I) (calls : List (DeepState E B T L I)) → NestsThrough d calls → (j : ℕ) (x : DeepState E B T L I) → slice_get calls j ≡ Some x → x.reading ≡ d.reading
  nests_through d [] through j x is = absurd cc
  nests_through d (next ∷ calls) through zero x is = let same : next ≡ x = cc in subst (λ (s : DeepState E B T L I). s.reading ≡ d.reading) same (nests_alike d next through.0)
  nests_through d (next ∷ calls) through (suc j) x is = nests_through next calls through.1 j x is ∙ nests_alike d next through.0

  -- sections within a section read its edition: the law holds
  pub depth_holds : (m : Meanings E B T L I) → DepthLaw m
  depth_holds m before d entered calls through j x is = nests_through d calls through j x is
