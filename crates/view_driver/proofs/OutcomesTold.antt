-- Numbers that stand for what the records of captures came to.
use Rattle.std.proofs.Common.{◌≡◌, ℕ, ◌+◌, ◌<◌, List, [], ◌∷◌, ◌++◌, Result, Ok, Err, length, get_or, map, take, sym, ap, ◌∙◌, subst, arith, refl}
use Rattle.std.specs.Prelude.{All, IfOk, nat_eq}
use Rattle.std.specs.Cmp.Lexicographic.{pointwise}
use Rattle.std.specs.List.{IsDistinct}
use Rattle.std.proofs.lemmas.List.{map-append, map_more}
use Rattle.std.proofs.lemmas.List.Elements.{All-head, All-tail, All-push, All-weaker}
use Rattle.report_values.specs.Reports.{IsReport}
use Rattle.report_values.specs.Outcomes.{Keeps, NumbersAll, outcome_text, texts_at}
use Rattle.report_values.specs.declared.capture.Capture.{Capture as ToldCapture}
use Rattle.report_values.specs.declared.rules.KnownRule.{KnownRule}
use Rattle.view_driver.specs.MovesTold.{AreOutcomes, ComparesTexts, HasOutcomes, IsCompared, TellsOutcomes, verdicts_between}
use Rattle.view_driver.specs.declared.compared.Compared.{Compared}
use Rattle.view_driver.specs.declared.trouble.Trouble.{Trouble}

-- what the records of these captures came to
abbrev outcomes_by : List KnownRule → List ToldCapture → List (List (List ℕ))
outcomes_by known captures = map (λ (c : ToldCapture). map (outcome_text known) c.records) captures

-- texts that stand stay where texts are added twice
pub keeps_on : (old mid new : List (List ℕ)) → Keeps old mid → Keeps mid new → Keeps old new
keeps_on old mid new first second = record {
  count = omega (arith, first.count, second.count);
  same = λ number within. second.same number (omega (arith, first.count)) ∙ first.same number within;
}

module _ (mid new : List (List ℕ)) (kept : Keeps mid new) where
  -- numbers keep their texts
  texts_stay : (numbers : List ℕ) → All (λ number. number < length mid) numbers → texts_at new numbers ≡ texts_at mid numbers
  texts_stay [] within = refl
  texts_stay (number ∷ numbers) within =
      ap (λ text. text ∷ texts_at new numbers) (kept.same number (All-head (λ n. n < length mid) number numbers within))
      ∙ ap (λ texts. get_or mid number [] ∷ texts) (texts_stay numbers (All-tail (λ n. n < length mid) number numbers within))

  all_texts_stay : (lists : List (List ℕ)) → All (All (λ number. number < length mid)) lists → map (texts_at new) lists ≡ map (texts_at mid) lists
  all_texts_stay [] within = refl
  all_texts_stay (one ∷ lists) within =
      ap (λ texts. texts ∷ map (texts_at new) lists) (texts_stay one (All-head (All (λ n. n < length mid)) one lists within))
      ∙ ap (λ others. texts_at mid one ∷ others) (all_texts_stay lists (All-tail (All (λ n. n < length mid)) one lists within))

  all_within : (lists : List (List ℕ)) → All (All (λ number. number < length mid)) lists → All (All (λ number. number < length new)) lists
  all_within lists within =
      All-weaker (All (λ n. n < length mid)) (All (λ n. n < length new))
      (λ one. All-weaker (λ n. n < length mid) (λ n. n < length new) (λ n less. omega (arith, kept.count)) one) lists within

  -- outcomes stay where texts are added
  pub outcomes_stay : (known : List KnownRule) (captures : List ToldCapture) (numbers : List (List ℕ)) → AreOutcomes mid known captures numbers
      → AreOutcomes new known captures numbers
  outcomes_stay known captures numbers are = record {
    within = all_within numbers are.within;
    told = all_texts_stay numbers are.within ∙ are.told;
  }

-- the outcomes of one capture more
pub outcomes_more : (mid new : List (List ℕ)) (known : List KnownRule) (captures : List ToldCapture) (i : ℕ) (capture : ToldCapture)
    (numbers news : List (List ℕ)) (one : List ℕ) → i < length captures → capture ≡ get_or captures i capture
    → NumbersAll mid new (map (outcome_text known) capture.records) one → news ≡ numbers ++ one ∷ []
    → AreOutcomes mid known (take i captures) numbers → AreOutcomes new known (take (i + 1) captures) news
outcomes_more mid new known captures i capture numbers news one within is all more are =
    let stay = outcomes_stay mid new all.kept known (take i captures) numbers are in
    let told : map (texts_at new) (numbers ++ one ∷ []) ≡ outcomes_by known (take (i + 1) captures) =
    map-append (texts_at new) numbers (one ∷ [])
    ∙ ap (λ texts. texts ++ texts_at new one ∷ []) stay.told
    ∙ ap (λ texts. outcomes_by known (take i captures) ++ texts ∷ [])
    (all.told ∙ ap (λ (c : ToldCapture). map (outcome_text known) c.records) is)
    ∙ sym (map_more (λ (c : ToldCapture). map (outcome_text known) c.records) captures i capture within)
    in
    subst (λ (ns : List (List ℕ)). AreOutcomes new known (take (i + 1) captures) ns) (sym more) (record {
      within = All-push (All (λ n. n < length new)) numbers one stay.within all.within;
      told = told;
    })

-- what was compared are the outcomes that were numbered one report after the other
pub has_outcomes : (first mid last : List (List ℕ)) (old new : List ToldCapture) (compared : Compared) → compared.texts.items ≡ last
    → IsDistinct (pointwise nat_eq) compared.texts.items → TellsOutcomes first mid old compared.old.items
    → TellsOutcomes mid last new compared.new.items → compared.other_verdicts ≡ verdicts_between old new → HasOutcomes old new compared
has_outcomes first mid last old new compared is distinct was is_now verdicts =
    let back = subst (λ (texts : List (List ℕ)). AreOutcomes texts was.known old compared.old.items) (sym is)
    (outcomes_stay mid last is_now.kept was.known old compared.old.items was.outcomes)
    in
    record {
      distinct = distinct;
      old_known = was.known;
      old_outcomes = back;
      new_known = is_now.known;
      new_outcomes = subst (λ (texts : List (List ℕ)). AreOutcomes texts is_now.known new compared.new.items) (sym is) is_now.outcomes;
      verdicts = verdicts;
    }

-- the texts are reports, and the outcomes of their captures' records were compared
pub compares_texts : (old new : List ℕ) (old_captures new_captures : List ToldCapture) (old_behind new_behind : List ℕ)
    → IsReport old old_captures old_behind → IsReport new new_captures new_behind
    → (result : Result Compared Trouble) → IfOk result IsCompared → IfOk result (HasOutcomes old_captures new_captures)
    → IfOk result (ComparesTexts old new)
compares_texts old new old_captures new_captures old_behind new_behind old_is new_is (Ok compared) told outcomes = record {
  old_captures = old_captures;
  new_captures = new_captures;
  old_behind = old_behind;
  new_behind = new_behind;
  old_is = old_is;
  new_is = new_is;
  told = told;
  outcomes = outcomes;
}
compares_texts old new old_captures new_captures old_behind new_behind old_is new_is (Err trouble) told outcomes = tt
