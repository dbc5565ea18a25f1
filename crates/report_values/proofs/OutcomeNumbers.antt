-- The numbers of texts.
use Rattle.std.proofs.Common.{◌≡◌, ℕ, ◌+◌, ◌<◌, List, [], ◌∷◌, ◌++◌, length, refl, sym, ap, ◌∙◌, subst, arith, get_or, map, take}
use Rattle.std.specs.Prelude.{All}
use Rattle.std.proofs.lemmas.List.{map-append, length-map, length_push, get_or-map, get_or_append_left, get_or_push, take_more}
use Rattle.std.proofs.lemmas.List.Elements.{All-nil, All-cons, All-head, All-tail, All-push, All-weaker, All-get_or}
use Rattle.eval_engine.specs.declared.docket_entry.DocketEntry.{DocketEntry}
use Rattle.eval_engine.specs.declared.docket_entry.DocketEntry.TheVariants.{Other}
use Rattle.report_values.specs.Outcomes.{Keeps, IsNumbered, Numbers, NumbersAll, texts_at, outcome_text}
use Rattle.report_values.specs.Records.{entries_at}
use Rattle.report_values.specs.declared.rules.KnownRule.{KnownRule}

-- nothing changed
keeps_itself : (texts : List (List ℕ)) → Keeps texts texts
keeps_itself texts = record { count = omega arith; same = λ number within. refl }

-- one text more behind the others
keeps_push : (texts : List (List ℕ)) (text : List ℕ) → Keeps texts (texts ++ text ∷ [])
keeps_push texts text = record {
  count = omega (arith, length_push texts text);
  same = λ number within. get_or_append_left texts (text ∷ []) [] number within;
}

keeps_on : (old mid new : List (List ℕ)) → Keeps old mid → Keeps mid new → Keeps old new
keeps_on old mid new first second = record {
  count = omega (arith, first.count, second.count);
  same = λ number within. second.same number (omega (arith, first.count)) ∙ first.same number within;
}

-- a text that was there
pub numbered_there : (texts : List (List ℕ)) (text : List ℕ) (number : ℕ) → IsNumbered texts number text → Numbers texts texts text number
numbered_there texts text number found = record { kept = keeps_itself texts; numbered = found }

-- a text that is added
pub numbered_new : (texts news : List (List ℕ)) (text : List ℕ) (number : ℕ) → number ≡ length texts → news ≡ texts ++ text ∷ []
    → Numbers texts news text number
numbered_new texts news text number is more =
    subst (λ (ts : List (List ℕ)). Numbers texts ts text number) (sym more)
    (record {
      kept = keeps_push texts text;
      numbered = record { within = omega (arith, is, length_push texts text); is = get_or_push texts text [] number (sym is) };
    })

-- at the beginning no text has a number
pub none_numbered : (texts : List (List ℕ)) → NumbersAll texts texts [] []
none_numbered texts = record {
  kept = keeps_itself texts;
  within = All-nil (λ number. number < length texts);
  told = refl;
}

texts_stay : (mid new : List (List ℕ)) (numbers : List ℕ) → Keeps mid new → All (λ number. number < length mid) numbers
    → texts_at new numbers ≡ texts_at mid numbers
texts_stay mid new [] kept within = refl
texts_stay mid new (number ∷ numbers) kept within =
    ap (λ text. text ∷ texts_at new numbers) (kept.same number (All-head (λ n. n < length mid) number numbers within))
    ∙ ap (λ texts. get_or mid number [] ∷ texts) (texts_stay mid new numbers kept (All-tail (λ n. n < length mid) number numbers within))

-- one more text has its number
numbers_more : (old mid new texts : List (List ℕ)) (numbers : List ℕ) (text : List ℕ) (number : ℕ) → NumbersAll old mid texts numbers
    → Numbers mid new text number → NumbersAll old new (texts ++ text ∷ []) (numbers ++ number ∷ [])
numbers_more old mid new texts numbers text number all one = record {
  kept = keeps_on old mid new all.kept one.kept;
  within =
      All-push (λ n. n < length new) numbers number
      (All-weaker (λ n. n < length mid) (λ n. n < length new) (λ n less. omega (arith, one.kept.count)) numbers all.within) one.numbered.within;
  told =
      map-append (λ n. get_or new n []) numbers (number ∷ [])
      ∙ ap (λ ts. ts ++ get_or new number [] ∷ []) (texts_stay mid new numbers one.kept all.within ∙ all.told)
      ∙ ap (λ t. texts ++ t ∷ []) one.numbered.is;
}

-- one more kind has the number of its text
pub kinds_numbered_more : (old mid new : List (List ℕ)) (known : List KnownRule) (kinds : List DocketEntry) (i : ℕ) (numbers news : List ℕ)
    (text : List ℕ) (number : ℕ) → i < length kinds → text ≡ outcome_text known (get_or kinds i Other) → news ≡ numbers ++ number ∷ []
    → NumbersAll old mid (map (outcome_text known) (take i kinds)) numbers → Numbers mid new text number
    → NumbersAll old new (map (outcome_text known) (take (i + 1) kinds)) news
kinds_numbered_more old mid new known kinds i numbers news text number within is more all one =
    let next : map (outcome_text known) (take i kinds) ++ text ∷ [] ≡ map (outcome_text known) (take (i + 1) kinds) =
    ap (λ t. map (outcome_text known) (take i kinds) ++ t ∷ []) is
    ∙ sym (map-append (outcome_text known) (take i kinds) (get_or kinds i Other ∷ []))
    ∙ ap (map (outcome_text known)) (sym (take_more kinds i Other within))
    in
    subst (λ (ts : List (List ℕ)). NumbersAll old new ts news) next
    (subst (λ (ns : List ℕ). NumbersAll old new (map (outcome_text known) (take i kinds) ++ text ∷ []) ns) (sym more)
    (numbers_more old mid new (map (outcome_text known) (take i kinds)) numbers text number all one))

module _ (old new : List (List ℕ)) (known : List KnownRule) (kinds : List DocketEntry) (of_kinds : List ℕ)
    (all : NumbersAll old new (map (outcome_text known) kinds) of_kinds) where
  as_many : length of_kinds ≡ length kinds
  as_many =
      sym (length-map of_kinds (λ n. get_or new n [])) ∙ ap length all.told ∙ length-map kinds (outcome_text known)

  text_at_place : (place : ℕ) → place < length kinds → get_or new (get_or of_kinds place 0) [] ≡ outcome_text known (get_or kinds place Other)
  text_at_place place within =
      let there : place < length of_kinds = omega (arith, as_many) in
      sym (get_or-map (λ n. get_or new n []) of_kinds place 0 [] there)
      ∙ ap (λ ts. get_or ts place []) all.told
      ∙ get_or-map (outcome_text known) kinds place Other [] within

  told_at : (places : List ℕ) → All (λ place. place < length kinds) places
      → texts_at new (map (λ place. get_or of_kinds place 0) places) ≡ map (outcome_text known) (entries_at kinds places)
  told_at [] within = refl
  told_at (place ∷ places) within =
      ap (λ t. t ∷ texts_at new (map (λ p. get_or of_kinds p 0) places)) (text_at_place place (All-head (λ p. p < length kinds) place places within))
      ∙ ap (λ ts. outcome_text known (get_or kinds place Other) ∷ ts) (told_at places (All-tail (λ p. p < length kinds) place places within))

  within_at : (places : List ℕ) → All (λ place. place < length kinds) places
      → All (λ number. number < length new) (map (λ place. get_or of_kinds place 0) places)
  within_at [] within = All-nil (λ number. number < length new)
  within_at (place ∷ places) within =
      let here : place < length kinds = All-head (λ p. p < length kinds) place places within in
      All-cons (λ number. number < length new) (get_or of_kinds place 0) (map (λ p. get_or of_kinds p 0) places)
      (All-get_or (λ number. number < length new) of_kinds place 0 (omega (arith, as_many)) all.within)
      (within_at places (All-tail (λ p. p < length kinds) place places within))

  -- the records have the numbers of their kinds
  pub records_numbered : (places numbers : List ℕ) (records : List DocketEntry) → All (λ place. place < length kinds) places
      → entries_at kinds places ≡ records → numbers ≡ map (λ place. get_or of_kinds place 0) places
      → NumbersAll old new (map (outcome_text known) records) numbers
  records_numbered places numbers records within are found =
      subst (λ (rs : List DocketEntry). NumbersAll old new (map (outcome_text known) rs) numbers) are
      (subst (λ (ns : List ℕ). NumbersAll old new (map (outcome_text known) (entries_at kinds places)) ns) (sym found)
      (record {
        kept = all.kept;
        within = within_at places within;
        told = told_at places within;
      }))
