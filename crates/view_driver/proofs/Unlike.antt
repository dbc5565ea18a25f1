-- Reports whose captures don't fit.
use Rattle.std.proofs.Common.{◌≡◌, ◌≢◌, ℕ, ◌+◌, ◌-◌, ◌<◌, ◌≤◌, List, [], ◌∷◌, ◌++◌, Result, Ok, Err, length, get_or, map, min, take, inl, inr, sym, ap, ◌∙◌, subst, arith}
use Rattle.std.specs.Prelude.{IfErr}
use Rattle.std.proofs.lemmas.List.{get_or-map, length-map, map-append, map_more}
use Rattle.report_moves.specs.Moves.{HaveSameLengths}
use Rattle.report_values.specs.Reports.{IsReport}
use Rattle.report_values.specs.Outcomes.{NumbersAll, outcome_text}
use Rattle.report_values.specs.declared.capture.Capture.{Capture as ToldCapture}
use Rattle.report_values.specs.declared.rules.KnownRule.{KnownRule}
use Rattle.view_driver.specs.MovesTold.{AreAlike, IsFirstOther, IsOtherAt, IsOtherNumber, IsNoReport, IsTroubleOf, IsUnlike, counts_of}
use Rattle.view_driver.specs.declared.trouble.Trouble.{Trouble}
use Rattle.view_driver.specs.declared.trouble.Trouble.TheVariants.{Usage, Unread, NoReport, Script, NoJournal, OtherScript, Captures, Records, Named, OtherRecords, Capture, OutOfMemory}

-- one capture more has as many numbers as records
pub counts_more : (captures : List ToldCapture) (i : ℕ) (capture : ToldCapture) (known : List KnownRule) (old new numbers news : List (List ℕ)) (one : List ℕ)
    → i < length captures → capture ≡ get_or captures i capture → NumbersAll old new (map (outcome_text known) capture.records) one
    → news ≡ numbers ++ one ∷ [] → map length numbers ≡ counts_of (take i captures) → map length news ≡ counts_of (take (i + 1) captures)
counts_more captures i capture known old new numbers news one within is all more so_far =
    let as_many : length one ≡ length capture.records =
    sym (length-map one (λ n. get_or new n [])) ∙ ap length all.told ∙ length-map capture.records (outcome_text known)
    in
    ap (map length) more ∙ map-append length numbers (one ∷ []) ∙ ap (λ ns. ns ++ length one ∷ []) so_far
    ∙ ap (λ n. counts_of (take i captures) ++ n ∷ []) (as_many ∙ ap (λ (c : ToldCapture). length c.records) is)
    ∙ sym (map_more (λ (c : ToldCapture). length c.records) captures i capture within)

-- how many there are at a place
count_at : (lists : List (List ℕ)) (k : ℕ) → k < length lists → get_or (map length lists) k 0 ≡ length (get_or lists k [])
count_at lists k within = get_or-map length lists k [] 0 within

module _ (old new : List (List ℕ)) (place : ℕ) where
  -- so far they have as many
  pub are_alike : ((k : ℕ) → k < place → length (get_or old k []) ≡ length (get_or new k [])) → place ≤ min (length old) (length new)
      → AreAlike (map length old) (map length new) place
  are_alike alike within = λ k below.
      count_at old k (omega (arith, below, within)) ∙ alike k below ∙ sym (count_at new k (omega (arith, below, within)))

  -- and here they don't
  pub other_at : ((k : ℕ) → k < place → length (get_or old k []) ≡ length (get_or new k [])) → place < min (length old) (length new)
      → length (get_or old place []) ≢ length (get_or new place []) → IsOtherAt (map length old) (map length new) place
  other_at alike within apart = record {
    within = omega (arith, within, length-map old length, length-map new length);
    before = are_alike alike (omega (arith, within));
    apart = λ same. apart (sym (count_at old place (omega (arith, within))) ∙ same ∙ count_at new place (omega (arith, within)));
  }

  -- the first that differs is told
  pub first_other_told : IsOtherAt (map length old) (map length new) place → (was is_now : ℕ) → was ≡ length (get_or old place []) → is_now ≡ length (get_or new place [])
      → IsFirstOther (map length old) (map length new) (place + 1) was is_now
  first_other_told other was is_now was_is is_so =
      let back : place ≡ place + 1 - 1 = omega arith in
      let old_has : place < length old = omega (arith, other.within, length-map old length) in
      let new_has : place < length new = omega (arith, other.within, length-map new length) in
      record {
        first = omega arith;
        other = subst (IsOtherAt (map length old) (map length new)) back other;
        was_is = was_is ∙ sym (count_at old place old_has) ∙ ap (λ n. get_or (map length old) n 0) back;
        is_so = is_so ∙ sym (count_at new place new_has) ∙ ap (λ n. get_or (map length new) n 0) back;
      }

-- where none of those that both have differs, one has more
pub other_number : (old new : List (List ℕ)) → (HaveSameLengths old new → ⊥) → AreAlike (map length old) (map length new) (min (length old) (length new))
    → IsOtherNumber (map length old) (map length new) (length old) (length new)
other_number old new others alike = record {
  was_is = sym (length-map old length);
  is_so = sym (length-map new length);
  apart = λ same. others (record {
    captures = same;
    records = λ at within.
        sym (count_at old at within) ∙ alike at (omega (arith, within, same)) ∙ count_at new at (omega (arith, within, same));
  });
  alike = subst (AreAlike (map length old) (map length new)) (omega (arith, length-map old length, length-map new length)) alike;
}

module _ (old_name old new_name new : List ℕ) where
  -- that the first text is no report is a trouble of the texts
  pub old_unfit : (trouble : Trouble) → IsNoReport old_name old trouble → IsTroubleOf old_name old new_name new trouble
  old_unfit Usage unfit = unfit
  old_unfit (Unread name) unfit = unfit
  old_unfit (NoReport name line) unfit = inl unfit
  old_unfit (Script fault) unfit = unfit
  old_unfit (NoJournal name) unfit = unfit
  old_unfit (OtherScript name line script) unfit = unfit
  old_unfit (Captures was is_now) unfit = absurd unfit
  old_unfit (Records capture was is_now) unfit = absurd unfit
  old_unfit (Named told named) unfit = unfit
  old_unfit (OtherRecords name told read) unfit = unfit
  old_unfit (Capture name at fault) unfit = unfit
  old_unfit OutOfMemory unfit = tt

  -- and that the second isn't
  pub new_unfit : (trouble : Trouble) → IsNoReport new_name new trouble → IsTroubleOf old_name old new_name new trouble
  new_unfit Usage unfit = unfit
  new_unfit (Unread name) unfit = unfit
  new_unfit (NoReport name line) unfit = inr unfit
  new_unfit (Script fault) unfit = unfit
  new_unfit (NoJournal name) unfit = unfit
  new_unfit (OtherScript name line script) unfit = unfit
  new_unfit (Captures was is_now) unfit = absurd unfit
  new_unfit (Records capture was is_now) unfit = absurd unfit
  new_unfit (Named told named) unfit = unfit
  new_unfit (OtherRecords name told read) unfit = unfit
  new_unfit (Capture name at fault) unfit = unfit
  new_unfit OutOfMemory unfit = tt

module _ (old_name old new_name new : List ℕ) (old_captures new_captures : List ToldCapture) (old_behind new_behind : List ℕ)
    (old_is : IsReport old old_captures old_behind) (new_is : IsReport new new_captures new_behind) where
  -- captures that don't fit are one too
  pub unlike_trouble : (trouble : Trouble) → IsUnlike (counts_of old_captures) (counts_of new_captures) trouble → IsTroubleOf old_name old new_name new trouble
  unlike_trouble Usage unlike = unlike
  unlike_trouble (Unread name) unlike = unlike
  unlike_trouble (NoReport name line) unlike = absurd unlike
  unlike_trouble (Script fault) unlike = unlike
  unlike_trouble (NoJournal name) unlike = unlike
  unlike_trouble (OtherScript name line script) unlike = unlike
  unlike_trouble (Captures was is_now) unlike = record {
    old_captures = old_captures;
    new_captures = new_captures;
    old_behind = old_behind;
    new_behind = new_behind;
    old_is = old_is;
    new_is = new_is;
    unlike = unlike;
  }
  unlike_trouble (Records capture was is_now) unlike = record {
    old_captures = old_captures;
    new_captures = new_captures;
    old_behind = old_behind;
    new_behind = new_behind;
    old_is = old_is;
    new_is = new_is;
    unlike = unlike;
  }
  unlike_trouble (Named told named) unlike = unlike
  unlike_trouble (OtherRecords name told read) unlike = unlike
  unlike_trouble (Capture name at fault) unlike = unlike
  unlike_trouble OutOfMemory unlike = tt

  -- so of what comparing them answers
  pub unlike_answer : {T : Type 0} (result : Result T Trouble) → IfErr result (IsUnlike (counts_of old_captures) (counts_of new_captures))
      → IfErr result (IsTroubleOf old_name old new_name new)
  unlike_answer (Ok compared) unlike = tt
  unlike_answer (Err trouble) unlike = unlike_trouble trouble unlike
