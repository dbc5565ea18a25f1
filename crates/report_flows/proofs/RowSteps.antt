-- The records so far, and one more.
use Rattle.std.proofs.Common.{◌≡◌, ℕ, ◌<◌, ◌≤◌, Option, List, [], ◌∷◌, ◌++◌, length, get_or, refl, ap, ◌∙◌, arith}
use Rattle.std.specs.List.{zip}
use Rattle.std.proofs.lemmas.Slice.Zip.{get_or-zip, length-zip}
use Rattle.report_flows.specs.declared.flow.AnyFlow.{AnyFlow}
use Rattle.report_flows.specs.Counting.{rows_of}

-- the next pair
zip_more : {A B : Type 0} (xs : List A) (ys : List B) (y : B) (d : A) → length ys < length xs → zip xs (ys ++ y ∷ []) ≡ zip xs ys ++ (get_or xs (length ys) d, y) ∷ []
zip_more [] ys y d within = absurd (omega (arith, within))
zip_more (x ∷ []) [] y d within = refl
zip_more (x ∷ w ∷ xs) [] y d within = refl
zip_more (x ∷ xs) (z ∷ ys) y d within = ap (λ l. (x, z) ∷ l) (zip_more xs ys y d (omega (arith, within)))

-- past the end there is none
zip_past : {A B : Type 0} (xs : List A) (ys : List B) (y : B) → length xs ≤ length ys → zip xs (ys ++ y ∷ []) ≡ zip xs ys
zip_past [] [] y past = refl
zip_past [] (z ∷ ys) y past = refl
zip_past (x ∷ xs) [] y past = absurd (omega (arith, past))
zip_past (x ∷ xs) (z ∷ ys) y past = ap (λ l. (x, z) ∷ l) (zip_past xs ys y (omega (arith, past)))

-- of no flows there are no rows
pub rows_none : (old new : List ℕ) → rows_of old new [] ≡ []
rows_none [] [] = refl
rows_none [] (y ∷ new) = refl
rows_none (x ∷ old) [] = refl
rows_none (x ∷ old) (y ∷ new) = refl

module _ (old new : List ℕ) (same : length old ≡ length new) (flows : List (Option AnyFlow)) (at : ℕ) (count : length flows ≡ at) where
  -- the next record
  pub rows_more : at < length old → (flow : Option AnyFlow) → rows_of old new (flows ++ flow ∷ []) ≡ rows_of old new flows ++ ((get_or old at 0, get_or new at 0), flow) ∷ []
  rows_more within flow =
      zip_more (zip old new) flows flow (0, 0) (omega (arith, length-zip old new, count, within, same))
      ∙ ap (λ pair. rows_of old new flows ++ (pair, flow) ∷ []) (ap (λ n. get_or (zip old new) n (0, 0)) count ∙ get_or-zip old new at (0, 0) within (omega (arith, within, same)))

  -- past the outcomes there is none
  pub rows_past : length old ≤ at → (flow : Option AnyFlow) → rows_of old new (flows ++ flow ∷ []) ≡ rows_of old new flows
  rows_past past flow = zip_past (zip old new) flows flow (omega (arith, length-zip old new, count, past, same))

  -- as many records as flows so far
  pub rows_count : at ≤ length old → length (rows_of old new flows) ≡ at
  rows_count within = length-zip (zip old new) flows ∙ omega (arith, length-zip old new, count, within, same)
