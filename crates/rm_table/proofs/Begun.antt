-- What is known of the processors whose seats aren't split off yet.
use Rattle.std.proofs.Common.{◌≡◌, ℕ, zero, suc, Bool, true, false, Option, Some, None, List, [], ◌∷◌, refl, sym, ap}
use Rattle.std.specs.Prelude.{slice_get, slice_set}
use Rattle.rm_table.specs.declared.part.Part.{Part}
use Rattle.rm_table.specs.Meanings.{Meanings, values_from}
use Rattle.rm_table.specs.Ends.{first_part}
use Rattle.rm_table.specs.Seats.{Unbegun}
use Rattle.rm_table.specs.declared.view.Role.{Role}
use Rattle.rm_table.specs.declared.view.Role.TheVariants.{Spent, Processor, Operator, Receipt}
use Rattle.rm_table.specs.declared.view.View.{View}
use Rattle.rm_table.specs.Layout.{tracker_word}
use Rattle.rm_table.specs.Moves.{joined_view, joined_by}

-- what stands in a list with one value taken away stood there before
stood_before : {A : Type 0} (xs : List (Option A)) (p k : ℕ) (a : A) → slice_get (slice_set xs p None) k ≡ Some (Some a) → slice_get xs k ≡ Some (Some a)
stood_before [] p k a is = is
stood_before (x ∷ xs) zero zero a is = absurd cc
stood_before (x ∷ xs) zero (suc k) a is = is
stood_before (x ∷ xs) (suc p) zero a is = is
stood_before (x ∷ xs) (suc p) (suc k) a is = stood_before xs p k a is

one_of : {A : Type 0} (f : ℕ → A) (from n j : ℕ) (a : A) → slice_get (values_from (λ k. Some (f k)) from n) j ≡ Some (Some a) → (k : ℕ) × (f k ≡ a)
one_of f from zero j a is = absurd cc
one_of f from (suc n) zero a is = (from, cc)
one_of f from (suc n) (suc j) a is = one_of f (suc from) n j a is

module _ {E L I : Type 0} where
  -- with one seat split off, the processors that are left have begun no section
  pub unbegun_split : (closing : Bool) (kept : List (Option (Part E L I))) (place : ℕ) → Unbegun closing kept → Unbegun closing (slice_set kept place None)
  unfolding Unbegun
  unbegun_split closing kept place h opening k part is = h opening k part (stood_before kept place k part is)

  -- once a seat was joined, nothing is said of sections that were begun
  unbegun_joined : (kept : List (Option (Part E L I))) → Unbegun true kept
  unfolding Unbegun
  unbegun_joined kept opening = absurd cc

  -- a processor whose seat isn't split off yet has begun no section
  pub unbegun_at : (closing : Bool) (kept : List (Option (Part E L I))) (place : ℕ) (part : Part E L I) → Unbegun closing kept → closing ≡ false → slice_get kept place ≡ Some (Some part) → part.sections ≡ 0
  unfolding Unbegun
  unbegun_at closing kept place part h opening is = h opening place part is

-- at the opening no processor has begun a section
pub unbegun_first : {E B T L I : Type 0} (m : Meanings E B T L I) (book : B) (n : ℕ) → Unbegun false (None ∷ values_from (λ place. Some (first_part m book place)) 1 n)
unfolding Unbegun
unbegun_first m book n opening zero part is = absurd cc
unbegun_first m book n opening (suc k) part is = let got = one_of (first_part m book) 1 n k part is in ap (λ (x : Part _ _ _). x.sections) (sym got.1)

-- a seat that keeps no processor keeps none that has begun a section
pub unbegun_none : (E L I : Type 0) → Unbegun {E = E} {L = L} {I = I} false []
unfolding Unbegun
unbegun_none E L I opening k part is = absurd cc

-- what a join keeps of the seat that another is joined into
pub record JoinedSame {E B T L I : Type 0} (v u : View E B T L I) : Type 0 where
  pub role : u.role ≡ v.role
  pub count : u.count ≡ v.count
  pub place : u.place ≡ v.place
  pub number : u.number ≡ v.number
  pub tracker : tracker_word u.part.sections u.phase ≡ tracker_word v.part.sections v.phase
  pub unbegun : Unbegun u.closing u.kept

-- a join leaves role, count, place, number and tracker of the seat that another is joined into
pub joined_same : {E B T L I : Type 0} (r : Role) (v w : View E B T L I) → Unbegun v.closing v.kept → JoinedSame v (joined_by r v w)
joined_same Spent v w h = record { role = refl; count = refl; place = refl; number = refl; tracker = refl; unbegun = h }
joined_same Processor v w h = record { role = refl; count = refl; place = refl; number = refl; tracker = refl; unbegun = unbegun_joined (joined_view v w).kept }
joined_same Operator v w h = record { role = refl; count = refl; place = refl; number = refl; tracker = refl; unbegun = h }
joined_same Receipt v w h = record { role = refl; count = refl; place = refl; number = refl; tracker = refl; unbegun = h }
