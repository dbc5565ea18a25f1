-- The capture that comes first has the least next record.
use Rattle.std.proofs.Common.{◌≡◌, ℕ, zero, suc, ◌+◌, ◌<◌, true, false, Option, Some, None, List, [], ◌∷◌, refl, sym, ap, subst, ◌∙◌, arith, inl, inr}
use Rattle.std.specs.Prelude.{if◌then◌else◌, slice_get}
use Rattle.std.proofs.lemmas.Bool.{cases_order}
use Rattle.std.proofs.lemmas.Bool.Decides.{nat_tests}
use Rattle.serial_schedule.specs.Order.{is_before, earlier_head, first_head, IsLeast}
use Rattle.serial_schedule.specs.declared.head.Head.{Head}
use Rattle.serial_schedule.specs.declared.moment.Moment.{Moment}

not_before-between : (a b c : Moment) → is_before b a ≡ false → is_before b c ≡ true → is_before c a ≡ false
not_before-between a b c h k = grind (arith, nat_tests)

not_before-not_before : (a b c : Moment) → is_before b a ≡ false → is_before c b ≡ false → is_before c a ≡ false
not_before-not_before a b c h k = grind (arith, nat_tests)

-- the next record at that place is the least of those from there on
record LeastAt (moments : List (Option Moment)) (moment : Moment) (place : ℕ) : Type 0 where
  there : slice_get moments place ≡ Some (Some moment)
  smaller : (k : ℕ) (other : Moment) → k < place → slice_get moments k ≡ Some (Some other) → is_before moment other ≡ true
  greater : (k : ℕ) (other : Moment) → place < k → slice_get moments k ≡ Some (Some other) → is_before other moment ≡ false

LeastFrom : ℕ → List (Option Moment) → Head → Type 0
LeastFrom start moments head = (place : ℕ) × (head.capture ≡ start + place) × LeastAt moments head.moment place

none_at : (start : ℕ) (moments : List (Option Moment)) (k : ℕ) (other : Moment) → first_head start moments ≡ None → slice_get moments k ≡ Some (Some other) → ⊥
unfolding first_head
none_at start [] k other none is = cc
none_at start (None ∷ moments) zero other none is = cc
none_at start (None ∷ moments) (suc k) other none is = none_at (start + 1) moments k other none is
none_at start (Some moment ∷ moments) k other none is = some (record { capture = start; moment = moment }) (first_head (start + 1) moments) none
  where
    some : (head : Head) (first : Option Head) → earlier_head (Some head) first ≡ None → ⊥
    some head None same = cc
    some head (Some first) same = elim (is_before first.moment head.moment) as (λ b. (if b then Some first else Some head) ≡ None → ⊥) [ true ↦ λ e. cc | false ↦ λ e. cc ] same

-- no other record comes before
at_first : (moment : Moment) (moments : List (Option Moment)) → ((k : ℕ) (other : Moment) → slice_get moments k ≡ Some (Some other) → is_before other moment ≡ false) → LeastAt (Some moment ∷ moments) moment 0
at_first moment moments behind = record {
  there = refl;
  smaller = λ k other less is. absurd (omega arith);
  greater = greater;
}
  where
    greater : (k : ℕ) (other : Moment) → 0 < k → slice_get (Some moment ∷ moments) k ≡ Some (Some other) → is_before other moment ≡ false
    greater zero other less is = absurd (omega arith)
    greater (suc k) other less is = behind k other is

at_next : (first : Option Moment) (moments : List (Option Moment)) (moment : Moment) (place : ℕ) → ((other : Moment) → first ≡ Some other → is_before moment other ≡ true) → LeastAt moments moment place → LeastAt (first ∷ moments) moment (suc place)
at_next first moments moment place before h = record { there = h.there; smaller = smaller; greater = greater }
  where
    smaller : (k : ℕ) (other : Moment) → k < suc place → slice_get (first ∷ moments) k ≡ Some (Some other) → is_before moment other ≡ true
    smaller zero other less is = before other (cc)
    smaller (suc k) other less is = h.smaller k other (omega arith) is

    greater : (k : ℕ) (other : Moment) → suc place < k → slice_get (first ∷ moments) k ≡ Some (Some other) → is_before other moment ≡ false
    greater zero other less is = absurd (omega arith)
    greater (suc k) other less is = h.greater k other (omega arith) is

-- none of the records behind is before one that the least of them isn't before
behind_least : (moment least : Moment) (moments : List (Option Moment)) (place : ℕ) → LeastAt moments least place → is_before least moment ≡ false → (k : ℕ) (other : Moment) → slice_get moments k ≡ Some (Some other) → is_before other moment ≡ false
behind_least moment least moments place h not_before k other is =
    elim (cases_order k place) [
      | inl same ↦
          let other_is : other ≡ least = let e = sym is ∙ ap (slice_get moments) same ∙ h.there in cc in
          ap (λ m. is_before m moment) other_is ∙ not_before
      | inr (inl less) ↦ not_before-between moment least other not_before (h.smaller k other less is)
      | inr (inr more) ↦ not_before-not_before moment least other not_before (h.greater k other more is)
    ]

least_from : (start : ℕ) (moments : List (Option Moment)) (head : Head) → first_head start moments ≡ Some head → LeastFrom start moments head
unfolding first_head LeastFrom
least_from start [] head is = cc
least_from start (None ∷ moments) head is =
    let (place, at, least) = least_from (start + 1) moments head is in
    (suc place, omega arith, at_next None moments head.moment place (λ other same. cc) least)
least_from start (Some moment ∷ moments) head is =
    elim (first_head (start + 1) moments) as (λ first. first_head (start + 1) moments ≡ first → earlier_head (Some (record { capture = start; moment = moment })) first ≡ Some head → LeastFrom start (Some moment ∷ moments) head) [
      | None ↦ λ none same. here head (cc) (λ k other at. absurd (none_at (start + 1) moments k other none at))
      | Some first ↦ λ found. elim (is_before first.moment moment) as (λ b. is_before first.moment moment ≡ b → (if b then Some first else Some (record { capture = start; moment = moment })) ≡ Some head → LeastFrom start (Some moment ∷ moments) head) [
        | true ↦ λ before same.
            let first_is : first ≡ head = cc in
            let (place, at, least) = least_from (start + 1) moments head (found ∙ ap (λ h. Some h) first_is) in
            (suc place, omega arith, at_next (Some moment) moments head.moment place (λ other equal. let moment_is : moment ≡ other = cc in ap (λ m. is_before head.moment m) (sym moment_is) ∙ ap (λ (h : Head). is_before h.moment moment) (sym first_is) ∙ before) least)
        | false ↦ λ before same.
            let (place, at, least) = least_from (start + 1) moments first found in
            here head (cc) (behind_least moment first.moment moments place least before)
      ] refl
    ] refl is
  where
    here : (head : Head) → head ≡ record { capture = start; moment = moment } → ((k : ℕ) (other : Moment) → slice_get moments k ≡ Some (Some other) → is_before other moment ≡ false) → LeastFrom start (Some moment ∷ moments) head
    here head is behind =
        let e : record { capture = start; moment = moment } ≡ head = sym is in
        subst (LeastFrom start (Some moment ∷ moments)) e (0, omega arith, at_first moment moments behind)

-- the number of the first head is that of the capture whose next record is the least
pub first_head-least : (moments : List (Option Moment)) (head : Head) → first_head 0 moments ≡ Some head → IsLeast moments head.capture
unfolding LeastFrom
first_head-least moments head is =
    let (place, at, least) = least_from 0 moments head is in
    let same : place ≡ head.capture = omega arith in
    subst (IsLeast moments) same (record { moment = head.moment; there = least.there; smaller = least.smaller; greater = least.greater })
