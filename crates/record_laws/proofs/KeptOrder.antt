-- Each capture gives all its records in their order.
use Rattle.std.proofs.Common.{◌≡◌, ◌≢◌, ℕ, zero, suc, ◌+◌, Bool, true, false, List, [], ◌∷◌, length, map, refl, sym, ap, ◌∙◌, arith}
use Rattle.std.proofs.lemmas.Bool.Decides.{nat_tests}
use Rattle.std.specs.Prelude.{◌==◌, Option, Some, None, slice_get}
use Rattle.std.specs.Option.{option_map}
use Rattle.pcap_read.specs.Reading.{Captured}
use Rattle.serial_schedule.specs.Order.{Turn, moment_of, first_head, first_capture, next_record_of, next_moment, without_next, records_at, turn_from, turns_from, turns, record_count}
use Rattle.serial_schedule.specs.declared.head.Head.{Head}
use Rattle.serial_schedule.specs.declared.moment.Moment.{Moment}
use Rattle.serial_schedule.proofs.Turns.{first_capture-there, some_is_earlier}
use Rattle.record_laws.specs.CaptureOrder.{taken_of, CapturesKeepTheirOrder}

no_head : (start : ℕ) (captures : List (List Captured)) → first_head start (map next_moment captures) ≡ None → record_count captures ≡ 0
unfolding first_head
no_head start [] none = refl
no_head start ([] ∷ captures) none = let rest = no_head (start + 1) captures none in omega arith
no_head start ((r ∷ records) ∷ captures) none = absurd (some_is_earlier (record { capture = start; moment = moment_of r }) (first_head (start + 1) (map next_moment captures)) none)

-- where no capture comes first no record is left
none_left : (captures : List (List Captured)) → first_capture (map next_moment captures) ≡ None → record_count captures ≡ 0
none_left captures none = no_head 0 captures (none_of (first_head 0 (map next_moment captures)) none)
  where
    none_of : (first : Option Head) → option_map (λ (head : Head). head.capture) first ≡ None → first ≡ None
    none_of None same = refl
    none_of (Some head) same = cc

-- A capture has a next record: what is left when it has given that.
record Gives (captures : List (List Captured)) (capture : ℕ) : Type 0 where
  first : Captured
  rest : List Captured
  there : slice_get captures capture ≡ Some (first ∷ rest)
  next : next_record_of (records_at capture captures) ≡ Some first
  left : slice_get (without_next capture captures) capture ≡ Some rest
  fewer : record_count captures ≡ suc (record_count (without_next capture captures))

gives : (captures : List (List Captured)) (capture : ℕ) (moment : Moment) → slice_get (map next_moment captures) capture ≡ Some (Some moment) → Gives captures capture
gives [] capture moment is = cc
gives ([] ∷ captures) zero moment is = cc
gives ((r ∷ records) ∷ captures) zero moment is = record { first = r; rest = records; there = refl; next = refl; left = refl; fewer = omega arith }
gives (records ∷ captures) (suc capture) moment is =
    let g = gives captures capture moment is in
    record { first = g.first; rest = g.rest; there = g.there; next = g.next; left = g.left; fewer = let e = g.fewer in omega arith }

-- the other captures stay
others_stay : (captures : List (List Captured)) (capture other : ℕ) → capture ≢ other → slice_get (without_next capture captures) other ≡ slice_get captures other
others_stay [] capture other differs = refl
others_stay (records ∷ captures) zero zero differs = absurd (differs refl)
others_stay (records ∷ captures) zero (suc other) differs = refl
others_stay (records ∷ captures) (suc capture) zero differs = refl
others_stay (records ∷ captures) (suc capture) (suc other) differs = others_stay captures capture other (λ same. differs (ap (λ n. suc n) same))

-- there is no record of any capture where there is none at all
no_records_at : (captures : List (List Captured)) (capture : ℕ) (records : List Captured) → record_count captures ≡ 0 → slice_get captures capture ≡ Some records → [] ≡ records
no_records_at [] capture records none is = cc
no_records_at ([] ∷ captures) zero records none is = cc
no_records_at ((r ∷ first) ∷ captures) capture records none is = absurd (omega arith)
no_records_at ([] ∷ captures) (suc capture) records none is = no_records_at captures capture records (omega arith) is

-- the turns of so many records
record IsGiven (most : ℕ) (captures : List (List Captured)) : Type 0 where
  each : (capture : ℕ) (records : List Captured) → slice_get captures capture ≡ Some records → taken_of capture (turns most captures) ≡ records
  all : length (turns most captures) ≡ most

-- the next turn is that of this capture
turn_is : (most capture : ℕ) (captures : List (List Captured)) (g : Gives captures capture) → first_capture (map next_moment captures) ≡ Some capture
    → turns (suc most) captures ≡ record { capture = capture; taken = g.first } ∷ turns most (without_next capture captures)
unfolding turns
turn_is most capture captures g first =
    ap (turns_from (λ left. turns most left) captures) first
    ∙ ap (turn_from (λ left. turns most left) captures capture) g.next

-- of a capture its record comes before those that it has left; of the others all are left
taken_behind : (most capture other : ℕ) (captures : List (List Captured)) (records : List Captured) (g : Gives captures capture) → IsGiven most (without_next capture captures)
    → slice_get captures other ≡ Some records → taken_of other (record { capture = capture; taken = g.first } ∷ turns most (without_next capture captures)) ≡ records
taken_behind most capture other captures records g given is = decided (capture == other) refl
  where
    turn : Turn
    turn = record { capture = capture; taken = g.first }

    decided : (b : Bool) → (capture == other) ≡ b → taken_of other (record { capture = capture; taken = g.first } ∷ turns most (without_next capture captures)) ≡ records
    decided true own =
        let same : capture ≡ other = grind (arith, nat_tests) in
        let whole : g.first ∷ g.rest ≡ records = let e = sym g.there ∙ ap (slice_get captures) same ∙ is in cc in
        rw own (ap (λ (rest : List Captured). g.first ∷ rest) (given.each other g.rest (ap (slice_get (without_next capture captures)) (sym same) ∙ g.left)) ∙ whole)
    decided false apart =
        let differs : capture ≢ other = λ same. grind (arith, nat_tests) in
        rw apart (given.each other records (others_stay captures capture other differs ∙ is))

given_from : (most : ℕ) (captures : List (List Captured)) → record_count captures ≡ most → IsGiven most captures
unfolding turns
given_from zero captures none = record { each = λ capture records is. no_records_at captures capture records none is; all = refl }
given_from (suc most) captures some = cases (given_from most) (first_capture (map next_moment captures)) refl
  where
    cases : ((left : List (List Captured)) → record_count left ≡ most → IsGiven most left) → (first : Option ℕ) → first_capture (map next_moment captures) ≡ first → IsGiven (suc most) captures
    cases left_given None none = let empty = none_left captures none in absurd (omega arith)
    cases left_given (Some capture) first =
        let (moment, there) = first_capture-there (map next_moment captures) capture first in
        let g = gives captures capture moment there in
        let fewer = g.fewer in
        let given = left_given (without_next capture captures) (omega arith) in
        let turn = turn_is most capture captures g first in
        record {
          each = λ other records is. ap (taken_of other) turn ∙ taken_behind most capture other captures records g given is;
          all = ap length turn ∙ ap (λ n. suc n) given.all;
        }

-- replayed side by side, each capture gives all its records in their order
pub captures_keep_their_order : CapturesKeepTheirOrder
captures_keep_their_order captures = let given = given_from (record_count captures) captures refl in record { each = given.each; all = given.all }
