-- One turn of a replay: what is left of the captures is the turn of the one that comes first, and what is left then.
use Rattle.std.proofs.Common.{◌≡◌, ℕ, zero, suc, ◌+◌, ◌<◌, true, false, Option, Some, None, List, [], ◌∷◌, map, length, refl, sym, ap, ◌∙◌, arith}
use Rattle.std.specs.Prelude.{if◌then◌else◌, slice_get, slice_set}
use Rattle.std.specs.Option.{option_map}
use Rattle.pcap_read.specs.Reading.{Captured}
use Rattle.serial_schedule.specs.Order.{moment_of, is_before, earlier_head, first_head, first_capture, next_record_of, next_moment, without_next, records_at, turn_from, turns_from, turns, record_count, in_order}
use Rattle.serial_schedule.specs.declared.head.Head.{Head}
use Rattle.serial_schedule.specs.declared.moment.Moment.{Moment}

-- the captures, where that one has this record before its others
abbrev pub with_next : ℕ → Captured → List (List Captured) → List (List Captured)
with_next capture r [] = []
with_next zero r (records ∷ others) = (r ∷ records) ∷ others
with_next (suc capture) r (records ∷ others) = records ∷ with_next capture r others

-- their next records are the same but for that one
pub heads-with_next : (capture : ℕ) (r : Captured) (rests : List (List Captured)) → map next_record_of (with_next capture r rests) ≡ slice_set (map next_record_of rests) capture (Some r)
heads-with_next capture r [] = refl
heads-with_next zero r (records ∷ others) = refl
heads-with_next (suc capture) r (records ∷ others) = ap (λ heads. next_record_of records ∷ heads) (heads-with_next capture r others)

moment-head : (records : List Captured) → next_moment records ≡ option_map moment_of (next_record_of records)
moment-head [] = refl
moment-head (r ∷ records) = refl

-- when they were captured follows from the next records
pub moments-heads : (rests : List (List Captured)) → map next_moment rests ≡ map (option_map moment_of) (map next_record_of rests)
moments-heads [] = refl
moments-heads (records ∷ others) = ap (λ m. m ∷ map next_moment others) (moment-head records) ∙ ap (λ ms. option_map moment_of (next_record_of records) ∷ ms) (moments-heads others)

without-with_next : (capture : ℕ) (r : Captured) (rests : List (List Captured)) → without_next capture (with_next capture r rests) ≡ rests
without-with_next capture r [] = refl
without-with_next zero r (records ∷ others) = refl
without-with_next (suc capture) r (records ∷ others) = ap (λ rests. records ∷ rests) (without-with_next capture r others)

next-with_next : (capture : ℕ) (r : Captured) (rests : List (List Captured)) → capture < length rests → next_record_of (records_at capture (with_next capture r rests)) ≡ Some r
next-with_next capture r [] within = absurd (omega arith)
next-with_next zero r (records ∷ others) within = refl
next-with_next (suc capture) r (records ∷ others) within = next-with_next capture r others (omega arith)

pub count-with_next : (capture : ℕ) (r : Captured) (rests : List (List Captured)) → capture < length rests → record_count (with_next capture r rests) ≡ suc (record_count rests)
count-with_next capture r [] within = absurd (omega arith)
count-with_next zero r (records ∷ others) within = omega arith
count-with_next (suc capture) r (records ∷ others) within = let rest = count-with_next capture r others (omega arith) in omega arith

-- the turn of the capture that comes first
pub in_order-turn : (capture : ℕ) (r : Captured) (rests : List (List Captured)) → capture < length rests → first_capture (map next_moment (with_next capture r rests)) ≡ Some capture
    → in_order (with_next capture r rests) ≡ record { capture = capture; taken = r } ∷ in_order rests
unfolding turns
in_order-turn capture r rests within first =
    let captures = with_next capture r rests in
    let most = record_count rests in
    ap (λ n. turns n captures) (count-with_next capture r rests within)
    ∙ ap (turns_from (λ left. turns most left) captures) first
    ∙ ap (turn_from (λ left. turns most left) captures capture) (next-with_next capture r rests within)
    ∙ ap (λ left. record { capture = capture; taken = r } ∷ turns most left) (without-with_next capture r rests)

turns-none : (most : ℕ) (rests : List (List Captured)) → first_capture (map next_moment rests) ≡ None → turns most rests ≡ []
unfolding turns
turns-none zero rests none = refl
turns-none (suc most) rests none = ap (turns_from (λ left. turns most left) rests) none

-- no turn where no capture has a record left
pub in_order-none : (rests : List (List Captured)) → first_capture (map next_moment rests) ≡ None → in_order rests ≡ []
in_order-none rests none = turns-none (record_count rests) rests none

-- the capture that comes first has a next record
first_head-there : (capture : ℕ) (moments : List (Option Moment)) (head : Head) → first_head capture moments ≡ Some head → (k : ℕ) × (head.capture ≡ capture + k) × (slice_get moments k ≡ Some (Some head.moment))
unfolding first_head
first_head-there capture [] head is = cc
first_head-there capture (None ∷ moments) head is =
    let (k, at, there) = first_head-there (capture + 1) moments head is in (suc k, omega arith, there)
first_head-there capture (Some moment ∷ moments) head is =
    elim (first_head (capture + 1) moments) as (λ other. first_head (capture + 1) moments ≡ other → earlier_head (Some (record { capture = capture; moment = moment })) other ≡ Some head
    → (k : ℕ) × (head.capture ≡ capture + k) × (slice_get (Some moment ∷ moments) k ≡ Some (Some head.moment))) [
      | None ↦ λ other same. here capture moment moments head (cc)
      | Some first ↦ λ other. elim (is_before first.moment moment) as (λ b. (if b then Some first else Some (record { capture = capture; moment = moment })) ≡ Some head
          → (k : ℕ) × (head.capture ≡ capture + k) × (slice_get (Some moment ∷ moments) k ≡ Some (Some head.moment))) [
            | true ↦ λ same. let (k, at, there) = first_head-there (capture + 1) moments head (other ∙ same) in (suc k, omega arith, there)
            | false ↦ λ same. here capture moment moments head (cc)
          ]
    ] refl is
  where
    here : (capture : ℕ) (moment : Moment) (moments : List (Option Moment)) (head : Head) → head ≡ record { capture = capture; moment = moment }
        → (k : ℕ) × (head.capture ≡ capture + k) × (slice_get (Some moment ∷ moments) k ≡ Some (Some head.moment))
    here capture moment moments head is = (0, ap (λ (h : Head). h.capture) is ∙ omega arith, ap (λ (h : Head). Some (Some h.moment)) (sym is))

-- the number of the capture that comes first is that of one that has a record left
pub first_capture-there : (moments : List (Option Moment)) (capture : ℕ) → first_capture moments ≡ Some capture → (moment : Moment) × (slice_get moments capture ≡ Some (Some moment))
first_capture-there moments capture is =
    elim (first_head 0 moments) as (λ first. first_head 0 moments ≡ first → option_map (λ (head : Head). head.capture) first ≡ Some capture → (moment : Moment) × (slice_get moments capture ≡ Some (Some moment))) [
      | None ↦ λ first same. cc
      | Some head ↦ λ first same.
          let (k, at, there) = first_head-there 0 moments head first in
          let number : head.capture ≡ capture = cc in
          let place : k ≡ capture = omega arith in
          (head.moment, ap (slice_get moments) (sym place) ∙ there)
    ] refl is

-- of a head and another there is an earlier one
pub some_is_earlier : (head : Head) (other : Option Head) → earlier_head (Some head) other ≡ None → ⊥
some_is_earlier head None same = cc
some_is_earlier head (Some first) same = elim (is_before first.moment head.moment) as (λ b. (if b then Some first else Some head) ≡ None → ⊥) [ true ↦ λ e. cc | false ↦ λ e. cc ] same

-- no record of a capture
abbrev pub no_records : Option Captured → List Captured
no_records held = []

no_head : (capture : ℕ) (held : List (Option Captured)) → first_head capture (map (option_map moment_of) held) ≡ None → map next_record_of (map no_records held) ≡ held
unfolding first_head
no_head capture [] none = refl
no_head capture (None ∷ held) none = ap (λ heads. None ∷ heads) (no_head (capture + 1) held none)
no_head capture (Some r ∷ held) none = absurd (some_is_earlier (record { capture = capture; moment = moment_of r }) (first_head (capture + 1) (map (option_map moment_of) held)) none)

-- where none of these next records comes first there are none
pub none_first : (held : List (Option Captured)) → first_capture (map (option_map moment_of) held) ≡ None → map next_record_of (map no_records held) ≡ held
none_first held none = no_head 0 held (none_of (first_head 0 (map (option_map moment_of) held)) none)
  where
    none_of : (first : Option Head) → option_map (λ (head : Head). head.capture) first ≡ None → first ≡ None
    none_of None same = refl
    none_of (Some head) same = cc
