-- The front of a string of bytes, as more bytes come.
use Rattle.std.proofs.Common.{◌≡◌, ℕ, ◌+◌, ◌<◌, ◌≤◌, List, [], ◌∷◌, ◌++◌, length, take, drop, Bool, true, false, inl, inr, Result, Ok, Err, MatchBool, MatchResult, nat_lt, refl, sym, ap, ◌∙◌, subst, arith, length-append}
use Rattle.std.proofs.lemmas.List.{take-append-le}
use Rattle.std.proofs.lemmas.Bool.{cases_lt}
use lib.Seq.{drop-append-le}
use Rattle.fw_base.proofs.Logic.{match_true, match_false}
use Rattle.pcap_read.specs.declared.format.Format.{Format}
use Rattle.pcap_read.specs.declared.capture_fault.CaptureFault.{CaptureFault}
use Rattle.pcap_read.specs.Reading.{captured_length, record_of, header_of, Captured, Next, Place, next_of, Open, InHeader, Closed, Took, Stands, HasRecords, EndsAt, HasFront, place_number}
use Rattle.pcap_read.proofs.Steps.{at_boundary, too_many, in_record_header, too_long, in_record, took, captured_length-grown}

-- what stands there where the next record was taken
pub record IsTaken (limit : ℕ) (format : Format) (given : ℕ) (bytes : List ℕ) (r : Captured) (more : List ℕ) : Type 0 where
  pub few : given < limit
  pub header : 16 ≤ length bytes
  pub fits : captured_length format bytes ≤ 262144
  pub within : 16 + captured_length format bytes ≤ length bytes
  pub is_record : record_of format (take (16 + captured_length format bytes) bytes) ≡ r
  pub is_rest : drop (16 + captured_length format bytes) bytes ≡ more

-- no record was taken where another place stands
apart : {X : Type 0} (n : Next) (place : Place) (r : Captured) (more : List ℕ) → n ≡ Stands place → n ≡ Took r more → X
apart n place r more p q = absurd (cc)

-- where a record was taken, its header and its bytes stand whole, and within the limits
pub taken : (limit : ℕ) (format : Format) (given : ℕ) (bytes : List ℕ) (r : Captured) (more : List ℕ) → next_of limit format given bytes ≡ Took r more → IsTaken limit format given bytes r more
taken limit format given bytes r more e =
    let some : 0 < length bytes = elim (cases_lt 0 (length bytes)) [ inl h ↦ h | inr h ↦ apart _ _ _ _ (at_boundary limit format given bytes (omega (arith, h))) e ] in
    let few : given < limit = elim (cases_lt given limit) [ inl h ↦ h | inr h ↦ apart _ _ _ _ (too_many limit format given bytes some h) e ] in
    let header : 16 ≤ length bytes = elim (cases_lt (length bytes) 16) [ inl h ↦ apart _ _ _ _ (in_record_header limit format given bytes some few h) e | inr h ↦ h ] in
    let fits : captured_length format bytes ≤ 262144 = elim (cases_lt 262144 (captured_length format bytes)) [ inl h ↦ apart _ _ _ _ (too_long limit format given bytes few header h) e | inr h ↦ h ] in
    let within : 16 + captured_length format bytes ≤ length bytes = elim (cases_lt (length bytes) (16 + captured_length format bytes)) [
      | inl h ↦ apart _ _ _ _ (in_record limit format given bytes few header fits h) e
      | inr h ↦ h
    ] in
    let is : next_of limit format given bytes ≡ Took (record_of format (take (16 + captured_length format bytes) bytes)) (drop (16 + captured_length format bytes) bytes) =
    took limit format given bytes (16 + captured_length format bytes) few fits refl within in
    record { few = few; header = header; fits = fits; within = within; is_record = cc; is_rest = cc }

-- the next record stays where more bytes come
pub took_grown : (limit : ℕ) (format : Format) (given : ℕ) (bytes got : List ℕ) (r : Captured) (more : List ℕ) → next_of limit format given bytes ≡ Took r more → next_of limit format given (bytes ++ got) ≡ Took r (more ++ got)
took_grown limit format given bytes got r more e =
    let t = taken limit format given bytes r more e in
    let size = 16 + captured_length format bytes in
    let same : captured_length format (bytes ++ got) ≡ captured_length format bytes = captured_length-grown format bytes (bytes ++ got) got t.header refl in
    let longer = length-append bytes got in
    let is = took limit format given (bytes ++ got) size t.few (omega (arith, same, t.fits)) (omega (arith, same)) (omega (arith, longer, t.within)) in
    let front : take size (bytes ++ got) ≡ take size bytes = take-append-le size bytes got t.within in
    let rest : drop size (bytes ++ got) ≡ drop size bytes ++ got = drop-append-le size bytes got t.within in
    is ∙ ap (λ l. Took (record_of format l) (drop size (bytes ++ got))) front
    ∙ ap (Took (record_of format (take size bytes))) rest
    ∙ ap (λ x. Took x (drop size bytes ++ got)) t.is_record
    ∙ ap (λ l. Took r (l ++ got)) t.is_rest

-- the records so far stay where more bytes come
pub gives_grown : (limit : ℕ) (format : Format) (given : ℕ) (bytes got : List ℕ) (rs : List Captured) (rest : List ℕ) → HasRecords limit format given bytes rs rest → HasRecords limit format given (bytes ++ got) rs (rest ++ got)
gives_grown limit format given bytes got [] rest e = ap (λ l. l ++ got) e
gives_grown limit format given bytes got (r ∷ rs) rest p = (p.0 ++ got, took_grown limit format given bytes got r p.0 p.1, gives_grown limit format (given + 1) p.0 got rs rest p.2)

-- one more record behind the others
pub gives_more : (limit : ℕ) (format : Format) (given : ℕ) (bytes : List ℕ) (rs : List Captured) (rest : List ℕ) (r : Captured) (more : List ℕ) → HasRecords limit format given bytes rs rest
    → next_of limit format (given + length rs) rest ≡ Took r more → HasRecords limit format given bytes (rs ++ r ∷ []) more
gives_more limit format given bytes [] rest r more e t =
    let zero : given + 0 ≡ given = omega arith in
    (more, ap (next_of limit format given) e ∙ ap (λ n. next_of limit format n rest) (sym zero) ∙ t, refl)
gives_more limit format given bytes (s ∷ rs) rest r more p t =
    let next : given + 1 + length rs ≡ given + length (s ∷ rs) = omega arith in
    (p.0, p.1, gives_more limit format (given + 1) p.0 rs rest r more p.2 (ap (λ n. next_of limit format n rest) next ∙ t))

-- a header that is whole, as more bytes come
pub header_grown : (bytes got : List ℕ) → 24 ≤ length bytes → header_of (take 24 (bytes ++ got)) ≡ header_of (take 24 bytes)
header_grown bytes got h = ap header_of (take-append-le 24 bytes got h)

at_ok : (P : Format → Type 0) (Q : CaptureFault → Type 0) (r : Result Format CaptureFault) (x : Format) → r ≡ Ok x → P x → MatchResult r P Q
at_ok P Q r x e p = subst (λ y. MatchResult y P Q) (sym e) p

at_err : (P : Format → Type 0) (Q : CaptureFault → Type 0) (r : Result Format CaptureFault) (x : CaptureFault) → r ≡ Err x → Q x → MatchResult r P Q
at_err P Q r x e q = subst (λ y. MatchResult y P Q) (sym e) q

-- the front behind a header
pub front_behind : (limit : ℕ) (bytes : List ℕ) (records : List Captured) (place : Place) (format : Format) → 24 ≤ length bytes → header_of (take 24 bytes) ≡ Ok format → EndsAt limit format (drop 24 bytes) records place → HasFront limit bytes records place
front_behind limit bytes records place format h e p = match_false _ _ (nat_lt (length bytes) 24) (grind arith) (at_ok _ _ _ format e p)

-- the front in the header
pub front_within : (limit : ℕ) (bytes : List ℕ) → length bytes < 24 → HasFront limit bytes [] (Open InHeader)
front_within limit bytes h = match_true _ _ (nat_lt (length bytes) 24) (grind arith) (refl, refl)

-- the front where the header has a fault
pub front_fault : (limit : ℕ) (bytes : List ℕ) (fault : CaptureFault) → 24 ≤ length bytes → header_of (take 24 bytes) ≡ Err fault → HasFront limit bytes [] (Closed fault)
front_fault limit bytes fault h e = match_false _ _ (nat_lt (length bytes) 24) (grind arith) (at_err _ _ _ fault e (refl, refl))

-- the number of the place, in the header and behind it
pub number_within : (bytes : List ℕ) (records : List Captured) → length bytes < 24 → place_number bytes records ≡ 0
unfolding place_number
number_within bytes records h = grind arith

-- where the header has a fault the place has number 0
pub number_fault : (bytes : List ℕ) (records : List Captured) (fault : CaptureFault) → 24 ≤ length bytes → header_of (take 24 bytes) ≡ Err fault → place_number bytes records ≡ 0
unfolding place_number
number_fault bytes records fault h e = rw e (grind arith)

-- behind a header the place's number is one more than there are records
pub number_behind : (bytes : List ℕ) (records : List Captured) (format : Format) → 24 ≤ length bytes → header_of (take 24 bytes) ≡ Ok format → place_number bytes records ≡ length records + 1
unfolding place_number
number_behind bytes records format h e = rw e (grind arith)
