-- Each string of bytes has one front, and a fault that stands stays.
use Rattle.std.proofs.Common.{◌≡◌, ℕ, ◌+◌, ◌<◌, ◌≤◌, zero, suc, List, [], ◌∷◌, ◌++◌, length, take, drop, Bool, true, false, ◌⊎◌, inl, inr, Result, Ok, Err, MatchBool, MatchResult, nat_lt, refl, sym, ap, ◌∙◌, subst, arith, length-append, length-drop, append-nil, map}
use Rattle.std.specs.List.{AllByRecursion, concat}
use Rattle.std.proofs.lemmas.Bool.{cases_lt}
use lib.Seq.{drop-append-le, take-append_seam, drop-append_seam}
use Rattle.fw_base.proofs.Logic.{was_true, was_false}
use Rattle.pcap_read.specs.declared.format.Format.{Format}
use Rattle.pcap_read.specs.declared.capture_fault.CaptureFault.{CaptureFault}
use Rattle.pcap_read.specs.Reading.{captured_length, header_of, record_of, IsRecord, AtBoundary, Captured, Next, Place, OpenPlace, next_of, Open, InHeader, Closed, Took, Stands, HasRecords, EndsAt, HasFront}
use Rattle.pcap_read.proofs.Steps.{at_boundary, too_many, in_record_header, too_long, in_record, took, captured_length-grown}
use Rattle.pcap_read.proofs.Fronts.{taken, took_grown, gives_grown, header_grown, front_behind, front_within, front_fault}

-- what stands there
whichever : (n : Next) → ((r : Captured) × (more : List ℕ) × (n ≡ Took r more)) ⊎ ((place : Place) × (n ≡ Stands place))
whichever (Took r more) = inl (r, more, refl)
whichever (Stands place) = inr (place, refl)

-- ---- there is one

ends_somewhere : (limit fuel : ℕ) (format : Format) (given : ℕ) (bytes : List ℕ) → length bytes < fuel
    → (records : List Captured) × (rest : List ℕ) × (place : Place) × HasRecords limit format given bytes records rest × (next_of limit format (given + length records) rest ≡ Stands place)
ends_somewhere limit zero format given bytes h = absurd (omega arith)
ends_somewhere limit (suc fuel) format given bytes h = elim (whichever (next_of limit format given bytes)) [
  | inl t ↦
      let is = taken limit format given bytes t.0 t.1 t.2 in
      let shorter : length t.1 < fuel = omega (arith, ap length is.is_rest, length-drop (16 + captured_length format bytes) bytes, is.within, h) in
      let p = ends_somewhere limit fuel format (given + 1) t.1 shorter in
      let next : given + length (t.0 ∷ p.0) ≡ given + 1 + length p.0 = omega arith in
      (t.0 ∷ p.0, p.1, p.2, (t.1, t.2, p.3), ap (λ n. next_of limit format n p.1) next ∙ p.4)
  | inr s ↦
      let next : given + 0 ≡ given = omega arith in
      ([], bytes, s.0, refl, ap (λ n. next_of limit format n bytes) next ∙ s.1)
]

-- each string of bytes has a front
pub front_exists : (limit : ℕ) (bytes : List ℕ) → (records : List Captured) × (place : Place) × HasFront limit bytes records place
front_exists limit bytes = elim (cases_lt (length bytes) 24) [
  | inl short ↦ ([], Open InHeader, front_within limit bytes short)
  | inr whole ↦ headed limit bytes whole (header_of (take 24 bytes)) refl
]
  where
    headed : (limit : ℕ) (bytes : List ℕ) → 24 ≤ length bytes → (r : Result Format CaptureFault) → header_of (take 24 bytes) ≡ r → (records : List Captured) × (place : Place) × HasFront limit bytes records place
    headed limit bytes whole (Err fault) e = ([], Closed fault, front_fault limit bytes fault whole e)
    headed limit bytes whole (Ok format) e =
        let p = ends_somewhere limit (length (drop 24 bytes) + 1) format 0 (drop 24 bytes) (omega arith) in
        let count : length p.0 ≡ 0 + length p.0 = omega arith in
        (p.0, p.2, front_behind limit bytes p.0 p.2 format whole e (p.1, p.3, ap (λ n. next_of limit format n p.1) count ∙ p.4))

-- ---- there is no other, and what stands stays

-- the other ends of the two records at a place
took_one : (n : Next) (r s : Captured) (x y : List ℕ) → n ≡ Took r x → n ≡ Took s y → (r ≡ s) × (x ≡ y)
took_one n r s x y p q = (cc, cc)

stands_one : (n : Next) (p q : Place) → n ≡ Stands p → n ≡ Stands q → p ≡ q
stands_one n p q e f = cc

not_both : {X : Type 0} (n : Next) (r : Captured) (x : List ℕ) (place : Place) → n ≡ Took r x → n ≡ Stands place → X
not_both n r x place p q = absurd (cc)

-- the records that a longer string begins with, where the shorter one's end at a place
begins : (limit : ℕ) (format : Format) (given : ℕ) (bytes more : List ℕ) (rs ss : List Captured) (rest others : List ℕ) (place : Place) → HasRecords limit format given bytes rs rest → HasRecords limit format given (bytes ++ more) ss others
    → next_of limit format (given + length ss) others ≡ Stands place → (behind : List Captured) × (ss ≡ rs ++ behind) × HasRecords limit format (given + length rs) (rest ++ more) behind others
begins limit format given bytes more [] ss rest others place p q e =
    let zero : given ≡ given + 0 = omega arith in
    (ss, refl, subst (λ n. HasRecords limit format n (rest ++ more) ss others) zero (subst (λ l. HasRecords limit format given (l ++ more) ss others) p q))
begins limit format given bytes more (r ∷ rs) [] rest others place p q e =
    let zero : given ≡ given + 0 = omega arith in
    not_both (next_of limit format given (bytes ++ more)) r (p.0 ++ more) place (took_grown limit format given bytes more r p.0 p.1) (ap (next_of limit format given) q ∙ ap (λ n. next_of limit format n others) zero ∙ e)
begins limit format given bytes more (r ∷ rs) (s ∷ ss) rest others place p q e =
    let one = took_one (next_of limit format given (bytes ++ more)) s r q.0 (p.0 ++ more) q.1 (took_grown limit format given bytes more r p.0 p.1) in
    let next : given + length (s ∷ ss) ≡ given + 1 + length ss = omega arith in
    let after : given + 1 + length rs ≡ given + length (r ∷ rs) = omega arith in
    let tail = begins limit format (given + 1) p.0 more rs ss rest others place p.2 (subst (λ l. HasRecords limit format (given + 1) l ss others) one.1 q.2) (ap (λ n. next_of limit format n others) (sym next) ∙ e) in
    (tail.0, ap (λ x. x ∷ ss) one.0 ∙ ap (λ l. r ∷ l) tail.1, subst (λ n. HasRecords limit format n (rest ++ more) tail.0 others) after tail.2)

-- a fault that stands at a record's place stands there however the bytes go on
closed_stays : (limit : ℕ) (format : Format) (given : ℕ) (bytes more : List ℕ) (fault : CaptureFault) → next_of limit format given bytes ≡ Stands (Closed fault) → next_of limit format given (bytes ++ more) ≡ Stands (Closed fault)
closed_stays limit format given bytes more fault e =
    let longer = length-append bytes more in
    let some : 0 < length bytes = elim (cases_lt 0 (length bytes)) [ inl h ↦ h | inr h ↦ open_or_closed _ _ _ (at_boundary limit format given bytes (omega (arith, h))) e ] in
    elim (cases_lt given limit) [
      | inr many ↦ too_many limit format given (bytes ++ more) (omega (arith, longer, some)) many ∙ sym (too_many limit format given bytes some many) ∙ e
      | inl few ↦
          let header : 16 ≤ length bytes = elim (cases_lt (length bytes) 16) [ inl h ↦ open_or_closed _ _ _ (in_record_header limit format given bytes some few h) e | inr h ↦ h ] in
          let same : captured_length format (bytes ++ more) ≡ captured_length format bytes = captured_length-grown format bytes (bytes ++ more) more header refl in
          elim (cases_lt 262144 (captured_length format bytes)) [
            | inl long ↦ too_long limit format given (bytes ++ more) few (omega (arith, longer, header)) (omega (arith, same, long)) ∙ sym (too_long limit format given bytes few header long) ∙ e
            | inr fits ↦ elim (cases_lt (length bytes) (16 + captured_length format bytes)) [
              | inl short ↦ open_or_closed _ _ _ (in_record limit format given bytes few header fits short) e
              | inr whole ↦ not_both _ _ _ _ (took limit format given bytes (16 + captured_length format bytes) few fits refl whole) e
            ]
          ]
    ]
  where
    open_or_closed : {X : Type 0} (n : Next) (place : OpenPlace) (fault : CaptureFault) → n ≡ Stands (Open place) → n ≡ Stands (Closed fault) → X
    open_or_closed n place fault p q = absurd (cc)

-- what a front is, by cases on the header
pub data FrontIs (limit : ℕ) (bytes : List ℕ) (records : List Captured) (place : Place) : Type 0 where
  short : length bytes < 24 → records ≡ [] → place ≡ Open InHeader → FrontIs limit bytes records place
  bad : (fault : CaptureFault) → 24 ≤ length bytes → header_of (take 24 bytes) ≡ Err fault → records ≡ [] → place ≡ Closed fault → FrontIs limit bytes records place
  good : (format : Format) → 24 ≤ length bytes → header_of (take 24 bytes) ≡ Ok format → EndsAt limit format (drop 24 bytes) records place → FrontIs limit bytes records place

front_cases : (limit : ℕ) (bytes : List ℕ) (records : List Captured) (place : Place) → HasFront limit bytes records place → FrontIs limit bytes records place
front_cases limit bytes records place h = elim (cases_lt (length bytes) 24) [
  | inl few ↦ let p = was_true _ _ (nat_lt (length bytes) 24) (grind arith) h in short few p.0 p.1
  | inr whole ↦ headed limit bytes records place whole (header_of (take 24 bytes)) refl (was_false _ _ (nat_lt (length bytes) 24) (grind arith) h)
]
  where
    headed : (limit : ℕ) (bytes : List ℕ) (records : List Captured) (place : Place) → 24 ≤ length bytes → (r : Result Format CaptureFault) → header_of (take 24 bytes) ≡ r
        → MatchResult (header_of (take 24 bytes)) (λ format. EndsAt limit format (drop 24 bytes) records place) (λ fault. (records ≡ []) × (place ≡ Closed fault)) → FrontIs limit bytes records place
    headed limit bytes records place whole (Err fault) e p =
        let q = subst (λ r. MatchResult r (λ format. EndsAt limit format (drop 24 bytes) records place) (λ fault. (records ≡ []) × (place ≡ Closed fault))) e p in
        bad fault whole e q.0 q.1
    headed limit bytes records place whole (Ok format) e p =
        let q = subst (λ r. MatchResult r (λ format. EndsAt limit format (drop 24 bytes) records place) (λ fault. (records ≡ []) × (place ≡ Closed fault))) e p in
        good format whole e q

-- where the bytes end at a place, no more records were given of them
none_behind : (limit : ℕ) (format : Format) (given : ℕ) (rest : List ℕ) (behind : List Captured) (others : List ℕ) (place : Place) → next_of limit format given rest ≡ Stands place → HasRecords limit format given rest behind others
    → (behind ≡ []) × (others ≡ rest)
none_behind limit format given rest [] others place e p = (refl, sym p)
none_behind limit format given rest (r ∷ behind) others place e p = not_both _ _ _ _ p.1 e

ends_one : (limit : ℕ) (format : Format) (bytes : List ℕ) (rs ss : List Captured) (p q : Place) → EndsAt limit format bytes rs p → EndsAt limit format bytes ss q → (rs ≡ ss) × (p ≡ q)
ends_one limit format bytes rs ss p q a b =
    let zero : length ss ≡ 0 + length ss = omega arith in
    let count : 0 + length rs ≡ length rs = omega arith in
    let all = begins limit format 0 bytes [] rs ss a.0 b.0 q a.1 (subst (λ l. HasRecords limit format 0 l ss b.0) (sym (append-nil bytes)) b.1) (ap (λ n. next_of limit format n b.0) (sym zero) ∙ b.2) in
    let none = none_behind limit format (length rs) a.0 all.0 b.0 p a.2
    (subst (λ l. HasRecords limit format (length rs) l all.0 b.0) (append-nil a.0) (subst (λ n. HasRecords limit format n (a.0 ++ []) all.0 b.0) count all.2)) in
    let same : ss ≡ rs = all.1 ∙ ap (λ l. rs ++ l) none.0 ∙ append-nil rs in
    (sym same, stands_one (next_of limit format (length rs) a.0) p q a.2 (ap (next_of limit format (length rs)) (sym none.1) ∙ ap (λ l. next_of limit format (length l) b.0) (sym same) ∙ b.2))

-- the same string under two headers
err_one : (r : Result Format CaptureFault) (x y : CaptureFault) → r ≡ Err x → r ≡ Err y → x ≡ y
err_one r x y p q = cc

ok_one : (r : Result Format CaptureFault) (x y : Format) → r ≡ Ok x → r ≡ Ok y → x ≡ y
ok_one r x y p q = cc

not_ok_and_err : {X : Type 0} (r : Result Format CaptureFault) (x : Format) (y : CaptureFault) → r ≡ Ok x → r ≡ Err y → X
not_ok_and_err r x y p q = absurd (cc)

-- a string of bytes has no two fronts
pub front_unique : (limit : ℕ) (bytes : List ℕ) (rs ss : List Captured) (p q : Place) → HasFront limit bytes rs p → HasFront limit bytes ss q → (rs ≡ ss) × (p ≡ q)
front_unique limit bytes rs ss p q h k = same limit bytes rs ss p q (front_cases limit bytes rs p h) (front_cases limit bytes ss q k)
  where
    same : (limit : ℕ) (bytes : List ℕ) (rs ss : List Captured) (p q : Place) → FrontIs limit bytes rs p → FrontIs limit bytes ss q → (rs ≡ ss) × (p ≡ q)
    same limit bytes rs ss p q (short few a b) (short more c d) = (a ∙ sym c, b ∙ sym d)
    same limit bytes rs ss p q (short few a b) (bad fault whole e c d) = absurd (omega (arith, few, whole))
    same limit bytes rs ss p q (short few a b) (good format whole e c) = absurd (omega (arith, few, whole))
    same limit bytes rs ss p q (bad fault whole e a b) (short few c d) = absurd (omega (arith, few, whole))
    same limit bytes rs ss p q (bad fault whole e a b) (bad other also f c d) = (a ∙ sym c, b ∙ ap Closed (err_one _ _ _ e f) ∙ sym d)
    same limit bytes rs ss p q (bad fault whole e a b) (good format also f c) = not_ok_and_err _ _ _ f e
    same limit bytes rs ss p q (good format whole e a) (short few c d) = absurd (omega (arith, few, whole))
    same limit bytes rs ss p q (good format whole e a) (bad fault also f c d) = not_ok_and_err _ _ _ e f
    same limit bytes rs ss p q (good format whole e a) (good other also f c) = ends_one limit format (drop 24 bytes) rs ss p q a (subst (λ x. EndsAt limit x (drop 24 bytes) ss q) (ok_one _ _ _ f e) c)

-- the records stay, and more may stand behind them
pub front_grows : (limit : ℕ) (bytes more : List ℕ) (rs ss : List Captured) (p q : Place) → HasFront limit bytes rs p → HasFront limit (bytes ++ more) ss q → (behind : List Captured) × (ss ≡ rs ++ behind)
front_grows limit bytes more rs ss p q h k = grows limit bytes more rs ss p q (front_cases limit bytes rs p h) (front_cases limit (bytes ++ more) ss q k)
  where
    grows : (limit : ℕ) (bytes more : List ℕ) (rs ss : List Captured) (p q : Place) → FrontIs limit bytes rs p → FrontIs limit (bytes ++ more) ss q → (behind : List Captured) × (ss ≡ rs ++ behind)
    grows limit bytes more rs ss p q (short few a b) k = (ss, ap (λ l. l ++ ss) (sym a))
    grows limit bytes more rs ss p q (bad fault whole e a b) k = (ss, ap (λ l. l ++ ss) (sym a))
    grows limit bytes more rs ss p q (good format whole e a) (short few c d) = absurd (omega (arith, few, whole, length-append bytes more))
    grows limit bytes more rs ss p q (good format whole e a) (bad fault also f c d) = not_ok_and_err _ _ _ e (sym (header_grown bytes more whole) ∙ f)
    grows limit bytes more rs ss p q (good format whole e a) (good other also f c) =
        let same : other ≡ format = ok_one _ _ _ (sym (header_grown bytes more whole) ∙ f) e in
        let zero : length ss ≡ 0 + length ss = omega arith in
        let c' = subst (λ x. EndsAt limit x (drop 24 bytes ++ more) ss q) same (subst (λ l. EndsAt limit other l ss q) (drop-append-le 24 bytes more whole) c) in
        let all = begins limit format 0 (drop 24 bytes) more rs ss a.0 c'.0 q a.1 c'.1 (ap (λ n. next_of limit format n c'.0) (sym zero) ∙ c'.2) in
        (all.0, all.1)

-- a fault that stands at once stays
pub front_stays : (limit : ℕ) (bytes more : List ℕ) (rs : List Captured) (fault : CaptureFault) → HasFront limit bytes rs (Closed fault) → HasFront limit (bytes ++ more) rs (Closed fault)
front_stays limit bytes more rs fault h = stays limit bytes more rs (Closed fault) fault refl (front_cases limit bytes rs (Closed fault) h)
  where
    stays : (limit : ℕ) (bytes more : List ℕ) (rs : List Captured) (p : Place) (fault : CaptureFault) → p ≡ Closed fault → FrontIs limit bytes rs p → HasFront limit (bytes ++ more) rs (Closed fault)
    stays limit bytes more rs p fault is (short few a b) = absurd (cc)
    stays limit bytes more rs p fault is (bad other whole e a b) =
        let same : other ≡ fault = cc in
        subst (λ l. HasFront limit (bytes ++ more) l (Closed fault)) (sym a) (front_fault limit (bytes ++ more) fault (omega (arith, whole, length-append bytes more)) (header_grown bytes more whole ∙ e ∙ ap Err same))
    stays limit bytes more rs p fault is (good format whole e a) =
        front_behind limit (bytes ++ more) rs (Closed fault) format (omega (arith, whole, length-append bytes more)) (header_grown bytes more whole ∙ e)
        (subst (λ l. EndsAt limit format l rs (Closed fault)) (sym (drop-append-le 24 bytes more whole))
        (a.0 ++ more, gives_grown limit format 0 (drop 24 bytes) more rs a.0 a.1, closed_stays limit format (length rs) a.0 more fault (a.2 ∙ ap Stands is)))

-- ---- whole records

pieces_give : (limit : ℕ) (format : Format) (given : ℕ) (pieces : List (List ℕ)) → AllByRecursion (IsRecord format) pieces → given + length pieces ≤ limit → HasRecords limit format given (concat pieces) (map (record_of format) pieces) []
pieces_give limit format given [] all few = refl
pieces_give limit format given (p ∷ ps) all few =
    let size = length p in
    let header : 16 ≤ size = omega (arith, all.0.0) in
    let same : captured_length format (p ++ concat ps) ≡ captured_length format p = captured_length-grown format p (p ++ concat ps) (concat ps) header refl in
    let within : size ≤ length (p ++ concat ps) = omega (arith, length-append p (concat ps)) in
    let is = took limit format given (p ++ concat ps) size (omega arith) (omega (arith, same, all.0.1)) (omega (arith, same, all.0.0)) within in (
      concat ps,
      is ∙ ap (λ l. Took (record_of format l) (drop size (p ++ concat ps))) (take-append_seam p (concat ps)) ∙ ap (Took (record_of format p)) (drop-append_seam p (concat ps)),
      pieces_give limit format (given + 1) ps all.1 (omega arith),
    )

-- a header and whole records have these records as their front, which ends at a record's boundary
pub front_whole : (limit : ℕ) (header : List ℕ) (format : Format) (pieces : List (List ℕ)) → length header ≡ 24 → header_of header ≡ Ok format → AllByRecursion (IsRecord format) pieces → length pieces ≤ limit
    → HasFront limit (header ++ concat pieces) (map (record_of format) pieces) (Open AtBoundary)
front_whole limit header format pieces size is all few =
    let bytes = header ++ concat pieces in
    let front : take 24 bytes ≡ header = ap (λ n. take n bytes) (sym size) ∙ take-append_seam header (concat pieces) in
    let rest : drop 24 bytes ≡ concat pieces = ap (λ n. drop n bytes) (sym size) ∙ drop-append_seam header (concat pieces) in
    front_behind limit bytes (map (record_of format) pieces) (Open AtBoundary) format (omega (arith, size, length-append header (concat pieces))) (ap header_of front ∙ is)
    ([], subst (λ l. HasRecords limit format 0 l (map (record_of format) pieces) []) (sym rest) (pieces_give limit format 0 pieces all (omega arith)), at_boundary limit format _ [] refl)
