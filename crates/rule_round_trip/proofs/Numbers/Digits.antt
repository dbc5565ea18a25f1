-- Texts of digits hold no other byte, and begin no word.
use Rattle.std.proofs.Common.{◌≡◌, ℕ, ◌+◌, ◌<◌, ◌==◌, not, if◌then◌else◌, ◌&&◌, nat_eq, Bool, true, false, Some, None, Option, unwrap_or, position, List, ◌∷◌, ◌++◌, length, take, drop, refl, sym, ap, ◌∙◌, arith, append_assoc, length-append, eq-eqb, []}
use Rattle.std.specs.List.{list_all, position_or_len, slice_split, onto_first, AllByRecursion, join_with_byte}
use Rattle.std.specs.Option.{option_map}
use Rattle.std.proofs.lemmas.Bool.{le-ltb, lt-ltb, and_parts}
use Rattle.std.specs.Cmp.Lexicographic.{pointwise}
use Rattle.std.proofs.lemmas.List.{take_all, take_at, drop_at}
use Rattle.std.proofs.Math.Numerals.{one-add}
use Rattle.std.specs.Char.{is_ascii_digit}
use Rattle.fw_base.proofs.Logic.{clash}
use Rattle.ipfw_parser.specs.Reading.{same}
use Rattle.ipfw_parser.specs.Numbers.{starts_with_digit}
use Rattle.ipfw_parser.specs.Parts.{part_before, part_behind}
use Rattle.ipfw_parser.specs.Lists.{elements}
use Rattle.rule_round_trip.proofs.Lists.Each.{all_append, all_passed, apart}

-- the byte stands nowhere in the text
abbrev pub IsFree : ℕ → List ℕ → Type 0
IsFree byte text = AllByRecursion (λ b. b == byte ≡ false) text

digit_first : (digit : ℕ) (digits : List ℕ) → list_all is_ascii_digit (digit ∷ digits) ≡ true → is_ascii_digit digit ≡ true
digit_first digit digits h = (and_parts (is_ascii_digit digit) (list_all is_ascii_digit digits) h).0

-- digits hold no other byte
pub free_digits : (byte : ℕ) (text : List ℕ) → is_ascii_digit byte ≡ false → list_all is_ascii_digit text ≡ true → IsFree byte text
free_digits byte text other digits = all_passed (λ b. b == byte ≡ false) is_ascii_digit text (λ b told. apart is_ascii_digit b byte told other) digits

-- a byte that stands in neither of two texts stands nowhere in both together
pub free_append : (byte : ℕ) (front rest : List ℕ) → IsFree byte front → IsFree byte rest → IsFree byte (front ++ rest)
free_append byte front rest p q = all_append (λ b. b == byte ≡ false) front rest p q

place_free : (byte : ℕ) (text : List ℕ) → IsFree byte text → position_or_len (λ b. b == byte) text ≡ length text
place_free byte [] free = refl
place_free byte (b ∷ text) free = ap (λ t. if not t then 1 + position_or_len (λ x. x == byte) text else 0) free.0 ∙ ap (λ n. 1 + n) (place_free byte text free.1) ∙ one-add (length text)

place_there : (byte : ℕ) (text rest : List ℕ) → IsFree byte text → position_or_len (λ b. b == byte) (text ++ byte ∷ rest) ≡ length text
place_there byte [] rest free = ap (λ t. if not t then 1 + position_or_len (λ x. x == byte) rest else 0) (eq-eqb byte byte refl)
place_there byte (b ∷ text) rest free =
    ap (λ t. if not t then 1 + position_or_len (λ x. x == byte) (text ++ byte ∷ rest) else 0) free.0 ∙ ap (λ n. 1 + n) (place_there byte text rest free.1) ∙ one-add (length text)

position_free : (byte : ℕ) (text : List ℕ) → IsFree byte text → position (λ b. b == byte) text ≡ None
position_free byte text free =
    ap (λ t. if t then Some (position_or_len (λ (b : ℕ). b == byte) text) else None) (le-ltb (position_or_len (λ b. b == byte) text) (length text) (omega (arith, place_free byte text free)))

position_there : (byte : ℕ) (text rest : List ℕ) → IsFree byte text → position (λ b. b == byte) (text ++ byte ∷ rest) ≡ Some (length text)
position_there byte text rest free =
    ap (λ t. if t then Some (position_or_len (λ (b : ℕ). b == byte) (text ++ byte ∷ rest)) else None)
    (lt-ltb (position_or_len (λ b. b == byte) (text ++ byte ∷ rest)) (length (text ++ byte ∷ rest)) (omega (arith, place_there byte text rest free, length-append text (byte ∷ rest))))
    ∙ ap (λ n. let found : Option ℕ = Some n in found) (place_there byte text rest free)

-- of a text without the byte all stands before it
pub before_free : (byte : ℕ) (text : List ℕ) → IsFree byte text → part_before byte text ≡ text
unfolding part_before
before_free byte text free = ap (λ found. take (unwrap_or found (length text)) text) (position_free byte text free) ∙ take_all (length text) text (omega arith)

-- of a text without the byte nothing stands behind it
pub behind_free : (byte : ℕ) (text : List ℕ) → IsFree byte text → part_behind byte text ≡ None
unfolding part_behind
behind_free byte text free = ap (λ found. option_map (λ (k : ℕ). drop (k + 1) text) found) (position_free byte text free)

-- what stands before the first byte of a value is found again
pub before_there : (byte : ℕ) (text rest : List ℕ) → IsFree byte text → part_before byte (text ++ byte ∷ rest) ≡ text
unfolding part_before
before_there byte text rest free =
    ap (λ found. take (unwrap_or found (length (text ++ byte ∷ rest))) (text ++ byte ∷ rest)) (position_there byte text rest free) ∙ take_at text (byte ∷ rest) (length text) refl

-- what stands behind the first byte of a value is found again
pub behind_there : (byte : ℕ) (text rest : List ℕ) → IsFree byte text → part_behind byte (text ++ byte ∷ rest) ≡ Some rest
unfolding part_behind
behind_there byte text rest free =
    ap (λ found. option_map (λ (k : ℕ). drop (k + 1) (text ++ byte ∷ rest)) found) (position_there byte text rest free)
    ∙ ap (λ left. let found : Option (List ℕ) = Some left in found)
    (ap (λ all. drop (length text + 1) all) (sym (append_assoc text (byte ∷ []) rest)) ∙ drop_at (text ++ byte ∷ []) rest (length text + 1) (length-append text (byte ∷ [])))

split_free : (byte : ℕ) (text : List ℕ) → IsFree byte text → slice_split (λ b. b == byte) text ≡ text ∷ []
split_free byte [] free = refl
split_free byte (b ∷ text) free =
    ap (λ t. if t then [] ∷ slice_split (λ x. x == byte) text else onto_first b (slice_split (λ x. x == byte) text)) free.0 ∙ ap (onto_first b) (split_free byte text free.1)

split_there : (byte : ℕ) (text rest : List ℕ) → IsFree byte text → slice_split (λ b. b == byte) (text ++ byte ∷ rest) ≡ text ∷ slice_split (λ b. b == byte) rest
split_there byte [] rest free = ap (λ t. if t then [] ∷ slice_split (λ x. x == byte) rest else onto_first byte (slice_split (λ x. x == byte) rest)) (eq-eqb byte byte refl)
split_there byte (b ∷ text) rest free =
    ap (λ t. if t then [] ∷ slice_split (λ x. x == byte) (text ++ byte ∷ rest) else onto_first b (slice_split (λ x. x == byte) (text ++ byte ∷ rest))) free.0 ∙ ap (onto_first b) (split_there byte text rest free.1)

-- texts with a byte between them that none of them has are found again
pub parts_again : (byte : ℕ) (text : List ℕ) (texts : List (List ℕ)) → AllByRecursion (IsFree byte) (text ∷ texts) → slice_split (λ b. b == byte) (join_with_byte byte (text ∷ texts)) ≡ text ∷ texts
parts_again byte text [] free = split_free byte text free.0
parts_again byte text (next ∷ texts) free = split_there byte text (join_with_byte byte (next ∷ texts)) free.0 ∙ ap (λ more. text ∷ more) (parts_again byte next texts free.1)

-- elements with commas between them are found again
pub elements_again : (text : List ℕ) (texts : List (List ℕ)) → AllByRecursion (IsFree 44) (text ∷ texts) → elements (join_with_byte 44 (text ∷ texts)) ≡ text ∷ texts
unfolding elements
elements_again text texts free = parts_again 44 text texts free

-- a text of digits alone, one at least, begins with a digit
pub starts_digits : (text : List ℕ) → 0 < length text → list_all is_ascii_digit text ≡ true → starts_with_digit text ≡ true
unfolding starts_with_digit
starts_digits [] some digits = absurd (omega (arith, some))
starts_digits (digit ∷ text) some digits = digit_first digit text digits

-- a text that begins with a digit does so with another behind it
pub starts_append : (text rest : List ℕ) → starts_with_digit text ≡ true → starts_with_digit (text ++ rest) ≡ true
unfolding starts_with_digit
starts_append [] rest digit = clash false digit refl
starts_append (d ∷ text) rest digit = digit

-- a name that begins with no digit
abbrev pub starts_plain : List ℕ → Bool
starts_plain [] = false
starts_plain (byte ∷ bytes) = not (is_ascii_digit byte)

not_digit : (byte : ℕ) → not (is_ascii_digit byte) ≡ true → is_ascii_digit byte ≡ false
not_digit byte told = elim (is_ascii_digit byte) as (λ b. not b ≡ true → b ≡ false) [ true ↦ λ e. sym e | false ↦ λ _. refl ] told

-- a text that begins with a digit isn't a name that begins with none
pub not_same : (text name : List ℕ) → starts_with_digit text ≡ true → starts_plain name ≡ true → same text name ≡ false
unfolding same starts_with_digit
not_same [] name digit plain = clash false digit refl
not_same (d ∷ text) [] digit plain = refl
not_same (d ∷ text) (b ∷ name) digit plain = ap (λ t. t && pointwise nat_eq text name) (apart is_ascii_digit d b digit (not_digit b plain))
