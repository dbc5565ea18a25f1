-- Lists of types and of signed names, element by element.
use Rattle.std.proofs.Common.{◌≡◌, ℕ, ◌+◌, ◌^◌, ◌*◌, ◌%◌, ◌≤◌, suc, Bool, not, cond, nat_lt, List, ◌∷◌, Option, Some, None, Result, Ok, Err, length, map, position, refl, sym, ap, ◌∙◌, eq-eqb, arith, inl, inr, ◌≢◌, []}
use Rattle.std.specs.Prelude.{bit_or, bit_and, ◌==◌, if◌then◌else◌}
use Rattle.std.proofs.lemmas.Bool.Decides.{eqb_tells}
use Rattle.std.proofs.Math.Nat.{mod-eq_of_lt}
use Rattle.std.proofs.Math.Pow.{pow_mono}
use Rattle.fw_rule.specs.TypeSet.{with_type}
use Rattle.fw_rule.specs.declared.type_set.TypeSet.{TypeSet}
use Rattle.ipfw_parser.specs.declared.kind.Kind.TheVariants.{BadFlag}
use Rattle.std.specs.List.{position_or_len}
use Rattle.std.specs.Borrow.{Bor}
use Rattle.std.specs.Option.{option_copied}
use Rattle.ipfw_parser.specs.Reading.{Fault, fault_at, ◌>>=◌, same}
use Rattle.ipfw_parser.specs.Numbers.{number}
use Rattle.ipfw_parser.specs.Names.{place}
use Rattle.ipfw_parser.specs.Lists.{type_mask, type_set, sign_masks, found_flag, with_sign, bare_name, is_negated, Masks, elements, elements_left}

-- what is left of a list of ICMP types begins with its next element
pub left_types : (mask column : ℕ) (whole : Result ℕ Fault) (rest : Option (Bor (List ℕ))) (text : Bor (List ℕ)) (element : List ℕ) (left : List (List ℕ))
    → rest ≡ Some text → elements text.now ≡ element ∷ left → type_mask mask column (elements_left (option_copied rest)) ≡ whole → type_mask mask column (element ∷ left) ≡ whole
left_types mask column whole rest text element left here split so_far = rw (here, split) at so_far

-- an ICMP type that is read sets its bit in the mask
pub types_go : (mask next n column : ℕ) (whole : Result ℕ Fault) (text : List ℕ) (left : List (List ℕ)) → type_mask mask column (text ∷ left) ≡ whole → number 0 31 (record { column = column; text = text }) ≡ Ok n
    → next ≡ bit_or mask (2 ^ n) → type_mask next column left ≡ whole
unfolding type_mask
types_go mask next n column whole text left so_far ok same_mask =
    ap (λ m. type_mask m column left) same_mask ∙ sym (ap (λ r. r >>= λ k. type_mask (bit_or mask (2 ^ k)) column left) ok) ∙ so_far

-- an ICMP type that can't be read is the fault of the whole list
pub types_break : (mask column : ℕ) (whole : Result ℕ Fault) (text : List ℕ) (left : List (List ℕ)) (e : Fault) → type_mask mask column (text ∷ left) ≡ whole → number 0 31 (record { column = column; text = text }) ≡ Err e → whole ≡ Err e
unfolding type_mask
types_break mask column whole text left e so_far failed = sym so_far ∙ ap (λ r. r >>= λ k. type_mask (bit_or mask (2 ^ k)) column left) failed

-- once no ICMP type is left the list's mask is what was read
pub types_end : (mask column : ℕ) (whole : Result ℕ Fault) (rest : Option (Bor (List ℕ))) → rest ≡ None → type_mask mask column (elements_left (option_copied rest)) ≡ whole → whole ≡ Ok mask
unfolding type_mask
types_end mask column whole rest none so_far = sym (rw none at so_far)

-- what is left of a list of ICMPv6 types begins with its next element
pub left_set : (set : TypeSet) (column : ℕ) (whole : Result TypeSet Fault) (rest : Option (Bor (List ℕ))) (text : Bor (List ℕ)) (element : List ℕ) (left : List (List ℕ))
    → rest ≡ Some text → elements text.now ≡ element ∷ left → type_set set column (elements_left (option_copied rest)) ≡ whole → type_set set column (element ∷ left) ≡ whole
left_set set column whole rest text element left here split so_far = rw (here, split) at so_far

-- an ICMPv6 type that is read is one more in the set
pub set_go : (set next : TypeSet) (n column : ℕ) (whole : Result TypeSet Fault) (text : List ℕ) (left : List (List ℕ)) → type_set set column (text ∷ left) ≡ whole → number 0 255 (record { column = column; text = text }) ≡ Ok n
    → next ≡ with_type set n → type_set next column left ≡ whole
unfolding type_set
set_go set next n column whole text left so_far ok same_set =
    ap (λ s. type_set s column left) same_set ∙ sym (ap (λ r. r >>= λ k. type_set (with_type set k) column left) ok) ∙ so_far

-- an ICMPv6 type that can't be read is the fault of the whole list
pub set_break : (set : TypeSet) (column : ℕ) (whole : Result TypeSet Fault) (text : List ℕ) (left : List (List ℕ)) (e : Fault) → type_set set column (text ∷ left) ≡ whole → number 0 255 (record { column = column; text = text }) ≡ Err e → whole ≡ Err e
unfolding type_set
set_break set column whole text left e so_far failed = sym so_far ∙ ap (λ r. r >>= λ k. type_set (with_type set k) column left) failed

-- once no ICMPv6 type is left the list's set is what was read
pub set_end : (set : TypeSet) (column : ℕ) (whole : Result TypeSet Fault) (rest : Option (Bor (List ℕ))) → rest ≡ None → type_set set column (elements_left (option_copied rest)) ≡ whole → whole ≡ Ok set
unfolding type_set
set_end set column whole rest none so_far = sym (rw none at so_far)

position_or_len-map : (q : List ℕ → Bool) (names : List (Bor (List ℕ))) → position_or_len q (map (λ name. name.now) names) ≡ position_or_len (λ name. q name.now) names
position_or_len-map q [] = refl
position_or_len-map q (name ∷ names) = ap (λ n. cond (not (q name.now)) (1 + n) 0) (position_or_len-map q names)

same_length : (names : List (Bor (List ℕ))) → length (map (λ name. name.now) names) ≡ length names
same_length [] = refl
same_length (name ∷ names) = ap suc (same_length names)

-- a text stands in a table of borrowed names where it stands among the names themselves
pub place-map : (names : List (Bor (List ℕ))) (text : List ℕ) → place (map (λ name. name.now) names) text ≡ position (λ name. same text name.now) names
unfolding place
place-map names text =
    ap (λ n. cond (nat_lt n (length (map (λ (name : Bor (List ℕ)). name.now) names))) (Some n) None) (position_or_len-map (λ name. same text name) names)
    ∙ ap (λ l. cond (nat_lt (position_or_len (λ (name : Bor (List ℕ)). same text name.now) names) l) (Some (position_or_len (λ (name : Bor (List ℕ)). same text name.now) names)) None) (same_length names)

-- what is left of a list of signed names begins with its next element
pub left_signs : (names : List (List ℕ)) (masks : Masks) (column : ℕ) (whole : Result Masks Fault) (rest : Option (Bor (List ℕ))) (text : Bor (List ℕ)) (element : List ℕ) (left : List (List ℕ))
    → rest ≡ Some text → elements text.now ≡ element ∷ left → sign_masks names masks column (elements_left (option_copied rest)) ≡ whole → sign_masks names masks column (element ∷ left) ≡ whole
left_signs names masks column whole rest text element left here split so_far = rw (here, split) at so_far

-- a name that is found sets its bit in the mask of its sign
pub signs_go : (names : List (List ℕ)) (masks next : Masks) (k column : ℕ) (whole : Result Masks Fault) (text : List ℕ) (left : List (List ℕ)) → sign_masks names masks column (text ∷ left) ≡ whole
    → (name : List ℕ) (negated : Bool) → name ≡ bare_name text → negated ≡ is_negated text → found_flag column (place names name) ≡ Ok k → next ≡ with_sign masks negated k → sign_masks names next column left ≡ whole
unfolding sign_masks
signs_go names masks next k column whole text left so_far name negated named signed_so ok same_masks =
    ap (λ m. sign_masks names m column left) (same_masks ∙ ap (λ b. with_sign masks b k) signed_so)
    ∙ sym (ap (λ r. r >>= λ n. sign_masks names (with_sign masks (is_negated text) n) column left) (ap (λ t. found_flag column (place names t)) (sym named) ∙ ok)) ∙ so_far

-- a name that isn't found is the fault of the whole list
pub signs_break : (names : List (List ℕ)) (masks : Masks) (column : ℕ) (whole : Result Masks Fault) (text : List ℕ) (left : List (List ℕ)) (e : Fault) → sign_masks names masks column (text ∷ left) ≡ whole
    → (name : List ℕ) → name ≡ bare_name text → found_flag column (place names name) ≡ Err e → whole ≡ Err e
unfolding sign_masks
signs_break names masks column whole text left e so_far name named failed =
    sym so_far ∙ ap (λ r. r >>= λ n. sign_masks names (with_sign masks (is_negated text) n) column left) (ap (λ t. found_flag column (place names t)) (sym named) ∙ failed)

-- once no name is left the list's masks are what was read
pub signs_end : (names : List (List ℕ)) (masks : Masks) (column : ℕ) (whole : Result Masks Fault) (rest : Option (Bor (List ℕ))) → rest ≡ None → sign_masks names masks column (elements_left (option_copied rest)) ≡ whole → whole ≡ Ok masks
unfolding sign_masks
signs_end names masks column whole rest none so_far = sym (rw none at so_far)

-- the test that ends a list of names
abbrev pub tested : ℕ → Masks → Result Masks Fault
tested column masks = if bit_and masks.set masks.clear == 0 then Ok masks else fault_at column BadFlag

-- masks with no bit in common pass the test that ends a list of names
pub tested_ok : (column : ℕ) (masks : Masks) → bit_and masks.set masks.clear ≡ 0 → tested column masks ≡ Ok masks
tested_ok column masks none = rw (eq-eqb (bit_and masks.set masks.clear) 0 none) refl

-- masks with a bit in common are a fault of the word's column
pub tested_fault : (column : ℕ) (masks : Masks) → bit_and masks.set masks.clear ≢ 0 → tested column masks ≡ fault_at column BadFlag
tested_fault column masks some = elim (eqb_tells (bit_and masks.set masks.clear) 0) [ inl h ↦ absurd (some h.1) | inr h ↦ rw h.0 refl ]

one_mul : (n : ℕ) → 1 * n ≡ n
one_mul n = omega arith

-- the bit of a number up to 31 fits in 32 bits
pub bit_fits : (n : ℕ) → n ≤ 31 → 1 * 2 ^ n % 4294967296 ≡ 2 ^ n
bit_fits n small = ap (λ k. k % 4294967296) (one_mul (2 ^ n)) ∙ mod-eq_of_lt (omega (arith, pow_mono {i = n} {j = 31} small))
