-- Flags and IP options: the masks that are read.
use Rattle.std.proofs.Common.{◌≡◌, ℕ, ◌+◌, ◌^◌, ◌<◌, ◌≤◌, Bool, true, false, ◌==◌, if◌then◌else◌, Some, None, Option, Ok, List, ◌∷◌, length, take, refl, sym, ap, ◌∙◌, arith, inl, inr, subst, []}
use Rattle.std.specs.Prelude.{bit_and, IfOk}
use Rattle.std.specs.List.{position_or_len}
use Rattle.std.proofs.lemmas.Nat.{pow_pos, or_lt, le_or_l, le_or_r, pow_below}
use Rattle.std.proofs.lemmas.Bool.{cases_lt, lt-ltb, le-ltb, eqb-true}
use Rattle.fw_rule.specs.Names.{flag_names, option_names}
use Rattle.ipfw_parser.specs.declared.kind.Kind.TheVariants.{BadFlag}
use Rattle.ipfw_parser.specs.Reading.{Word, fault_at, same}
use Rattle.ipfw_parser.specs.Names.{place}
use Rattle.ipfw_parser.specs.Lists.{Masks, elements, elements_left, sign_masks, signs, bare_name, is_negated, with_sign, found_flag}
use Rattle.ipfw_parser.proofs.Steps.Cuts.{elements_first, left_at}
use Rattle.ipfw_parser.specs.Forms.{AreSigns}
use Rattle.ipfw_parser.proofs.Forms.Following.{on_bind, on_if, weaker}

-- two masks, of what is named as it is and behind a !
abbrev pub masks_of : ℕ → ℕ → Masks
masks_of set clear = record { set = set; clear = clear }

-- there are six names of TCP flags
pub six : length flag_names ≡ 6
unfolding flag_names
six = refl

-- there are four names of IP options
pub four : length option_names ≡ 4
unfolding option_names
four = refl

-- the masks that were read have no other bits than the names have, and those that were there
record IsGrown (n : ℕ) (masks out : Masks) : Type 0 where
  set_below : out.set < 2 ^ n
  clear_below : out.clear < 2 ^ n
  set_more : masks.set ≤ out.set
  clear_more : masks.clear ≤ out.clear

none_some : {A : Type 0} {P : Type 0} (x : A) → None ≡ Some x → P
none_some x e = cc

-- a name that is found stands within its table
pub place_below : (names : List (List ℕ)) (text : List ℕ) (k : ℕ) → place names text ≡ Some k → k < length names
unfolding place
place_below names text k e = elim (cases_lt (position_or_len (λ name. same text name) names) (length names)) [
  | inl h ↦
      let found = ap (λ b. if b then Some (position_or_len (λ (name : List ℕ). same text name) names) else None) (lt-ltb (position_or_len (λ name. same text name) names) (length names) h) in
      let k_is : position_or_len (λ name. same text name) names ≡ k = cc in omega (arith, h, k_is)
  | inr h ↦
      none_some k (sym (ap (λ b. if b then Some (position_or_len (λ (name : List ℕ). same text name) names) else None) (le-ltb (position_or_len (λ name. same text name) names) (length names) h)) ∙ e)
]

flag_on : (names : List (List ℕ)) (text : List ℕ) (column : ℕ) (found : Option ℕ) → place names text ≡ found → IfOk (found_flag column found) (λ k. k < length names)
flag_on names text column None e = tt
flag_on names text column (Some k) e = place_below names text k e

with_set : (names : List (List ℕ)) (masks out : Masks) (k : ℕ) → IsGrown (length names) (with_sign masks false k) out → IsGrown (length names) masks out
with_set names masks out k g = record { set_below = g.set_below; clear_below = g.clear_below; set_more = omega (arith, g.set_more, le_or_l masks.set (2 ^ k)); clear_more = g.clear_more }

with_clear : (names : List (List ℕ)) (masks out : Masks) (k : ℕ) → IsGrown (length names) (with_sign masks true k) out → IsGrown (length names) masks out
with_clear names masks out k g = record { set_below = g.set_below; clear_below = g.clear_below; set_more = g.set_more; clear_more = omega (arith, g.clear_more, le_or_l masks.clear (2 ^ k)) }

some_set : (n : ℕ) (masks out : Masks) (k : ℕ) → IsGrown n (with_sign masks false k) out → 0 < out.set + out.clear
some_set n masks out k g = omega (arith, g.set_more, le_or_r masks.set (2 ^ k), pow_pos k)

some_clear : (n : ℕ) (masks out : Masks) (k : ℕ) → IsGrown n (with_sign masks true k) out → 0 < out.set + out.clear
some_clear n masks out k g = omega (arith, g.clear_more, le_or_r masks.clear (2 ^ k), pow_pos k)

grown_back : (names : List (List ℕ)) (masks out : Masks) (negated : Bool) (k : ℕ) → IsGrown (length names) (with_sign masks negated k) out → IsGrown (length names) masks out
grown_back names masks out false k g = with_set names masks out k g
grown_back names masks out true k g = with_clear names masks out k g

grown_some : (n : ℕ) (masks out : Masks) (negated : Bool) (k : ℕ) → IsGrown n (with_sign masks negated k) out → 0 < out.set + out.clear
grown_some n masks out false k g = some_set n masks out k g
grown_some n masks out true k g = some_clear n masks out k g

record AreBelow (n : ℕ) (masks : Masks) : Type 0 where
  set_below : masks.set < 2 ^ n
  clear_below : masks.clear < 2 ^ n

below_with : (n : ℕ) (masks : Masks) (negated : Bool) (k : ℕ) → k < n → AreBelow n masks → AreBelow n (with_sign masks negated k)
below_with n masks false k small below = record { set_below = or_lt n masks.set (2 ^ k) below.set_below (pow_below k n small); clear_below = below.clear_below }
below_with n masks true k small below = record { set_below = below.set_below; clear_below = or_lt n masks.clear (2 ^ k) below.clear_below (pow_below k n small) }

grows : (names : List (List ℕ)) (masks : Masks) (column : ℕ) (texts : List (List ℕ)) → AreBelow (length names) masks → IfOk (sign_masks names masks column texts) (λ out. IsGrown (length names) masks out)
unfolding sign_masks
grows names masks column [] below = record { set_below = below.set_below; clear_below = below.clear_below; set_more = omega arith; clear_more = omega arith }
grows names masks column (text ∷ texts) below =
    on_bind (found_flag column (place names (bare_name text))) (λ k. sign_masks names (with_sign masks (is_negated text) k) column texts) (λ k. k < length names) (λ out. IsGrown (length names) masks out)
    (flag_on names (bare_name text) column (place names (bare_name text)) refl)
    (λ k small. weaker (sign_masks names (with_sign masks (is_negated text) k) column texts) (λ out. IsGrown (length names) (with_sign masks (is_negated text) k) out) (λ out. IsGrown (length names) masks out)
    (grows names (with_sign masks (is_negated text) k) column texts (below_with (length names) masks (is_negated text) k small below)) (λ out g. grown_back names masks out (is_negated text) k g))

record AreRead (n : ℕ) (out : Masks) : Type 0 where
  set_below : out.set < 2 ^ n
  clear_below : out.clear < 2 ^ n
  some : 0 < out.set + out.clear

read_some : (names : List (List ℕ)) (column : ℕ) (text : List ℕ) (texts : List (List ℕ)) → IfOk (sign_masks names (masks_of 0 0) column (text ∷ texts)) (λ out. AreRead (length names) out)
unfolding sign_masks
read_some names column text texts =
    on_bind (found_flag column (place names (bare_name text))) (λ k. sign_masks names (with_sign (masks_of 0 0) (is_negated text) k) column texts) (λ k. k < length names) (λ out. AreRead (length names) out)
    (flag_on names (bare_name text) column (place names (bare_name text)) refl)
    (λ k small. weaker (sign_masks names (with_sign (masks_of 0 0) (is_negated text) k) column texts) (λ out. IsGrown (length names) (with_sign (masks_of 0 0) (is_negated text) k) out) (λ out. AreRead (length names) out)
    (grows names (with_sign (masks_of 0 0) (is_negated text) k) column texts (below_with (length names) (masks_of 0 0) (is_negated text) k small (record { set_below = pow_pos (length names); clear_below = pow_pos (length names) })))
    (λ out g. record { set_below = g.set_below; clear_below = g.clear_below; some = grown_some (length names) (masks_of 0 0) out (is_negated text) k g }))

signs_on : (names : List (List ℕ)) (n : ℕ) (word : Word) → length names ≡ n → IfOk (signs names word) (λ masks. AreSigns n masks.set masks.clear)
unfolding signs
signs_on names n word count =
    on_bind (sign_masks names (masks_of 0 0) word.column (elements word.text)) (λ masks. if bit_and masks.set masks.clear == 0 then Ok masks else fault_at word.column BadFlag) (λ out. AreRead (length names) out) (λ masks. AreSigns n masks.set masks.clear)
    (subst (λ texts. IfOk (sign_masks names (masks_of 0 0) word.column texts) (λ out. AreRead (length names) out)) (sym (elements_first word.text))
    (read_some names word.column (take (position_or_len (λ b. b == 44) word.text) word.text) (elements_left (left_at (position_or_len (λ b. b == 44) word.text) word.text))))
    (λ out read. on_if (bit_and out.set out.clear == 0) (Ok out) (fault_at word.column BadFlag) (λ masks. AreSigns n masks.set masks.clear)
    (λ none. record { set_below = subst (λ m. out.set < 2 ^ m) count read.set_below; clear_below = subst (λ m. out.clear < 2 ^ m) count read.clear_below; some = read.some; apart = eqb-true (bit_and out.set out.clear) 0 none })
    (λ _. tt))

-- TCP flags that are read are two masks of six bits, some bit in one and none in both
pub flags_on : (word : Word) → IfOk (signs flag_names word) (λ masks. AreSigns 6 masks.set masks.clear)
flags_on word = signs_on flag_names 6 word six

-- IP options that are read are two masks of four bits, some bit in one and none in both
pub ip_options_on : (word : Word) → IfOk (signs option_names word) (λ masks. AreSigns 4 masks.set masks.clear)
ip_options_on word = signs_on option_names 4 word four
