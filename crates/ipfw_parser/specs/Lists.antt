-- Lists in one word, their elements with commas between them.
use Rattle.std.specs.Prelude.{ℕ, suc, ◌^◌, Bool, true, false, not, ◌&&◌, ◌==◌, if◌then◌else◌, Result, Ok, Option, Some, None, List, [], ◌∷◌, drop, bit_or, bit_and}
use Rattle.std.specs.List.{slice_split, onto_first}
use Rattle.fw_rule.specs.TypeSet.{no_types, with_type}
use Rattle.fw_rule.specs.declared.type_set.TypeSet.{TypeSet}
use Rattle.ipfw_parser.specs.declared.kind.Kind.TheVariants.{BadFlag}
use Rattle.ipfw_parser.specs.Reading.{Word, Fault, fault_at, ◌>>=◌}
use Rattle.ipfw_parser.specs.Numbers.{number}
use Rattle.ipfw_parser.specs.Names.{place}

-- the elements
unfoldable pub elements : List ℕ → List (List ℕ)
elements text = slice_split (λ byte. byte == 44) text

-- inside parentheses behind this byte
abbrev pub inside_after : Bool → ℕ → Bool
inside_after inside byte = if byte == 40 then true else if byte == 41 then false else inside

-- a comma outside parentheses parts elements
abbrev pub parts_elements : ℕ → Bool → Bool
parts_elements byte inside = byte == 44 && not inside

-- a comma in parentheses parts no elements
unfoldable pub elements_outside : Bool → List ℕ → List (List ℕ)
elements_outside inside [] = [] ∷ []
elements_outside inside (byte ∷ bytes) =
    if parts_elements byte inside then [] ∷ elements_outside false bytes else onto_first byte (elements_outside (inside_after inside byte) bytes)

-- where the first element ends
unfoldable pub element_end : Bool → List ℕ → ℕ
element_end inside [] = 0
element_end inside (byte ∷ bytes) = if parts_elements byte inside then 0 else suc (element_end (inside_after inside byte) bytes)

-- the elements of what is left of a list
abbrev pub elements_left : Option (List ℕ) → List (List ℕ)
elements_left None = []
elements_left (Some text) = elements text

-- the elements of what is left, outside parentheses
abbrev pub elements_outside_left : Option (List ℕ) → List (List ℕ)
elements_outside_left None = []
elements_outside_left (Some text) = elements_outside false text

-- each element read, up to the first fault
unfoldable pub each_element : {X : Type 0} → (Word → Result X Fault) → ℕ → List (List ℕ) → Result (List X) Fault
each_element read column [] = Ok []
each_element read column (text ∷ texts) = do
  x ← read (record { column = column; text = text })
  xs ← each_element read column texts
  Ok (x ∷ xs)

-- ICMP types, 0 to 31, as the bits of a mask (RFC 792)
unfoldable pub type_mask : ℕ → ℕ → List (List ℕ) → Result ℕ Fault
type_mask mask column [] = Ok mask
type_mask mask column (text ∷ texts) = do
  n ← number 0 31 (record { column = column; text = text })
  type_mask (bit_or mask (2 ^ n)) column texts

-- a list of ICMP types
unfoldable pub types : Word → Result ℕ Fault
types word = type_mask 0 word.column (elements word.text)

-- ICMPv6 types, 0 to 255, beside those of a set (RFC 4443)
unfoldable pub type_set : TypeSet → ℕ → List (List ℕ) → Result TypeSet Fault
type_set set column [] = Ok set
type_set set column (text ∷ texts) = do
  n ← number 0 255 (record { column = column; text = text })
  type_set (with_type set n) column texts

-- a list of ICMPv6 types
unfoldable pub types6 : Word → Result TypeSet Fault
types6 word = type_set no_types word.column (elements word.text)

-- two masks, of what is named as it is and behind a !
pub record Masks : Type 0 where
  pub set : ℕ
  pub clear : ℕ

-- an element begins with !
unfoldable pub is_negated : List ℕ → Bool
is_negated [] = false
is_negated (byte ∷ bytes) = byte == 33

-- the name of an element without its !
unfoldable pub bare_name : List ℕ → List ℕ
bare_name text = if is_negated text then drop 1 text else text

-- the masks with the bit of one more name
abbrev pub with_sign : Masks → Bool → ℕ → Masks
with_sign masks negated k = if negated then record masks { clear = bit_or masks.clear (2 ^ k) } else record masks { set = bit_or masks.set (2 ^ k) }

-- the place of a name, or the fault of its column
abbrev pub found_flag : ℕ → Option ℕ → Result ℕ Fault
found_flag column (Some k) = Ok k
found_flag column None = fault_at column BadFlag

-- the masks of all elements, from left to right
unfoldable pub sign_masks : List (List ℕ) → Masks → ℕ → List (List ℕ) → Result Masks Fault
sign_masks names masks column [] = Ok masks
sign_masks names masks column (text ∷ texts) = do
  k ← found_flag column (place names (bare_name text))
  sign_masks names (with_sign masks (is_negated text) k) column texts

-- no name stands both with and without a !
unfoldable pub signs : List (List ℕ) → Word → Result Masks Fault
signs names word = do
  masks ← sign_masks names (record { set = 0; clear = 0 }) word.column (elements word.text)
  if bit_and masks.set masks.clear == 0 then Ok masks else fault_at word.column BadFlag
