-- IPv4 addresses and prefixes, and the elements of a list of addresses (RFC 791 section 3.1, RFC 4632 section 3.1).
use Rattle.std.specs.Prelude.{ℕ, Bool, false, ◌||◌, ◌==◌, nat_eq, if◌then◌else◌, Option, Some, None, Result, Ok, List, [], ◌∷◌, length, take, drop, position, unwrap_or, codes}
use Rattle.std.specs.List.{starts_with}
use Rattle.std.specs.Int.{w32, from_be_bytes}
use Rattle.fw_base.specs.Prefix.{Network, network}
use Rattle.fw_base.specs.Prefix6.{Network6}
use Rattle.fw_rule.specs.declared.addr_item.AddrItem.{AddrItem}
use Rattle.fw_rule.specs.declared.addr_item.AddrItem.TheVariants.{Any, Me, Net, Net6, InTable, TableValue}
use Rattle.fw_rule.specs.declared.addr_spec.AddrSpec.{AddrSpec}
use Rattle.ipfw_parser.specs.declared.kind.Kind.TheVariants.{BadAddress, BadPrefix}
use Rattle.ipfw_parser.specs.Reading.{Word, Fault, WordReading, fault_at, ◌>>=◌, same, first, negation}
use Rattle.ipfw_parser.specs.Numbers.{decimal, up_to, number}
use Rattle.ipfw_parser.specs.Names.{table_name}
pub use Rattle.ipfw_parser.specs.Parts.{part_before, part_behind, then_some}
use Rattle.ipfw_parser.specs.Addresses6.{prefix6, has_colon}
use Rattle.ipfw_parser.specs.Lists.{elements_outside, each_element}

-- an octet, 0 to 255 of one to three digits
unfoldable pub octet_in : List ℕ → Option ℕ
octet_in text = up_to 255 (decimal 3 text)

-- an octet and the text behind the dot after it
abbrev pub with_rest : Option ℕ → Option (List ℕ) → Option (ℕ × List ℕ)
with_rest (Some n) (Some rest) = Some (n, rest)
with_rest other more = None

-- an octet before a dot, and the text behind the dot
unfoldable pub octet_and_dot : List ℕ → Option (ℕ × List ℕ)
octet_and_dot text = with_rest (octet_in (part_before 46 text)) (part_behind 46 text)

-- four octets with dots between them
unfoldable pub address_in : List ℕ → Option ℕ
address_in text =
    then_some (octet_and_dot text) (λ a.
    then_some (octet_and_dot a.1) (λ b.
    then_some (octet_and_dot b.1) (λ c.
    then_some (octet_in c.1) (λ d.
    Some (from_be_bytes w32 (a.0 ∷ b.0 ∷ c.0 ∷ d ∷ []))))))

-- the address, or the fault of its column
abbrev pub found_address : ℕ → Option ℕ → Result ℕ Fault
found_address column (Some a) = Ok a
found_address column None = fault_at column BadAddress

-- an address without a prefix's length
unfoldable pub address : Word → Result ℕ Fault
address word = found_address word.column (address_in word.text)

-- the prefix's length, or the fault of its column
abbrev pub found_length : ℕ → Option ℕ → Result ℕ Fault
found_length column (Some bits) = Ok bits
found_length column None = fault_at column BadPrefix

-- a prefix's length, 0 to 32; an address without one is a prefix of 32
abbrev pub prefix_length : ℕ → Option (List ℕ) → Result ℕ Fault
prefix_length column None = Ok 32
prefix_length column (Some text) = found_length column (up_to 32 (decimal 10 text))

-- an address, with a length or without
unfoldable pub prefix : Word → Result Network Fault
prefix word = do
  a ← address (record { column = word.column; text = part_before 47 word.text })
  bits ← prefix_length word.column (part_behind 47 word.text)
  Ok (network a bits)

-- a comma or a closing parenthesis
abbrev pub ends_part : ℕ → Bool
ends_part byte = byte == 44 || byte == 41

-- how long the part before the first comma or closing parenthesis is
unfoldable pub part_len : List ℕ → ℕ
part_len text = unwrap_or (position ends_part text) (length text)

-- the parenthesis closes, and nothing follows
unfoldable pub closes : List ℕ → Bool
closes text = same text (codes ")")

-- a value follows a table's name
unfoldable pub starts_with_comma : List ℕ → Bool
starts_with_comma [] = false
starts_with_comma (byte ∷ bytes) = byte == 44

-- behind `table(NAME,`: a value and the end
unfoldable pub table_value : List ℕ → Word → Result AddrItem Fault
table_value name word = do
  v ← number 0 4294967295 (record { column = word.column; text = take (part_len word.text) word.text })
  if closes (drop (part_len word.text) word.text) then Ok (TableValue name v) else fault_at word.column BadAddress

-- behind `table(NAME`: the end, or a value
unfoldable pub table_end : List ℕ → Word → Result AddrItem Fault
table_end name word =
    if closes word.text then Ok (InTable name)
    else if starts_with_comma word.text then table_value name (record { column = word.column; text = drop 1 word.text })
    else fault_at word.column BadAddress

-- behind `table(`: a name, and a value or not
unfoldable pub table_item : Word → Result AddrItem Fault
table_item word = do
  name ← table_name (record { column = word.column; text = take (part_len word.text) word.text })
  table_end name (record { column = word.column; text = drop (part_len word.text) word.text })

-- a prefix of IPv4 as an element
abbrev pub net_item : Result Network Fault → Result AddrItem Fault
net_item reading = reading >>= λ n. Ok (Net n)

-- a prefix of IPv6 as an element
abbrev pub net6_item : Result Network6 Fault → Result AddrItem Fault
net6_item reading = reading >>= λ n. Ok (Net6 n)

-- one element of a list of addresses
unfoldable pub item : Word → Result AddrItem Fault
item word =
    if same word.text (codes "any") then Ok Any
    else if same word.text (codes "me") then Ok Me
    else if starts_with nat_eq word.text (codes "table(") then table_item (record { column = word.column; text = drop 6 word.text })
    else if has_colon word.text then net6_item (prefix6 word)
    else net_item (prefix word)

-- a list of addresses, one word
unfoldable pub items : Word → Result (List AddrItem) Fault
items word = each_element item word.column (elements_outside false word.text)

-- `not` or nothing, and a list of addresses
unfoldable pub addr_spec : ℕ → List Word → WordReading AddrSpec
addr_spec end words = do
  negated ← negation end words
  list ← first end negated.1
  found ← items list.0
  Ok (record { negated = negated.0; items = found }, list.1)
