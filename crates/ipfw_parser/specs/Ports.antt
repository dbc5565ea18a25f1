-- Ports and lists of ports.
use Rattle.std.specs.Prelude.{ℕ, Bool, false, ◌||◌, nat_le, if◌then◌else◌, Option, Some, None, Result, Ok, List, [], ◌∷◌, codes, is_some}
use Rattle.fw_base.specs.PortRange.{Ports}
use Rattle.fw_rule.specs.declared.port_list.PortList.{PortList}
use Rattle.ipfw_parser.specs.declared.kind.Kind.TheVariants.{BadPort, BadRange}
use Rattle.ipfw_parser.specs.Reading.{Word, Fault, WordReading, fault_at, ◌>>=◌, same, first, negation}
use Rattle.ipfw_parser.specs.Numbers.{decimal, up_to, starts_with_digit}
use Rattle.ipfw_parser.specs.Names.{service}
use Rattle.ipfw_parser.specs.Lists.{elements, each_element}
use Rattle.ipfw_parser.specs.Addresses.{part_before, part_behind}

-- the port, or the fault of its column
abbrev pub found_port : ℕ → Option ℕ → Result ℕ Fault
found_port column (Some p) = Ok p
found_port column None = fault_at column BadPort

-- a service's port, else a number
abbrev pub port_by : Word → Option ℕ → Result ℕ Fault
port_by word (Some p) = Ok p
port_by word None = found_port word.column (up_to 65535 (decimal 10 word.text))

-- a service or a number, 0 to 65535
unfoldable pub port : Word → Result ℕ Fault
port word = port_by word (service word.text)

-- from one port to another, or one port
abbrev pub range_to : ℕ → ℕ → Option (List ℕ) → Result Ports Fault
range_to column low None = Ok (record { low = low; high = low })
range_to column low (Some text) = do
  high ← port (record { column = column; text = text })
  if nat_le low high then Ok (record { low = low; high = high }) else fault_at column BadRange

-- a range of ports
unfoldable pub range : Word → Result Ports Fault
range word = do
  low ← port (record { column = word.column; text = part_before 45 word.text })
  range_to word.column low (part_behind 45 word.text)

-- a list of ranges, one word
unfoldable pub ranges : Word → Result (List Ports) Fault
ranges word = each_element range word.column (elements word.text)

-- `not` or nothing, and a list of ranges
unfoldable pub port_list : ℕ → List Word → WordReading PortList
port_list end words = do
  negated ← negation end words
  list ← first end negated.1
  found ← ranges list.0
  Ok (record { negated = negated.0; ranges = found }, list.1)

-- a list of ports that is there
abbrev pub some_ports : WordReading PortList → WordReading (Option PortList)
some_ports reading = reading >>= λ found. Ok (Some found.0, found.1)

-- behind source addresses each word but `to` is a list of ports
unfoldable pub source_ports : ℕ → List Word → WordReading (Option PortList)
source_ports end words = do
  next ← first end words
  if same next.0.text (codes "to") then Ok (None, words) else some_ports (port_list end words)

-- the text begins as a list of ports does
unfoldable pub looks_like_ports : List ℕ → Bool
looks_like_ports text = starts_with_digit text || is_some (service (part_before 45 (part_before 44 text)))

-- the next words are a list of ports, `not` before it or not
unfoldable pub begin_with_ports : List Word → Bool
begin_with_ports [] = false
begin_with_ports (word ∷ []) = looks_like_ports word.text
begin_with_ports (word ∷ next ∷ words) = if same word.text (codes "not") then looks_like_ports next.text else looks_like_ports word.text

-- behind destination addresses ports or options stand
unfoldable pub destination_ports : ℕ → List Word → WordReading (Option PortList)
destination_ports end words = if begin_with_ports words then some_ports (port_list end words) else Ok (None, words)
