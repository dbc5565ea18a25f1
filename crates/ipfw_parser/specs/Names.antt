-- Names of tables, flows and interfaces, and words that stand for numbers (services: RFC 6335).
use Rattle.std.specs.Prelude.{ℕ, ◌-◌, Bool, false, ◌&&◌, ◌==◌, nat_le, if◌then◌else◌, Option, Some, None, Result, Ok, List, [], ◌∷◌, length, position, slice_get, slice_index, take, drop, codes, option_and_then}
use Rattle.std.specs.List.{list_all}
use Rattle.fw_base.specs.Name.{is_name_byte}
use Rattle.fw_rule.specs.Names.{unreach_names}
use Rattle.fw_rule.specs.declared.iface.Iface.{Iface}
use Rattle.fw_rule.specs.declared.iface.Iface.TheVariants.{AnyIface, Exact, Begins}
use Rattle.ipfw_parser.specs.declared.kind.Kind.TheVariants.{BadName, UnknownWord}
use Rattle.ipfw_parser.specs.Reading.{Word, Fault, fault_at, same}
use Rattle.ipfw_parser.specs.Numbers.{number, starts_with_digit}

-- a name of one to so many bytes: letters, digits, `_`, `.` and `-`
unfoldable pub is_name : ℕ → List ℕ → Bool
is_name most text = list_all is_name_byte text && (nat_le 1 (length text) && nat_le (length text) most)

-- a table's name, of one to 63 bytes
unfoldable pub table_name : Word → Result (List ℕ) Fault
table_name word = if is_name 63 word.text then Ok word.text else fault_at word.column BadName

-- what stands for the name of a flow begins with a colon
unfoldable pub starts_with_colon : List ℕ → Bool
starts_with_colon [] = false
starts_with_colon (byte ∷ bytes) = byte == 58

-- the word stands for every flow
unfoldable pub is_any_flow : List ℕ → Bool
is_any_flow text = same (drop 1 text) (codes "any")

-- the name behind the colon, by the rules of table names
unfoldable pub named_flow : Word → Result (List ℕ) Fault
named_flow word = if is_name 63 (drop 1 word.text) then Ok (drop 1 word.text) else fault_at word.column BadName

-- an interface's name stands for all that begin so
unfoldable pub ends_with_star : List ℕ → Bool
ends_with_star text = nat_le 1 (length text) && slice_index text (length text - 1) == 42

-- every interface, one by its name, or those whose names begin so
unfoldable pub iface : Word → Result Iface Fault
iface word =
    if same word.text (codes "any") then Ok AnyIface
    else if ends_with_star word.text then
    (if is_name 15 (take (length word.text - 1) word.text) then Ok (Begins (take (length word.text - 1) word.text)) else fault_at word.column BadName)
    else if is_name 15 word.text then Ok (Exact word.text)
    else fault_at word.column BadName

-- where the text stands in a table of words
unfoldable pub place : List (List ℕ) → List ℕ → Option ℕ
place table text = position (λ name. same text name) table

-- the services that have a name
unfoldable pub service_names : List (List ℕ)
service_names =
    codes "ftp" ∷ codes "ssh" ∷ codes "telnet" ∷ codes "smtp" ∷ codes "domain" ∷ codes "bootps" ∷ codes "bootpc" ∷ codes "tftp" ∷ codes "http" ∷ codes "pop3" ∷ codes "ntp" ∷ codes "imap" ∷ codes "snmp"
    ∷ codes "https" ∷ codes "imaps" ∷ codes "pop3s" ∷ []

-- their ports, in the same order
unfoldable pub service_ports : List ℕ
service_ports = 21 ∷ 22 ∷ 23 ∷ 25 ∷ 53 ∷ 67 ∷ 68 ∷ 69 ∷ 80 ∷ 110 ∷ 123 ∷ 143 ∷ 161 ∷ 443 ∷ 993 ∷ 995 ∷ []

-- a service's port
unfoldable pub service : List ℕ → Option ℕ
service text = option_and_then (λ k. slice_get service_ports k) (place service_names text)

-- the number that the word stands for, or its fault
abbrev pub found_word : Word → Option ℕ → Result ℕ Fault
found_word word (Some k) = Ok k
found_word word None = fault_at word.column UnknownWord

-- a word of a table, as its place there
unfoldable pub word_in : List (List ℕ) → Word → Result ℕ Fault
word_in table word = found_word word (place table word.text)

-- a code of `unreach`, by number or by name
unfoldable pub code : Word → Result ℕ Fault
code word = if starts_with_digit word.text then number 0 255 word else word_in unreach_names word
