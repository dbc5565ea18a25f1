-- What lookup tables answer for a rule (ipfw(8), "LOOKUP TABLES").
use Rattle.std.specs.Prelude.{ℕ, Option, Some, None, List}
use Rattle.fw_rule.specs.declared.test.Field.{Field}
use Rattle.fw_rule.specs.declared.test.Field.TheVariants.{SrcIp, DstIp, SrcPort, DstPort}
use Rattle.lookup_tables.specs.AddrTable.{address_answer}
use Rattle.lookup_tables.specs.NumberTable.{number_answer}
use Rattle.lookup_tables.specs.Tables.{NamedTables, table_named}
use Rattle.lookup_tables.specs.declared.table.Table.{Table}
use Rattle.lookup_tables.specs.declared.table.Table.TheVariants.{Addresses, Numbers}
use Rattle.ip6_headers.specs.declared.any_ip.AnyIp.{AnyIp}
use Rattle.rule_match.specs.Packet.{Address, V4, V6, source_address_of, destination_address_of}
use Rattle.rule_match.specs.Ports.{source_port, destination_port}

-- a table of addresses answers for an address; a table that isn't there, or has numbers, doesn't
abbrev pub address_value : Option Table → ℕ → Option ℕ
address_value (Some (Addresses entries)) address = address_answer entries address
address_value (Some (Numbers entries)) address = None
address_value None address = None

-- a table of numbers answers for a number
abbrev pub number_value : Option Table → ℕ → Option ℕ
number_value (Some (Numbers entries)) number = number_answer entries number
number_value (Some (Addresses entries)) number = None
number_value None number = None

-- tables know addresses of IPv4 alone
abbrev pub answer_for : Option Table → Address → Option ℕ
answer_for table (V4 address) = address_value table address
answer_for table (V6 address) = None

-- a packet without ports has no answer
abbrev pub port_value : Option Table → Option ℕ → Option ℕ
port_value table None = None
port_value table (Some port) = number_value table port

-- what the table of that name answers for the field of the packet
abbrev pub field_value : NamedTables → AnyIp → Field → List ℕ → Option ℕ
field_value tables packet SrcIp name = answer_for (table_named tables name) (source_address_of packet)
field_value tables packet DstIp name = answer_for (table_named tables name) (destination_address_of packet)
field_value tables packet SrcPort name = port_value (table_named tables name) (source_port packet)
field_value tables packet DstPort name = port_value (table_named tables name) (destination_port packet)
