-- The tables that a rule names, each with the type that the use asks for, in the order of the rule's text
-- (ipfw(8), "LOOKUP TABLES").
use Rattle.std.specs.Prelude.{ℕ, Bool, nat_eq, Option, Some, None, List, [], ◌++◌}
use Rattle.std.specs.List.{filter_map, list_any}
use Rattle.std.specs.Cmp.Lexicographic.{pointwise}
use Rattle.fw_rule.specs.declared.addr_item.AddrItem.{AddrItem}
use Rattle.fw_rule.specs.declared.addr_item.AddrItem.TheVariants.{Any, Me, Net, Net6, InTable, TableValue}
use Rattle.fw_rule.specs.declared.body.Body.{Body}
use Rattle.fw_rule.specs.declared.test.Field.{Field}
use Rattle.fw_rule.specs.declared.test.Field.TheVariants.{SrcIp, DstIp, SrcPort, DstPort}
use Rattle.fw_rule.specs.declared.opt.Opt.{Opt}
use Rattle.fw_rule.specs.declared.rule.Rule.{Rule}
use Rattle.fw_rule.specs.declared.table_command.TableType.{TableType}
use Rattle.fw_rule.specs.declared.table_command.TableType.TheVariants.{Addresses, Numbers}
use Rattle.fw_rule.specs.declared.test.Test.{Test}
use Rattle.fw_rule.specs.declared.test.Test.TheVariants.{Inward, Outward, Established, Setup, Frag, Recv, Xmit, Via, TcpFlags, IcmpTypes, Icmp6Types, IpOptions, Lookup}

-- a table's name, and what its keys have to be
pub record Use : Type 0 where
  pub name : List ℕ
  pub kind : TableType

-- the table that an element of an address list names
abbrev pub item_use : AddrItem → Option Use
item_use (InTable name) = Some (record { name = name; kind = Addresses })
item_use (TableValue name value) = Some (record { name = name; kind = Addresses })
item_use Any = None
item_use Me = None
item_use (Net prefix) = None
item_use (Net6 prefix) = None

-- ports are looked up in a table of numbers
abbrev pub field_kind : Field → TableType
field_kind SrcIp = Addresses
field_kind DstIp = Addresses
field_kind SrcPort = Numbers
field_kind DstPort = Numbers

-- the table that an option looks up
abbrev pub test_use : Test → Option Use
test_use (Lookup field name) = Some (record { name = name; kind = field_kind field })
test_use Inward = None
test_use Outward = None
test_use Established = None
test_use Setup = None
test_use Frag = None
test_use (Recv iface) = None
test_use (Xmit iface) = None
test_use (Via iface) = None
test_use (TcpFlags set clear) = None
test_use (IcmpTypes types) = None
test_use (Icmp6Types types) = None
test_use (IpOptions present absent) = None

-- the table that an option, negated or not, looks up
abbrev pub option_use : Opt → Option Use
option_use option = test_use option.test

-- the uses of a body: those of its source, its destination and its options
abbrev pub body_uses : Body → List Use
body_uses body = filter_map item_use body.source.items ++ (filter_map item_use body.destination.items ++ filter_map option_use body.options)

-- the uses of a rule, which may lack a body
abbrev pub uses_of : Option Body → List Use
uses_of None = []
uses_of (Some body) = body_uses body

-- some use is of this table
abbrev pub use_names : List ℕ → List Use → Bool
use_names name uses = list_any (λ u. pointwise nat_eq u.name name) uses

-- the rule names the table
abbrev pub names_table : List ℕ → Rule → Bool
names_table name rule = use_names name (uses_of rule.body)
