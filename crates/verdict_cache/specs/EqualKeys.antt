-- What equal keys say of two packets.
use Rattle.std.specs.Prelude.{◌≡◌, List}
use Rattle.fw_base.specs.declared.address.Addr.{Addr}
use Rattle.fw_base.specs.declared.port.Port.{Port}
use Rattle.fw_rule.specs.declared.body.Body.{Body}
use Rattle.ip6_headers.specs.declared.any_ip.AnyIp.TheVariants.{Four}
use Rattle.lookup_tables.specs.Tables.{NamedTables}
use Rattle.packet_headers.specs.Fields.{Fields}
use Rattle.packet_headers.specs.Flows.{flow_of}
use Rattle.rule_match.specs.Holds.{holds}
use Rattle.verdict_cache.specs.Key.{key_of}

-- Every rule body gives two packets of one key the same answer, whatever the tables, the host's addresses and
-- the port where the packets were taken.
abbrev pub EqualKeysHoldAlike : Type 0
EqualKeysHoldAlike =
    (p q : Fields) → key_of p ≡ key_of q
    → (body : Body) (tables : NamedTables) (locals : List Addr) (port : Port)
    → holds body tables locals (Four p) port ≡ holds body tables locals (Four q) port

-- Two packets of one key have the same flow, or neither has one.
abbrev pub EqualKeysHaveOneFlow : Type 0
EqualKeysHaveOneFlow = (p q : Fields) → key_of p ≡ key_of q → flow_of p ≡ flow_of q
