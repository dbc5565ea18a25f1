-- Keys that a gate admits.
use Rattle.std.proofs.Common.{◌≡◌, ℕ, zero, suc, ◌^◌, ◌<◌, Bool, true, ◌&&◌, List, [], ◌∷◌, ◌==◌, length, get_or, slice_index, refl, sym, ap, ◌∙◌, arith}
use Rattle.std.proofs.Math.Nat.{mod-lt}
use Rattle.std.proofs.lemmas.Nat.{pow_pos}
use Rattle.std.proofs.lemmas.Bool.Decides.{nat_tests}
use Rattle.std.proofs.lemmas.Bool.{and_parts}
use Rattle.fw_rule.specs.declared.body.Body.{Body}
use Rattle.fw_rule.specs.declared.body.Family.{Family}
use Rattle.fw_rule.specs.declared.body.Family.TheVariants as family
use Rattle.fw_base.specs.declared.address.Addr.{Addr}
use Rattle.fw_base.specs.declared.port.Port.{Port}
use Rattle.ip6_headers.specs.Either.{protocol_of}
use Rattle.ip6_headers.specs.declared.any_ip.AnyIp.{AnyIp}
use Rattle.lookup_tables.specs.Tables.{NamedTables}
use Rattle.ip6_headers.specs.declared.any_ip.AnyIp.TheVariants.{Four, Six}
use Rattle.rule_match.specs.Holds.{holds, holds_addresses, holds_family, holds_ports, holds_protocol}
use Rattle.rule_match.specs.Packet.{Address, source_address_of, destination_address_of}
use Rattle.rule_match.specs.Ports.{source_port, destination_port}
use Rattle.rule_gates.specs.Covers.{CoversAddresses, CoversPorts, IsExactAddresses, IsExactGate, IsExactPorts, IsGateOfBody, IsOpen, TellsAddresses, TellsBody, TellsPorts, is_beside, is_six_address, narrower}
use Rattle.rule_gates.specs.Gates.{admits, admits_version, is_exact}
use Rattle.rule_gates.specs.Keys.{is_six}
use Rattle.rule_gates.specs.Within.{is_within}
use Rattle.rule_gates.specs.Words.{address_number, word, words_of}
use Rattle.rule_gates.specs.declared.address_gate.AddressGate.{AddressGate}
use Rattle.rule_gates.specs.declared.address_gate.ChosenWord.{ChosenWord}
use Rattle.rule_gates.specs.declared.gate.Gate.{Gate}
use Rattle.rule_gates.specs.declared.interval.Interval.{Interval}
use Rattle.rule_gates.specs.declared.gate_key.GateKey.{GateKey}
use Rattle.rule_gates.specs.declared.gate.PortGate.{PortGate}

-- every number of thirty-two bits
pub every_has : (interval : Interval) (n : ℕ) → interval.low ≡ 0 → interval.span ≡ 4294967295 → n < 2 ^ 32 → is_within interval n ≡ true
every_has interval n low span fits = grind (arith, nat_tests)

-- a word has thirty-two bits
pub word-fits : (place n : ℕ) → word place n < 2 ^ 32
word-fits place n = mod-lt _ (pow_pos 32)

-- the word in its place
word_at : (n place : ℕ) → place < 4 → get_or (words_of n) place 0 ≡ word place n
word_at n zero within = refl
word_at n (suc zero) within = refl
word_at n (suc (suc zero)) within = refl
word_at n (suc (suc (suc zero))) within = refl
word_at n (suc (suc (suc (suc place)))) within = absurd (omega arith)

key_word : (words : List ℕ) (n place : ℕ) → words ≡ words_of n → place < 4 → slice_index words place ≡ word place n
key_word words n place are within = ap (λ (ws : List ℕ). get_or ws place 0) are ∙ word_at n place within

-- what a gate admits, part by part
pub admits_by : (gate : Gate) (key : GateKey)
    → is_within gate.source (slice_index key.source gate.source_word) ≡ true
    → is_within gate.destination (slice_index key.destination gate.destination_word) ≡ true
    → is_within gate.destination_ports key.destination_port ≡ true
    → holds_protocol gate.protocol key.protocol ≡ true
    → is_within gate.source_ports key.source_port ≡ true
    → admits_version gate.family key.is_six ≡ true
    → admits gate key ≡ true
unfolding admits
admits_by gate key source destination destination_ports protocol source_ports version =
    rw (source, destination, destination_ports, protocol, source_ports, version) refl

-- a version that the body asks for
version_admitted : (asked : Family) (packet : AnyIp) → holds_family asked packet ≡ true → admits_version asked (is_six packet) ≡ true
version_admitted family.AnyIp packet holds = refl
version_admitted family.Four (Four packet) holds = refl
version_admitted family.Four (Six packet) holds = cc
version_admitted family.Six (Four packet) holds = cc
version_admitted family.Six (Six packet) holds = refl

-- a gate of every number
pub open_admits : (gate : Gate) (every : Interval) → every.low ≡ 0 → every.span ≡ 4294967295
    → gate.source ≡ every → gate.destination ≡ every → gate.source_ports ≡ every → gate.destination_ports ≡ every → gate.protocol ≡ 0 → gate.family ≡ family.AnyIp
    → IsOpen gate
open_admits gate every low span source destination source_ports destination_ports protocol version packet key is =
    admits_by gate key
    (rw source (every_has every _ low span (word_within key.source (address_number (source_address_of packet)) gate.source_word is.source gate.chosen.0)))
    (rw destination (every_has every _ low span (word_within key.destination (address_number (destination_address_of packet)) gate.destination_word is.destination gate.chosen.1)))
    (rw destination_ports (every_has every _ low span (let few = key.ported.1 in omega arith)))
    (rw protocol refl)
    (rw source_ports (every_has every _ low span (let few = key.ported.0 in omega arith)))
    (rw version refl)
  where
    word_within : (words : List ℕ) (n place : ℕ) → words ≡ words_of n → place < 4 → slice_index words place < 2 ^ 32
    word_within words n place are within = rw (key_word words n place are within) (word-fits place n)

-- a packet's addresses are of its version
source_version : (packet : AnyIp) → is_six_address (source_address_of packet) ≡ is_six packet
source_version (Four packet) = refl
source_version (Six packet) = refl

destination_version : (packet : AnyIp) → is_six_address (destination_address_of packet) ≡ is_six packet
destination_version (Four packet) = refl
destination_version (Six packet) = refl

-- a packet of both versions is of the narrower one
narrower_admits : (asked other : Family) (is_six : Bool) → admits_version asked is_six ≡ true → admits_version other is_six ≡ true → admits_version (narrower asked other) is_six ≡ true
narrower_admits family.AnyIp other is_six first second = second
narrower_admits family.Four other is_six first second = first
narrower_admits family.Six other is_six first second = first

-- each packet of the version is one of the other
abbrev IsAmong : Family → Family → Type 0
IsAmong family other = (is_six : Bool) → admits_version family is_six ≡ true → admits_version other is_six ≡ true

-- one of the narrower version is of the first
narrower_among : (asked other : Family) → IsAmong (narrower asked other) asked
narrower_among family.AnyIp other is_six is = refl
narrower_among family.Four other is_six is = is
narrower_among family.Six other is_six is = is

-- and of each of two that are told beside it
both_among : (asked source destination : Family) → is_beside asked source ≡ true → is_beside asked destination ≡ true
    → IsAmong (narrower asked (narrower source destination)) source × IsAmong (narrower asked (narrower source destination)) destination
both_among family.AnyIp family.AnyIp destination first second = (λ is_six is. refl, λ is_six is. is)
both_among family.AnyIp family.Four family.AnyIp first second = (λ is_six is. is, λ is_six is. refl)
both_among family.AnyIp family.Four family.Four first second = (λ is_six is. is, λ is_six is. is)
both_among family.AnyIp family.Four family.Six first second = absurd (cc)
both_among family.AnyIp family.Six destination first second = absurd (cc)
both_among family.Four family.AnyIp family.AnyIp first second = (λ is_six is. refl, λ is_six is. refl)
both_among family.Four family.AnyIp family.Four first second = (λ is_six is. refl, λ is_six is. is)
both_among family.Four family.AnyIp family.Six first second = absurd (cc)
both_among family.Four family.Four family.AnyIp first second = (λ is_six is. is, λ is_six is. refl)
both_among family.Four family.Four family.Four first second = (λ is_six is. is, λ is_six is. is)
both_among family.Four family.Four family.Six first second = absurd (cc)
both_among family.Four family.Six destination first second = absurd (cc)
both_among family.Six family.AnyIp family.AnyIp first second = (λ is_six is. refl, λ is_six is. refl)
both_among family.Six family.AnyIp family.Four first second = absurd (cc)
both_among family.Six family.AnyIp family.Six first second = absurd (cc)
both_among family.Six family.Four destination first second = absurd (cc)
both_among family.Six family.Six destination first second = absurd (cc)

-- a gate whose parts have what the parts of the body ask for
pub body_admits : (body : Body) (gate : Gate) (source destination : AddressGate)
    → CoversAddresses body.source source → CoversAddresses body.destination destination
    → CoversPorts body.source_ports gate.source_ports → CoversPorts body.destination_ports gate.destination_ports
    → gate.source ≡ source.word.numbers → gate.source_word ≡ source.word.place → gate.destination ≡ destination.word.numbers → gate.destination_word ≡ destination.word.place
    → gate.protocol ≡ body.protocol
    → gate.family ≡ narrower body.family (narrower source.family destination.family)
    → IsGateOfBody body gate
unfolding holds
body_admits body gate source destination sources destinations source_ports destination_ports source_is source_at destination_is destination_at protocol family_is tables locals packet port key is held =
    let by_version = and_parts _ _ held in
    let by_protocol = and_parts _ _ by_version.1 in
    let by_source = and_parts _ _ by_protocol.1 in
    let by_source_ports = and_parts _ _ by_source.1 in
    let by_destination = and_parts _ _ by_source_ports.1 in
    let by_destination_ports = and_parts _ _ by_destination.1 in
    let from = sources tables locals (source_address_of packet) by_source.0 in
    let to = destinations tables locals (destination_address_of packet) by_destination.0 in
    admits_by gate key
    (addressed gate.source source.word gate.source_word key.source (address_number (source_address_of packet)) source_is source_at is.source from.1)
    (addressed gate.destination destination.word gate.destination_word key.destination (address_number (destination_address_of packet)) destination_is destination_at is.destination to.1)
    (rw is.destination_port (destination_ports (destination_port packet) (rw (← is.destination_port) key.ported.1) by_destination_ports.0))
    (rw (protocol, is.protocol) by_protocol.0)
    (rw is.source_port (source_ports (source_port packet) (rw (← is.source_port) key.ported.0) by_source_ports.0))
    (rw (family_is, is.version)
    (narrower_admits body.family (narrower source.family destination.family) (is_six packet) (version_admitted body.family packet by_version.0)
    (narrower_admits source.family destination.family (is_six packet)
    (ap (λ six. admits_version source.family six) (sym (source_version packet)) ∙ from.0)
    (ap (λ six. admits_version destination.family six) (sym (destination_version packet)) ∙ to.0))))
  where
    addressed : (interval : Interval) (chosen : ChosenWord) (place : ℕ) (words : List ℕ) (n : ℕ) → interval ≡ chosen.numbers → place ≡ chosen.place → words ≡ words_of n
        → is_within chosen.numbers (word chosen.place n) ≡ true → is_within interval (slice_index words place) ≡ true
    addressed interval chosen place words n numbers at are has =
        rw (numbers, at, key_word words n chosen.place are chosen.within) has

-- what a gate tells by what it admits, part by part
record IsAdmitted (gate : Gate) (key : GateKey) : Type 0 where
  source : is_within gate.source (slice_index key.source gate.source_word) ≡ true
  destination : is_within gate.destination (slice_index key.destination gate.destination_word) ≡ true
  destination_ports : is_within gate.destination_ports key.destination_port ≡ true
  protocol : holds_protocol gate.protocol key.protocol ≡ true
  source_ports : is_within gate.source_ports key.source_port ≡ true
  version : admits_version gate.family key.is_six ≡ true

admitted_by : (gate : Gate) (key : GateKey) → admits gate key ≡ true → IsAdmitted gate key
unfolding admits
admitted_by gate key admitted =
    let by_source = and_parts _ _ admitted in
    let by_destination = and_parts _ _ by_source.1 in
    let by_destination_ports = and_parts _ _ by_destination.1 in
    let by_protocol = and_parts _ _ by_destination_ports.1 in
    let by_source_ports = and_parts _ _ by_protocol.1 in
    record {
      source = by_source.0;
      destination = by_destination.0;
      destination_ports = by_destination_ports.0;
      protocol = by_protocol.0;
      source_ports = by_source_ports.0;
      version = by_source_ports.1;
    }

-- a version that the gate admits
version_held : (asked : Family) (packet : AnyIp) → admits_version asked (is_six packet) ≡ true → holds_family asked packet ≡ true
version_held family.AnyIp packet admitted = refl
version_held family.Four (Four packet) admitted = refl
version_held family.Four (Six packet) admitted = cc
version_held family.Six (Four packet) admitted = cc
version_held family.Six (Six packet) admitted = refl

-- the chosen word of an address is one of the numbers, where it is one of the gate's
told : (interval : Interval) (chosen : ChosenWord) (place : ℕ) (words : List ℕ) (n : ℕ) → interval ≡ chosen.numbers → place ≡ chosen.place → words ≡ words_of n
    → is_within interval (slice_index words place) ≡ true → is_within chosen.numbers (word chosen.place n) ≡ true
told interval chosen place words n numbers at are has =
    let has_word : is_within chosen.numbers (slice_index words chosen.place) ≡ true = rw (← numbers, ← at) has in
    rw (← key_word words n chosen.place are chosen.within) has_word

-- a gate whose parts tell what the parts of the body ask for
pub body_tells : (body : Body) (gate : Gate) (source destination : AddressGate)
    → TellsAddresses body.source source.word → TellsAddresses body.destination destination.word
    → TellsPorts body.source_ports gate.source_ports → TellsPorts body.destination_ports gate.destination_ports
    → gate.source ≡ source.word.numbers → gate.source_word ≡ source.word.place → gate.destination ≡ destination.word.numbers → gate.destination_word ≡ destination.word.place
    → gate.protocol ≡ body.protocol → gate.family ≡ narrower body.family (narrower source.family destination.family)
    → TellsBody body gate
body_tells body gate source destination sources destinations source_ports destination_ports source_is source_at destination_is destination_at protocol version packet key is admitted =
    let parts = admitted_by gate key admitted in
    record {
      version = version_held body.family packet (narrower_among body.family (narrower source.family destination.family) (is_six packet) (rw (← version, ← is.version) parts.version));
      protocol = rw (← protocol, ← is.protocol) parts.protocol;
      source = λ net address only from fits. sources net address only fits
          (told gate.source source.word gate.source_word key.source address source_is source_at (is.source ∙ ap (λ (a : Address). words_of (address_number a)) from) parts.source);
      destination = λ net address only to fits. destinations net address only fits
          (told gate.destination destination.word gate.destination_word key.destination address destination_is destination_at (is.destination ∙ ap (λ (a : Address). words_of (address_number a)) to) parts.destination);
      source_ports = λ range only. source_ports range (source_port packet) only (rw (← is.source_port) parts.source_ports);
      destination_ports = λ range only. destination_ports range (destination_port packet) only (rw (← is.destination_port) parts.destination_ports);
    }

no_elements : {A : Type 0} (xs : List A) → (length xs == 0) ≡ true → xs ≡ []
no_elements [] none = refl
no_elements (x ∷ xs) none =
    let none_at_all : suc (length xs) ≡ 0 = grind (arith, nat_tests) in
    absurd (omega arith)

-- a body holds part by part
holds_by : (body : Body) (tables : NamedTables) (locals : List Addr) (packet : AnyIp) (port : Port)
    → holds_family body.family packet ≡ true
    → holds_protocol body.protocol (protocol_of packet) ≡ true
    → holds_addresses tables locals (source_address_of packet) body.source ≡ true
    → holds_ports (source_port packet) body.source_ports ≡ true
    → holds_addresses tables locals (destination_address_of packet) body.destination ≡ true
    → holds_ports (destination_port packet) body.destination_ports ≡ true
    → body.options ≡ []
    → holds body tables locals packet port ≡ true
unfolding holds
holds_by body tables locals packet port version protocol source source_ports destination destination_ports options =
    rw (version, protocol, source, source_ports, destination, destination_ports, options) refl

-- a gate of exact parts tells all
pub body_exact : (body : Body) (gate : Gate) (source destination : AddressGate) (source_ports destination_ports : PortGate)
    → IsExactAddresses body.source source → IsExactAddresses body.destination destination
    → IsExactPorts body.source_ports source_ports → IsExactPorts body.destination_ports destination_ports
    → gate.source ≡ source.word.numbers → gate.source_word ≡ source.word.place → gate.destination ≡ destination.word.numbers → gate.destination_word ≡ destination.word.place
    → gate.source_ports ≡ source_ports.numbers → gate.destination_ports ≡ destination_ports.numbers
    → gate.protocol ≡ body.protocol → gate.family ≡ narrower body.family (narrower source.family destination.family)
    → (source.is_exact ≡ true → is_beside body.family source.family ≡ true) → (destination.is_exact ≡ true → is_beside body.family destination.family ≡ true)
    → is_exact gate ≡ (source.is_exact && (destination.is_exact && (source_ports.is_exact && (destination_ports.is_exact && length body.options == 0))))
    → IsExactGate body gate
body_exact body gate source destination source_ports destination_ports sources destinations source_ports_of destination_ports_of source_is source_at destination_is destination_at source_ports_are destination_ports_are protocol version beside_source beside_destination exact tables locals packet port key all is fit admitted =
    let parts = admitted_by gate key admitted in
    let by_source = and_parts source.is_exact _ (sym exact ∙ all) in
    let by_destination = and_parts destination.is_exact _ by_source.1 in
    let by_source_ports = and_parts source_ports.is_exact _ by_destination.1 in
    let by_destination_ports = and_parts destination_ports.is_exact _ by_source_ports.1 in
    let among = both_among body.family source.family destination.family (beside_source by_source.0) (beside_destination by_destination.0) in
    let of_version : admits_version (narrower body.family (narrower source.family destination.family)) (is_six packet) ≡ true = rw (← version, ← is.version) parts.version in
    holds_by body tables locals packet port
    (version_held body.family packet (narrower_among body.family (narrower source.family destination.family) (is_six packet) of_version))
    (rw (← protocol, ← is.protocol) parts.protocol)
    (sources tables locals (source_address_of packet) by_source.0 fit.source (
      ap (λ six. admits_version source.family six) (source_version packet) ∙ among.0 (is_six packet) of_version,
      told gate.source source.word gate.source_word key.source (address_number (source_address_of packet)) source_is source_at is.source parts.source,
    ))
    (source_ports_of (source_port packet) by_source_ports.0 (rw (← source_ports_are, ← is.source_port) parts.source_ports))
    (destinations tables locals (destination_address_of packet) by_destination.0 fit.destination (
      ap (λ six. admits_version destination.family six) (destination_version packet) ∙ among.1 (is_six packet) of_version,
      told gate.destination destination.word gate.destination_word key.destination (address_number (destination_address_of packet)) destination_is destination_at is.destination parts.destination,
    ))
    (destination_ports_of (destination_port packet) by_destination_ports.0 (rw (← destination_ports_are, ← is.destination_port) parts.destination_ports))
    (no_elements body.options by_destination_ports.1)
