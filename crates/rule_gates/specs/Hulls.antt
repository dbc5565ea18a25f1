-- Hulls: over some gates in a row one gate that admits whatever any of them admits.
use Rattle.std.specs.Prelude.{◌≡◌, ℕ, ◌-◌, ◌/◌, ◌<◌, ◌≤◌, Bool, true, false, List, length, take, get_or, slice_index}
use Rattle.fw_rule.specs.declared.body.Family.{Family}
use Rattle.rule_match.specs.Holds.{holds_protocol}
use Rattle.rule_gates.specs.Gates.{admits, admits_version}
use Rattle.rule_gates.specs.Within.{is_within, AreWords}
use Rattle.rule_gates.specs.declared.address_gate.ChosenWord.{ChosenWord}
use Rattle.rule_gates.specs.declared.gate.Gate.{Gate}
use Rattle.rule_gates.specs.declared.gate_key.GateKey.{GateKey}
use Rattle.rule_gates.specs.declared.interval.Interval.{Interval}

-- each number of the first interval is one of the second
abbrev pub IsPart : Interval → Interval → Type 0
IsPart interval other = (number : ℕ) → is_within interval number ≡ true → is_within other number ≡ true

-- addresses whose chosen word is one of the first numbers have one of the second
abbrev pub IsPartOfWord : ChosenWord → ChosenWord → Type 0
IsPartOfWord chosen other = (words : List ℕ) → AreWords words → is_within chosen.numbers (slice_index words chosen.place) ≡ true
    → is_within other.numbers (slice_index words other.place) ≡ true

-- each protocol that the first number stands for, the second stands for
abbrev pub IsPartOfProtocol : ℕ → ℕ → Type 0
IsPartOfProtocol asked other = (protocol : ℕ) → holds_protocol asked protocol ≡ true → holds_protocol other protocol ≡ true

-- packets of the first version are of the second
abbrev pub IsPartOfFamily : Family → Family → Type 0
IsPartOfFamily asked other = (is_six : Bool) → admits_version asked is_six ≡ true → admits_version other is_six ≡ true

-- the hull admits each key that the gate admits
abbrev pub IsUnder : Gate → Gate → Type 0
IsUnder gate hull = (key : GateKey) → admits gate key ≡ true → admits hull key ≡ true

-- all gates but the last one
abbrev pub covered : List Gate → List Gate
covered gates = take (length gates - 1) gates

-- each gate is under the hull that stands over its thirty-two
pub record AreHulls (gates hulls : List Gate) : Type 0 where
  pub under : (place : ℕ) (any : Gate) → place < length gates → IsUnder (get_or gates place any) (get_or hulls (place / 32) any)

-- no gate from a place on and before another admits the key
pub record AreShut (key : GateKey) (gates : List Gate) (from to : ℕ) : Type 0 where
  pub shut : (place : ℕ) (any : Gate) → from ≤ place → place < to → admits (get_or gates place any) key ≡ false
