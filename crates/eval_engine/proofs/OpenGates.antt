-- Rules whose gates admit the packet's key and tell all.
use Rattle.std.proofs.Common.{◌≡◌, ℕ, zero, suc, ◌+◌, ◌-◌, ◌<◌, Bool, true, false, not, ◌&&◌, Option, Some, None, List, [], ◌∷◌, length, get_or, drop, refl, sym, ap, ◌∙◌, arith}
use Rattle.std.proofs.lemmas.List.{get_or-drop, length-drop}
use Rattle.std.proofs.lemmas.List.Sums.{passes_at_first}
use Rattle.std.specs.List.{position_or_len}
use Rattle.fw_rule.specs.declared.body.Body.{Body}
use Rattle.fw_rule.specs.declared.rule.Rule.{Rule}
use Rattle.rule_gates.specs.Gates.{admits, is_body_held, is_exact, IsGateOf, AreGates}
use Rattle.rule_gates.specs.Keys.{HasAddresses, IsKeyOf}
use Rattle.rule_gates.specs.Told.{is_told_body}
use Rattle.rule_gates.specs.declared.gate.Gate.{Gate}
use Rattle.rule_gates.specs.declared.gate_key.GateKey.{GateKey}
use Rattle.eval_engine.specs.Encounter.{is_rule_met, looks_up}
use Rattle.eval_engine.specs.Place.{IsRuleAt, IsTold}
use Rattle.eval_engine.specs.Question.{Question}

-- the first gate that admits the key, from a place on, does
admitted_there : (p : Gate → Bool) (from place : ℕ) (gates : List Gate) (gate : Gate) → place ≡ from + position_or_len p (drop from gates) → place < length gates
    → gate ≡ get_or gates place gate → p gate ≡ true
admitted_there p from place gates gate at within is =
    let rest : length (drop from gates) ≡ length gates - from = length-drop from gates in
    let first : position_or_len p (drop from gates) < length (drop from gates) = omega arith in
    let there : get_or (drop from gates) (position_or_len p (drop from gates)) gate ≡ gate =
    get_or-drop from gates (position_or_len p (drop from gates)) gate ∙ ap (λ k. get_or gates k gate) (sym at) ∙ sym is in
    ap (λ g. p g) (sym there) ∙ passes_at_first p (drop from gates) gate first

-- the gate in a rule's place is its own
gate_there : (place : ℕ) (rules : List Rule) (gates : List Gate) (rule : Rule) (rest : List Rule) (gate : Gate) → AreGates rules gates → drop place rules ≡ rule ∷ rest
    → gate ≡ get_or gates place gate → IsGateOf rule gate
gate_there zero [] gates rule rest gate are there is = absurd (cc)
gate_there zero (r ∷ rules) [] rule rest gate are there is = absurd are
gate_there zero (r ∷ rules) (g ∷ gates) rule rest gate are there is =
    let same_rule : rule ≡ r = cc in
    let same_gate : gate ≡ g = is in
    rw (same_rule, same_gate) are.0
gate_there (suc place) [] gates rule rest gate are there is = absurd (cc)
gate_there (suc place) (r ∷ rules) [] rule rest gate are there is = absurd are
gate_there (suc place) (r ∷ rules) (g ∷ gates) rule rest gate are there is = gate_there place rules gates rule rest gate are.1 there is

held_is : (q : Question) (rule : Rule) (body : Option Body) → rule.body ≡ body → is_body_held body q.edition.config.tables q.edition.config.locals q.packet q.port ≡ true → is_rule_met q rule ≡ true
unfolding is_rule_met
held_is q rule None is held = cc
held_is q rule (Some body) is held = rw is held

unlooked : (a b : Bool) → (not a && b) ≡ true → a ≡ false
unlooked true b is = cc
unlooked false b is = refl

-- what a gate that tells all, and admits the key, tells of its rule
told_by : (q : Question) (key : GateKey) (rule : Rule) (gate : Gate) → IsKeyOf q.packet key → HasAddresses q.packet → IsGateOf rule gate → is_exact gate ≡ true → admits gate key ≡ true → IsTold q rule
told_by q key rule gate is fit of exact admitted = record {
  plain = unlooked (looks_up rule) (is_told_body rule.body) (sym of.exact ∙ exact);
  held = held_is q rule rule.body refl (of.whole q.edition.config.tables q.edition.config.locals q.packet q.port key exact is fit admitted);
}

-- of the rule in the first place from another on whose gate admits the key
pub told_there : (q : Question) (key : GateKey) (gates : List Gate) (gate : Gate) (from place : ℕ) → IsKeyOf q.packet key → HasAddresses q.packet → AreGates q.edition.config.rules gates
    → place ≡ from + position_or_len (λ gate. admits gate key) (drop from gates) → place < length gates → gate ≡ get_or gates place gate → is_exact gate ≡ true
    → (rule : Rule) → IsRuleAt q place rule → IsTold q rule
told_there q key gates gate from place is fit are at within there exact rule in_place =
    told_by q key rule gate is fit (gate_there place q.edition.config.rules gates rule _ gate are in_place.there there) exact
    (admitted_there (λ gate. admits gate key) from place gates gate at within there)
