use Rattle.std.proofs.Common.{◌≡◌, true, List, [], ◌∷◌, refl, sym, ◌∙◌, rules, arith}
use Rattle.std.proofs.lemmas.Grind.{common_steps}
use Rattle.std.specs.Cmp.Lexicographic.{pointwise}
use Rattle.std.proofs.lemmas.Bool.{and_parts}
use Rattle.fw_base.proofs.Logic.{same_by_beq}
use Rattle.fw_rule.specs.declared.rule.Rule.{Rule}
use Rattle.rule_gates.specs.Gates.{AreGates, IsGateOf, admits}
use Rattle.rule_gates.specs.contracts.gate.GatePartialEq.TheImpl.{eq-value}
use Rattle.rule_gates.specs.declared.gate.Gate.{Gate}
use Rattle.rule_gates.specs.declared.interval.Interval.{Interval}
use Rattle.rule_gates.specs.declared.gate_key.GateKey.{GateKey}
use Rattle.rule_gates.proofs.sharing.are_same.Goals as goal

record AreAlike (a b : Interval) : Type 0 where
  low : a.low ≡ b.low
  span : a.span ≡ b.span

-- equal gates have equal fields
record HaveSame (g h : Gate) : Type 0 where
  source : AreAlike g.source h.source
  destination : AreAlike g.destination h.destination
  source_ports : AreAlike g.source_ports h.source_ports
  destination_ports : AreAlike g.destination_ports h.destination_ports
  source_word : g.source_word ≡ h.source_word
  destination_word : g.destination_word ≡ h.destination_word
  protocol : g.protocol ≡ h.protocol
  family : g.family ≡ h.family
  is_exact : g.is_exact ≡ h.is_exact

same_fields : (g h : Gate) → eq-value.it g h ≡ true → HaveSame g h
same_fields g h same = record {
  source = record { low = grind (arith, common_steps); span = grind (arith, common_steps) };
  destination = record { low = grind (arith, common_steps); span = grind (arith, common_steps) };
  source_ports = record { low = grind (arith, common_steps); span = grind (arith, common_steps) };
  destination_ports = record { low = grind (arith, common_steps); span = grind (arith, common_steps) };
  source_word = grind (arith, common_steps);
  destination_word = grind (arith, common_steps);
  protocol = grind (arith, common_steps);
  family = search rules;
  is_exact = same_by_beq g.is_exact h.is_exact (grind (arith, common_steps));
}

same_admits : (g h : Gate) (key : GateKey) → HaveSame g h → admits g key ≡ admits h key
unfolding admits
same_admits g h key same =
    rw (same.source.low, same.source.span, same.source_word, same.destination.low, same.destination.span, same.destination_word, same.destination_ports.low, same.destination_ports.span, same.protocol, same.source_ports.low, same.source_ports.span, same.family) refl

same_gate : (rule : Rule) (g h : Gate) → HaveSame g h → IsGateOf rule h → IsGateOf rule g
same_gate rule g h same is = record {
  sound = λ tables locals packet port key key_is concerned. same_admits g h key same ∙ is.sound tables locals packet port key key_is concerned;
  telling = λ body packet key there unlooked key_is admitted. is.telling body packet key there unlooked key_is (sym (same_admits g h key same) ∙ admitted);
  exact = same.is_exact ∙ is.exact;
  whole = λ tables locals packet port key all key_is fit admitted. is.whole tables locals packet port key (sym same.is_exact ∙ all) key_is fit (sym (same_admits g h key same) ∙ admitted);
}

same_lists : (gates others : List Gate) (rs : List Rule) → pointwise eq-value.it gates others ≡ true → AreGates rs others → AreGates rs gates
same_lists [] [] rs same are = are
same_lists [] (h ∷ others) rs same are = cc
same_lists (g ∷ gates) [] rs same are = cc
same_lists (g ∷ gates) (h ∷ others) [] same are = absurd are
same_lists (g ∷ gates) (h ∷ others) (rule ∷ rs) same are =
    let both = and_parts (eq-value.it g h) (pointwise eq-value.it gates others) same in
    (same_gate rule g h (same_fields g h both.0) are.0, same_lists gates others rs both.1 are.1)

alike : (g : Gate) → eq-value.it g g ≡ true
alike g = grind (arith, common_steps)

all_alike : (gates : List Gate) → pointwise eq-value.it gates gates ≡ true
all_alike [] = refl
all_alike (g ∷ gates) = rw (alike g) (all_alike gates)

pub returns-clause-same : goal.returns-clause-same
returns-clause-same c same rs are = same_lists c.args.gates.now c.args.others.now rs (sym c.eq.ensures ∙ same) are

pub returns-clause-told : goal.returns-clause-told
returns-clause-told c is = c.eq.ensures ∙ rw (sym is) (all_alike c.args.gates.now)
