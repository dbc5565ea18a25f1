-- Flows that are found equal are one.
use Rattle.std.proofs.Common.{◌≡◌, ℕ, true, ◌&&◌, ◌==◌, Option, None, Some, refl, ap, ◌∙◌}
use Rattle.std.proofs.lemmas.Bool.{eqb-true, and_parts}
use Rattle.std.specs.Cmp.{IsEquivalence}
use Rattle.std.proofs.lemmas.Cmp.{nat_eq_equiv, on_equiv, and_equiv}
use Rattle.packet_headers.specs.declared.flows.Flow.{Flow}
use Rattle.report_flows.specs.declared.flow.AnyFlow.{AnyFlow}
use Rattle.report_flows.specs.declared.flow.AnyFlow.TheVariants.{Four, Six}
use Rattle.report_flows.specs.declared.flow.Flow6.{Flow6}
use Rattle.report_flows.specs.Flows.{flow4_eq, flow6_eq, flow_eq, same_flow}

four_of : ℕ → ℕ → ℕ → ℕ → ℕ → Flow
four_of s d p q r = record { source = record { 0 = s }; destination = record { 0 = d }; source_port = p; destination_port = q; protocol = r }

six_of : ℕ → ℕ → ℕ → ℕ → ℕ → Flow6
six_of s d p q r = record { source = record { 0 = s }; destination = record { 0 = d }; source_port = p; destination_port = q; protocol = r }

module _ {X : Type 0} (make : ℕ → ℕ → ℕ → ℕ → ℕ → X) where
  -- what is made of five equal numbers is one
  five : (s d p q r s' d' p' q' r' : ℕ) → (s == s' && (d == d' && (p == p' && (q == q' && r == r')))) ≡ true → make s d p q r ≡ make s' d' p' q' r'
  five s d p q r s' d' p' q' r' is =
      let (a, a2) = and_parts (s == s') _ is in
      let (b, b2) = and_parts (d == d') _ a2 in
      let (c, c2) = and_parts (p == p') _ b2 in
      let (e, f) = and_parts (q == q') (r == r') c2 in
      ap (λ n. make n d p q r) (eqb-true s s' a) ∙ ap (λ n. make s' n p q r) (eqb-true d d' b) ∙ ap (λ n. make s' d' n q r) (eqb-true p p' c)
      ∙ ap (λ n. make s' d' p' n r) (eqb-true q q' e) ∙ ap (λ n. make s' d' p' q' n) (eqb-true r r' f)

same_four : (a b : Flow) → flow4_eq a b ≡ true → a ≡ b
unfolding four_of
same_four a b is = five four_of a.source.0 a.destination.0 a.source_port a.destination_port a.protocol b.source.0 b.destination.0 b.source_port b.destination_port b.protocol is

same_six : (a b : Flow6) → flow6_eq a b ≡ true → a ≡ b
unfolding six_of
same_six a b is = five six_of a.source.0 a.destination.0 a.source_port a.destination_port a.protocol b.source.0 b.destination.0 b.source_port b.destination_port b.protocol is

same_any : (a b : AnyFlow) → flow_eq a b ≡ true → a ≡ b
same_any (Four a) (Four b) is = ap Four (same_four a b is)
same_any (Four a) (Six b) is = absurd (cc)
same_any (Six a) (Four b) is = absurd (cc)
same_any (Six a) (Six b) is = ap Six (same_six a b is)

-- flows that are found equal are one
pub one_flow : (a b : Option AnyFlow) → same_flow a b ≡ true → a ≡ b
one_flow None None is = refl
one_flow None (Some b) is = absurd (cc)
one_flow (Some a) None is = absurd (cc)
one_flow (Some a) (Some b) is = ap Some (same_any a b is)

four_equiv : IsEquivalence flow4_eq
four_equiv =
    and_equiv (on_equiv (λ (f : Flow). f.source.0) nat_eq_equiv)
    (and_equiv (on_equiv (λ (f : Flow). f.destination.0) nat_eq_equiv)
    (and_equiv (on_equiv (λ (f : Flow). f.source_port) nat_eq_equiv)
    (and_equiv (on_equiv (λ (f : Flow). f.destination_port) nat_eq_equiv) (on_equiv (λ (f : Flow). f.protocol) nat_eq_equiv))))

six_equiv : IsEquivalence flow6_eq
six_equiv =
    and_equiv (on_equiv (λ (f : Flow6). f.source.0) nat_eq_equiv)
    (and_equiv (on_equiv (λ (f : Flow6). f.destination.0) nat_eq_equiv)
    (and_equiv (on_equiv (λ (f : Flow6). f.source_port) nat_eq_equiv)
    (and_equiv (on_equiv (λ (f : Flow6). f.destination_port) nat_eq_equiv) (on_equiv (λ (f : Flow6). f.protocol) nat_eq_equiv))))

any_refl : (a : AnyFlow) → flow_eq a a ≡ true
any_refl (Four a) = four_equiv.refl a
any_refl (Six a) = six_equiv.refl a

any_symm : (a b : AnyFlow) → flow_eq a b ≡ flow_eq b a
any_symm (Four a) (Four b) = four_equiv.symm a b
any_symm (Four a) (Six b) = refl
any_symm (Six a) (Four b) = refl
any_symm (Six a) (Six b) = six_equiv.symm a b

-- a flow is found equal to itself
pub flow_itself : (a : Option AnyFlow) → same_flow a a ≡ true
flow_itself None = refl
flow_itself (Some a) = any_refl a

-- which of two flows is asked about makes no difference
pub flow_flips : (a b : Option AnyFlow) → same_flow a b ≡ same_flow b a
flow_flips None None = refl
flow_flips None (Some b) = refl
flow_flips (Some a) None = refl
flow_flips (Some a) (Some b) = any_symm a b
