-- Two flows have one line just where one matches the other.
use Rattle.std.proofs.Common.{◌≡◌, ℕ, Bool, true, false, refl, ap, sym, ◌∙◌, arith, cond}
use Rattle.std.specs.Prelude.{◌||◌}
use Rattle.std.proofs.lemmas.Bool.Decides.{nat_tests}
use Rattle.std.proofs.lemmas.Map.Views.{exact_unsigned_eq}
use Rattle.std.proofs.lemmas.Bool.{and_parts, or_right}
use Rattle.packet_headers.specs.declared.flows.Flow.{Flow}
use Rattle.state_asks.specs.declared.op.FlowName.TheVariants.{Named}
use Rattle.dyn_states.specs.declared.lines.Line.{Line}
use Rattle.dyn_states.specs.declared.state.State.{State}
use Rattle.dyn_states.specs.Flows.{same_flow, reverse_flow, matches_flow}
use Rattle.dyn_states.specs.Lines.{is_upward, upward_flow, flow_eq, same_line, line_of, line_at}
use Rattle.dyn_states.specs.StateObject.{considers}

-- the same parts make the same flow
flow_of : ℕ → ℕ → ℕ → ℕ → ℕ → Flow
flow_of a b c d e = record { source = record { 0 = a }; destination = record { 0 = b }; source_port = c; destination_port = d; protocol = e }

flow_is : (a b : Flow) → a.source.0 ≡ b.source.0 → a.destination.0 ≡ b.destination.0 → a.source_port ≡ b.source_port → a.destination_port ≡ b.destination_port → a.protocol ≡ b.protocol → a ≡ b
unfolding flow_of
flow_is a b e1 e2 e3 e4 e5 =
    let all : flow_of a.source.0 a.destination.0 a.source_port a.destination_port a.protocol ≡ flow_of b.source.0 b.destination.0 b.source_port b.destination_port b.protocol = rw (e1, e2, e3, e4, e5) refl in
    all

-- flows of the same parts are equal
pub same_flow_is : (a b : Flow) → same_flow a b ≡ true → a ≡ b
same_flow_is a b same =
    let h1 = and_parts _ _ same in
    let h2 = and_parts _ _ h1.1 in
    let h3 = and_parts _ _ h2.1 in
    let h4 = and_parts _ _ h3.1 in
    flow_is a b (exact_unsigned_eq _ _ h2.0) (exact_unsigned_eq _ _ h4.0) (exact_unsigned_eq _ _ h3.0) (exact_unsigned_eq _ _ h4.1) (exact_unsigned_eq _ _ h1.0)

flow_eq_is : (a b : Flow) → flow_eq a b ≡ true → a ≡ b
flow_eq_is a b same =
    let h1 = and_parts _ _ same in
    let h2 = and_parts _ _ h1.1 in
    let h3 = and_parts _ _ h2.1 in
    let h4 = and_parts _ _ h3.1 in
    flow_is a b (exact_unsigned_eq _ _ h1.0) (exact_unsigned_eq _ _ h2.0) (exact_unsigned_eq _ _ h3.0) (exact_unsigned_eq _ _ h4.0) (exact_unsigned_eq _ _ h4.1)

same_flow_self : (a : Flow) → same_flow a a ≡ true
same_flow_self a = grind (arith, nat_tests)

-- and_parts directions of a flow go upward in one way
both_upward : (b : Flow) → is_upward b ≡ true → is_upward (reverse_flow b) ≡ true → reverse_flow b ≡ b
both_upward b up down = flow_is (reverse_flow b) b (grind (arith, nat_tests)) (grind (arith, nat_tests)) (grind (arith, nat_tests)) (grind (arith, nat_tests)) refl

one_upward : (b : Flow) → is_upward b ≡ false → is_upward (reverse_flow b) ≡ true
one_upward b up = grind (arith, nat_tests)

pub upward-reversed : (b : Flow) → upward_flow (reverse_flow b) ≡ upward_flow b
upward-reversed b = decided (is_upward b) (is_upward (reverse_flow b)) (both_upward b) (one_upward b)
  where
    decided : (up down : Bool) → (up ≡ true → down ≡ true → reverse_flow b ≡ b) → (up ≡ false → down ≡ true) → cond down (reverse_flow b) b ≡ cond up b (reverse_flow b)
    decided true true two one = two refl refl
    decided true false two one = refl
    decided false true two one = refl
    decided false false two one = absurd (absent (one refl))
      where
        absent : false ≡ true → ⊥
        absent e = cc

-- flows that match go upward in one way
upward_matching : (own asked : Flow) → matches_flow own asked ≡ true → upward_flow own ≡ upward_flow asked
upward_matching own asked matching = decided (same_flow own asked) (same_flow own (reverse_flow asked)) (same_flow_is own asked) (same_flow_is own (reverse_flow asked)) matching
  where
    decided : (x y : Bool) → (x ≡ true → own ≡ asked) → (y ≡ true → own ≡ reverse_flow asked) → (x || y) ≡ true → upward_flow own ≡ upward_flow asked
    decided true y one other h = ap upward_flow (one refl)
    decided false true one other h = ap upward_flow (other refl) ∙ upward-reversed asked
    decided false false one other h = cc

-- and the other way round
matching_upward : (own asked : Flow) → upward_flow own ≡ upward_flow asked → matches_flow own asked ≡ true
matching_upward own asked same = decided (is_upward own) (is_upward asked) same
  where
    decided : (x y : Bool) → cond x own (reverse_flow own) ≡ cond y asked (reverse_flow asked) → matches_flow own asked ≡ true
    decided true true e = rw e (rw (same_flow_self asked) refl)
    decided true false e = rw e (rw (same_flow_self (reverse_flow asked)) (or_right _ true refl))
    decided false true e = let e' = ap reverse_flow e in rw e' (rw (same_flow_self (reverse_flow asked)) (or_right _ true refl))
    decided false false e = let e' = ap reverse_flow e in rw e' (rw (same_flow_self asked) refl)

-- a state that a lookup of one name considers has the lookup's line
pub line_considered : (flow : Flow) (name : ℕ) (s : State) → considers flow (Named name) s ≡ true → line_at s ≡ line_of flow name
line_considered flow name s considered =
    let h = and_parts _ _ considered in
    let name_is : name ≡ s.name = exact_unsigned_eq _ _ h.0 in
    let flow_is = upward_matching s.flow flow h.1 in
    rw (name_is, flow_is) refl

-- and a state with the lookup's line is considered
pub considered_line : (flow : Flow) (name : ℕ) (s : State) → same_line (line_of flow name) (line_at s) ≡ true → considers flow (Named name) s ≡ true
unfolding same_line
considered_line flow name s same =
    let h = and_parts _ _ same in
    let name_is : name ≡ s.name = exact_unsigned_eq _ _ h.1 in
    let flow_is = matching_upward s.flow flow (sym (flow_eq_is _ _ h.0)) in
    rw (flow_is, name_is) (grind (arith, nat_tests))

flow_eq_self : (a : Flow) → flow_eq a a ≡ true
flow_eq_self a = grind (arith, nat_tests)

-- a line is one with itself
pub same_line_self : (a : Line) → same_line a a ≡ true
unfolding same_line
same_line_self a = rw (flow_eq_self a.flow) (grind (arith, nat_tests))
