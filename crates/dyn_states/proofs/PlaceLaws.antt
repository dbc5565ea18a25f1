-- The first place whose slot holds a state that passes a test.
use Rattle.std.proofs.Common.{◌≡◌, ℕ, ◌+◌, ◌<◌, ◌≤◌, Bool, true, false, List, Option, Some, None, length, refl, ap, sym, ◌∙◌, cond, arith}
use Rattle.std.specs.Prelude.{◌||◌, ◌&&◌, ◌==◌, nat_lt}
use Rattle.std.proofs.lemmas.Bool.Decides.{nat_tests}
use Rattle.std.proofs.lemmas.Bool.{and_parts, or_from, or_right}
use Rattle.fw_base.proofs.Logic.{clash}
use Rattle.packet_headers.specs.declared.flows.Flow.{Flow}
use Rattle.state_asks.specs.declared.op.FlowName.TheVariants.{Any, Named}
use Rattle.dyn_states.specs.declared.lines.Lines.{Lines}
use Rattle.dyn_states.specs.declared.state.State.{State}
use Rattle.dyn_states.specs.Flows.{matches_flow}
use Rattle.dyn_states.specs.Lines.{Leads, place_of, line_of}
use Rattle.dyn_states.specs.Slots.{is_held, slot, holds_one, IsFirstPlace, earlier_place}
use Rattle.dyn_states.specs.StateObject.{considers}
use Rattle.dyn_states.proofs.LineLaws.{line_considered}

-- a line leads to the only place of a state that its lookup considers
pub only_place : (slots : List State) (lines : Lines) (flow : Flow) (number k : ℕ) → Leads slots lines → k < length slots → holds_one (considers flow (Named number)) (slot slots k) ≡ true → place_of lines (line_of flow number) ≡ Some k
only_place slots lines flow number k was inside holds =
    let h = and_parts (is_held (slot slots k)) (considers flow (Named number) (slot slots k)) holds in
    ap (place_of lines) (sym (line_considered flow number (slot slots k) h.1)) ∙ was.here k inside h.0

none_or : (b : Bool) → (b ≡ true → ⊥) → b ≡ false
none_or true never = absurd (never refl)
none_or false never = refl

-- where the line leads nowhere, there is none
pub nowhere : (slots : List State) (lines : Lines) (flow : Flow) (number : ℕ) → Leads slots lines → place_of lines (line_of flow number) ≡ None → IsFirstPlace (considers flow (Named number)) slots None
nowhere slots lines flow number was none = λ k inside. none_or (holds_one (considers flow (Named number)) (slot slots k)) (λ holds. differ k (sym none ∙ only_place slots lines flow number k was inside holds))
  where
    differ : (k : ℕ) → None ≡ Some k → ⊥
    differ k e = cc

-- where it leads to a place that doesn't hold one, there is none
pub stale : (slots : List State) (lines : Lines) (flow : Flow) (number place : ℕ) → Leads slots lines → place_of lines (line_of flow number) ≡ Some place → (place < length slots → holds_one (considers flow (Named number)) (slot slots place) ≡ false) → IsFirstPlace (considers flow (Named number)) slots None
stale slots lines flow number place was leads out = λ k inside. none_or (holds_one (considers flow (Named number)) (slot slots k)) (λ holds. wrong k inside holds (same k (sym leads ∙ only_place slots lines flow number k was inside holds)))
  where
    same : (k : ℕ) → Some place ≡ Some k → place ≡ k
    same k e = cc

    wrong : (k : ℕ) → k < length slots → holds_one (considers flow (Named number)) (slot slots k) ≡ true → place ≡ k → ⊥
    wrong k inside holds e = clash (holds_one (considers flow (Named number)) (slot slots k)) holds (rw e at out inside)

-- where it leads to one, it is the first
pub at_place : (slots : List State) (lines : Lines) (flow : Flow) (number place : ℕ) → Leads slots lines → place_of lines (line_of flow number) ≡ Some place → place < length slots → holds_one (considers flow (Named number)) (slot slots place) ≡ true → IsFirstPlace (considers flow (Named number)) slots (Some place)
at_place slots lines flow number place was leads inside holds = (inside, holds, λ k below. none_or (holds_one (considers flow (Named number)) (slot slots k)) (λ holds. wrong k below (same k (sym leads ∙ only_place slots lines flow number k was (omega arith) holds))))
  where
    same : (k : ℕ) → Some place ≡ Some k → place ≡ k
    same k e = cc

    wrong : (k : ℕ) → k < place → place ≡ k → ⊥
    wrong k below e = absurd (omega arith)

-- a test of either of two
either_test : (held p q : Bool) → (held && (p || q)) ≡ ((held && p) || (held && q))
either_test true p q = refl
either_test false p q = refl

joined_left : (x y : Bool) → x ≡ true → (x || y) ≡ true
joined_left x y a = rw a refl

-- the earlier of the first places of two tests is the first of either
pub IsFirstPlace-either : (p q r : State → Bool) (slots : List State) (a b : Option ℕ) → ((s : State) → r s ≡ (p s || q s)) → IsFirstPlace p slots a → IsFirstPlace q slots b → IsFirstPlace r slots (earlier_place a b)
IsFirstPlace-either p q r slots a b is first other = cases a b first other
  where
    parted : (s : State) → holds_one r s ≡ (holds_one p s || holds_one q s)
    parted s = rw (is s) (either_test (is_held s) (p s) (q s))

    neither : (s : State) → holds_one p s ≡ false → holds_one q s ≡ false → holds_one r s ≡ false
    neither s x y = parted s ∙ or_from (holds_one p s) (holds_one q s) x y

    left : (s : State) → holds_one p s ≡ true → holds_one r s ≡ true
    left s x = parted s ∙ joined_left (holds_one p s) (holds_one q s) x

    right : (s : State) → holds_one q s ≡ true → holds_one r s ≡ true
    right s y = parted s ∙ or_right (holds_one p s) (holds_one q s) y

    cases : (a b : Option ℕ) → IsFirstPlace p slots a → IsFirstPlace q slots b → IsFirstPlace r slots (earlier_place a b)
    cases None None x y = λ k inside. neither (slot slots k) (x k inside) (y k inside)
    cases None (Some j) x y = (y.0, right (slot slots j) y.1, λ k below. neither (slot slots k) (x k (let h = y.0 in omega arith)) (y.2 k below))
    cases (Some i) None x y = (x.0, left (slot slots i) x.1, λ k below. neither (slot slots k) (x.2 k below) (y k (let h = x.0 in omega arith)))
    cases (Some i) (Some j) x y = chosen (nat_lt j i) (λ less. grind (arith, nat_tests)) (λ more. grind (arith, nat_tests))
      where
        chosen : (c : Bool) → (c ≡ true → j < i) → (c ≡ false → i ≤ j) → IsFirstPlace r slots (Some (cond c j i))
        chosen true less more = let l = less refl in (y.0, right (slot slots j) y.1, λ k below. neither (slot slots k) (x.2 k (omega arith)) (y.2 k below))
        chosen false less more = let l = more refl in (x.0, left (slot slots i) x.1, λ k below. neither (slot slots k) (x.2 k below) (y.2 k (omega arith)))

-- tests that agree on the held slots have the same first place
pub IsFirstPlace-same : (p q : State → Bool) (slots : List State) (a : Option ℕ) → ((k : ℕ) → k < length slots → holds_one p (slot slots k) ≡ holds_one q (slot slots k)) → IsFirstPlace p slots a → IsFirstPlace q slots a
IsFirstPlace-same p q slots None same first = λ k inside. sym (same k inside) ∙ first k inside
IsFirstPlace-same p q slots (Some place) same first = (first.0, sym (same place first.0) ∙ first.1, λ k below. sym (same k (let h = first.0 in omega arith)) ∙ first.2 k below)

-- the states of a flow whose name is below a number
abbrev pub below_name : Flow → ℕ → State → Bool
below_name flow n s = nat_lt s.name n && matches_flow s.flow flow

-- there is none below 0
pub below_none : (flow : Flow) (slots : List State) → IsFirstPlace (below_name flow 0) slots None
below_none flow slots = λ k inside. grind (arith, nat_tests)

-- one more name
pub below_more : (flow : Flow) (n : ℕ) (s : State) → below_name flow (n + 1) s ≡ (below_name flow n s || considers flow (Named n) s)
below_more flow n s = spread (nat_lt s.name (n + 1)) (nat_lt s.name n) (n == s.name) (matches_flow s.flow flow) (grind (arith, nat_tests))
  where
    spread : (more less now matching : Bool) → more ≡ (less || now) → (more && matching) ≡ ((less && matching) || (now && matching))
    spread more true true true e = rw e refl
    spread more true true false e = rw e refl
    spread more true false true e = rw e refl
    spread more true false false e = rw e refl
    spread more false true true e = rw e refl
    spread more false true false e = rw e refl
    spread more false false true e = rw e refl
    spread more false false false e = rw e refl

-- below them all, whatever its name
pub below_all : (flow : Flow) (slots : List State) (lines : Lines) (a : Option ℕ) → Leads slots lines → IsFirstPlace (below_name flow lines.names_end) slots a → IsFirstPlace (considers flow Any) slots a
below_all flow slots lines a was first = IsFirstPlace-same (below_name flow lines.names_end) (considers flow Any) slots a (λ k inside. decided k (is_held (slot slots k)) refl (was.names k inside)) first
  where
    lt_is : (m n : ℕ) → m < n → nat_lt m n ≡ true
    lt_is m n less = grind (arith, nat_tests)

    decided : (k : ℕ) (held : Bool) → is_held (slot slots k) ≡ held → (is_held (slot slots k) ≡ true → (slot slots k).name < lines.names_end) → holds_one (below_name flow lines.names_end) (slot slots k) ≡ holds_one (considers flow Any) (slot slots k)
    decided k true is named = rw (lt_is (slot slots k).name lines.names_end (named is)) refl
    decided k false is named = rw is refl
