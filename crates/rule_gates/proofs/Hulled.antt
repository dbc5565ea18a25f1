-- Searches by hulls.
use Rattle.std.proofs.Common.{◌≡◌, ℕ, zero, suc, ◌+◌, ◌-◌, ◌*◌, ◌/◌, ◌<◌, ◌≤◌, Bool, true, false, nat_lt, List, [], ◌∷◌, length, get_or, drop, refl, sym, ap, ◌∙◌, arith}
use Rattle.std.proofs.lemmas.Bool.Decides.{nat_tests}
use Rattle.std.proofs.lemmas.List.{get_or-drop, get_or-take, length-drop}
use Rattle.std.proofs.lemmas.List.Sums.{position_or_len_is}
use Rattle.std.specs.List.{position_or_len}
use Rattle.rule_gates.specs.Gates.{admits}
use Rattle.rule_gates.specs.Hulls.{AreHulls, AreShut, IsUnder, covered}
use Rattle.rule_gates.specs.declared.gate.Gate.{Gate}
use Rattle.rule_gates.specs.declared.gate_key.GateKey.{GateKey}

-- a gate under a hull that doesn't admit the key
under_shut : (gate hull : Gate) (key : GateKey) → IsUnder gate hull → admits hull key ≡ false → admits gate key ≡ false
under_shut gate hull key under shut = go (admits gate key) refl
  where
    go : (b : Bool) → admits gate key ≡ b → admits gate key ≡ false
    go false is = is
    go true is = let held = under key is in absurd (cc)

-- gates of blocks before the first hull that admits the key are shut; further ones from a place on too
pub turn : (key : GateKey) (gates hulls : List Gate) (from place block start to : ℕ) → AreHulls gates hulls
    → AreShut key gates from place → AreShut key hulls (place / 32) block → AreShut key gates start to
    → (place < start → start ≤ block * 32) → start ≤ length gates
    → AreShut key gates from to
turn key gates hulls from place block start to are before over behind passed within = record {
  shut = λ at any low high. first at any low high (nat_lt at place) refl;
}
  where
    second : (at : ℕ) (any : Gate) → from ≤ at → at < to → place ≤ at → (b : Bool) → nat_lt at start ≡ b → admits (get_or gates at any) key ≡ false
    second at any low high past true is =
        let less : at < start = grind (arith, nat_tests) in
        let far : start ≤ block * 32 = passed (omega arith) in
        under_shut (get_or gates at any) (get_or hulls (at / 32) any) key (are.under at any (omega arith)) (over.shut (at / 32) any (omega arith) (omega arith))
    second at any low high past false is = behind.shut at any (grind (arith, nat_tests)) high

    first : (at : ℕ) (any : Gate) → from ≤ at → at < to → (b : Bool) → nat_lt at place ≡ b → admits (get_or gates at any) key ≡ false
    first at any low high true is = before.shut at any low (grind (arith, nat_tests))
    first at any low high false is = second at any low high (grind (arith, nat_tests)) (nat_lt at start) refl

-- the first place whose gate admits the key: none before it does, and it does, or it is the end
pub next_is : (key : GateKey) (gates : List Gate) (from place : ℕ) → from ≤ place → place - from ≤ length gates - from
    → AreShut key gates from place
    → (place < length gates → (any : Gate) → admits (get_or gates place any) key ≡ true)
    → place ≡ from + position_or_len (λ gate. admits gate key) (drop from gates)
next_is key [] from place least most shut found =
    let none : drop {A = Gate} from [] ≡ [] = drop_none from in
    rw none (omega arith)
  where
    drop_none : (n : ℕ) → drop {A = Gate} n [] ≡ []
    drop_none zero = refl
    drop_none (suc n) = refl
next_is key (gate ∷ gates) from place least most shut found =
    let all = gate ∷ gates in
    let rest : length (drop from all) ≡ length all - from = length-drop from all in
    let whole : from + (place - from) ≡ place = omega arith in
    let first : position_or_len (λ gate. admits gate key) (drop from all) ≡ place - from =
    position_or_len_is (λ gate. admits gate key) (drop from all) (place - from) gate (omega arith)
    (λ k less. ap (λ g. admits g key) (get_or-drop from all k gate) ∙ shut.shut (from + k) gate (omega arith) (omega arith))
    (λ less. ap (λ g. admits g key) (get_or-drop from all (place - from) gate ∙ ap (λ i. get_or all i gate) whole) ∙ found (omega arith) gate) in
    omega arith

-- shut up to a place, and from there on
pub shut_on : (key : GateKey) (gates : List Gate) (from middle to : ℕ) → AreShut key gates from middle → AreShut key gates middle to → AreShut key gates from to
shut_on key gates from middle to first second = record {
  shut = λ at any low high. go at any low high (nat_lt at middle) refl;
}
  where
    go : (at : ℕ) (any : Gate) → from ≤ at → at < to → (b : Bool) → nat_lt at middle ≡ b → admits (get_or gates at any) key ≡ false
    go at any low high true is = first.shut at any low (grind (arith, nat_tests))
    go at any low high false is = second.shut at any (grind (arith, nat_tests)) high

-- of all gates, what is said of those but the last one
pub shut_whole : (key : GateKey) (gates : List Gate) (from to : ℕ) → to - from ≤ length gates - 1 - from → AreShut key (covered gates) from to → AreShut key gates from to
shut_whole key gates from to most shut = record {
  shut = λ at any low high. ap (λ g. admits g key) (sym (get_or-take (length gates - 1) gates at any (omega arith))) ∙ shut.shut at any low high;
}
