-- Gates that admit what several gates admit.
use Rattle.std.proofs.Common.{◌≡◌, ℕ, ◌+◌, ◌-◌, ◌*◌, ◌/◌, ◌<◌, ◌≤◌, true, false, Bool, nat_lt, List, [], ◌∷◌, ◌++◌, length, get_or, take, drop, slice_index, refl, ap, ◌∙◌, arith}
use Rattle.std.proofs.lemmas.Bool.Decides.{nat_tests}
use Rattle.std.proofs.lemmas.Bool.{and_parts}
use Rattle.std.proofs.lemmas.List.{get_or-drop, get_or-take, get_or_append_left, get_or_push, length-drop, length-take}
use Rattle.rule_gates.specs.Gates.{admits}
use Rattle.rule_gates.specs.Hulls.{IsPart, IsPartOfFamily, IsPartOfProtocol, IsUnder}
use Rattle.rule_gates.specs.Within.{is_within, AreWords}
use Rattle.rule_gates.specs.declared.gate.Gate.{Gate}
use Rattle.rule_gates.proofs.Admitted.{admits_by}

-- addresses that have a word of the first gate have one of the second
abbrev pub IsPartAt : Gate → Gate → Type 0
IsPartAt gate hull = (words : List ℕ) → AreWords words → is_within gate.source (slice_index words gate.source_word) ≡ true → is_within hull.source (slice_index words hull.source_word) ≡ true

-- the same of the addresses to which packets go
abbrev pub IsPartTo : Gate → Gate → Type 0
IsPartTo gate hull = (words : List ℕ) → AreWords words → is_within gate.destination (slice_index words gate.destination_word) ≡ true → is_within hull.destination (slice_index words hull.destination_word) ≡ true

-- a gate whose parts are those of the hull's
pub under_by : (gate hull : Gate) → IsPartAt gate hull → IsPartTo gate hull → IsPart gate.destination_ports hull.destination_ports
    → IsPartOfProtocol gate.protocol hull.protocol → IsPart gate.source_ports hull.source_ports → IsPartOfFamily gate.family hull.family
    → IsUnder gate hull
unfolding admits
under_by gate hull source destination destination_ports protocol source_ports family key admitted =
    let by_source = and_parts _ _ admitted in
    let by_destination = and_parts _ _ by_source.1 in
    let by_destination_ports = and_parts _ _ by_destination.1 in
    let by_protocol = and_parts _ _ by_destination_ports.1 in
    let by_source_ports = and_parts _ _ by_protocol.1 in
    admits_by hull key
    (source key.source key.worded.0 by_source.0)
    (destination key.destination key.worded.1 by_destination.0)
    (destination_ports key.destination_port by_destination_ports.0)
    (protocol key.protocol by_protocol.0)
    (source_ports key.source_port by_source_ports.0)
    (family key.is_six by_source_ports.1)

-- a list is longer by one
longer : (hulls : List Gate) (hull : Gate) → length (hulls ++ hull ∷ []) ≡ length hulls + 1
longer [] hull = refl
longer (h ∷ hulls) hull = let rest = longer hulls hull in omega arith

-- one hull more, over the thirty-two gates that come next, or what there is of them
pub one_more : (gates hulls next : List Gate) (start end : ℕ) (hull : Gate) → next ≡ hulls ++ hull ∷ [] → start ≡ length hulls * 32
    → ((place : ℕ) → place < start + 32 → place < length gates → place < end)
    → ((place : ℕ) (any : Gate) → place < length (take (end - start) (drop start gates)) → IsUnder (get_or (take (end - start) (drop start gates)) place any) hull)
    → ((place : ℕ) (any : Gate) → place < start → place < length gates → IsUnder (get_or gates place any) (get_or hulls (place / 32) any))
    → (start + 32 ≡ length next * 32)
    × ((place : ℕ) (any : Gate) → place < start + 32 → place < length gates → IsUnder (get_or gates place any) (get_or next (place / 32) any))
one_more gates hulls next start end hull is at reach over before =
    let more : length next ≡ length hulls + 1 = ap length is ∙ longer hulls hull in
    (omega arith, λ place any low within. go place any low within (nat_lt place start) refl)
  where
    go : (place : ℕ) (any : Gate) → place < start + 32 → place < length gates → (b : Bool) → nat_lt place start ≡ b → IsUnder (get_or gates place any) (get_or next (place / 32) any)
    go place any low within true earlier =
        let less : place < start = grind (arith, nat_tests) in
        let old : get_or next (place / 32) any ≡ get_or hulls (place / 32) any =
        ap (λ hs. get_or hs (place / 32) any) is ∙ get_or_append_left hulls (hull ∷ []) any (place / 32) (omega arith) in
        rw old (before place any less within)
    go place any low within false later =
        let from : start ≤ place = grind (arith, nat_tests) in
        let before_end : place < end = reach place low within in
        let whole : start + (place - start) ≡ place = omega arith in
        let new : get_or next (place / 32) any ≡ hull = ap (λ hs. get_or hs (place / 32) any) is ∙ get_or_push hulls hull any (place / 32) (omega arith) in
        let there : get_or (take (end - start) (drop start gates)) (place - start) any ≡ get_or gates place any =
        get_or-take (end - start) (drop start gates) (place - start) any (omega arith) ∙ get_or-drop start gates (place - start) any ∙ ap (λ i. get_or gates i any) whole in
        let dropped : length (drop start gates) ≡ length gates - start = length-drop start gates in
        let taken : place - start < length (take (end - start) (drop start gates)) = rw (length-take (end - start) (drop start gates)) (grind (arith, nat_tests)) in
        rw (new, ← there) (over (place - start) any taken)
