-- There is one value of the facts of a publication.
use Rattle.std.proofs.Common.{◌≡◌, ℕ, ◌≤◌, Bool, true, false, ◌||◌, nat_lt, List, [], ◌∷◌, refl, sym, ap, ◌∙◌, subst, arith, eq-eqb}
use Rattle.std.proofs.Props.{props}
use Rattle.std.proofs.lemmas.Bool.{and_parts}
use Rattle.std.proofs.lemmas.Bool.Decides.{nat_tests}
use Rattle.std.specs.Prelude.{◌==◌, IsTrue}
use Rattle.state_asks.specs.Facts.{rises_from, is_rule_list}
use Rattle.state_asks.specs.RuleLists.{has_id}
use Rattle.state_asks.specs.declared.facts.Facts.{Facts}
use Rattle.fw_rule.specs.Settings.{IsLifetime, IsMostStates}
use Rattle.fw_rule.specs.Values.{Values, values_of}
use Rattle.fw_rule.specs.declared.settings.Settings.{Settings}

-- the ranges that all settings keep
record AreInRange (v : Values) : Type 0 where
  ack : IsLifetime v.ack
  syn : IsLifetime v.syn
  fin : IsLifetime v.fin
  rst : IsLifetime v.rst
  udp : IsLifetime v.udp
  short : IsLifetime v.short
  max : IsMostStates v.max

-- a range is kept in one way
in_range_one : (v : Values) (p q : AreInRange v) → p ≡ q
in_range_one v = hlevel props

-- the settings of these values
settings_with : (v : Values) → AreInRange v → Settings
settings_with v p = record {
  ack = v.ack;
  syn = v.syn;
  fin = v.fin;
  rst = v.rst;
  udp = v.udp;
  short = v.short;
  max = v.max;
  keep = v.keep;
  ack_in_range = p.ack;
  syn_in_range = p.syn;
  fin_in_range = p.fin;
  rst_in_range = p.rst;
  udp_in_range = p.udp;
  short_in_range = p.short;
  max_in_range = p.max;
}

-- their ranges
ranges_of : (s : Settings) → AreInRange (values_of s)
ranges_of s = record { ack = s.ack_in_range; syn = s.syn_in_range; fin = s.fin_in_range; rst = s.rst_in_range; udp = s.udp_in_range; short = s.short_in_range; max = s.max_in_range }

same_values : (v w : Values) → v ≡ w → (p : AreInRange v) (q : AreInRange w) → settings_with v p ≡ settings_with w q
same_values v w same p =
    subst (λ (x : Values). (q : AreInRange x) → settings_with v p ≡ settings_with x q) same (λ q. ap (settings_with v) (in_range_one v p q))

-- settings of the same values are the same
same_settings : (a b : Settings) → values_of a ≡ values_of b → a ≡ b
unfolding settings_with ranges_of
same_settings a b same = same_values (values_of a) (values_of b) same (ranges_of a) (ranges_of b)

-- identities that rise have none up to the least
none_below : (least : ℕ) (ids : List ℕ) (id : ℕ) → rises_from least ids ≡ true → id ≤ least → has_id ids id ≡ false
none_below least [] id rises below = refl
none_below least (first ∷ ids) id rises below =
    let (above, rest) = and_parts (nat_lt least first) (rises_from first ids) rises in
    let no : (first == id) ≡ false = grind (arith, nat_tests) in
    rw no (none_below first ids id rest (grind (arith, nat_tests)))

-- the first identity is one of all
first_there : (first : ℕ) (ids : List ℕ) → has_id (first ∷ ids) first ≡ true
first_there first ids = rw (eq-eqb first first refl) refl

-- lists that rise behind one first identity have the same others
others_same : (first : ℕ) (xs ys : List ℕ) → rises_from first xs ≡ true → rises_from first ys ≡ true → ((id : ℕ) → has_id (first ∷ xs) id ≡ has_id (first ∷ ys) id)
    → (id : ℕ) → has_id xs id ≡ has_id ys id
others_same first xs ys rise climb same id = decided (first == id) refl (same id)
  where
    decided : (b : Bool) → (first == id) ≡ b → (b || has_id xs id) ≡ (b || has_id ys id) → has_id xs id ≡ has_id ys id
    decided true is alike = none_below first xs id rise (grind (arith, nat_tests)) ∙ sym (none_below first ys id climb (grind (arith, nat_tests)))
    decided false is alike = alike

-- an identity below the first of a list isn't one of it
not_before : (least x y : ℕ) (ys : List ℕ) → rises_from least (y ∷ ys) ≡ true → has_id (y ∷ ys) x ≡ true → y ≤ x
not_before least x y ys climb there = decided (nat_lt x y) refl
  where
    decided : (b : Bool) → nat_lt x y ≡ b → y ≤ x
    decided true is =
        let (above, rest) = and_parts (nat_lt least y) (rises_from y ys) climb in
        let behind : rises_from x (y ∷ ys) ≡ true = rw (is, rest) refl in
        let none = none_below x (y ∷ ys) x behind (omega arith) in
        absurd (cc)
    decided false is = grind (arith, nat_tests)

-- lists that rise and have the same identities are the same
same_ids : (least : ℕ) (xs ys : List ℕ) → rises_from least xs ≡ true → rises_from least ys ≡ true → ((id : ℕ) → has_id xs id ≡ has_id ys id) → xs ≡ ys
same_ids least [] [] rise climb same = refl
same_ids least [] (y ∷ ys) rise climb same = let there = first_there y ys in let none = same y in absurd (cc)
same_ids least (x ∷ xs) [] rise climb same = let there = first_there x xs in let none = same x in absurd (cc)
same_ids least (x ∷ xs) (y ∷ ys) rise climb same =
    let up : y ≤ x = not_before least x y ys climb (sym (same x) ∙ first_there x xs) in
    let down : x ≤ y = not_before least y x xs rise (same y ∙ first_there y ys) in
    let first : y ≡ x = omega arith in
    let (above, rest) = and_parts (nat_lt least x) (rises_from x xs) rise in
    let (over, others) = and_parts (nat_lt least y) (rises_from y ys) climb in
    let behind : rises_from x ys ≡ true = ap (λ (n : ℕ). rises_from n ys) (sym first) ∙ others in
    let alike : (id : ℕ) → has_id (x ∷ xs) id ≡ has_id (x ∷ ys) id = subst (λ (n : ℕ). (id : ℕ) → has_id (x ∷ xs) id ≡ has_id (n ∷ ys) id) first same in
    ap (λ (n : ℕ). n ∷ xs) (sym first) ∙ ap (λ (l : List ℕ). y ∷ l) (same_ids x xs ys rest behind (others_same x xs ys rest behind alike))

-- so are the identities of all facts
same_rules : (xs ys : List ℕ) → is_rule_list xs ≡ true → is_rule_list ys ≡ true → ((id : ℕ) → has_id xs id ≡ has_id ys id) → xs ≡ ys
same_rules [] ys rise climb same = absurd (cc)
same_rules (x ∷ xs) [] rise climb same = absurd (cc)
same_rules (x ∷ xs) (y ∷ ys) rise climb same =
    let (zero, rest) = and_parts (x == 0) (rises_from 0 xs) rise in
    let (null, others) = and_parts (y == 0) (rises_from 0 ys) climb in
    let one : x ≡ 0 = grind (arith, nat_tests) in
    let two : y ≡ 0 = grind (arith, nat_tests) in
    let alike : (id : ℕ) → has_id (0 ∷ xs) id ≡ has_id (0 ∷ ys) id = subst (λ (n : ℕ). (id : ℕ) → has_id (0 ∷ xs) id ≡ has_id (n ∷ ys) id) two (subst (λ (n : ℕ). (id : ℕ) → has_id (n ∷ xs) id ≡ has_id (y ∷ ys) id) one same) in
    ap (λ (n : ℕ). n ∷ xs) (one ∙ sym two) ∙ ap (λ (l : List ℕ). y ∷ l) (same_ids 0 xs ys rest others (others_same 0 xs ys rest others alike))

-- the facts of these parts
facts_with : (number : ℕ) (rules : List ℕ) (settings : Settings) → IsTrue (is_rule_list rules) → Facts
facts_with number rules settings ordered = record { number = number; rules = rules; settings = settings; ordered = ordered }

-- identities ascend in one way
ordered_one : (rules : List ℕ) (p q : IsTrue (is_rule_list rules)) → p ≡ q
ordered_one rules = hlevel props

facts_of_rules : (number : ℕ) (xs ys : List ℕ) (settings : Settings) → xs ≡ ys → (p : IsTrue (is_rule_list xs)) (q : IsTrue (is_rule_list ys)) → facts_with number xs settings p ≡ facts_with number ys settings q
facts_of_rules number xs ys settings same p =
    subst (λ (l : List ℕ). (q : IsTrue (is_rule_list l)) → facts_with number xs settings p ≡ facts_with number l settings q) same (λ q. ap (facts_with number xs settings) (ordered_one xs p q))

-- facts of the same number, identities and settings are the same
pub same_facts : (a b : Facts) → a.number ≡ b.number → ((id : ℕ) → has_id a.rules id ≡ has_id b.rules id) → values_of a.settings ≡ values_of b.settings → a ≡ b
unfolding facts_with
same_facts a b numbered ruled set =
    facts_of_rules a.number a.rules b.rules a.settings (same_rules a.rules b.rules a.ordered b.ordered ruled) a.ordered b.ordered
    ∙ ap (λ (n : ℕ). facts_with n b.rules a.settings b.ordered) numbered
    ∙ ap (λ (s : Settings). facts_with b.number b.rules s b.ordered) (same_settings a.settings b.settings set)
