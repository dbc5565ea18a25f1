-- Rules in number order with rule 65535 at their end: what keeps this.
use Rattle.std.proofs.Common.{◌≡◌, ℕ, zero, ◌+◌, ◌≤◌, ◌<◌, Bool, true, false, cond, nat_lt, List, [], ◌∷◌, map, refl, ap, ◌∙◌, arith}
use Rattle.std.specs.List.{filter}
use Rattle.fw_rule.specs.declared.rule.Rule.{Rule}
use Rattle.rule_chain.proofs.Chains.{number_of_last}
use Rattle.rule_chain.specs.Chain.{AscendsFrom}
use Rattle.rule_chain.specs.LastRule.{last_rule}
use Rattle.rule_edits.specs.Rules.{insert_rule, renumber, in_set_for}

-- rules whose numbers ascend from a number on do so from any lower one
pub weaken : (a b : ℕ) (rules : List Rule) → a ≤ b → AscendsFrom b rules → AscendsFrom a rules
weaken a b [] le h = h
weaken a b (r ∷ []) le h = h
weaken a b (r ∷ s ∷ rules) le h = (omega (arith, h.0), h.1, h.2)

-- a rule before rules with no lower number leaves the numbers ascending
pub put_first : (a : ℕ) (r : Rule) (rules : List Rule) → a ≤ r.number → r.number < 65535 → AscendsFrom r.number rules → AscendsFrom a (r ∷ rules)
put_first a r [] le less h = absurd h
put_first a r (s ∷ rules) le less h = (le, less, h)

-- rules that are left, rule 65535 among them, stay in their order with it at the end
pub filter_keeps : (p : Rule → Bool) → ((k : ℕ) → p (last_rule k) ≡ true) → (a : ℕ) (rules : List Rule) → AscendsFrom a rules → AscendsFrom a (filter p rules)
filter_keeps p last a [] h = h
filter_keeps p last a (r ∷ []) h =
    let passes : p r ≡ true = ap p h ∙ last r.counter in
    rw passes h
filter_keeps p last a (r ∷ s ∷ rules) h =
    let rest = filter_keeps p last r.number (s ∷ rules) h.2 in
    elim (p r) as (λ b. AscendsFrom a (cond b (r ∷ filter p (s ∷ rules)) (filter p (s ∷ rules)))) [
      | true ↦ put_first a r (filter p (s ∷ rules)) h.0 h.1 rest
      | false ↦ weaken a r.number (filter p (s ∷ rules)) h.0 rest
    ]

last_moved : (set_for : Rule → ℕ) → ((k : ℕ) → set_for (last_rule k) ≡ 31) → (k : ℕ) (r : Rule) → r ≡ last_rule k → in_set_for set_for r ≡ last_rule k
last_moved set_for last k r is =
    ap (in_set_for set_for) is ∙ ap (λ (n : ℕ). with_set n) (last k)
  where
    with_set : ℕ → Rule
    with_set n = let l : Rule = last_rule k in record l { set = n }

-- rules that change their sets, but not rule 65535, stay in their order with it at the end
pub move_keeps : (set_for : Rule → ℕ) → ((k : ℕ) → set_for (last_rule k) ≡ 31) → (a : ℕ) (rules : List Rule) → AscendsFrom a rules → AscendsFrom a (map (in_set_for set_for) rules)
move_keeps set_for last a [] h = h
move_keeps set_for last a (r ∷ []) h = last_moved set_for last r.counter r h
move_keeps set_for last a (r ∷ s ∷ rules) h = (h.0, h.1, move_keeps set_for last r.number (s ∷ rules) h.2)

with_counter : ℕ → Rule → Rule
with_counter n r = record r { counter = n }

last_zeroed : (n k : ℕ) (r : Rule) → r ≡ last_rule k → with_counter n r ≡ last_rule n
unfolding with_counter
last_zeroed n k r is = ap (λ (x : Rule). with_counter n x) is

-- fresh counter numbers leave the rules in their order, with rule 65535 at the end
pub renumber_keeps : (test : Rule → Bool) (a n : ℕ) (rules : List Rule) → AscendsFrom a rules → AscendsFrom a (renumber test n rules)
unfolding renumber with_counter
renumber_keeps test a n [] h = h
renumber_keeps test a n (r ∷ []) h =
    elim (test r) as (λ b. AscendsFrom a (cond b (record r { counter = n } ∷ []) (r ∷ []))) [ true ↦ last_zeroed n r.counter r h | false ↦ h ]
renumber_keeps test a n (r ∷ s ∷ rules) h =
    elim (test r) as (λ b. AscendsFrom a (cond b (record r { counter = n } ∷ renumber test (n + 1) (s ∷ rules)) (r ∷ renumber test n (s ∷ rules)))) [
      | true ↦ put_first a (record r { counter = n }) (renumber test (n + 1) (s ∷ rules)) h.0 h.1 (renumber_keeps test r.number (n + 1) (s ∷ rules) h.2)
      | false ↦ put_first a r (renumber test n (s ∷ rules)) h.0 h.1 (renumber_keeps test r.number n (s ∷ rules) h.2)
    ]

-- a rule that is inserted leaves the rules in their order, with rule 65535 at the end
pub insert_keeps : (rule : Rule) → rule.number < 65535 → (a : ℕ) (rules : List Rule) → a ≤ rule.number → AscendsFrom a rules → AscendsFrom a (insert_rule rule rules)
unfolding insert_rule
insert_keeps rule less a [] le h = absurd h
insert_keeps rule less a (r ∷ []) le h =
    let below : nat_lt rule.number r.number ≡ true = rw (number_of_last r.counter r h) (grind arith) in
    rw below (le, less, h)
insert_keeps rule less a (r ∷ s ∷ rules) le h =
    elim (nat_lt rule.number r.number) as (λ b. nat_lt rule.number r.number ≡ b → AscendsFrom a (cond b (rule ∷ r ∷ s ∷ rules) (r ∷ insert_rule rule (s ∷ rules)))) [
      | true ↦ λ is. (le, less, (grind arith, h.1, h.2))
      | false ↦ λ is. put_first a r (insert_rule rule (s ∷ rules)) h.0 h.1 (insert_keeps rule less r.number (s ∷ rules) (grind arith) h.2)
    ] refl
