-- No two rules have one identity, and no two one counter number: what keeps this.
use Rattle.std.proofs.Common.{◌≡◌, ◌≢◌, ℕ, ◌+◌, ◌<◌, Bool, true, false, cond, nat_lt, List, [], ◌∷◌, map, sym, ◌∙◌, arith}
use Rattle.std.specs.List.{filter, AllByRecursion}
use Rattle.fw_base.proofs.Lists.{all_weaker}
use Rattle.fw_rule.specs.declared.rule.Rule.{Rule}
use Rattle.rule_chain.specs.Chain.{DifferBy, HaveOwnIds, DifferInCounters, IsRule}
use Rattle.rule_edits.specs.Rules.{insert_rule, renumber, in_set_for}
use Rattle.rule_edits.proofs.Lists.{all-filter, all-map}

module _ (key : Rule → ℕ) where
  -- fewer rules differ by the key still
  pub filter_own : (p : Rule → Bool) (rules : List Rule) → DifferBy key rules → DifferBy key (filter p rules)
  filter_own p [] h = tt
  filter_own p (r ∷ rules) h =
      elim (p r) as (λ b. DifferBy key (cond b (r ∷ filter p rules) (filter p rules))) [
        | true ↦ (all-filter (λ other. key other ≢ key r) p rules h.0, filter_own p rules h.1)
        | false ↦ filter_own p rules h.1
      ]

  -- and so do rules that change their sets
  pub move_own : (set_for : Rule → ℕ) → ((r : Rule) → key (in_set_for set_for r) ≡ key r) → (rules : List Rule) → DifferBy key rules → DifferBy key (map (in_set_for set_for) rules)
  move_own set_for same [] h = tt
  move_own set_for same (r ∷ rules) h =
      let moved = all-map (λ other. key other ≢ key r) (in_set_for set_for) (λ x other is. other (sym (same x) ∙ is)) rules h.0 in
      (all_weaker (λ other. key other ≢ key r) (λ other. key other ≢ key (in_set_for set_for r)) (λ x other is. other (is ∙ same r)) (map (in_set_for set_for) rules) moved, move_own set_for same rules h.1)

  others_inserted : (value : ℕ) (rule : Rule) (rules : List Rule) → key rule ≢ value → AllByRecursion (λ other. key other ≢ value) rules → AllByRecursion (λ other. key other ≢ value) (insert_rule rule rules)
  unfolding insert_rule
  others_inserted value rule [] one all = (one, tt)
  others_inserted value rule (r ∷ rules) one all =
      elim (nat_lt rule.number r.number) as (λ b. AllByRecursion (λ other. key other ≢ value) (cond b (rule ∷ r ∷ rules) (r ∷ insert_rule rule rules))) [
        | true ↦ (one, all)
        | false ↦ (all.0, others_inserted value rule rules one all.1)
      ]

  insert_own : (rule : Rule) (rules : List Rule) → AllByRecursion (λ other. key other ≢ key rule) rules → DifferBy key rules → DifferBy key (insert_rule rule rules)
  unfolding insert_rule
  insert_own rule [] others h = (tt, tt)
  insert_own rule (r ∷ rules) others h =
      elim (nat_lt rule.number r.number) as (λ b. DifferBy key (cond b (rule ∷ r ∷ rules) (r ∷ insert_rule rule rules))) [
        | true ↦ (others, h)
        | false ↦ (others_inserted (key r) rule rules (λ is. others.0 (sym is)) h.0, insert_own rule rules others.1 h.1)
      ]

-- an identity above all others is an own one
pub insert_ids : (id counter : ℕ) (rule : Rule) (rules : List Rule) → id < rule.id → AllByRecursion (IsRule id counter) rules → HaveOwnIds rules → HaveOwnIds (insert_rule rule rules)
insert_ids id counter rule rules above all h =
    insert_own (λ r. r.id) rule rules (all_weaker (IsRule id counter) (λ (other : Rule). other.id ≢ rule.id) (λ other is same. let low = is.id in omega arith) rules all) h

-- and so is a counter number
pub insert_counters : (id counter : ℕ) (rule : Rule) (rules : List Rule) → counter < rule.counter → AllByRecursion (IsRule id counter) rules → DifferInCounters rules → DifferInCounters (insert_rule rule rules)
insert_counters id counter rule rules above all h =
    insert_own (λ r. r.counter) rule rules (all_weaker (IsRule id counter) (λ (other : Rule). other.counter ≢ rule.counter) (λ other is same. let low = is.counter in omega arith) rules all) h

others_renumbered : (test : Rule → Bool) (id n : ℕ) (rules : List Rule) → AllByRecursion (λ other. other.id ≢ id) rules → AllByRecursion (λ other. other.id ≢ id) (renumber test n rules)
unfolding renumber
others_renumbered test id n [] all = tt
others_renumbered test id n (r ∷ rules) all =
    elim (test r) as (λ b. AllByRecursion (λ other. other.id ≢ id) (cond b (record r { counter = n } ∷ renumber test (n + 1) rules) (r ∷ renumber test n rules))) [
      | true ↦ (all.0, others_renumbered test id (n + 1) rules all.1)
      | false ↦ (all.0, others_renumbered test id n rules all.1)
    ]

-- fresh counter numbers change no identity
pub renumber_ids : (test : Rule → Bool) (n : ℕ) (rules : List Rule) → HaveOwnIds rules → HaveOwnIds (renumber test n rules)
unfolding renumber
renumber_ids test n [] h = tt
renumber_ids test n (r ∷ rules) h =
    elim (test r) as (λ b. HaveOwnIds (cond b (record r { counter = n } ∷ renumber test (n + 1) rules) (r ∷ renumber test n rules))) [
      | true ↦ (others_renumbered test r.id (n + 1) rules h.0, renumber_ids test (n + 1) rules h.1)
      | false ↦ (others_renumbered test r.id n rules h.0, renumber_ids test n rules h.1)
    ]

-- a counter number that no rule has, and that lies below the fresh ones, isn't given to any
unused : (test : Rule → Bool) (counter n : ℕ) (rules : List Rule) → counter < n → AllByRecursion (λ other. other.counter ≢ counter) rules → AllByRecursion (λ other. other.counter ≢ counter) (renumber test n rules)
unfolding renumber
unused test counter n [] below all = tt
unused test counter n (r ∷ rules) below all =
    elim (test r) as (λ b. AllByRecursion (λ other. other.counter ≢ counter) (cond b (record r { counter = n } ∷ renumber test (n + 1) rules) (r ∷ renumber test n rules))) [
      | true ↦ (λ is. absurd (omega arith), unused test counter (n + 1) rules (omega arith) all.1)
      | false ↦ (all.0, unused test counter n rules below all.1)
    ]

-- fresh counter numbers, above all that were given out, are own ones
pub renumber_counters : (test : Rule → Bool) (id counter n : ℕ) (rules : List Rule) → counter < n → AllByRecursion (IsRule id counter) rules → DifferInCounters rules → DifferInCounters (renumber test n rules)
unfolding renumber
renumber_counters test id counter n [] above all h = tt
renumber_counters test id counter n (r ∷ rules) above all h =
    let low = all.0.counter in
    let others = all_weaker (IsRule id counter) (λ (other : Rule). other.counter ≢ n) (λ other is same. let below = is.counter in omega arith) rules all.1 in
    elim (test r) as (λ b. DifferInCounters (cond b (record r { counter = n } ∷ renumber test (n + 1) rules) (r ∷ renumber test n rules))) [
      | true ↦ (unused test n (n + 1) rules (omega arith) others, renumber_counters test id counter (n + 1) rules (omega arith) all.1 h.1)
      | false ↦ (unused test r.counter n rules (omega arith) h.0, renumber_counters test id counter n rules above all.1 h.1)
    ]
