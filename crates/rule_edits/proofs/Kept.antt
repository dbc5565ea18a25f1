-- What holds in every configuration is kept by each command.
use Rattle.std.proofs.Common.{◌≡◌, ℕ, suc, ◌+◌, ◌-◌, ◌≤◌, ◌<◌, Bool, true, false, cond, nat_lt, List, [], ◌∷◌, map, length, refl, ap, arith, ◌≢◌, ◌||◌, not, if◌then◌else◌, Some, None, bit_or}
use Rattle.std.specs.Prelude.{◌==◌}
use Rattle.std.specs.Option.{option_or}
use Rattle.std.proofs.lemmas.Bool.Decides.{nat_tests}
use Rattle.std.proofs.lemmas.Nat.{or_lt, and_le_l}
use Rattle.std.specs.List.{filter, AllByRecursion}
use Rattle.fw_base.proofs.Lists.{all_weaker}
use Rattle.fw_rule.specs.WellFormed.{IsSet, IsDraft}
use Rattle.fw_rule.specs.declared.rule.Rule.{Rule}
use Rattle.fw_rule.specs.declared.rule_draft.RuleDraft.{RuleDraft}
use Rattle.lookup_tables.specs.Tables.{NamedTables}
use Rattle.rule_chain.specs.Chain.{IsRule, IsConfiguration}
use Rattle.rule_chain.specs.Configuration.{Configuration}
use Rattle.rule_edits.specs.Answers.{first_fault}
use Rattle.rule_edits.specs.Apply.{deletion_fault, mask_after}
use Rattle.rule_chain.specs.Names.{IsNamed}
use Rattle.rule_edits.specs.declared.apply_fault.ApplyFault.TheVariants.{NoSuchRule, ReservedRule}
use Rattle.rule_chain.specs.LastRule.{last_rule}
use Rattle.rule_edits.specs.Rules.{rule_of, insert_rule, renumber, count_of, in_set_for, move_rules, set_moved, set_of_number, set_swapped, is_among, is_named, has_rule}
use Rattle.rule_edits.proofs.Chains.{filter_keeps, move_keeps, renumber_keeps, insert_keeps}
use Rattle.rule_edits.proofs.FlowNames.{Keeps, stays_named}
use Rattle.rule_edits.proofs.Lists.{length-filter_le, all-filter, all-map}
use Rattle.rule_edits.proofs.Own.{filter_own, move_own, renumber_ids, renumber_counters, insert_ids, insert_counters}

-- where rules go, but not rule 65535, what holds in every configuration holds still
pub filter_kept : (c : Configuration) (p : Rule → Bool) → ((k : ℕ) → p (last_rule k) ≡ true) → IsConfiguration c → IsConfiguration (record c { rules = filter p c.rules })
filter_kept c p last h =
    let ordered = filter_keeps p last 1 c.rules h.ordered in
    let distinct = filter_own (λ r. r.id) p c.rules h.distinct in
    let counted = filter_own (λ r. r.counter) p c.rules h.counted in
    record {
      ordered = ordered;
      rules = all-filter (IsRule c.greatest_id c.greatest_counter) p c.rules h.rules;
      distinct = distinct;
      counted = counted;
      names = h.names;
      named = all-filter (IsNamed c.names) p c.rules h.named;
      held = let less = length-filter_le p c.rules in omega (arith, h.held, less);
      ids = h.ids;
      counters = h.counters;
      disabled = h.disabled;
    }

rule_moved : (set_for : Rule → ℕ) → ((r : Rule) → IsSet r.set → IsSet (set_for r)) → (i n : ℕ) (r : Rule) → IsRule i n r → IsRule i n (in_set_for set_for r)
rule_moved set_for in_range i n r h = record {
  number = h.number;
  set = in_range r h.set;
  id = h.id;
  counter = h.counter;
  action = h.action;
  log = h.log;
  body = h.body;
}

length_moved : (set_for : Rule → ℕ) (rules : List Rule) → length (map (in_set_for set_for) rules) ≡ length rules
length_moved set_for [] = refl
length_moved set_for (r ∷ rules) = ap suc (length_moved set_for rules)

-- where rules change their sets, but not rule 65535, what holds in every configuration holds still
pub move_kept : (c : Configuration) (set_for : Rule → ℕ) → ((k : ℕ) → set_for (last_rule k) ≡ 31) → ((r : Rule) → IsSet r.set → IsSet (set_for r)) → IsConfiguration c → IsConfiguration (record c { rules = move_rules set_for c.rules })
move_kept c set_for last in_range h =
    let ordered = move_keeps set_for last 1 c.rules h.ordered in
    let distinct = move_own (λ r. r.id) set_for (λ r. refl) c.rules h.distinct in
    let counted = move_own (λ r. r.counter) set_for (λ r. refl) c.rules h.counted in
    record {
      ordered = ordered;
      rules = all-map (IsRule c.greatest_id c.greatest_counter) (in_set_for set_for) (rule_moved set_for in_range c.greatest_id c.greatest_counter) c.rules h.rules;
      distinct = distinct;
      counted = counted;
      names = h.names;
      named = all-map (IsNamed c.names) (in_set_for set_for) (λ rule named. named) c.rules h.named;
      held = let same = length_moved set_for c.rules in omega (arith, h.held, same);
      ids = h.ids;
      counters = h.counters;
      disabled = h.disabled;
    }

rule_within : (i j n m : ℕ) → i ≤ j → n ≤ m → (r : Rule) → IsRule i n r → IsRule j m r
rule_within i j n m ids counters r h = record {
  number = h.number;
  set = h.set;
  id = omega (arith, h.id);
  counter = omega (arith, h.counter);
  action = h.action;
  log = h.log;
  body = h.body;
}

rule_zeroed : (i n m next : ℕ) → next ≤ m → (r : Rule) → IsRule i n r → IsRule i m (record r { counter = next })
rule_zeroed i n m next within r h = record {
  number = h.number;
  set = h.set;
  id = h.id;
  counter = within;
  action = h.action;
  log = h.log;
  body = h.body;
}

all_zeroed : (test : Rule → Bool) (i n m next : ℕ) (rules : List Rule) → n ≤ m → next + count_of test rules ≤ m + 1 → AllByRecursion (IsRule i n) rules → AllByRecursion (IsRule i m) (renumber test next rules)
unfolding renumber
all_zeroed test i n m next [] le room all = tt
all_zeroed test i n m next (r ∷ rules) le room all =
    elim (test r) as (λ b. next + length (cond b (r ∷ filter test rules) (filter test rules)) ≤ m + 1 → AllByRecursion (IsRule i m) (cond b (record r { counter = next } ∷ renumber test (next + 1) rules) (r ∷ renumber test next rules))) [
      | true ↦ λ more. (rule_zeroed i n m next (omega arith) r all.0, all_zeroed test i n m (next + 1) rules le (omega arith) all.1)
      | false ↦ λ same. (rule_within i i n m (omega arith) le r all.0, all_zeroed test i n m next rules le same all.1)
    ] room

-- a fresh counter number changes no rule's name
all_named : (names : List (List ℕ)) (test : Rule → Bool) (next : ℕ) (rules : List Rule) → AllByRecursion (IsNamed names) rules → AllByRecursion (IsNamed names) (renumber test next rules)
unfolding renumber
all_named names test next [] all = tt
all_named names test next (r ∷ rules) all =
    elim (test r) as (λ b. AllByRecursion (IsNamed names) (cond b (record r { counter = next } ∷ renumber test (next + 1) rules) (r ∷ renumber test next rules))) [
      | true ↦ (all.0, all_named names test (next + 1) rules all.1)
      | false ↦ (all.0, all_named names test next rules all.1)
    ]

length_zeroed : (test : Rule → Bool) (next : ℕ) (rules : List Rule) → length (renumber test next rules) ≡ length rules
unfolding renumber
length_zeroed test next [] = refl
length_zeroed test next (r ∷ rules) =
    elim (test r) as (λ b. length (cond b (record r { counter = next } ∷ renumber test (next + 1) rules) (r ∷ renumber test next rules)) ≡ suc (length rules)) [
      | true ↦ ap suc (length_zeroed test (next + 1) rules)
      | false ↦ ap suc (length_zeroed test next rules)
    ]

-- where rules get fresh counter numbers, what holds in every configuration holds still
pub zero_kept : (c : Configuration) (test : Rule → Bool) → c.greatest_counter + count_of test c.rules < 16777216 → IsConfiguration c
    → IsConfiguration (record c { rules = renumber test (c.greatest_counter + 1) c.rules; greatest_counter = c.greatest_counter + count_of test c.rules })
zero_kept c test room h =
    let ordered = renumber_keeps test 1 (c.greatest_counter + 1) c.rules h.ordered in
    let distinct = renumber_ids test (c.greatest_counter + 1) c.rules h.distinct in
    let counted = renumber_counters test c.greatest_id c.greatest_counter (c.greatest_counter + 1) c.rules (omega arith) h.rules h.counted in
    record {
      ordered = ordered;
      rules = all_zeroed test c.greatest_id c.greatest_counter (c.greatest_counter + count_of test c.rules) (c.greatest_counter + 1) c.rules (omega arith) (omega arith) h.rules;
      distinct = distinct;
      counted = counted;
      names = h.names;
      named = all_named c.names test (c.greatest_counter + 1) c.rules h.named;
      held = let same = length_zeroed test (c.greatest_counter + 1) c.rules in omega (arith, h.held, same);
      ids = omega (arith, h.ids);
      counters = room;
      disabled = h.disabled;
    }

all_inserted : (P : Rule → Type 0) (rule : Rule) → P rule → (rules : List Rule) → AllByRecursion P rules → AllByRecursion P (insert_rule rule rules)
unfolding insert_rule
all_inserted P rule one [] all = (one, tt)
all_inserted P rule one (r ∷ rules) all =
    elim (nat_lt rule.number r.number) as (λ b. AllByRecursion P (cond b (rule ∷ r ∷ rules) (r ∷ insert_rule rule rules))) [
      | true ↦ (one, all)
      | false ↦ (all.0, all_inserted P rule one rules all.1)
    ]

length_inserted : (rule : Rule) (rules : List Rule) → length (insert_rule rule rules) ≡ suc (length rules)
unfolding insert_rule
length_inserted rule [] = refl
length_inserted rule (r ∷ rules) =
    elim (nat_lt rule.number r.number) as (λ b. length (cond b (rule ∷ r ∷ rules) (r ∷ insert_rule rule rules)) ≡ suc (suc (length rules))) [
      | true ↦ refl
      | false ↦ ap suc (length_inserted rule rules)
    ]

-- the rule of a well-formed draft has its parts in their ranges
pub drafted : (draft : RuleDraft) (number id counter : ℕ) → 1 ≤ number → number < 65535 → IsDraft draft → IsRule id counter (rule_of draft number id counter)
drafted draft number id counter least less h = record {
  number = record { least_le = least; most_ge = omega arith };
  set = h.set;
  id = omega arith;
  counter = omega arith;
  action = h.action;
  log = h.log;
  body = h.body;
}

-- where a rule was added, what holds in every configuration holds still
pub add_kept : (c d : Configuration) (rule : Rule) → rule.number < 65535 → c.greatest_id < rule.id → c.greatest_counter < rule.counter → IsRule (c.greatest_id + 1) (c.greatest_counter + 1) rule → length c.rules < 65535 → c.greatest_counter + 1 < 16777216
    → Keeps c.names d.names → IsNamed d.names rule → d.rules ≡ insert_rule rule c.rules → d.greatest_id ≡ c.greatest_id + 1 → d.greatest_counter ≡ c.greatest_counter + 1 → d.disabled ≡ c.disabled
    → IsConfiguration c → IsConfiguration d
add_kept c d rule less new_id new_counter is room counters made named rules ids greatest disabled h =
    let ordered = insert_keeps rule less 1 c.rules is.number.least_le h.ordered in
    let distinct = insert_ids c.greatest_id c.greatest_counter rule c.rules new_id h.rules h.distinct in
    let counted = insert_counters c.greatest_id c.greatest_counter rule c.rules new_counter h.rules h.counted in
    record {
      ordered = rw rules ordered;
      rules = rw (rules, ids, greatest) (all_inserted (IsRule (c.greatest_id + 1) (c.greatest_counter + 1)) rule is c.rules
          (all_weaker (IsRule c.greatest_id c.greatest_counter) (IsRule (c.greatest_id + 1) (c.greatest_counter + 1)) (rule_within c.greatest_id (c.greatest_id + 1) c.greatest_counter (c.greatest_counter + 1) (omega arith) (omega arith)) c.rules h.rules));
      distinct = rw rules distinct;
      counted = rw rules counted;
      names = made.lawful;
      named = rw rules (all_inserted (IsNamed d.names) rule named c.rules (all_weaker (IsNamed c.names) (IsNamed d.names) (stays_named c.names d.names made) c.rules h.named));
      held = let more = length_inserted rule c.rules in rw rules (omega arith);
      ids = omega (arith, h.ids);
      counters = omega arith;
      disabled = rw disabled h.disabled;
    }

-- where names are given numbers and tables are made, what holds in every configuration holds still
pub names_kept : (c : Configuration) (names : List (List ℕ)) (tables : NamedTables) → Keeps c.names names → IsConfiguration c → IsConfiguration (record c { names = names; tables = tables })
names_kept c names tables made h = record {
  ordered = h.ordered;
  rules = h.rules;
  distinct = h.distinct;
  counted = h.counted;
  names = made.lawful;
  named = all_weaker (IsNamed c.names) (IsNamed names) (stays_named c.names names made) c.rules h.named;
  held = h.held;
  ids = h.ids;
  counters = h.counters;
  disabled = h.disabled;
}

-- where sets but 31 are disabled, and sets enabled, what holds in every configuration holds still
pub mask_kept : (c : Configuration) (disable enable : ℕ) → disable < 2147483648 → IsConfiguration c → IsConfiguration (record c { disabled = mask_after c.disabled disable enable })
mask_kept c disable enable low h = record {
  ordered = h.ordered;
  rules = h.rules;
  distinct = h.distinct;
  counted = h.counted;
  names = h.names;
  named = h.named;
  held = h.held;
  ids = h.ids;
  counters = h.counters;
  disabled = let or_low = or_lt 31 c.disabled disable h.disabled low in let and_low = and_le_l (bit_or c.disabled disable) (4294967295 - enable) in omega arith;
}

-- whichever of two sets is chosen is a set
pub chosen_set : (b : Bool) (x y : ℕ) → IsSet x → IsSet y → IsSet (if b then x else y)
chosen_set true x y first second = first
chosen_set false x y first second = second

-- rule 65535 keeps its set where another set than 31 is moved
pub moved_last : (from to : ℕ) → from ≢ 31 → (k : ℕ) → set_moved from to (last_rule k) ≡ 31
moved_last from to other k =
    let no : (31 == from) ≡ false = grind (arith, nat_tests) in
    rw no refl

-- a rule is in a set from 0 to 31 still where one set is moved into another
pub moved_within : (from to : ℕ) → IsSet to → (r : Rule) → IsSet r.set → IsSet (set_moved from to r)
moved_within from to low r h = chosen_set (r.set == from) to r.set low h

-- rule 65535 keeps its set where rules of another number are moved
pub number_last : (number to : ℕ) → number ≢ 65535 → (k : ℕ) → set_of_number number to (last_rule k) ≡ 31
number_last number to other k =
    let no : (65535 == number) ≡ false = grind (arith, nat_tests) in
    rw no refl

-- a rule is in a set from 0 to 31 still where rules of a number are moved
pub number_within : (number to : ℕ) → IsSet to → (r : Rule) → IsSet r.set → IsSet (set_of_number number to r)
number_within number to low r h = chosen_set (r.number == number) to r.set low h

-- rule 65535 keeps its set where two sets other than 31 are exchanged
pub swapped_last : (first second : ℕ) → first ≢ 31 → second ≢ 31 → (k : ℕ) → set_swapped first second (last_rule k) ≡ 31
swapped_last first second other another k =
    let no : (31 == first) ≡ false = grind (arith, nat_tests) in
    let not_either : (31 == second) ≡ false = grind (arith, nat_tests) in
    rw (no, not_either) refl

-- a rule is in a set from 0 to 31 still where two sets are exchanged
pub swapped_within : (first second : ℕ) → IsSet first → IsSet second → (r : Rule) → IsSet r.set → IsSet (set_swapped first second r)
swapped_within first second low also r h = chosen_set (r.set == first) second (if r.set == second then first else r.set) also (chosen_set (r.set == second) first r.set low h)

-- where no number is refused, 65535 isn't among them
pub last_not_among : (rules : List Rule) (numbers : List ℕ) → first_fault (deletion_fault rules) numbers ≡ None → is_among numbers 65535 ≡ false
last_not_among rules [] none = refl
last_not_among rules (n ∷ numbers) none =
    elim (n == 65535) as (λ b. option_or (if b then Some ReservedRule else if has_rule rules n then None else Some NoSuchRule) (first_fault (deletion_fault rules) numbers) ≡ None → (b || is_among numbers 65535) ≡ false) [
      | true ↦ λ is. cc
      | false ↦ elim (has_rule rules n) as (λ b. option_or (if b then None else Some NoSuchRule) (first_fault (deletion_fault rules) numbers) ≡ None → is_among numbers 65535 ≡ false) [
        | true ↦ λ rest. last_not_among rules numbers rest
        | false ↦ λ is. cc
      ]
    ] none

-- where no number is refused, rule 65535 isn't among the rules that go
pub named_last : (rules : List Rule) (numbers : List ℕ) → first_fault (deletion_fault rules) numbers ≡ None → (k : ℕ) → not (is_named numbers (last_rule k)) ≡ true
named_last rules numbers none k = ap not (last_not_among rules numbers none)
