-- What a configuration needs for its lines to be in their ranges is kept by each command of a script.
use Rattle.std.proofs.Common.{◌≡◌, ◌≢◌, ℕ, ◌+◌, ◌<◌, ◌≤◌, Bool, true, false, cond, not, ◌||◌, if◌then◌else◌, nat_lt, nat_le, Option, None, Some, IfSome, Ok, Err, List, [], ◌∷◌, ◌++◌, length, refl, sym, subst, ap, ◌∙◌, arith, inl, inr, ◌/◌, ◌%◌, codes}
use Rattle.std.specs.Prelude.{◌==◌}
use Rattle.std.specs.List.{AllByRecursion, filter}
use Rattle.std.proofs.lemmas.Bool.{cases_lt}
use Rattle.std.proofs.lemmas.Bool.Decides.{nat_tests}
use Rattle.fw_base.proofs.Lists.{all_push}
use Rattle.fw_base.specs.Name.{is_name_byte}
use Rattle.fw_rule.specs.Bits.{has_bit}
use Rattle.fw_rule.specs.FlowName.{default_flow}
use Rattle.fw_rule.specs.WellFormed.{IsDraft, IsSet}
use Rattle.fw_rule.specs.declared.command.Command.{Command}
use Rattle.fw_rule.specs.declared.command.Command.TheVariants.{Add, Delete, DeleteSet, Flush, Zero, ListRules, SetMask, MoveSet, MoveRule, SwapSets, Table, Sysctl, Local}
use Rattle.fw_rule.specs.declared.rule.Rule.{Rule}
use Rattle.fw_rule.specs.declared.rule_draft.RuleDraft.{RuleDraft}
use Rattle.ipfw_parser.specs.Forms.{IsDraftForm}
use Rattle.lookup_tables.specs.Tables.{NamedTables}
use Rattle.rule_chain.specs.Chain.{IsRule}
use Rattle.rule_chain.specs.Configuration.{Configuration}
use Rattle.rule_chain.specs.First.{first_configuration}
use Rattle.rule_chain.specs.LastRule.{last_rule}
use Rattle.rule_chain.specs.Names.{IsNamed, name_of}
use Rattle.rule_edits.specs.Answers.{Answer, first_fault, unless_refused}
use Rattle.rule_edits.specs.Apply.{add_locals, add_rule, apply, change_table, delete_rules, delete_set, deletion_fault, flush_rules, has_counters, move_rule, move_set, set_mask, swap_sets, with_rule, zero_counters, zeroing_fault}
use Rattle.rule_edits.specs.Lookups.{change_tables, with_uses}
use Rattle.rule_edits.specs.NewNames.{is_listed, with_name_of}
use Rattle.rule_edits.specs.Rules.{automatic_number, chosen_number, count_of, greatest_number, has_rule, in_set_for, insert_rule, is_zeroed, move_rules, number_behind, renumber, rule_of, set_moved, set_of_number, set_swapped}
use Rattle.rule_edits.specs.Uses.{uses_of}
use Rattle.rule_edits.specs.declared.apply_fault.ApplyFault.{ApplyFault}
use Rattle.rule_edits.specs.declared.apply_fault.ApplyFault.TheVariants.{TooManyNames}
use Rattle.rule_edits.proofs.Chosen.{chosen_least}
use Rattle.rule_edits.proofs.FlowNames.{Keeps, names_made}
use Rattle.rule_edits.proofs.Greatest.{greatest_below}
use Rattle.rule_edits.proofs.Kept.{add_kept, drafted, filter_kept, mask_kept, move_kept, moved_last, moved_within, named_last, number_last, number_within, swapped_last, swapped_within, zero_kept}
use Rattle.rule_edits.proofs.Lists.{all-filter, all-map}
use Rattle.audit_laws.proofs.Lists.{both}
use Rattle.audit_laws.proofs.RuleForms.{HaveNameBytes, form_flow, form_names}
use Rattle.audit_laws.proofs.TableForms.{ArePrintable, behind, tables_kept, uses_made}
use Rattle.audit_laws.specs.Formed.{FormsAreKept, IsFormed}
use Rattle.audit_laws.specs.Printable.{IsFlowNameText, IsPrintableConfig}
use Rattle.audit_laws.specs.RuleNames.{HasNameBytes, names_in_action, names_in_body, names_in_rule}

-- the names in a rule have the bytes of names
abbrev HasGoodNames : Rule → Type 0
HasGoodNames rule = HaveNameBytes (names_in_rule rule)

-- ---- answers

made_is : (made after : Configuration) → (let answer : Answer Configuration = Ok made in answer) ≡ Ok after → made ≡ after
made_is made after is = cc

of_made : (made after : Configuration) → (let answer : Answer Configuration = Ok made in answer) ≡ Ok after → IsPrintableConfig made → IsPrintableConfig after
of_made made after is holds = subst IsPrintableConfig (made_is made after is) holds

-- what stands behind a test that refuses
not_refused : (test : Bool) (fault : ApplyFault) (answer : Answer Configuration) (after : Configuration) → (let all : Answer Configuration = if test then Err fault else answer in all) ≡ Ok after
    → (test ≡ false → answer ≡ Ok after → IsPrintableConfig after) → IsPrintableConfig after
not_refused true fault answer after is next = absurd (cc)
not_refused false fault answer after is next = next refl is

-- what stands behind a test that has to pass
passed : (test : Bool) (fault : ApplyFault) (answer : Answer Configuration) (after : Configuration) → (let all : Answer Configuration = if test then answer else Err fault in all) ≡ Ok after
    → (test ≡ true → answer ≡ Ok after → IsPrintableConfig after) → IsPrintableConfig after
passed true fault answer after is next = next refl is
passed false fault answer after is next = absurd (cc)

unrefused : (refusal : Option ApplyFault) (answer : Answer Configuration) (after : Configuration) → unless_refused refusal answer ≡ Ok after → (refusal ≡ None → answer ≡ Ok after → IsPrintableConfig after) → IsPrintableConfig after
unrefused None answer after is next = next refl is
unrefused (Some fault) answer after is next = absurd (cc)

-- ---- other rules

filtered : (c : Configuration) (test : Rule → Bool) → ((counter : ℕ) → test (last_rule counter) ≡ true) → IsPrintableConfig c → IsPrintableConfig (record c { rules = filter test c.rules })
filtered c test last is = record {
  lawful = filter_kept c test last is.lawful;
  rules = all-filter HasGoodNames test c.rules is.rules;
  names = is.names;
  tables = is.tables;
}

moved : (c : Configuration) (set_for : Rule → ℕ) → ((counter : ℕ) → set_for (last_rule counter) ≡ 31) → ((rule : Rule) → IsSet rule.set → IsSet (set_for rule)) → IsPrintableConfig c
    → IsPrintableConfig (record c { rules = move_rules set_for c.rules })
moved c set_for last within is = record {
  lawful = move_kept c set_for last within is.lawful;
  rules = all-map HasGoodNames (in_set_for set_for) (λ rule names. names) c.rules is.rules;
  names = is.names;
  tables = is.tables;
}

renumbered : (test : Rule → Bool) (next : ℕ) (rules : List Rule) → AllByRecursion HasGoodNames rules → AllByRecursion HasGoodNames (renumber test next rules)
unfolding renumber
renumbered test next [] all = tt
renumbered test next (rule ∷ rules) all =
    let more = renumbered test (next + 1) rules all.1 in
    let rest = renumbered test next rules all.1 in
    elim (test rule) as (λ b. AllByRecursion HasGoodNames (cond b (record rule { counter = next } ∷ renumber test (next + 1) rules) (rule ∷ renumber test next rules))) [ true ↦ (all.0, more) | false ↦ (all.0, rest) ]

zeroed : (c : Configuration) (test : Rule → Bool) → c.greatest_counter + count_of test c.rules < 16777216 → IsPrintableConfig c
    → IsPrintableConfig (record c { rules = renumber test (c.greatest_counter + 1) c.rules; greatest_counter = c.greatest_counter + count_of test c.rules })
zeroed c test room is = record {
  lawful = zero_kept c test room is.lawful;
  rules = renumbered test (c.greatest_counter + 1) c.rules is.rules;
  names = is.names;
  tables = is.tables;
}

-- ---- the same rules

with_tables : (c : Configuration) (tables : NamedTables) → ArePrintable tables → IsPrintableConfig c → IsPrintableConfig (record c { tables = tables })
with_tables c tables all is = record {
  lawful = record {
    ordered = is.lawful.ordered;
    rules = is.lawful.rules;
    distinct = is.lawful.distinct;
    counted = is.lawful.counted;
    names = is.lawful.names;
    named = is.lawful.named;
    held = is.lawful.held;
    ids = is.lawful.ids;
    counters = is.lawful.counters;
    disabled = is.lawful.disabled;
  };
  rules = is.rules;
  names = is.names;
  tables = all;
}

-- a configuration with the same rules, sets, tables and names
alike : (c d : Configuration) → d.rules ≡ c.rules → d.disabled ≡ c.disabled → d.tables ≡ c.tables → d.names ≡ c.names → d.greatest_id ≡ c.greatest_id → d.greatest_counter ≡ c.greatest_counter → IsPrintableConfig c → IsPrintableConfig d
alike c d rules disabled tables names ids counters is =
    subst IsPrintableConfig (λ i. record {
      rules = sym rules i;
      disabled = sym disabled i;
      tables = sym tables i;
      locals = d.locals;
      values = d.values;
      names = sym names i;
      greatest_id = sym ids i;
      greatest_counter = sym counters i;
    }) (record {
      lawful = record {
        ordered = is.lawful.ordered;
        rules = is.lawful.rules;
        distinct = is.lawful.distinct;
        counted = is.lawful.counted;
        names = is.lawful.names;
        named = is.lawful.named;
        held = is.lawful.held;
        ids = is.lawful.ids;
        counters = is.lawful.counters;
        disabled = is.lawful.disabled;
      };
      rules = is.rules;
      names = is.names;
      tables = is.tables;
    })

-- ---- a rule more

inserted_all : (rule : Rule) (rules : List Rule) → HasGoodNames rule → AllByRecursion HasGoodNames rules → AllByRecursion HasGoodNames (insert_rule rule rules)
unfolding insert_rule
inserted_all rule [] one all = (one, tt)
inserted_all rule (other ∷ rules) one all =
    let rest = inserted_all rule rules one all.1 in
    elim (nat_lt rule.number other.number) as (λ b. AllByRecursion HasGoodNames (cond b (rule ∷ other ∷ rules) (other ∷ insert_rule rule rules))) [ true ↦ (one, all) | false ↦ (all.0, rest) ]

behind_below : (greatest : ℕ) → greatest < 65535 → number_behind greatest < 65535
behind_below greatest low =
    elim (nat_le (greatest + 100) 65534) as (λ b. nat_le (greatest + 100) 65534 ≡ b → (if b then greatest + 100 else greatest) < 65535) [
      | true ↦ λ is. grind (arith, nat_tests)
      | false ↦ λ is. low
    ] refl

automatic_below : (rules : List Rule) → automatic_number rules < 65535
unfolding automatic_number
automatic_below rules = behind_below (greatest_number rules) (greatest_below rules)

-- the number of a new rule isn't above 65534
chosen_below : (rules : List Rule) (number : Option ℕ) → IfSome number (λ n. n ≤ 65535) → (chosen_number rules number == 65535) ≡ false → chosen_number rules number < 65535
chosen_below rules None fits other = automatic_below rules
chosen_below rules (Some n) fits other =
    let automatic = automatic_below rules in
    elim (n == 0) as (λ b. (let chosen : ℕ = if b then automatic_number rules else n in (chosen == 65535) ≡ false → chosen < 65535)) [
      | true ↦ λ is. automatic
      | false ↦ λ is. grind (arith, nat_tests)
    ] other

-- the names after an `add` are names of flows
names_more : (names : List (List ℕ)) (name : Option (List ℕ)) → IfSome name IsFlowNameText → AllByRecursion IsFlowNameText names → (after : List (List ℕ)) → with_name_of names name ≡ Ok after → AllByRecursion IsFlowNameText after
unfolding with_name_of
names_more names None one all after is = let same : names ≡ after = cc in subst (AllByRecursion IsFlowNameText) same all
names_more names (Some name) one all after is = by_tests (is_listed names name) (nat_le 64 (length names)) is
  where
    by_tests : (listed full : Bool) → (let answer : Answer (List (List ℕ)) = if listed then Ok names else if full then Err TooManyNames else Ok (names ++ name ∷ []) in answer) ≡ Ok after → AllByRecursion IsFlowNameText after
    by_tests true full is = let same : names ≡ after = cc in subst (AllByRecursion IsFlowNameText) same all
    by_tests false true is = absurd (cc)
    by_tests false false is = let same : names ++ name ∷ [] ≡ after = cc in subst (AllByRecursion IsFlowNameText) same (all_push IsFlowNameText names name all one)

draft_names : (draft : RuleDraft) (number id counter : ℕ) → IsDraftForm draft → HasGoodNames (rule_of draft number id counter)
draft_names draft number id counter form =
    let names = form_names draft.action draft.log draft.body form.rest in
    both HasNameBytes (names_in_action draft.action) (names_in_body draft.body) names.0 names.1

-- the configuration with the draft's rule, its names and its tables
abbrev added : Configuration → RuleDraft → List (List ℕ) → NamedTables → Configuration
added c draft names tables = record (with_rule c draft) { names = names; tables = tables }

rule_added : (c : Configuration) (draft : RuleDraft) (names : List (List ℕ)) (tables : NamedTables) → IsDraft draft → IsDraftForm draft → (chosen_number c.rules draft.number == 65535) ≡ false → nat_le 65535 (length c.rules) ≡ false → not (has_counters c 1) ≡ false
    → Keeps c.names names → IsNamed names (rule_of draft 0 0 0) → AllByRecursion IsFlowNameText names → ArePrintable tables → IsPrintableConfig c → IsPrintableConfig (added c draft names tables)
rule_added c draft names tables numbers form other full counters keeps named flows printable is =
    let number : ℕ = chosen_number c.rules draft.number in
    let below : number < 65535 = chosen_below c.rules draft.number numbers.number other in
    let rule : Rule = rule_of draft number (c.greatest_id + 1) (c.greatest_counter + 1) in
    let least = chosen_least c.rules draft.number in
    record {
      lawful = add_kept c (added c draft names tables) rule below (omega arith) (omega arith) (drafted draft number (c.greatest_id + 1) (c.greatest_counter + 1) least below numbers) (has_room (length c.rules) full)
          (has_numbers c.greatest_counter counters) keeps named refl refl refl refl is.lawful;
      rules = inserted_all rule c.rules (draft_names draft number (c.greatest_id + 1) (c.greatest_counter + 1) form) is.rules;
      names = flows;
      tables = printable;
    }
  where
    has_room : (n : ℕ) → nat_le 65535 n ≡ false → n < 65535
    has_room n full = grind (arith, nat_tests)

    has_numbers : (n : ℕ) → not (nat_le (n + 1 + 1) 16777216) ≡ false → n + 1 < 16777216
    has_numbers n counters =
        elim (nat_le (n + 1 + 1) 16777216) as (λ b. nat_le (n + 1 + 1) 16777216 ≡ b → not b ≡ false → n + 1 < 16777216) [
          | true ↦ λ is no. grind (arith, nat_tests)
          | false ↦ λ is no. absurd (cc)
        ] refl counters

-- what the names and the tables of an `add` come to
record IsNameMade (c : Configuration) (draft : RuleDraft) (names : List (List ℕ)) : Type 0 where
  keeps : Keeps c.names names
  named : IsNamed names (rule_of draft 0 0 0)
  flows : AllByRecursion IsFlowNameText names

name_made : (c : Configuration) (draft : RuleDraft) → IsDraftForm draft → IsPrintableConfig c → (names : List (List ℕ)) → with_name_of c.names (name_of draft.action draft.body) ≡ Ok names → IsNameMade c draft names
name_made c draft form is names made =
    let known = names_made c.names names (name_of draft.action draft.body) is.lawful.names made in
    record {
      keeps = known.0;
      named = known.1;
      flows = names_more c.names (name_of draft.action draft.body) (form_flow draft.action draft.log draft.body form.rest) is.names names made;
    }

add_keeps : (c d : Configuration) (draft : RuleDraft) → IsDraft draft → IsDraftForm draft → IsPrintableConfig c → add_rule c draft ≡ Ok d → IsPrintableConfig d
unfolding add_rule
add_keeps c d draft numbers form is made =
    not_refused (chosen_number c.rules draft.number == 65535) _ _ d made (λ other made.
    not_refused (nat_le 65535 (length c.rules)) _ _ d made (λ full made.
    not_refused (not (has_counters c 1)) _ _ d made (λ counters made.
    behind (with_name_of c.names (name_of draft.action draft.body)) _ d (IsNameMade c draft) IsPrintableConfig (name_made c draft form is) (λ names named.
    behind (with_uses c.tables (uses_of draft.body)) _ d ArePrintable IsPrintableConfig (uses_made c.tables (uses_of draft.body) is.tables) (λ tables printable made.
    of_made (added c draft names tables) d made (rule_added c draft names tables numbers form other full counters named.keeps named.named named.flows printable is))) made)))

-- ---- the other commands

-- a mask without bit 31
low_mask : (mask : ℕ) → mask ≤ 4294967295 → has_bit mask 31 ≡ false → mask < 2147483648
low_mask mask fits none = elim (cases_lt mask 2147483648) [
  | inl low ↦ low
  | inr high ↦
      let one : mask / 2147483648 ≡ 1 = omega (arith, high, fits) in
      let has : has_bit mask 31 ≡ true = ap (λ (n : ℕ). n % 2 == 1) one in
      absurd (let no : true ≡ false = sym has ∙ none in cc)
]

-- a number that isn't another one
no_other : (n other : ℕ) → (n == other) ≡ false → n ≢ other
no_other n other is = grind (arith, nat_tests)

neither : (a b : Bool) → (a || b) ≡ false → (a ≡ false) × (b ≡ false)
neither true b is = absurd (cc)
neither false b is = (refl, is)

-- what holds of a configuration of a script holds of the one that a command of a script makes of it
pub form_kept : (c d : Configuration) (command : Command) → IsPrintableConfig c → IsFormed command → apply c command ≡ Ok d → IsPrintableConfig d
unfolding delete_rules delete_set flush_rules zero_counters set_mask move_set move_rule swap_sets change_table add_locals
form_kept c d (Add draft) is formed made = add_keeps c d draft formed.numbers formed.names is made
form_kept c d (Delete numbers) is formed made =
    unrefused (first_fault (deletion_fault c.rules) numbers) _ d made (λ none made. of_made _ d made (filtered c _ (named_last c.rules numbers none) is))
form_kept c d (DeleteSet set) is formed made = of_made _ d made (filtered c _ (λ counter. last_stays (not (31 == set))) is)
  where
    last_stays : (b : Bool) → (b || true) ≡ true
    last_stays true = refl
    last_stays false = refl
form_kept c d Flush is formed made = of_made _ d made (filtered c _ (λ counter. refl) is)
form_kept c d (Zero numbers) is formed made =
    unrefused (first_fault (zeroing_fault c.rules) numbers) _ d made (λ none made.
    passed (has_counters c (count_of (is_zeroed numbers) c.rules)) _ _ d made (λ room made. of_made _ d made (zeroed c (is_zeroed numbers) (fits c.greatest_counter (count_of (is_zeroed numbers) c.rules) room) is)))
  where
    fits : (n more : ℕ) → nat_le (n + 1 + more) 16777216 ≡ true → n + more < 16777216
    fits n more room = grind (arith, nat_tests)
form_kept c d ListRules is formed made = of_made c d made is
form_kept c d (SetMask disable enable) is formed made =
    not_refused (has_bit disable 31) _ _ d made (λ none made. of_made _ d made (record {
      lawful = mask_kept c disable enable (low_mask disable formed.numbers.0 none) is.lawful;
      rules = is.rules;
      names = is.names;
      tables = is.tables;
    }))
form_kept c d (MoveSet from to) is formed made =
    not_refused (from == 31 || to == 31) _ _ d made (λ none made.
    of_made _ d made (moved c (set_moved from to) (moved_last from to (no_other from 31 (neither (from == 31) (to == 31) none).0)) (moved_within from to formed.numbers.1) is))
form_kept c d (MoveRule number to) is formed made =
    not_refused (to == 31) _ _ d made (λ other made.
    not_refused (number == 65535) _ _ d made (λ reserved made.
    passed (has_rule c.rules number) _ _ d made (λ has made.
    of_made _ d made (moved c (set_of_number number to) (number_last number to (no_other number 65535 reserved)) (number_within number to formed.numbers.1) is))))
form_kept c d (SwapSets first second) is formed made =
    not_refused (first == 31 || second == 31) _ _ d made (λ none made.
    let others = neither (first == 31) (second == 31) none in
    of_made _ d made (moved c (set_swapped first second) (swapped_last first second (no_other first 31 others.0) (no_other second 31 others.1)) (swapped_within first second formed.numbers.0 formed.numbers.1) is))
form_kept c d (Table name command) is formed made =
    behind (change_tables c.tables c.rules name command) _ d ArePrintable IsPrintableConfig (tables_kept c.tables c.rules name command is.tables formed.numbers)
    (λ tables all made. of_made _ d made (with_tables c tables all is)) made
form_kept c d (Sysctl setting value) is formed made = of_made _ d made (alike c _ refl refl refl refl refl refl is)
form_kept c d (Local addresses) is formed made = of_made _ d made (alike c _ refl refl refl refl refl refl is)

-- ---- the first configuration

default_text : IsFlowNameText default_flow
unfolding is_name_byte
default_text = record {
  text = record { bytes = refl; some = omega arith; few = omega arith };
  other = λ is. let sizes : length default_flow ≡ length (codes "any") = ap length is in absurd (omega arith);
}

-- the configuration that stands before any command
pub first_in_range : IsPrintableConfig first_configuration
first_in_range = record {
  lawful = record {
    ordered = refl;
    rules = (last_fits, tt);
    distinct = (tt, tt);
    counted = (tt, tt);
    names = record {
      some = omega arith;
      first = refl;
      distinct = λ i j less within. absurd (omega arith);
      few = omega arith;
    };
    named = (tt, tt);
    held = omega arith;
    ids = omega arith;
    counters = omega arith;
    disabled = omega arith;
  };
  rules = (tt, tt);
  names = (default_text, tt);
  tables = tt;
}
  where
    last_fits : IsRule 0 0 (last_rule 0)
    last_fits = record {
      number = record { least_le = omega arith; most_ge = omega arith };
      set = omega arith;
      id = omega arith;
      counter = omega arith;
      action = tt;
      log = tt;
      body = record {
        protocol = omega arith;
        source = (tt, tt);
        source_ports = tt;
        destination = (tt, tt);
        destination_ports = tt;
        options = tt;
        state = tt;
        state_at = omega arith;
      };
    }

-- so it is from the first configuration on
pub forms_are_kept : FormsAreKept
forms_are_kept = record { first = first_in_range; kept = form_kept }
