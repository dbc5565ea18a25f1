-- Commands (ipfw(8), "SYNOPSIS"): the configuration after a command, or its first refusal.
use Rattle.std.specs.Prelude.{ℕ, ◌+◌, ◌-◌, Bool, ◌||◌, not, ◌==◌, nat_le, if◌then◌else◌, Option, Some, None, Ok, Err, List, [], ◌∷◌, ◌++◌, length, bit_and, bit_or}
use Rattle.std.specs.List.{list_any}
use Rattle.fw_base.specs.declared.address.Addr.{Addr}
use Rattle.fw_rule.specs.Bits.{has_bit}
use Rattle.fw_rule.specs.declared.rule.Rule.{Rule}
use Rattle.fw_rule.specs.declared.rule_draft.RuleDraft.{RuleDraft}
use Rattle.fw_rule.specs.Values.{with_value}
use Rattle.fw_rule.specs.declared.setting.Setting.{Setting}
use Rattle.fw_rule.specs.declared.table_command.TableCommand.{TableCommand}
use Rattle.fw_rule.specs.declared.command.Command.{Command}
use Rattle.fw_rule.specs.declared.command.Command.TheVariants.{Add, Delete, DeleteSet, Flush, Zero, ListRules, SetMask, MoveSet, MoveRule, SwapSets, Table, Sysctl, Local}
use Rattle.rule_edits.specs.declared.apply_fault.ApplyFault.{ApplyFault}
use Rattle.rule_edits.specs.declared.apply_fault.ApplyFault.TheVariants.{NoSuchRule, ReservedRule, ReservedSet, TooManyRules, TooManyCounters}
use Rattle.rule_edits.specs.Answers.{Answer, ◌>>=◌, unless_refused, first_fault}
use Rattle.rule_chain.specs.Configuration.{Configuration}
use Rattle.rule_edits.specs.Lookups.{with_uses, change_tables}
use Rattle.rule_chain.specs.Names.{name_of}
use Rattle.rule_edits.specs.NewNames.{with_name_of}
use Rattle.rule_edits.specs.Rules.{has_rule, chosen_number, rule_of, insert_rule, without_numbers, without_set, rules_kept_by_flush, is_zeroed, renumber, count_of, move_rules, set_moved, set_of_number, set_swapped}
use Rattle.rule_edits.specs.Uses.{uses_of}

-- that many more counter numbers don't pass 16,777,216, number 0 among them
abbrev pub has_counters : Configuration → ℕ → Bool
has_counters c more = nat_le (c.greatest_counter + 1 + more) 16777216

-- the rule of a draft behind those of its number, under the next identity and the next counter number
abbrev pub with_rule : Configuration → RuleDraft → Configuration
with_rule c draft = record c {
  rules = insert_rule (rule_of draft (chosen_number c.rules draft.number) (c.greatest_id + 1) (c.greatest_counter + 1)) c.rules;
  greatest_id = c.greatest_id + 1;
  greatest_counter = c.greatest_counter + 1;
}

-- `add`: the number, the rules, the counters, the flow names and the tables are tested in this order
unfoldable pub add_rule : Configuration → RuleDraft → Answer Configuration
add_rule c draft =
    if chosen_number c.rules draft.number == 65535 then Err ReservedRule
    else if nat_le 65535 (length c.rules) then Err TooManyRules
    else if not (has_counters c 1) then Err TooManyCounters
    else (with_name_of c.names (name_of draft.action draft.body) >>= λ names.
    with_uses c.tables (uses_of draft.body) >>= λ made. Ok (record (with_rule c draft) { names = names; tables = made }))

-- `delete` of a number
abbrev pub deletion_fault : List Rule → ℕ → Option ApplyFault
deletion_fault rules number = if number == 65535 then Some ReservedRule else if has_rule rules number then None else Some NoSuchRule

-- `delete` of numbers, all or none
unfoldable pub delete_rules : Configuration → List ℕ → Answer Configuration
delete_rules c numbers = unless_refused (first_fault (deletion_fault c.rules) numbers) (Ok (record c { rules = without_numbers numbers c.rules }))

-- `delete set`
unfoldable pub delete_set : Configuration → ℕ → Answer Configuration
delete_set c set = Ok (record c { rules = without_set set c.rules })

-- `flush`: every rule goes that isn't in set 31
unfoldable pub flush_rules : Configuration → Answer Configuration
flush_rules c = Ok (record c { rules = rules_kept_by_flush c.rules })

-- `zero` of a number
abbrev pub zeroing_fault : List Rule → ℕ → Option ApplyFault
zeroing_fault rules number = if has_rule rules number then None else Some NoSuchRule

-- each rule that is named gets a fresh counter number, in list order
abbrev pub with_fresh_counters : Configuration → List ℕ → Configuration
with_fresh_counters c numbers = record c {
  rules = renumber (is_zeroed numbers) (c.greatest_counter + 1) c.rules;
  greatest_counter = c.greatest_counter + count_of (is_zeroed numbers) c.rules;
}

-- `zero` of numbers, or of all rules where none is named
unfoldable pub zero_counters : Configuration → List ℕ → Answer Configuration
zero_counters c numbers =
    unless_refused (first_fault (zeroing_fault c.rules) numbers)
    (if has_counters c (count_of (is_zeroed numbers) c.rules) then Ok (with_fresh_counters c numbers) else Err TooManyCounters)

-- the one mask's sets are disabled, and then those of the other enabled
abbrev pub mask_after : ℕ → ℕ → ℕ → ℕ
mask_after mask disable enable = bit_and (bit_or mask disable) (4294967295 - enable)

-- `set disable` and `set enable`; set 31 can't be disabled
unfoldable pub set_mask : Configuration → ℕ → ℕ → Answer Configuration
set_mask c disable enable = if has_bit disable 31 then Err ReservedSet else Ok (record c { disabled = mask_after c.disabled disable enable })

-- `set move S to S`
unfoldable pub move_set : Configuration → ℕ → ℕ → Answer Configuration
move_set c from to = if from == 31 || to == 31 then Err ReservedSet else Ok (record c { rules = move_rules (set_moved from to) c.rules })

-- `set move rule N to S`
unfoldable pub move_rule : Configuration → ℕ → ℕ → Answer Configuration
move_rule c number to =
    if to == 31 then Err ReservedSet
    else if number == 65535 then Err ReservedRule
    else if has_rule c.rules number then Ok (record c { rules = move_rules (set_of_number number to) c.rules })
    else Err NoSuchRule

-- `set swap S S`: the rules alone change their sets
unfoldable pub swap_sets : Configuration → ℕ → ℕ → Answer Configuration
swap_sets c first second = if first == 31 || second == 31 then Err ReservedSet else Ok (record c { rules = move_rules (set_swapped first second) c.rules })

-- the addresses, and behind them this one where it isn't there
abbrev pub with_address : List Addr → Addr → List Addr
with_address locals a = if list_any (λ b. b.0 == a.0) locals then locals else locals ++ a ∷ []

-- the addresses, and behind them each new one that isn't there
unfoldable pub with_addresses : List Addr → List Addr → List Addr
with_addresses locals [] = locals
with_addresses locals (a ∷ more) = with_addresses (with_address locals a) more

-- `local`
unfoldable pub add_locals : Configuration → List Addr → Answer Configuration
add_locals c addresses = Ok (record c { locals = with_addresses c.locals addresses })

-- a command on a table
unfoldable pub change_table : Configuration → List ℕ → TableCommand → Answer Configuration
change_table c name command = change_tables c.tables c.rules name command >>= λ tables. Ok (record c { tables = tables })

-- `sysctl`
abbrev pub change_setting : Configuration → Setting → ℕ → Configuration
change_setting c setting value = record c { values = with_value c.values setting value }

-- `list` changes nothing
abbrev pub apply : Configuration → Command → Answer Configuration
apply c (Add draft) = add_rule c draft
apply c (Delete numbers) = delete_rules c numbers
apply c (DeleteSet set) = delete_set c set
apply c Flush = flush_rules c
apply c (Zero numbers) = zero_counters c numbers
apply c ListRules = Ok c
apply c (SetMask disable enable) = set_mask c disable enable
apply c (MoveSet from to) = move_set c from to
apply c (MoveRule number to) = move_rule c number to
apply c (SwapSets first second) = swap_sets c first second
apply c (Table name command) = change_table c name command
apply c (Sysctl setting value) = Ok (change_setting c setting value)
apply c (Local addresses) = add_locals c addresses
