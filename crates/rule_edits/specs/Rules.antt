-- Lists of rules (ipfw(8), "RULE FORMAT", "SETS OF RULES").
use Rattle.std.specs.Prelude.{ℕ, ◌+◌, Bool, true, ◌||◌, not, ◌==◌, nat_lt, nat_le, max, if◌then◌else◌, Option, Some, None, List, [], ◌∷◌, length, map}
use Rattle.std.specs.List.{filter, list_any}
use Rattle.fw_rule.specs.declared.rule.Rule.{Rule}
use Rattle.fw_rule.specs.declared.rule_draft.RuleDraft.{RuleDraft}

-- the rule has this number
abbrev pub is_numbered : ℕ → Rule → Bool
is_numbered number rule = rule.number == number

-- some rule has the number
abbrev pub has_rule : List Rule → ℕ → Bool
has_rule rules number = list_any (is_numbered number) rules

-- the number is one of these
abbrev pub is_among : List ℕ → ℕ → Bool
is_among numbers number = list_any (λ n. n == number) numbers

-- the rule's number is one of these
abbrev pub is_named : List ℕ → Rule → Bool
is_named numbers rule = is_among numbers rule.number

-- the greatest number below 65535 in the list, 0 where there is none
abbrev pub greatest_number : List Rule → ℕ
greatest_number [] = 0
greatest_number (rule ∷ rules) = if nat_lt rule.number 65535 then max rule.number (greatest_number rules) else greatest_number rules

-- the number a hundred above the greatest, or the greatest again where that passes 65534
abbrev pub number_behind : ℕ → ℕ
number_behind greatest = if nat_le (greatest + 100) 65534 then greatest + 100 else greatest

-- the number of an `add` without one
unfoldable pub automatic_number : List Rule → ℕ
automatic_number rules = number_behind (greatest_number rules)

-- the number that a draft gets: its own, or the automatic one where it has none or 0
abbrev pub chosen_number : List Rule → Option ℕ → ℕ
chosen_number rules None = automatic_number rules
chosen_number rules (Some number) = if number == 0 then automatic_number rules else number

-- the rule of a draft, under its number, identity and counter number
abbrev pub rule_of : RuleDraft → ℕ → ℕ → ℕ → Rule
rule_of draft number id counter = record { number = number; set = draft.set; id = id; counter = counter; action = draft.action; log = draft.log; body = draft.body }

-- the rule before the first of a greater number, so behind those of its own number
unfoldable pub insert_rule : Rule → List Rule → List Rule
insert_rule rule [] = rule ∷ []
insert_rule rule (other ∷ rules) = if nat_lt rule.number other.number then rule ∷ other ∷ rules else other ∷ insert_rule rule rules

-- the rules without those of these numbers
abbrev pub without_numbers : List ℕ → List Rule → List Rule
without_numbers numbers rules = filter (λ rule. not (is_named numbers rule)) rules

-- the rules without those of the set; rule 65535 stays
abbrev pub without_set : ℕ → List Rule → List Rule
without_set set rules = filter (λ rule. not (rule.set == set) || rule.number == 65535) rules

-- the rules of set 31
abbrev pub rules_kept_by_flush : List Rule → List Rule
rules_kept_by_flush rules = filter (λ rule. rule.set == 31) rules

-- `zero` of these numbers names the rule; that of none names each
abbrev pub is_zeroed : List ℕ → Rule → Bool
is_zeroed [] rule = true
is_zeroed (number ∷ numbers) rule = is_named (number ∷ numbers) rule

-- in list order, each rule that passes the test gets the next counter number
unfoldable pub renumber : (Rule → Bool) → ℕ → List Rule → List Rule
renumber test next [] = []
renumber test next (rule ∷ rules) = if test rule then record rule { counter = next } ∷ renumber test (next + 1) rules else rule ∷ renumber test next rules

-- how many rules pass the test
abbrev pub count_of : (Rule → Bool) → List Rule → ℕ
count_of test rules = length (filter test rules)

-- the rule in the set that this gives for it
abbrev pub in_set_for : (Rule → ℕ) → Rule → Rule
in_set_for set_for rule = record rule { set = set_for rule }

-- each rule in its set
abbrev pub move_rules : (Rule → ℕ) → List Rule → List Rule
move_rules set_for rules = map (in_set_for set_for) rules

-- the set of a rule after one set was moved into another
abbrev pub set_moved : ℕ → ℕ → Rule → ℕ
set_moved from to rule = if rule.set == from then to else rule.set

-- the set of a rule after the rules of a number were moved into a set
abbrev pub set_of_number : ℕ → ℕ → Rule → ℕ
set_of_number number to rule = if rule.number == number then to else rule.set

-- the set of a rule after two sets were exchanged
abbrev pub set_swapped : ℕ → ℕ → Rule → ℕ
set_swapped first second rule = if rule.set == first then second else if rule.set == second then first else rule.set
