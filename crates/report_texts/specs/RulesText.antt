-- The report's sections on the last edition: its disabled sets, and its rules with their counts.
use Rattle.std.specs.Prelude.{ℕ, zero, suc, ◌+◌, ◌==◌, if◌then◌else◌, List, [], ◌++◌, length, codes, decimal}
use Rattle.std.specs.List.{flat_map}
use Rattle.counter_book.specs.Counts.{total_under}
use Rattle.counter_book.specs.declared.tally.Count.{Count}
use Rattle.fw_rule.specs.Bits.{has_bit}
use Rattle.rule_text.specs.Canonical.{five_digits, rest_text}
use Rattle.fw_rule.specs.declared.rule.Rule.{Rule}
use Rattle.report_texts.specs.AnswerText.{count_line}

-- how many editions were published
unfoldable pub editions_line : ℕ → List ℕ
editions_line count = codes "editions " ++ (decimal count ++ codes "\n")

-- a set, where the mask has its bit
abbrev pub set_text : ℕ → ℕ → List ℕ
set_text mask set = if has_bit mask set then codes " " ++ decimal set else []

-- so many sets from this number on
unfoldable pub sets_text : ℕ → ℕ → ℕ → List ℕ
sets_text mask zero set = []
sets_text mask (suc sets) set = set_text mask set ++ sets_text mask sets (set + 1)

-- the disabled sets, ascending; no line where there is none
unfoldable pub disabled_line : ℕ → List ℕ
disabled_line disabled = codes "disabled" ++ (sets_text disabled 32 0 ++ codes "\n")

-- the line of the disabled sets
abbrev pub disabled_text : ℕ → List ℕ
disabled_text disabled = if disabled == 0 then [] else disabled_line disabled

-- a rule's number, and the packets and the bytes that were counted under its counter number
unfoldable pub counts_text : List (List Count) → Rule → List ℕ
counts_text tallies rule =
    five_digits rule.number
    ++ (codes " " ++ (decimal (total_under tallies rule.counter).packets ++ (codes " " ++ decimal (total_under tallies rule.counter).bytes)))

-- behind it the rest of the rule's text
unfoldable pub counted_line : List (List Count) → Rule → List ℕ
counted_line tallies rule = counts_text tallies rule ++ (rest_text rule ++ codes "\n")

-- the rules with their counts
unfoldable pub rules_text : List (List Count) → List Rule → List ℕ
rules_text tallies rules = count_line (length rules) ++ flat_map (counted_line tallies) rules
