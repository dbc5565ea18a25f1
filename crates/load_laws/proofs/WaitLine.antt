-- The line `after` of a load's script: its number is read again from its digits.
use Rattle.std.proofs.Common.{◌≡◌, ℕ, ◌≤◌, ◌<◌, ◌^◌, ◌==◌, true, false, Result, Ok, Some, None, List, [], ◌∷◌, ◌++◌, codes, refl, map, arith, rules}
use Rattle.std.specs.List.{AllByRecursion}
use Rattle.std.specs.Fmt.{decimal}
use Rattle.fw_lex.specs.Words.{before_comment, first_bad, is_blank, is_readable, tokens_of}
use Rattle.ipfw_parser.specs.Reading.{same, first, word_at}
use Rattle.fw_command.specs.Ends.{result_at_end, first_number}
use Rattle.fw_command.specs.Statements.{says, words_say, statement, after_statement, after_count}
use Rattle.fw_command.specs.Scripts.{script_from, statement_at, ◌>>=◌}
use Rattle.fw_command.specs.declared.script.Pace.TheVariants.{Serial}
use Rattle.fw_command.specs.declared.script.Step.TheVariants.{After}
use Rattle.fw_command.specs.declared.script.Script.{Script}
use Rattle.fw_command.specs.declared.script_fault.ScriptFault.{ScriptFault}
use Rattle.rule_round_trip.proofs.Numbers.Decimal.{all_digits, number_again}
use Rattle.rule_round_trip.proofs.Numbers.Digits.{IsFree, free_digits, free_append}
use Rattle.rule_round_trip.proofs.Rules.Drafts.{line_words, read_part}
use Rattle.rule_round_trip.proofs.Words.Columns.{columns_of}
use Rattle.rule_round_trip.proofs.Words.Solid.{IsGood, IsGoodWord, decimal_word, words_of_good, readable_joined}

-- `after` and a number
abbrev pub wait_line : ℕ → List ℕ
wait_line count = codes "after " ++ decimal count

wait_words : ℕ → List (List ℕ)
wait_words count = codes "after" ∷ decimal count ∷ []

solid : (b : ℕ) → is_blank b ≡ false → b == 35 ≡ false → is_readable b ≡ true → IsGood b
solid b blank comment told = record { solid = record { solid = blank; plain = comment }; readable = told }

after_word : IsGoodWord (codes "after")
after_word = record { some = omega arith; bytes = (solid 97 refl refl refl, (solid 102 refl refl refl, (solid 116 refl refl refl, (solid 101 refl refl refl, (solid 114 refl refl refl, tt))))) }

good_words : (count : ℕ) → count < 2 ^ 32 → AllByRecursion IsGoodWord (wait_words count)
unfolding wait_words
good_words count small = (after_word, (decimal_word count small, tt))

-- no byte of it is one that may not stand in a script
readable : (count : ℕ) → count < 2 ^ 32 → first_bad (before_comment (wait_line count)) ≡ None
unfolding wait_words
readable count small = read_part (wait_line count) (readable_joined (wait_words count) (good_words count small))

-- the line ends nowhere before its end
pub wait_free : (count : ℕ) → count < 2 ^ 32 → IsFree 10 (wait_line count)
wait_free count small = free_append 10 (codes "after ") (decimal count) (search rules) (free_digits 10 (decimal count) refl (all_digits count small))

-- what stands behind the line, behind a wait for this number
abbrev pub with_wait : ℕ → Result Script ScriptFault → Result Script ScriptFault
with_wait count behind = behind >>= λ script. let made : Script = record { before = script.before; live_at = script.live_at; live = After count ∷ script.live } in Ok made

-- the line is read as a wait for this number
pub wait_read : (count : ℕ) (others : List (List ℕ)) → count ≤ 33554432
    → script_from Serial (record { line = 7; live = Some 6; ran = 0 }) (wait_line count ∷ others)
    ≡ with_wait count (script_from Serial (record { line = 8; live = Some 6; ran = 0 }) others)
unfolding script_from statement_at says words_say statement after_statement after_count first_number result_at_end first same wait_words
wait_read count others few =
    let small : count < 2 ^ 32 = omega (arith, few) in
    let words : List (List ℕ) = wait_words count in
    let line : List ℕ = wait_line count in
    rw (readable count small) (rw (line_words words (words_of_good words (good_words count small)))
    (rw (number_again 0 33554432 count (columns_of (map (word_at line) (tokens_of line)) (decimal count ∷ [])) (omega arith) few small) refl))
