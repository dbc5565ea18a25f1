-- The bytes of a load's script are read as its rules, `live` and the two steps behind it.
use Rattle.std.proofs.Common.{◌≡◌, ℕ, ◌/◌, ◌≤◌, Ok, Some, [], ◌∷◌, ◌++◌, codes, refl, ap, ◌∙◌, length, arith, length-append}
use Rattle.std.specs.Fmt.{decimal}
use Rattle.std.proofs.lemmas.Bool.{le-ltb}
use Rattle.std.proofs.lemmas.Fmt.{length-decimal-le}
use Rattle.fw_lex.specs.Words.{before_comment, first_bad, tokens_from, tokens_in, tokens_of}
use Rattle.ipfw_parser.specs.Numbers.{digits_value, decimal as decimal_of, number}
use Rattle.ipfw_parser.specs.Reading.{same, first}
use Rattle.ipfw_parser.specs.Rules.{end_column}
use Rattle.fw_command.specs.Commands.{numbers, delete, command}
use Rattle.fw_command.specs.Ends.{each_word}
use Rattle.fw_command.specs.Lines.{lines_of}
use Rattle.fw_command.specs.Statements.{says, words_say, statement}
use Rattle.fw_command.specs.Scripts.{script_of, script_from, statement_at}
use Rattle.fw_command.specs.declared.script.Pace.TheVariants.{Serial}
use Rattle.fw_command.specs.declared.script.Script.{Script}
use Rattle.fw_command.specs.declared.script.Step.TheVariants.{Run}
use Rattle.fw_rule.specs.declared.command.Command.TheVariants.{Delete}
use Rattle.fw_base.specs.declared.limits.TheConstants.{MOST_LOAD_RECORDS}
use Rattle.load_maker.specs.Load as load
use Rattle.load_laws.specs.Laws.{MadeScriptsAreRead}
use Rattle.load_laws.proofs.MadeLines.{rule_lines, lines_behind, line_before, last_line, rules_read}
use Rattle.load_laws.proofs.WaitLine.{wait_line, wait_free, wait_read}

made_lines_are : (n : ℕ) → n ≤ MOST_LOAD_RECORDS → lines_of (load.load_script n) ≡ rule_lines (wait_line (n / 2) ∷ codes "delete 300" ∷ [])
unfolding load.load_script
made_lines_are n few =
    let free = wait_free (n / 2) (omega (arith, few)) in
    lines_behind (decimal (n / 2) ++ codes "\ndelete 300\n") ∙ ap rule_lines (line_before (wait_line (n / 2)) (codes "delete 300\n") free ∙ ap (λ others. wait_line (n / 2) ∷ others) last_line)

start_length : length load.script_start ≡ 230
unfolding load.script_start
start_length = refl

short : (n : ℕ) → n ≤ MOST_LOAD_RECORDS → length (load.load_script n) ≤ 1048576
unfolding load.load_script
short n few =
    omega (
      arith,
      start_length,
      length-append load.script_start (decimal (n / 2) ++ codes "\ndelete 300\n"),
      length-append (decimal (n / 2)) (codes "\ndelete 300\n"),
      length-decimal-le 10 (n / 2) (omega arith) (omega arith) (omega (arith, few)),
    )

-- the line behind the wait
delete_read : script_from Serial (record { line = 8; live = Some 6; ran = 0 }) (codes "delete 300" ∷ [])
    ≡ (let made : Script = record { before = []; live_at = Some 6; live = Run (record { line = 8; command = Delete (300 ∷ []) }) ∷ [] } in Ok made)
unfolding script_from statement_at says words_say statement command delete numbers each_word number decimal_of digits_value end_column same first before_comment first_bad tokens_from tokens_in tokens_of
delete_read = refl

-- a load's script is read as this script
pub scripts_read : MadeScriptsAreRead
unfolding script_of rule_lines
scripts_read n few =
    rw (le-ltb 1048576 (length (load.load_script n)) (short n few))
    (rw (made_lines_are n few)
    (rw (rules_read (wait_line (n / 2) ∷ codes "delete 300" ∷ []), wait_read (n / 2) (codes "delete 300" ∷ []) (omega (arith, few)), delete_read) refl))
