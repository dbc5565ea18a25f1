-- What a line of a script says (ipfw(8)): nothing, a command, `live` or `after`, or its first fault.
use Rattle.std.specs.Prelude.{ℕ, ◌+◌, Bool, if◌then◌else◌, Option, Some, None, Result, Ok, List, [], ◌∷◌, length, map, codes}
use Rattle.fw_lex.specs.Words.{before_comment, first_bad, tokens_of}
use Rattle.fw_rule.specs.declared.command.Command.TheVariants.{Add}
use Rattle.ipfw_parser.specs.declared.kind.Kind.TheVariants.{Misplaced, BadByte}
use Rattle.ipfw_parser.specs.Reading.{Word, Fault, fault_at, ◌>>=◌, same, word_at}
use Rattle.ipfw_parser.specs.Rules.{rule_in, end_column}
use Rattle.fw_command.specs.Ends.{result_at_end, first_number}
use Rattle.fw_command.specs.Commands.{command}
use Rattle.fw_command.specs.declared.statement.Statement.{Statement}
use Rattle.fw_command.specs.declared.statement.Statement.TheVariants.{Nothing, Order, Live, After}

-- the line `live`, which stands once
unfoldable pub live_statement : Bool → Word → List Word → Result Statement Fault
live_statement live word words = if live then fault_at word.column Misplaced else result_at_end Live words

-- behind `after`: how many packets
unfoldable pub after_count : ℕ → ℕ → List Word → Result Statement Fault
after_count column end words = do
  count ← first_number 0 33554432 end words
  result_at_end (After column count.0) count.1

-- a line `after`, which stands behind `live`
unfoldable pub after_statement : Bool → ℕ → Word → List Word → Result Statement Fault
after_statement live end word words = if live then after_count word.column end words else fault_at word.column Misplaced

-- what begins with this word; `live` says whether `live` stood on an earlier line
unfoldable pub statement : Bool → ℕ → Word → List Word → Result Statement Fault
statement live end word words =
    if same word.text (codes "live") then live_statement live word words
    else if same word.text (codes "after") then after_statement live end word words
    else (command end word words >>= λ found. Ok (Order found))

-- the rule behind `add`
unfoldable pub addition : List ℕ → Result Statement Fault
addition line = rule_in line (tokens_of line) 1 >>= λ draft. Ok (Order (Add draft))

-- what the line's words say
unfoldable pub words_say : Bool → List ℕ → List Word → Result Statement Fault
words_say live line [] = Ok Nothing
words_say live line (word ∷ words) =
    if same word.text (codes "add") then addition line
    else statement live (end_column (length (before_comment line)) (tokens_of line)) word words

-- what a line says, or where its first byte stands that may not be there
abbrev pub says_unless : Bool → List ℕ → Option ℕ → Result Statement Fault
says_unless live line (Some at) = fault_at (at + 1) BadByte
says_unless live line None = words_say live line (map (word_at line) (tokens_of line))

-- what a line says: the bytes before its comment are tested first
unfoldable pub says : Bool → List ℕ → Result Statement Fault
says live line = says_unless live line (first_bad (before_comment line))
