-- Where the fault of a line may stand.
use Rattle.std.specs.Prelude.{◌≡◌, ℕ, ◌⊎◌, IfErr, List, [], ◌∷◌, map, drop, length}
use Rattle.fw_lex.specs.declared.token.Token.{Token}
use Rattle.fw_lex.specs.Words.{before_comment}
use Rattle.ipfw_parser.specs.Reading.{Word, word_at}
use Rattle.ipfw_parser.specs.Rules.{rule_in, end_column}

-- the column where one of the words begins, or the end
abbrev pub IsColumn : ℕ → List Word → ℕ → Type 0
IsColumn end [] column = column ≡ end
IsColumn end (word ∷ words) column = (column ≡ word.column) ⊎ IsColumn end words column

-- the first fault of a rule stands where one of its words begins, or one past the line's last word
abbrev pub FaultsStandAtWords : Type 0
FaultsStandAtWords = (line : List ℕ) (tokens : List Token) (skipped : ℕ)
    → IfErr (rule_in line tokens skipped) (λ fault. IsColumn (end_column (length (before_comment line)) tokens) (drop skipped (map (word_at line) tokens)) fault.column)
