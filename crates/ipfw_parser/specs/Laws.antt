-- What holds of each draft that the grammar yields.
use Rattle.std.specs.Prelude.{◌≡◌, ℕ, Bool, true, if◌then◌else◌, List, ◌∷◌, Result, Ok, IfOk, length}
use Rattle.fw_rule.specs.WellFormed.{IsDraft}
use Rattle.ipfw_parser.specs.Forms.{IsDraftForm}
use Rattle.fw_lex.specs.declared.token.Token.{Token}
use Rattle.ipfw_parser.specs.declared.kind.Kind.TheVariants.{SecondState}
use Rattle.ipfw_parser.specs.Reading.{Word, Fault, fault_at, ◌>>=◌}
use Rattle.ipfw_parser.specs.Options.{Placed, is_state, option, options, state, with_option, with_state}
use Rattle.ipfw_parser.specs.Rules.{rule_in}

-- each draft that the grammar yields is well formed
abbrev pub DraftsAreWellFormed : Type 0
DraftsAreWellFormed = (line : List ℕ) (tokens : List Token) (skipped : ℕ) → IfOk (rule_in line tokens skipped) IsDraft

-- each draft that the grammar yields is in its form: lists aren't empty, names have allowed bytes, masks no
-- bit in common, networks no host bits
abbrev pub DraftsAreInForm : Type 0
DraftsAreInForm = (line : List ℕ) (tokens : List Token) (skipped : ℕ) → IfOk (rule_in line tokens skipped) IsDraftForm

-- the options of these words, of which there are no more than words
abbrev pub options_in : ℕ → Bool → List Word → Result Placed Fault
options_in end seen words = options (length words) end seen words

-- Options are read one after another to the line's end (ipfw(8), "RULE BODY"): behind an option, or behind the one
-- state, all others are read of the words that it left. So the bound in their definition is never met.
abbrev pub OptionsAreReadInTurn : Type 0
OptionsAreReadInTurn = (end : ℕ) (seen : Bool) (word : Word) (words : List Word) → options_in end seen (word ∷ words) ≡
    (if is_state word.text then
    (if seen then fault_at word.column SecondState else (do
      made ← state end word words
      rest ← options_in end true made.1
      Ok (with_state made.0 rest)))
    else (do
      made ← option end word words
      rest ← options_in end seen made.1
      Ok (with_option made.0 rest)))
