-- The line `add` with a rule's canonical text is the command that adds the rule.
use Rattle.std.proofs.Common.{◌≡◌, ℕ, Bool, Result, Ok, List, ◌∷◌, map, codes, refl, sym, ap, ◌∙◌, subst}
use Rattle.fw_lex.specs.Words.{tokens_of}
use Rattle.rule_text.specs.Canonical.{rule_words}
use Rattle.fw_rule.specs.declared.command.Command.TheVariants.{Add}
use Rattle.fw_rule.specs.declared.rule.Rule.{Rule}
use Rattle.ipfw_parser.specs.Reading.{Fault, ◌>>=◌, same, word_at}
use Rattle.ipfw_parser.specs.Forms.{IsRuleForm}
use Rattle.fw_command.specs.Statements.{says, says_unless, words_say, addition}
use Rattle.fw_command.specs.declared.statement.Statement.{Statement}
use Rattle.fw_command.specs.declared.statement.Statement.TheVariants.{Order}
use Rattle.rule_round_trip.specs.Laws.{AddLinesAreReadAgain, add_line}
use Rattle.rule_round_trip.proofs.Words.Columns.{at_columns, columns_of}
use Rattle.rule_round_trip.proofs.Words.Solid.{words_of_good, rule_are, add_word}
use Rattle.rule_round_trip.proofs.Rules.Drafts.{add_is, line_again, line_words, readable}

-- the words of the line are `add` and the rule's
add_words : (r : Rule) → IsRuleForm r
    → map (word_at (add_line r)) (tokens_of (add_line r)) ≡ at_columns (columns_of (map (word_at (add_line r)) (tokens_of (add_line r)))) (codes "add" ∷ rule_words r)
add_words r form =
    let said : List (List ℕ) = codes "add" ∷ rule_words r in
    subst (λ line. map (word_at line) (tokens_of line) ≡ at_columns (columns_of (map (word_at line) (tokens_of line))) said) (sym (add_is r))
    (line_words said (words_of_good said (add_word, rule_are r form.number form.set form.action form.rest)))

first_add : (live : Bool) (line : List ℕ) (c : List (List ℕ) → ℕ) (words : List (List ℕ)) → words_say live line (at_columns c (codes "add" ∷ words)) ≡ addition line
unfolding words_say same
first_add live line c words = refl

-- the line `add` with a rule's canonical text is read as the command that adds this rule
pub add_again : AddLinesAreReadAgain
unfolding says addition
add_again live r form =
    let line : List ℕ = add_line r in
    ap (says_unless live line) (readable r form)
    ∙ ap (words_say live line) (add_words r form)
    ∙ first_add live line (columns_of (map (word_at line) (tokens_of line))) (rule_words r)
    ∙ ap (λ found. found >>= λ draft. let r : Result Statement Fault = Ok (Order (Add draft)) in r) (line_again r form)
