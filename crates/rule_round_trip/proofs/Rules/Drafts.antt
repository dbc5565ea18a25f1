-- Each rule that the grammar yields is read again.
use Rattle.std.proofs.Common.{◌≡◌, ℕ, ◌+◌, ◌≤◌, true, not, ◌==◌, if◌then◌else◌, position, unwrap_or, take, arith, Some, None, Ok, Result, List, ◌∷◌, ◌++◌, length, map, drop, codes, refl, sym, ap, ◌∙◌, subst, []}
use Rattle.std.specs.List.{AllByRecursion, join_with_byte, position_or_len}
use Rattle.std.proofs.lemmas.Bool.{le-ltb}
use Rattle.std.proofs.Math.Numerals.{one-add}
use Rattle.fw_lex.specs.declared.token.Token.{Token}
use Rattle.fw_lex.specs.Words.{tokens_of, before_comment, first_bad, is_readable}
use Rattle.rule_text.specs.Canonical.{rule_text, rule_words}
use Rattle.fw_rule.specs.WellFormed.{IsAction}
use Rattle.fw_rule.specs.declared.rule.Rule.{Rule}
use Rattle.fw_rule.specs.declared.rule_draft.RuleDraft.{RuleDraft}
use Rattle.ipfw_parser.specs.Reading.{Word, Fault, word_at}
use Rattle.ipfw_parser.specs.Rules.{rule, rule_in, end_column}
use Rattle.ipfw_parser.specs.Forms.{HasForm, IsDraftForm, IsRuleForm}
use Rattle.rule_round_trip.specs.Laws.{CanonicalTextsAreReadable, CanonicalTextsKeepTheirWords, IsWordText, IsRuleOf, draft_of, add_line, line_behind, RulesAreReadAgain, RulesInFormAreReadAgain, TextsTellRulesApart}
use Rattle.ipfw_parser.proofs.Forms.Following.{of_ok}
use Rattle.rule_round_trip.proofs.Words.Spaced.{words_again}
use Rattle.rule_round_trip.proofs.Words.Columns.{at_columns, columns_of, words_are}
use Rattle.rule_round_trip.proofs.Words.Solid.{words_of_good, readable_joined, rule_are, add_word}
use Rattle.rule_round_trip.proofs.Rules.Bodies.{rule_again}
use Rattle.ipfw_parser.proofs.Forms.Rules.{rule_in_on}
use Rattle.rule_round_trip.proofs.Lists.Each.{all_append, all_take}

texts_map : (line : List ℕ) (tokens : List Token) → map (λ word. word.text) (map (word_at line) tokens) ≡ map (λ token. (word_at line token).text) tokens
texts_map line [] = refl
texts_map line (token ∷ tokens) = ap (λ ts. (word_at line token).text ∷ ts) (texts_map line tokens)

-- the words of a line that was joined from texts
pub line_words : (texts : List (List ℕ)) → AllByRecursion IsWordText texts
    → map (word_at (join_with_byte 32 texts)) (tokens_of (join_with_byte 32 texts)) ≡ at_columns (columns_of (map (word_at (join_with_byte 32 texts)) (tokens_of (join_with_byte 32 texts)))) texts
line_words texts words =
    let line : List ℕ = join_with_byte 32 texts in let found : List Word = map (word_at line) (tokens_of line) in
    sym (words_are found) ∙ ap (at_columns (columns_of found)) (texts_map line (tokens_of line) ∙ words_again texts words)

behind : (c : List (List ℕ) → ℕ) (front texts : List (List ℕ)) → drop (length front) (at_columns c (front ++ texts)) ≡ at_columns c texts
behind c [] texts = refl
behind c (text ∷ front) texts = behind c front texts

read_behind : (front texts : List (List ℕ)) → AllByRecursion IsWordText (front ++ texts)
    → rule_in (join_with_byte 32 (front ++ texts)) (tokens_of (join_with_byte 32 (front ++ texts))) (length front)
    ≡ rule (end_column (length (before_comment (join_with_byte 32 (front ++ texts)))) (tokens_of (join_with_byte 32 (front ++ texts))))
    (at_columns (columns_of (map (word_at (join_with_byte 32 (front ++ texts))) (tokens_of (join_with_byte 32 (front ++ texts))))) texts)
unfolding rule_in
read_behind front texts words =
    let line : List ℕ = join_with_byte 32 (front ++ texts) in let end : ℕ = end_column (length (before_comment line)) (tokens_of line) in
    ap (λ ws. rule end (drop (length front) ws)) (line_words (front ++ texts) words) ∙ ap (rule end) (behind (columns_of (map (word_at line) (tokens_of line))) front texts)

-- a rule in its form is read again from its canonical words, whatever words stand before them
pub form_again : RulesInFormAreReadAgain
form_again r front form words =
    let line : List ℕ = line_behind front r in
    read_behind front (rule_words r) (all_append IsWordText front (rule_words r) words (words_of_good (rule_words r) (rule_are r form.number form.set form.action form.rest)))
    ∙ rule_again r (columns_of (map (word_at line) (tokens_of line))) (end_column (length (before_comment line)) (tokens_of line)) form.number form.set form.action form.rest

-- a rule's canonical text as a command is its canonical words behind `add`
pub add_is : (r : Rule) → add_line r ≡ line_behind (codes "add" ∷ []) r
unfolding rule_text
add_is r = refl

-- a rule in its form is read again from its canonical text behind `add`
pub line_again : (r : Rule) → IsRuleForm r → rule_in (add_line r) (tokens_of (add_line r)) 1 ≡ Ok (draft_of r)
line_again r form = ap (λ l. rule_in l (tokens_of l) 1) (add_is r) ∙ form_again r (codes "add" ∷ []) form (words_of_good (codes "add" ∷ []) (add_word, tt))

bad_place : (text : List ℕ) → AllByRecursion (λ b. is_readable b ≡ true) text → position_or_len (λ b. not (is_readable b)) text ≡ length text
bad_place [] all = refl
bad_place (b ∷ text) all =
    ap (λ t. if not (not t) then 1 + position_or_len (λ x. not (is_readable x)) text else 0) all.0 ∙ ap (λ n. 1 + n) (bad_place text all.1) ∙ one-add (length text)

none_bad : (text : List ℕ) → AllByRecursion (λ b. is_readable b ≡ true) text → first_bad text ≡ None
unfolding first_bad
none_bad text all =
    ap (λ t. if t then Some (position_or_len (λ (b : ℕ). not (is_readable b)) text) else None) (le-ltb (position_or_len (λ b. not (is_readable b)) text) (length text) (omega (arith, bad_place text all)))

-- a line of bytes that may stand in a script has none that may not
pub read_part : (line : List ℕ) → AllByRecursion (λ b. is_readable b ≡ true) line → first_bad (before_comment line) ≡ None
unfolding before_comment
read_part line all = none_bad (take (unwrap_or (position (λ byte. byte == 35) line) (length line)) line) (all_take (λ b. is_readable b ≡ true) (unwrap_or (position (λ byte. byte == 35) line) (length line)) line all)

-- the canonical text of a rule in its form has no byte that may not stand in a script
pub readable : CanonicalTextsAreReadable
readable r form =
    ap (λ line. first_bad (before_comment line)) (add_is r)
    ∙ read_part (line_behind (codes "add" ∷ []) r) (readable_joined (codes "add" ∷ rule_words r) (add_word, rule_are r form.number form.set form.action form.rest))

-- a rule in its form, written behind `add`, has the words `add` and its canonical words
pub words_kept : CanonicalTextsKeepTheirWords
words_kept r form =
    ap (λ line. map (λ token. (word_at line token).text) (tokens_of line)) (add_is r)
    ∙ words_again (codes "add" ∷ rule_words r) (words_of_good (codes "add" ∷ rule_words r) (add_word, rule_are r form.number form.set form.action form.rest))

one_value : (d e : RuleDraft) → (let r : Result RuleDraft Fault = Ok d in r) ≡ Ok e → d ≡ e
one_value d e same = cc

-- rules in their form with one canonical text are one rule, identity and counter aside
pub texts_apart : TextsTellRulesApart
texts_apart r q form other same =
    one_value (draft_of r) (draft_of q) (sym (line_again r form) ∙ ap (λ t. let line : List ℕ = codes "add " ++ t in rule_in line (tokens_of line) 1) same ∙ line_again q other)

same_form : (draft : RuleDraft) (r : Rule) → IsRuleOf draft r → HasForm draft.action draft.log draft.body → HasForm r.action r.log r.body
same_form draft r made form =
    subst (λ a. HasForm a r.log r.body) (sym made.action) (subst (λ l. HasForm draft.action l r.body) (sym made.log) (subst (λ b. HasForm draft.action draft.log b) (sym made.body) form))

rule_form : (draft : RuleDraft) (r : Rule) → IsRuleOf draft r → IsDraftForm draft → IsRuleForm r
rule_form draft r made form =
    record { number = made.number; set = subst (λ n. n ≤ 31) (sym made.set) form.set; action = subst IsAction (sym made.action) form.action; rest = same_form draft r made form.rest }

-- each rule that the grammar yields is read again from its canonical text
pub again : RulesAreReadAgain
again line tokens skipped draft r ok made = line_again r (rule_form draft r made (of_ok (rule_in line tokens skipped) IsDraftForm draft (rule_in_on line tokens skipped) ok))
