-- Lines that begin with the number of a rule tell nothing.
use Rattle.std.proofs.Common.{◌≡◌, ℕ, ◌≤◌, ◌==◌, true, false, Bool, List, [], ◌∷◌, ◌++◌, codes, refl, sym, ap, subst, ◌∙◌, inl, inr, append_assoc}
use Rattle.std.specs.Fmt.{decimal}
use Rattle.std.specs.List.{join_with_byte}
use Rattle.std.proofs.lemmas.Bool.{cases_Bool}
use Rattle.counter_book.specs.Counts.{total_under}
use Rattle.counter_book.specs.declared.tally.Count.{Count}
use Rattle.report_texts.proofs.SilentWords.{number_is_silent, five_digits_are_silent}
use Rattle.report_texts.specs.AnswerText.{rule_line}
use Rattle.report_texts.specs.Lines.{lines_in}
use Rattle.report_texts.specs.RulesText.{counted_line, counts_text}
use Rattle.fw_rule.specs.declared.action.Action.{Action}
use Rattle.fw_rule.specs.declared.action.Action.TheVariants.{Allow, Deny, Reset, Unreach, Count as CountOnly, SkipTo, Call, Return, CheckState}
use Rattle.fw_rule.specs.declared.rule.Rule.{Rule}
use Rattle.report_reading.specs.AskLines.{ask_in}
use Rattle.report_reading.specs.LaneLines.{lane_in, publication_in}
use Rattle.report_reading.specs.LightLines.{has_end, has_head, behind_rule_number, has_rule_number, is_light}
use Rattle.report_reading.specs.Parts.{behind}
use Rattle.report_reading.specs.RecordLines.{record_in}
use Rattle.rule_text.specs.Canonical.{WordTexts, action_words, five_digits, log_words, optional_body, rest_text, rest_words, rule_text, spaced_text}
use Rattle.run_audit.proofs.LightTexts.{Ends, IsNoOther, end_found, ends_behind, newline_ends}
use Rattle.run_audit.proofs.ToldTexts.{IsLine, newline, silent_before, silent_both}
use Rattle.report_reading.proofs.RuleNumbers.{rule_number_again}
use Rattle.audit_laws.proofs.RuleNumbers.{no_capture_at, no_word_at}
use Rattle.audit_laws.proofs.ToldNothing.{TellsNothing, nothing_of_line}

-- ---- the number and a space

number_found : (n : ℕ) (rest : List ℕ) → n ≤ 65535 → has_rule_number (five_digits n ++ (codes " " ++ rest)) ≡ true
unfolding has_rule_number behind_rule_number behind
number_found n rest low = rw (rule_number_again n (codes " " ++ rest) low) refl

light_by_number : (text : List ℕ) (b : Bool) → has_head text ≡ b → has_end text ≡ true → has_rule_number text ≡ true → is_light text ≡ true
unfolding is_light
light_by_number text true head whole number = rw (whole, head) refl
light_by_number text false head whole number = rw (whole, head, number) refl

no_other_number : (n : ℕ) (rest : List ℕ) → n ≤ 65535 → IsNoOther (five_digits n ++ rest)
unfolding record_in publication_in ask_in lane_in
no_other_number n rest low = record {
  record_of = rw (no_capture_at n rest low) refl;
  publication_of = rw (no_word_at 112 (codes "ublish ") n rest refl low) refl;
  ask_of = rw (no_word_at 97 (codes "sk ") n rest refl low) refl;
  lane_of = rw (no_word_at 108 (codes "ane ") n rest refl low) refl;
}

-- a space ends no line
pub gap_is_silent : lines_in (codes " ") ≡ 0
unfolding lines_in
gap_is_silent = refl

-- a line that begins with a rule's number and a space
pub nothing_of_number : (n : ℕ) (rest : List ℕ) → n ≤ 65535 → IsLine rest → Ends rest → TellsNothing (five_digits n ++ (codes " " ++ rest))
nothing_of_number n rest low line ends =
    let text : List ℕ = five_digits n ++ (codes " " ++ rest) in
    let ended : Ends text = ends_behind (five_digits n) (codes " " ++ rest) (ends_behind (codes " ") rest ends) in
    nothing_of_line text
    (silent_before (five_digits n) (codes " " ++ rest) (five_digits_are_silent n) (silent_before (codes " ") rest gap_is_silent line))
    (light_by_number text (has_head text) refl (end_found text ended) (number_found n rest low))
    (no_other_number n (codes " " ++ rest) low)

-- ---- rules

-- a rule's number has five digits, and no word of it ends a line
pub record IsRuleInRange (rule : Rule) : Type 0 where
  pub number : rule.number ≤ 65535
  pub words : lines_in (rest_text rule) ≡ 0

some_word : (action : Action) → (word : List ℕ) × (words : WordTexts) × (action_words action ≡ word ∷ words)
some_word Allow = (_, _, refl)
some_word Deny = (_, _, refl)
some_word Reset = (_, _, refl)
some_word (Unreach code) = (_, _, refl)
some_word CountOnly = (_, _, refl)
some_word (SkipTo number) = (_, _, refl)
some_word (Call number) = (_, _, refl)
some_word Return = (_, _, refl)
some_word (CheckState name) = (_, _, refl)

-- the words of a rule behind its number begin with a space
record HasRest (rule : Rule) : Type 0 where
  tail : List ℕ
  is : rest_text rule ≡ 32 ∷ tail

has_rest : (rule : Rule) → HasRest rule
unfolding rest_text
has_rest rule = elim (cases_Bool (rule.set == 0)) [
  | inl null ↦
      let (word, words, is) = some_word rule.action in
      let more : WordTexts = log_words rule.log ++ optional_body rule.body in
      record {
        tail = word ++ spaced_text (words ++ more);
        is = rw (null, is) refl;
      }
  | inr other ↦
      let more : WordTexts = action_words rule.action ++ (log_words rule.log ++ optional_body rule.body) in
      record {
        tail = codes "set" ++ spaced_text (decimal rule.set ∷ more);
        is = rw other refl;
      }
]

-- what stands behind a space ends none where the whole does
pub tail_is_silent : (tail text : List ℕ) → text ≡ 32 ∷ tail → lines_in text ≡ 0 → lines_in tail ≡ 0
unfolding lines_in
tail_is_silent tail text is silent = ap lines_in (sym is) ∙ silent

joined : (word : List ℕ) (words : WordTexts) → join_with_byte 32 (word ∷ words) ≡ word ++ spaced_text words
joined word [] = sym (append_nil word)
  where
    append_nil : (text : List ℕ) → text ++ [] ≡ text
    append_nil [] = refl
    append_nil (byte ∷ text) = ap (λ (bytes : List ℕ). byte ∷ bytes) (append_nil text)
joined word (next ∷ words) = ap (λ (text : List ℕ). word ++ (32 ∷ text)) (joined next words)

-- the line of a rule in a listing
pub nothing_of_rule : (rule : Rule) → IsRuleInRange rule → TellsNothing (rule_line rule)
unfolding rule_line rule_text rest_text
nothing_of_rule rule is =
    let rest = has_rest rule in
    let behind : List ℕ = rest.tail ++ codes "\n" in
    let same : five_digits rule.number ++ (codes " " ++ behind) ≡ rule_line rule =
    ap (λ (text : List ℕ). five_digits rule.number ++ (text ++ codes "\n")) (sym rest.is)
    ∙ sym (append_assoc (five_digits rule.number) (rest_text rule) (codes "\n"))
    ∙ ap (λ (text : List ℕ). text ++ codes "\n") (sym (joined (five_digits rule.number) (rest_words rule))) in
    subst (λ (text : List ℕ). TellsNothing text) same
    (nothing_of_number rule.number behind is.number (silent_before rest.tail (codes "\n") (tail_is_silent rest.tail (rest_text rule) rest.is is.words) newline)
    (ends_behind rest.tail (codes "\n") newline_ends))

-- a rule's line with its counts
pub nothing_of_counted : (tallies : List (List Count)) (rule : Rule) → IsRuleInRange rule → TellsNothing (counted_line tallies rule)
unfolding counted_line counts_text
nothing_of_counted tallies rule is =
    let packets : List ℕ = decimal (total_under tallies rule.counter).packets in
    let bytes : List ℕ = decimal (total_under tallies rule.counter).bytes in
    let counts : List ℕ = packets ++ (codes " " ++ bytes) in
    let end : List ℕ = rest_text rule ++ codes "\n" in
    let silent : lines_in counts ≡ 0 =
    silent_both packets (codes " " ++ bytes) (number_is_silent (total_under tallies rule.counter).packets)
    (silent_both (codes " ") bytes gap_is_silent (number_is_silent (total_under tallies rule.counter).bytes)) in
    let same : five_digits rule.number ++ (codes " " ++ (counts ++ end)) ≡ counted_line tallies rule =
    sym (append_assoc (five_digits rule.number) (codes " " ++ counts) end) in
    subst (λ (text : List ℕ). TellsNothing text) same
    (nothing_of_number rule.number (counts ++ end) is.number
    (silent_before counts end silent (silent_before (rest_text rule) (codes "\n") is.words newline))
    (ends_behind counts end (ends_behind (rest_text rule) (codes "\n") newline_ends)))
