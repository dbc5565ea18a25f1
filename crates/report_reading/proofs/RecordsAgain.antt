-- The line of a record is read again.
use Rattle.std.proofs.Common.{◌≡◌, ℕ, zero, suc, ◌+◌, ◌^◌, ◌<◌, ◌≤◌, ◌==◌, Bool, true, false, not, Some, None, List, [], ◌∷◌, ◌++◌, codes, length, refl, ◌∙◌, inl, inr, arith}
use Rattle.std.specs.List.{list_all}
use Rattle.std.specs.Fmt.{decimal}
use Rattle.std.specs.Char.{is_ascii_digit}
use Rattle.std.proofs.lemmas.Bool.{cases_Bool, and_parts, le-leb, eqb-true}
use Rattle.std.proofs.lemmas.Fmt.{digits_decimal, decimal_nonempty}
use Rattle.fw_rule.specs.Names.{unreach_names}
use Rattle.rule_text.specs.Canonical.{code_word, five_digits}
use Rattle.state_asks.specs.declared.rule_ref.RuleRef.{RuleRef}
use Rattle.eval_engine.specs.Dockets.{judgement_of, entry_by_cause}
use Rattle.eval_engine.specs.declared.docket_entry.DocketEntry.{DocketEntry}
use Rattle.eval_engine.specs.declared.docket_entry.DocketEntry.TheVariants as entry
use Rattle.eval_engine.specs.declared.judgement.Cause.{Cause}
use Rattle.eval_engine.specs.declared.judgement.Cause.TheVariants.{Rule, Limit, Full}
use Rattle.eval_engine.specs.declared.judgement.Verdict.{Verdict}
use Rattle.eval_engine.specs.declared.judgement.Verdict.TheVariants.{Allow, Deny, Reset, Unreach}
use Rattle.report_texts.specs.DocketText.{verdict_word, verdict_code, cause_word, cause_count, judged_text, entry_text, record_line}
use Rattle.report_reading.specs.Parts.{behind}
use Rattle.report_reading.specs.RecordLines.{printed_rule, printed, IsVerdict, IsJudged, IsEntry, IsRecord, named_code_at, plain_code, any_code_at, code_at, verdict_at, count_in, cause_in, judged_in, malformed_in, entry_in, record_in}
use Rattle.report_reading.proofs.Digits.{own, IsStop}
use Rattle.report_reading.proofs.Numbers.{positive_again, number_again}
use Rattle.report_reading.proofs.RuleNumbers.{rule_number_again}

-- ---- a code of `unreach`

-- a name that doesn't begin with a digit
abbrev begins_apart : List ℕ → Bool
begins_apart [] = false
begins_apart (letter ∷ word) = not (is_ascii_digit letter)

-- a letter is no digit
pub letter_apart : (letter digit : ℕ) → not (is_ascii_digit letter) ≡ true → is_ascii_digit digit ≡ true → (letter == digit) ≡ false
letter_apart letter digit apart told = elim (cases_Bool (letter == digit)) [
  | inl same ↦
      let is : letter ≡ digit = eqb-true letter digit same in
      let no = rw (is, told) at apart in
      absurd (cc)
  | inr other ↦ other
]

no_name : (name : List ℕ) (digit : ℕ) (bytes : List ℕ) → begins_apart name ≡ true → is_ascii_digit digit ≡ true → behind name (digit ∷ bytes) ≡ None
unfolding behind
no_name [] digit bytes apart told = absurd (cc)
no_name (letter ∷ word) digit bytes apart told = rw (letter_apart letter digit apart told) refl

-- no name stands where a digit does
absent : (names : List (List ℕ)) (code digit : ℕ) (bytes : List ℕ) → list_all begins_apart names ≡ true → is_ascii_digit digit ≡ true
    → named_code_at names code (digit ∷ bytes) ≡ None
unfolding named_code_at
absent [] code digit bytes apart told = refl
absent (name ∷ names) code digit bytes apart told =
    let (here, more) = and_parts (begins_apart name) (list_all begins_apart names) apart in
    rw (no_name name digit bytes here told) (absent names (code + 1) digit bytes more told)

absent_here : (names : List (List ℕ)) (digits bytes : List ℕ) → list_all begins_apart names ≡ true → list_all is_ascii_digit digits ≡ true → 0 < length digits
    → named_code_at names 0 (digits ++ bytes) ≡ None
absent_here names [] bytes apart all some = absurd (omega arith)
absent_here names (digit ∷ digits) bytes apart all some =
    absent names 0 digit (digits ++ bytes) apart (and_parts (is_ascii_digit digit) (list_all is_ascii_digit digits) all).0

apart_names : list_all begins_apart unreach_names ≡ true
unfolding unreach_names
apart_names = refl

plain_again : (code : ℕ) (rest : List ℕ) → 16 ≤ code → code ≤ 255 → code_at (decimal code ++ (codes " " ++ rest)) ≡ Some (Unreach code, rest)
unfolding code_at any_code_at plain_code behind
plain_again code rest first last =
    let fits : code < 2 ^ 64 = omega (arith, last) in
    let none : named_code_at unreach_names 0 (decimal code ++ (codes " " ++ rest)) ≡ None =
    absent_here unreach_names (decimal code) (codes " " ++ rest) apart_names (digits_decimal own code fits) (decimal_nonempty code fits) in
    rw (none, positive_again 255 code (codes " " ++ rest) (omega (arith, first)) last fits refl, le-leb 16 code first) refl

code_again : (code : ℕ) (rest : List ℕ) → code ≤ 255 → code_at (code_word code ++ (codes " " ++ rest)) ≡ Some (Unreach code, rest)
unfolding code_at any_code_at code_word named_code_at behind unreach_names
code_again zero rest last = refl
code_again (suc zero) rest last = refl
code_again (suc (suc zero)) rest last = refl
code_again (suc (suc (suc zero))) rest last = refl
code_again (suc (suc (suc (suc zero)))) rest last = refl
code_again (suc (suc (suc (suc (suc zero))))) rest last = refl
code_again (suc (suc (suc (suc (suc (suc zero)))))) rest last = refl
code_again (suc (suc (suc (suc (suc (suc (suc zero))))))) rest last = refl
code_again (suc (suc (suc (suc (suc (suc (suc (suc zero)))))))) rest last = refl
code_again (suc (suc (suc (suc (suc (suc (suc (suc (suc zero))))))))) rest last = refl
code_again (suc (suc (suc (suc (suc (suc (suc (suc (suc (suc zero)))))))))) rest last = refl
code_again (suc (suc (suc (suc (suc (suc (suc (suc (suc (suc (suc zero))))))))))) rest last = refl
code_again (suc (suc (suc (suc (suc (suc (suc (suc (suc (suc (suc (suc zero)))))))))))) rest last = refl
code_again (suc (suc (suc (suc (suc (suc (suc (suc (suc (suc (suc (suc (suc zero))))))))))))) rest last = refl
code_again (suc (suc (suc (suc (suc (suc (suc (suc (suc (suc (suc (suc (suc (suc zero)))))))))))))) rest last = refl
code_again (suc (suc (suc (suc (suc (suc (suc (suc (suc (suc (suc (suc (suc (suc (suc zero))))))))))))))) rest last = refl
code_again (suc (suc (suc (suc (suc (suc (suc (suc (suc (suc (suc (suc (suc (suc (suc (suc code)))))))))))))))) rest last =
    plain_again (suc (suc (suc (suc (suc (suc (suc (suc (suc (suc (suc (suc (suc (suc (suc (suc code)))))))))))))))) rest (omega arith) last

-- ---- a judgement

verdict_again : (verdict : Verdict) (rest : List ℕ) → IsVerdict verdict
    → verdict_at (codes " " ++ (verdict_word verdict ++ (verdict_code verdict ++ (codes " " ++ rest)))) ≡ Some (verdict, rest)
unfolding verdict_at behind
verdict_again Allow rest within = refl
verdict_again Deny rest within = refl
verdict_again Reset rest within = refl
verdict_again (Unreach code) rest within = code_again code rest within

-- a count of states has 32 bits
abbrev pub IsCause : Cause → Type 0
IsCause Rule = Unit {0}
IsCause (Limit states) = states < 2 ^ 32
IsCause (Full states) = states < 2 ^ 32

cause_again : (cause : Cause) → IsCause cause → cause_in (cause_word cause ++ (cause_count cause ++ codes "\n")) ≡ Some cause
unfolding cause_in count_in behind
cause_again Rule within = refl
cause_again (Limit states) within = rw (number_again 4294967295 states (codes "\n") (omega (arith, within)) (omega (arith, within)) refl) refl
cause_again (Full states) within = rw (number_again 4294967295 states (codes "\n") (omega (arith, within)) (omega (arith, within)) refl) refl

cause_stops : (cause : Cause) → IsStop (cause_word cause ++ (cause_count cause ++ codes "\n"))
cause_stops Rule = refl
cause_stops (Limit states) = refl
cause_stops (Full states) = refl

judged_again : (verdict : Verdict) (cause : Cause) (rule : RuleRef) (edition : ℕ) → IsJudged verdict rule edition → IsCause cause
    → judged_in (judged_text (judgement_of verdict cause rule edition)) ≡ Some (entry_by_cause cause verdict (printed_rule rule) edition)
unfolding judged_in judged_text behind
judged_again verdict cause rule edition judged within =
    let end : List ℕ = cause_word cause ++ (cause_count cause ++ codes "\n") in
    let behind_rule : List ℕ = codes " at " ++ (decimal edition ++ end) in
    rw (
      verdict_again verdict (five_digits rule.number ++ behind_rule) judged.code,
      rule_number_again rule.number behind_rule judged.number,
      positive_again 18446744073709551615 edition end judged.first (omega (arith, judged.last)) judged.last (cause_stops cause),
      cause_again cause within,
    ) refl

-- ---- the line

judged_alone : (verdict : Verdict) (rest : List ℕ) → entry_in (codes " " ++ (verdict_word verdict ++ rest)) ≡ judged_in (codes " " ++ (verdict_word verdict ++ rest))
unfolding entry_in malformed_in behind
judged_alone Allow rest = refl
judged_alone Deny rest = refl
judged_alone Reset rest = refl
judged_alone (Unreach code) rest = refl

judged_entry_again : (verdict : Verdict) (cause : Cause) (rule : RuleRef) (edition : ℕ) → IsJudged verdict rule edition → IsCause cause
    → entry_in (judged_text (judgement_of verdict cause rule edition)) ≡ Some (entry_by_cause cause verdict (printed_rule rule) edition)
unfolding judged_text
judged_entry_again verdict cause rule edition judged within = judged_alone verdict _ ∙ judged_again verdict cause rule edition judged within

entry_again : (told : DocketEntry) → IsEntry told → entry_in (entry_text told) ≡ Some (printed told)
unfolding entry_in entry_text malformed_in behind
entry_again entry.Other within = refl
entry_again (entry.Malformed kind) within = rw (positive_again 5 kind (codes "\n") within.0 within.1 (omega (arith, within)) refl) refl
entry_again (entry.Judged verdict rule edition) within = judged_entry_again verdict Rule rule edition within tt
entry_again (entry.Limited verdict rule states edition) within = judged_entry_again verdict (Limit states) rule edition within.0 within.1
entry_again (entry.Full verdict rule states edition) within = judged_entry_again verdict (Full states) rule edition within.0 within.1

entry_stops : (told : DocketEntry) → IsStop (entry_text told)
unfolding entry_text judged_text
entry_stops entry.Other = refl
entry_stops (entry.Malformed kind) = refl
entry_stops (entry.Judged verdict rule edition) = refl
entry_stops (entry.Limited verdict rule states edition) = refl
entry_stops (entry.Full verdict rule states edition) = refl

-- a record's line is read as what it is the text of
pub record_again : (capture at : ℕ) (told : DocketEntry) → IsRecord capture at told
    → record_in (record_line capture at told) ≡ Some (record { capture = capture; at = at; entry = printed told })
unfolding record_in record_line behind
record_again capture at told within =
    rw (
      positive_again 16 capture (codes "." ++ (decimal at ++ entry_text told)) within.capture_first within.capture_last (omega (arith, within.capture_last)) refl,
      positive_again 18446744073709551615 at (entry_text told) within.first (omega (arith, within.last)) within.last (entry_stops told),
      entry_again told within.fields,
    ) refl
