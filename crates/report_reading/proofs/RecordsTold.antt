-- What is read of a record's line is what it is the text of.
use Rattle.std.proofs.Common.{◌≡◌, ℕ, suc, ◌+◌, ◌^◌, ◌<◌, ◌≤◌, Option, Some, None, List, [], ◌∷◌, ◌++◌, codes, length, refl, sym, ap, subst, ◌∙◌, inl, inr, arith, nat_le}
use Rattle.std.specs.Prelude.{slice_get}
use Rattle.std.specs.Fmt.{decimal}
use Rattle.std.proofs.lemmas.Bool.{cases_Bool, leb-true}
use Rattle.std.proofs.lemmas.Option.{none-some, same_Some, some_pair_parts, slice_get_within}
use Rattle.fw_rule.specs.Names.{unreach_names}
use Rattle.rule_text.specs.Canonical.{code_word, five_digits}
use Rattle.rule_text.proofs.Lists.{code_named, code_unnamed}
use Rattle.state_asks.specs.declared.rule_ref.RuleRef.{RuleRef}
use Rattle.eval_engine.specs.Dockets.{judgement_of, entry_by_cause}
use Rattle.eval_engine.specs.declared.docket_entry.DocketEntry.{DocketEntry}
use Rattle.eval_engine.specs.declared.docket_entry.DocketEntry.TheVariants as entry
use Rattle.eval_engine.specs.declared.judgement.Cause.{Cause}
use Rattle.eval_engine.specs.declared.judgement.Cause.TheVariants.{Rule, Limit, Full}
use Rattle.eval_engine.specs.declared.judgement.Verdict.{Verdict}
use Rattle.eval_engine.specs.declared.judgement.Verdict.TheVariants.{Allow, Deny, Reset, Unreach}
use Rattle.report_texts.specs.DocketText.{verdict_word, verdict_code, cause_word, cause_count, judged_text, entry_text, record_line}
use Rattle.fw_base.specs.Chain.{◌>>=◌, or_else}
use Rattle.report_reading.specs.Parts.{Part, behind, told_by, told_where, ended, positive_at, number_at, rule_number_at}
use Rattle.report_reading.specs.RecordLines.{IsVerdict, IsJudged, IsEntry, IsRecord, named, named_code_at, plain_code, any_code_at, code_at, verdict_at, count_in, cause_in, judged_in, malformed_in, entry_in, record_in}
use Rattle.report_reading.specs.declared.record_lines.RecordLine.{RecordLine}
use Rattle.report_reading.proofs.Words.{behind_told, then_found, one_found, by_word, where_word}
use Rattle.report_reading.proofs.Numbers.{positive_told, number_told}
use Rattle.report_reading.proofs.RuleNumbers.{rule_number_told}
use Rattle.report_reading.proofs.RecordsAgain.{IsCause}

-- ---- a code of `unreach`

-- a text begins with one of these names and a space; the first name is that of this code
pub record IsNamed (names : List (List ℕ)) (first : ℕ) (bytes : List ℕ) (code : ℕ) (rest : List ℕ) : Type 0 where
  pub name : List ℕ
  pub place : ℕ
  pub is : code ≡ first + place
  pub stands : slice_get names place ≡ Some name
  pub split : bytes ≡ name ++ (codes " " ++ rest)

named_told : (name bytes rest : List ℕ) → named name bytes ≡ Some rest → bytes ≡ name ++ (codes " " ++ rest)
named_told name bytes rest is =
    let (front, found, more) = then_found (behind name bytes) (behind (codes " ")) rest is in
    behind_told name bytes front found ∙ ap (λ t. name ++ t) (behind_told (codes " ") front rest more)

-- what is read of these names stands there
pub names_told : (names : List (List ℕ)) (first : ℕ) (bytes : List ℕ) (code : ℕ) (rest : List ℕ) → named_code_at names first bytes ≡ Some (code, rest)
    → IsNamed names first bytes code rest
unfolding named_code_at
names_told [] first bytes code rest is = absurd (none-some (code, rest) is)
names_told (name ∷ names) first bytes code rest is = elim (one_found (named name bytes >>= λ r. Some (first, r)) (named_code_at names (first + 1) bytes) (code, rest) is) [
  | inl here ↦
      let (left, found, told) = then_found (named name bytes) (λ r. Some (first, r)) (code, rest) here in
      let (same, end) = some_pair_parts first code left rest told in
      let at : code ≡ first + 0 = omega (arith, same) in
      record { name = name; place = 0; is = at; stands = refl; split = named_told name bytes left found ∙ ap (λ t. name ++ (codes " " ++ t)) end }
  | inr later ↦
      let inner = names_told names (first + 1) bytes code rest later in
      let at : code ≡ first + suc inner.place = omega (arith, inner.is) in
      record { name = inner.name; place = suc inner.place; is = at; stands = inner.stands; split = inner.split }
]

-- a text is a code of `unreach`, a space and a rest
record IsCode (bytes : List ℕ) (code : ℕ) (rest : List ℕ) : Type 0 where
  split : bytes ≡ code_word code ++ (codes " " ++ rest)
  within : code ≤ 255

names_length : length unreach_names ≡ 16
unfolding unreach_names
names_length = refl

named_code_told : (bytes : List ℕ) (code : ℕ) (rest : List ℕ) → named_code_at unreach_names 0 bytes ≡ Some (code, rest) → IsCode bytes code rest
named_code_told bytes code rest is =
    let told = names_told unreach_names 0 bytes code rest is in
    let place : told.place ≡ code = omega (arith, told.is) in
    let word : told.name ≡ code_word code = code_named code told.place told.name place told.stands in
    record {
      split = told.split ∙ ap (λ t. t ++ (codes " " ++ rest)) word;
      within = omega (arith, slice_get_within unreach_names told.place told.name told.stands, names_length, place);
    }

plain_code_told : (found : Part ℕ) (code : ℕ) (rest : List ℕ) → plain_code found ≡ Some (code, rest)
    → (left : List ℕ) × (found ≡ Some (code, left)) × (16 ≤ code) × (left ≡ codes " " ++ rest)
unfolding plain_code
plain_code_told None code rest is = absurd (none-some (code, rest) is)
plain_code_told (Some (n, bytes)) code rest is = elim (cases_Bool (nat_le 16 n)) [
  | inl enough ↦
      let on = rw enough at is in
      let (left, found, told) = then_found (behind (codes " ") bytes) (λ r. Some (n, r)) (code, rest) on in
      let (same, end) = some_pair_parts n code left rest told in
      (bytes, ap (λ k. Some (k, bytes)) same, subst (λ k. 16 ≤ k) same (leb-true 16 n enough), behind_told (codes " ") bytes left found ∙ ap (λ t. codes " " ++ t) end)
  | inr few ↦ let no = rw few at is in absurd (none-some (code, rest) no)
]

plain_told : (bytes : List ℕ) (code : ℕ) (rest : List ℕ) → plain_code (positive_at 255 bytes) ≡ Some (code, rest) → IsCode bytes code rest
plain_told bytes code rest is =
    let (left, found, first, end) = plain_code_told (positive_at 255 bytes) code rest is in
    let number = positive_told 255 bytes code left (omega arith) found in
    record {
      split = number.split ∙ ap (λ t. decimal code ++ t) end ∙ sym (ap (λ t. t ++ (codes " " ++ rest)) (code_unnamed code first));
      within = number.last;
    }

-- ---- a judgement

-- a text is a verdict between its spaces and a rest
record IsVerdictText (bytes : List ℕ) (verdict : Verdict) (rest : List ℕ) : Type 0 where
  split : bytes ≡ codes " " ++ (verdict_word verdict ++ (verdict_code verdict ++ (codes " " ++ rest)))
  within : IsVerdict verdict

code_told : (bytes inner : List ℕ) (verdict : Verdict) (rest : List ℕ) → bytes ≡ codes " unreach " ++ inner → code_at inner ≡ Some (verdict, rest)
    → IsVerdictText bytes verdict rest
unfolding code_at any_code_at
code_told bytes inner verdict rest front is =
    let (found, here, told) = then_found (any_code_at inner) (λ f. Some (Unreach f.0, f.1)) (verdict, rest) is in
    let (same, end) = some_pair_parts (Unreach found.0) verdict found.1 rest told in
    let code : IsCode inner found.0 found.1 = elim (one_found (named_code_at unreach_names 0 inner) (plain_code (positive_at 255 inner)) found here) [
      | inl by_name ↦ named_code_told inner found.0 found.1 by_name
      | inr by_number ↦ plain_told inner found.0 found.1 by_number
    ] in
    subst (λ (v : Verdict). IsVerdictText bytes v rest) same (record {
      split = front ∙ ap (λ t. codes " unreach " ++ t) (code.split ∙ ap (λ t. code_word found.0 ++ (codes " " ++ t)) end);
      within = code.within;
    })

word_told : (word bytes : List ℕ) (plain verdict : Verdict) (rest : List ℕ) → told_by word plain bytes ≡ Some (verdict, rest)
    → word ++ rest ≡ codes " " ++ (verdict_word plain ++ (verdict_code plain ++ (codes " " ++ rest))) → IsVerdict plain → IsVerdictText bytes verdict rest
word_told word bytes plain verdict rest is text within =
    let (same, split) = by_word word bytes rest plain verdict is in
    subst (λ (v : Verdict). IsVerdictText bytes v rest) same (record { split = split ∙ text; within = within })

verdict_told : (bytes : List ℕ) (verdict : Verdict) (rest : List ℕ) → verdict_at bytes ≡ Some (verdict, rest) → IsVerdictText bytes verdict rest
unfolding verdict_at
verdict_told bytes verdict rest is =
    let last : Part Verdict = behind (codes " unreach ") bytes >>= code_at in
    let third : Part Verdict = or_else (told_by (codes " reset ") Reset bytes) last in
    let second : Part Verdict = or_else (told_by (codes " deny ") Deny bytes) third in
    elim (one_found (told_by (codes " allow ") Allow bytes) second (verdict, rest) is) [
      | inl allow ↦ word_told (codes " allow ") bytes Allow verdict rest allow refl tt
      | inr more ↦ elim (one_found (told_by (codes " deny ") Deny bytes) third (verdict, rest) more) [
        | inl deny ↦ word_told (codes " deny ") bytes Deny verdict rest deny refl tt
        | inr other ↦ elim (one_found (told_by (codes " reset ") Reset bytes) last (verdict, rest) other) [
          | inl reset ↦ word_told (codes " reset ") bytes Reset verdict rest reset refl tt
          | inr unreach ↦
              let (inner, found, told) = then_found (behind (codes " unreach ") bytes) code_at (verdict, rest) unreach in
              code_told bytes inner verdict rest (behind_told (codes " unreach ") bytes inner found) told
        ]
      ]
    ]

-- what is read of a count of states stands there
pub count_told : (word bytes : List ℕ) (states : ℕ) → count_in word bytes ≡ Some states → (bytes ≡ word ++ (decimal states ++ codes "\n")) × (states < 2 ^ 32)
unfolding count_in
count_told word bytes states is =
    let ends : ℕ × List ℕ → Option ℕ = λ count. ended count.0 count.1 in
    let (front, found, more) = then_found (behind word bytes) (λ t. number_at 4294967295 t >>= ends) states is in
    let (count, read, end) = then_found (number_at 4294967295 front) ends states more in
    let number = number_told 4294967295 front count.0 count.1 (omega arith) read in
    let (same, line_end) = where_word (codes "\n") count.1 count.0 states end in
    let text : decimal count.0 ++ count.1 ≡ decimal states ++ codes "\n" = ap (λ t. decimal count.0 ++ t) line_end ∙ ap (λ k. decimal k ++ codes "\n") same in
    (behind_told word bytes front found ∙ ap (λ t. word ++ t) (number.split ∙ text), omega (arith, number.last, same))

-- a text is a cause and the line's end
record IsCauseText (bytes : List ℕ) (cause : Cause) : Type 0 where
  split : bytes ≡ cause_word cause ++ (cause_count cause ++ codes "\n")
  within : IsCause cause

cause_told : (bytes : List ℕ) (cause : Cause) → cause_in bytes ≡ Some cause → IsCauseText bytes cause
unfolding cause_in
cause_told bytes cause is =
    let limited : ℕ → Option Cause = λ states. Some (Limit states) in
    let full : ℕ → Option Cause = λ states. Some (Full states) in
    let last : Option Cause = count_in (codes " full ") bytes >>= full in
    let second : Option Cause = count_in (codes " limit ") bytes >>= limited in
    elim (one_found (ended Rule bytes) (or_else second last) cause is) [
      | inl plain ↦
          let (same, end) = where_word (codes "\n") bytes Rule cause plain in
          subst (λ (c : Cause). IsCauseText bytes c) same (record { split = end; within = tt })
      | inr counted ↦ elim (one_found second last cause counted) [
        | inl limit ↦
            let (states, found, told) = then_found (count_in (codes " limit ") bytes) limited cause limit in
            let (split, small) = count_told (codes " limit ") bytes states found in
            subst (λ (c : Cause). IsCauseText bytes c) (same_Some (Limit states) cause told) (record { split = split; within = small })
        | inr fully ↦
            let (states, found, told) = then_found (count_in (codes " full ") bytes) full cause fully in
            let (split, small) = count_told (codes " full ") bytes states found in
            subst (λ (c : Cause). IsCauseText bytes c) (same_Some (Full states) cause told) (record { split = split; within = small })
      ]
    ]

-- a text is that of an entry
record IsEntryText (bytes : List ℕ) (told : DocketEntry) : Type 0 where
  split : bytes ≡ entry_text told
  within : IsEntry told

judged_entry : (bytes : List ℕ) (verdict : Verdict) (cause : Cause) (rule : RuleRef) (edition : ℕ)
    → bytes ≡ judged_text (judgement_of verdict cause rule edition) → IsJudged verdict rule edition → IsCause cause
    → IsEntryText bytes (entry_by_cause cause verdict rule edition)
unfolding entry_text
judged_entry bytes verdict Rule rule edition split judged within = record { split = split; within = judged }
judged_entry bytes verdict (Limit states) rule edition split judged within = record { split = split; within = (judged, within) }
judged_entry bytes verdict (Full states) rule edition split judged within = record { split = split; within = (judged, within) }

-- the steps of reading a judgement, from the last to the first
abbrev last_step : Verdict → ℕ → ℕ → Cause → Option DocketEntry
last_step verdict number edition cause = Some (entry_by_cause cause verdict (record { id = 0; number = number }) edition)

abbrev cause_step : Verdict → ℕ → ℕ × List ℕ → Option DocketEntry
cause_step verdict number edition = cause_in edition.1 >>= last_step verdict number edition.0

abbrev edition_step : Verdict → ℕ → List ℕ → Option DocketEntry
edition_step verdict number front = positive_at 18446744073709551615 front >>= cause_step verdict number

abbrev word_step : Verdict → ℕ × List ℕ → Option DocketEntry
word_step verdict number = behind (codes " at ") number.1 >>= edition_step verdict number.0

abbrev rule_step : Verdict × List ℕ → Option DocketEntry
rule_step verdict = rule_number_at verdict.1 >>= word_step verdict.0

judged_split : (bytes rest front_rest front last : List ℕ) (verdict : Verdict) (number edition : ℕ) (cause : Cause)
    → IsVerdictText bytes verdict rest → rest ≡ five_digits number ++ front_rest → front_rest ≡ codes " at " ++ front → front ≡ decimal edition ++ last → IsCauseText last cause
    → bytes ≡ judged_text (judgement_of verdict cause (record { id = 0; number = number }) edition)
unfolding judged_text
judged_split bytes rest front_rest front last verdict number edition cause v five word ed c =
    v.split ∙ ap (λ t. codes " " ++ (verdict_word verdict ++ (verdict_code verdict ++ (codes " " ++ t))))
    (five ∙ ap (λ t. five_digits number ++ t) (word ∙ ap (λ t. codes " at " ++ t) (ed ∙ ap (λ t. decimal edition ++ t) c.split)))

judged_told : (bytes : List ℕ) (told : DocketEntry) → judged_in bytes ≡ Some told → IsEntryText bytes told
unfolding judged_in
judged_told bytes told is =
    let (v, v_found, v_more) = then_found (verdict_at bytes) rule_step told is in
    let (n, n_found, n_more) = then_found (rule_number_at v.1) (word_step v.0) told v_more in
    let (front, f_found, f_more) = then_found (behind (codes " at ") n.1) (edition_step v.0 n.0) told n_more in
    let (e, e_found, e_more) = then_found (positive_at 18446744073709551615 front) (cause_step v.0 n.0) told f_more in
    let (cause, c_found, last) = then_found (cause_in e.1) (last_step v.0 n.0 e.0) told e_more in
    let verdict = verdict_told bytes v.0 v.1 v_found in
    let number = rule_number_told v.1 n.0 n.1 n_found in
    let edition = positive_told 18446744073709551615 front e.0 e.1 (omega arith) e_found in
    let causes = cause_told e.1 cause c_found in
    let rule : RuleRef = record { id = 0; number = n.0 } in
    let judged : IsJudged v.0 rule e.0 = record { code = verdict.within; number = number.last; first = edition.first; last = omega (arith, edition.last) } in
    let split = judged_split bytes v.1 n.1 front e.1 v.0 n.0 e.0 cause verdict number.split (behind_told (codes " at ") n.1 front f_found) edition.split causes in
    subst (λ (t : DocketEntry). IsEntryText bytes t) (same_Some (entry_by_cause cause v.0 rule e.0) told last)
    (judged_entry bytes v.0 cause rule e.0 split judged causes.within)

-- ---- the line

malformed_told : (bytes : List ℕ) (told : DocketEntry) → malformed_in bytes ≡ Some told → IsEntryText bytes told
unfolding malformed_in entry_text
malformed_told bytes told is =
    let ends : ℕ × List ℕ → Option DocketEntry = λ kind. ended (entry.Malformed kind.0) kind.1 in
    let (front, found, more) = then_found (behind (codes " malformed ") bytes) (λ t. positive_at 5 t >>= ends) told is in
    let (kind, read, end) = then_found (positive_at 5 front) ends told more in
    let number = positive_told 5 front kind.0 kind.1 (omega arith) read in
    let (same, line_end) = where_word (codes "\n") kind.1 (entry.Malformed kind.0) told end in
    subst (λ (t : DocketEntry). IsEntryText bytes t) same (record {
      split = behind_told (codes " malformed ") bytes front found ∙ ap (λ t. codes " malformed " ++ t) (number.split ∙ ap (λ t. decimal kind.0 ++ t) line_end);
      within = (number.first, number.last);
    })

entry_told : (bytes : List ℕ) (told : DocketEntry) → entry_in bytes ≡ Some told → IsEntryText bytes told
unfolding entry_in entry_text
entry_told bytes told is = elim (one_found (told_where (codes " other\n") entry.Other bytes) (or_else (malformed_in bytes) (judged_in bytes)) told is) [
  | inl other ↦
      let (same, text) = where_word (codes " other\n") bytes entry.Other told other in
      subst (λ (t : DocketEntry). IsEntryText bytes t) same (record { split = text; within = tt })
  | inr more ↦ elim (one_found (malformed_in bytes) (judged_in bytes) told more) [
    | inl malformed ↦ malformed_told bytes told malformed
    | inr judged ↦ judged_told bytes told judged
  ]
]

-- a line is the text of what was read of it, in its ranges
pub record IsRecordLine (line : List ℕ) (told : RecordLine) : Type 0 where
  pub split : line ≡ record_line told.capture told.at told.entry
  pub within : IsRecord told.capture told.at told.entry

abbrev told_step : ℕ → ℕ → DocketEntry → Option RecordLine
told_step capture at told = Some (record { capture = capture; at = at; entry = told })

abbrev entry_step : ℕ → ℕ × List ℕ → Option RecordLine
entry_step capture at = entry_in at.1 >>= told_step capture at.0

abbrev at_step : ℕ → List ℕ → Option RecordLine
at_step capture front = positive_at 18446744073709551615 front >>= entry_step capture

abbrev point_step : ℕ × List ℕ → Option RecordLine
point_step capture = behind (codes ".") capture.1 >>= at_step capture.0

-- what is read of a line is what it is the text of
pub record_told : (line : List ℕ) (told : RecordLine) → record_in line ≡ Some told → IsRecordLine line told
unfolding record_in record_line
record_told line told is =
    let (c, c_found, c_more) = then_found (positive_at 16 line) point_step told is in
    let (front, f_found, f_more) = then_found (behind (codes ".") c.1) (at_step c.0) told c_more in
    let (a, a_found, a_more) = then_found (positive_at 18446744073709551615 front) (entry_step c.0) told f_more in
    let (e, e_found, last) = then_found (entry_in a.1) (told_step c.0 a.0) told a_more in
    let capture = positive_told 16 line c.0 c.1 (omega arith) c_found in
    let at = positive_told 18446744073709551615 front a.0 a.1 (omega arith) a_found in
    let entry = entry_told a.1 e e_found in
    subst (λ (t : RecordLine). IsRecordLine line t) (same_Some (record { capture = c.0; at = a.0; entry = e }) told last) (record {
      split = capture.split ∙ ap (λ t. decimal c.0 ++ t) (behind_told (codes ".") c.1 front f_found
          ∙ ap (λ t. codes "." ++ t) (at.split ∙ ap (λ t. decimal a.0 ++ t) entry.split));
      within = record { capture_first = capture.first; capture_last = capture.last; first = at.first; last = omega (arith, at.last); fields = entry.within };
    })
