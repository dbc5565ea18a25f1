-- What stands behind the lines of the captures.
use Rattle.std.proofs.Common.{◌≡◌, ◌≢◌, ℕ, ◌<◌, ◌^◌, true, false, List, [], ◌∷◌, ◌++◌, length, sym, ap, ◌∙◌, append_assoc, codes, arith}
use Rattle.std.specs.Prelude.{is_some}
use Rattle.std.specs.Char.{is_ascii_digit}
use Rattle.std.specs.Fmt.{decimal}
use Rattle.std.specs.List.{list_all}
use Rattle.std.proofs.lemmas.Bool.{and_parts, or_parts, false≢true}
use Rattle.std.proofs.lemmas.Fmt.{digits_decimal, decimal_nonempty}
use Rattle.eval_engine.specs.declared.docket_entry.DocketEntry.{DocketEntry}
use Rattle.report_texts.specs.DocketText.{record_line, entry_text}
use Rattle.report_reading.proofs.Digits.{own}
use Rattle.report_reading.specs.Parts.{behind}
use Rattle.report_reading.proofs.Words.{behind_again}
use Rattle.report_values.specs.Fields.{begins_with_digit}
use Rattle.report_values.specs.Captures.{begins_capture_line, IsBehindCaptures}

digits_begin : (digits rest : List ℕ) → list_all is_ascii_digit digits ≡ true → 0 < length digits → begins_with_digit (digits ++ rest) ≡ true
unfolding begins_with_digit
digits_begin [] rest all some = absurd (omega arith)
digits_begin (digit ∷ digits) rest all some = (and_parts (is_ascii_digit digit) (list_all is_ascii_digit digits) all).0

no_record : (bytes : List ℕ) → begins_with_digit bytes ≡ false
    → (capture at : ℕ) (entry : DocketEntry) (rest : List ℕ) → capture < 2 ^ 64 → bytes ≢ record_line capture at entry ++ rest
unfolding record_line
no_record bytes isn't capture at entry rest fits is =
    let told = codes "." ++ (decimal at ++ entry_text entry) in
    let begins = digits_begin (decimal capture) (told ++ rest) (digits_decimal own capture fits) (decimal_nonempty capture fits) in
    false≢true (sym isn't ∙ ap begins_with_digit (is ∙ append_assoc (decimal capture) told rest) ∙ begins)

no_word : (word bytes : List ℕ) → is_some (behind word bytes) ≡ false → (rest : List ℕ) → bytes ≢ word ++ rest
no_word word bytes isn't rest is =
    false≢true (sym isn't ∙ ap (λ text. is_some (behind word text)) is ∙ ap is_some (behind_again word rest))

-- a text that begins as no line of captures does
pub behind_captures : (bytes : List ℕ) → begins_capture_line bytes ≡ false → IsBehindCaptures bytes
unfolding begins_capture_line
behind_captures bytes isn't =
    let (digit, words) = or_parts (begins_with_digit bytes) _ isn't in
    let (ends, faults) = or_parts (is_some (behind (codes "end ") bytes)) _ words in
    record {
      records = no_record bytes digit;
      ends = no_word (codes "end ") bytes ends;
      faults = no_word (codes "fault ") bytes faults;
    }
