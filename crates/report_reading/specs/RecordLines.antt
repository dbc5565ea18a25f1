-- The lines of records, read back.
use Rattle.std.specs.Prelude.{ℕ, ◌+◌, ◌^◌, ◌≤◌, ◌<◌, nat_le, if◌then◌else◌, Option, Some, None, List, [], ◌∷◌, codes}
use Rattle.fw_rule.specs.Names.{unreach_names}
use Rattle.state_asks.specs.declared.rule_ref.RuleRef.{RuleRef}
use Rattle.eval_engine.specs.Dockets.{entry_by_cause}
use Rattle.eval_engine.specs.declared.docket_entry.DocketEntry.{DocketEntry}
use Rattle.eval_engine.specs.declared.docket_entry.DocketEntry.TheVariants as entry
use Rattle.eval_engine.specs.declared.judgement.Cause.{Cause}
use Rattle.eval_engine.specs.declared.judgement.Cause.TheVariants.{Rule, Limit, Full}
use Rattle.eval_engine.specs.declared.judgement.Verdict.{Verdict}
use Rattle.eval_engine.specs.declared.judgement.Verdict.TheVariants.{Allow, Deny, Reset, Unreach}
use Rattle.fw_base.specs.Chain.{◌>>=◌, or_else}
use Rattle.report_reading.specs.Parts.{Part, behind, told_by, told_where, ended, positive_at, number_at, rule_number_at}
use Rattle.report_reading.specs.declared.record_lines.RecordLine.{RecordLine}

-- ---- what a line of a record can tell

-- a rule by its number alone, which is all that a line tells of it
abbrev pub printed_rule : RuleRef → RuleRef
printed_rule rule = record { id = 0; number = rule.number }

-- an entry with its rule by the number alone
abbrev pub printed : DocketEntry → DocketEntry
printed entry.Other = entry.Other
printed (entry.Malformed kind) = entry.Malformed kind
printed (entry.Judged verdict rule edition) = entry.Judged verdict (printed_rule rule) edition
printed (entry.Limited verdict rule states edition) = entry.Limited verdict (printed_rule rule) states edition
printed (entry.Full verdict rule states edition) = entry.Full verdict (printed_rule rule) states edition

-- a code of `unreach` has 8 bits (RFC 792)
abbrev pub IsVerdict : Verdict → Type 0
IsVerdict Allow = Unit {0}
IsVerdict Deny = Unit {0}
IsVerdict Reset = Unit {0}
IsVerdict (Unreach code) = code ≤ 255

-- a judgement's verdict, number of a rule, and edition, from 1 on
pub record IsJudged (verdict : Verdict) (rule : RuleRef) (edition : ℕ) : Type 0 where
  pub code : IsVerdict verdict
  pub number : rule.number ≤ 65535
  pub first : 1 ≤ edition
  pub last : edition < 2 ^ 64

-- an entry in the ranges of its fields
abbrev pub IsEntry : DocketEntry → Type 0
IsEntry entry.Other = Unit {0}
IsEntry (entry.Malformed kind) = (1 ≤ kind) × (kind ≤ 5)
IsEntry (entry.Judged verdict rule edition) = IsJudged verdict rule edition
IsEntry (entry.Limited verdict rule states edition) = IsJudged verdict rule edition × (states < 2 ^ 32)
IsEntry (entry.Full verdict rule states edition) = IsJudged verdict rule edition × (states < 2 ^ 32)

-- captures are 1 to 16, records from 1 on
pub record IsRecord (capture at : ℕ) (entry : DocketEntry) : Type 0 where
  pub capture_first : 1 ≤ capture
  pub capture_last : capture ≤ 16
  pub first : 1 ≤ at
  pub last : at < 2 ^ 64
  pub fields : IsEntry entry

-- ---- how it is read

-- the text behind a name and a space
abbrev pub named : List ℕ → List ℕ → Option (List ℕ)
named name bytes = behind name bytes >>= behind (codes " ")

-- the code whose name the text begins with; the first name is that of this code
unfoldable pub named_code_at : List (List ℕ) → ℕ → List ℕ → Part ℕ
named_code_at [] code bytes = None
named_code_at (name ∷ names) code bytes =
    or_else (named name bytes >>= λ rest. Some (code, rest)) (named_code_at names (code + 1) bytes)

-- a code that has no name
unfoldable pub plain_code : Part ℕ → Part ℕ
plain_code None = None
plain_code (Some (code, bytes)) = if nat_le 16 code then behind (codes " ") bytes >>= (λ rest. Some (code, rest)) else None

-- a code of `unreach`, by name where it has one, and the space behind it
unfoldable pub any_code_at : List ℕ → Part ℕ
any_code_at bytes = or_else (named_code_at unreach_names 0 bytes) (plain_code (positive_at 255 bytes))

-- the verdict of this code
unfoldable pub code_at : List ℕ → Part Verdict
code_at bytes = any_code_at bytes >>= λ found. Some (Unreach found.0, found.1)

-- a verdict between its spaces
unfoldable pub verdict_at : List ℕ → Part Verdict
verdict_at bytes =
    or_else (told_by (codes " allow ") Allow bytes)
    (or_else (told_by (codes " deny ") Deny bytes)
    (or_else (told_by (codes " reset ") Reset bytes) (behind (codes " unreach ") bytes >>= code_at)))

-- a count of states behind its word, to the line's end
unfoldable pub count_in : List ℕ → List ℕ → Option ℕ
count_in word bytes = do
  front ← behind word bytes
  count ← number_at 4294967295 front
  ended count.0 count.1

-- the cause, to the line's end
unfoldable pub cause_in : List ℕ → Option Cause
cause_in bytes =
    or_else (ended Rule bytes)
    (or_else (count_in (codes " limit ") bytes >>= λ states. Some (Limit states)) (count_in (codes " full ") bytes >>= λ states. Some (Full states)))

-- an entry of a judgement, to the line's end
unfoldable pub judged_in : List ℕ → Option DocketEntry
judged_in bytes = do
  verdict ← verdict_at bytes
  number ← rule_number_at verdict.1
  front ← behind (codes " at ") number.1
  edition ← positive_at 18446744073709551615 front
  cause ← cause_in edition.1
  Some (entry_by_cause cause verdict.0 (record { id = 0; number = number.0 }) edition.0)

-- the kind of a header that can't be read, to the line's end
unfoldable pub malformed_in : List ℕ → Option DocketEntry
malformed_in bytes = do
  front ← behind (codes " malformed ") bytes
  kind ← positive_at 5 front
  ended (entry.Malformed kind.0) kind.1

-- what is told of a record, to the line's end
unfoldable pub entry_in : List ℕ → Option DocketEntry
entry_in bytes = or_else (told_where (codes " other\n") entry.Other bytes) (or_else (malformed_in bytes) (judged_in bytes))

-- a capture's number, a record's, and what is told of it
unfoldable pub record_in : List ℕ → Option RecordLine
record_in line = do
  capture ← positive_at 16 line
  front ← behind (codes ".") capture.1
  at ← positive_at 18446744073709551615 front
  entry ← entry_in at.1
  Some (record { capture = capture.0; at = at.0; entry = entry })
