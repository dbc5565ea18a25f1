-- The lines of records and of captures, with one more behind them.
use Rattle.std.proofs.Common.{◌≡◌, ℕ, suc, ◌+◌, List, [], ◌∷◌, ◌++◌, length, sym, ap, ◌∙◌, append_assoc, append-nil, add-zero, arith}
use Rattle.eval_engine.specs.declared.docket_entry.DocketEntry.{DocketEntry}
use Rattle.report_texts.specs.DocketText.{record_line, record_lines}
use Rattle.report_values.specs.Captures.{capture_lines, captures_lines}
use Rattle.report_values.specs.declared.capture.Capture.{Capture}

record_lines_push : (capture at : ℕ) (entries : List DocketEntry) (entry : DocketEntry)
    → record_lines capture at (entries ++ entry ∷ []) ≡ record_lines capture at entries ++ record_line capture (at + length entries) entry
record_lines_push capture at [] entry =
    append-nil (record_line capture at entry) ∙ ap (λ n. record_line capture n entry) (sym (add-zero at))
record_lines_push capture at (first ∷ entries) entry =
    let next : at + 1 + length entries ≡ at + suc (length entries) = omega arith in
    ap (λ text. record_line capture at first ++ text) (record_lines_push capture (at + 1) entries entry)
    ∙ sym (append_assoc (record_line capture at first) (record_lines capture (at + 1) entries) (record_line capture (at + 1 + length entries) entry))
    ∙ ap (λ n. (record_line capture at first ++ record_lines capture (at + 1) entries) ++ record_line capture n entry) next

-- a record more was read
pub record_more : (capture at : ℕ) (whole rest behind : List ℕ) (entries news : List DocketEntry) (entry : DocketEntry)
    → whole ≡ record_lines capture 1 entries ++ rest → 1 + length entries ≡ at → rest ≡ record_line capture at entry ++ behind
    → news ≡ entries ++ entry ∷ [] → whole ≡ record_lines capture 1 news ++ behind
record_more capture at whole rest behind entries news entry so_far place line more =
    so_far ∙ ap (λ text. record_lines capture 1 entries ++ text) line
    ∙ sym (append_assoc (record_lines capture 1 entries) (record_line capture at entry) behind)
    ∙ ap (λ n. (record_lines capture 1 entries ++ record_line capture n entry) ++ behind) (sym place)
    ∙ ap (λ text. text ++ behind) (sym (record_lines_push capture 1 entries entry) ∙ ap (record_lines capture 1) (sym more))

captures_lines_push : (number : ℕ) (captures : List Capture) (capture : Capture)
    → captures_lines number (captures ++ capture ∷ []) ≡ captures_lines number captures ++ capture_lines (number + length captures) capture
captures_lines_push number [] capture =
    append-nil (capture_lines number capture) ∙ ap (λ n. capture_lines n capture) (sym (add-zero number))
captures_lines_push number (first ∷ captures) capture =
    let next : number + 1 + length captures ≡ number + suc (length captures) = omega arith in
    ap (λ text. capture_lines number first ++ text) (captures_lines_push (number + 1) captures capture)
    ∙ sym (append_assoc (capture_lines number first) (captures_lines (number + 1) captures) (capture_lines (number + 1 + length captures) capture))
    ∙ ap (λ n. (capture_lines number first ++ captures_lines (number + 1) captures) ++ capture_lines n capture) next

-- a capture more was read
pub capture_more : (number : ℕ) (whole rest behind : List ℕ) (captures news : List Capture) (capture : Capture)
    → whole ≡ captures_lines 1 captures ++ rest → 1 + length captures ≡ number → rest ≡ capture_lines number capture ++ behind
    → news ≡ captures ++ capture ∷ [] → whole ≡ captures_lines 1 news ++ behind
capture_more number whole rest behind captures news capture so_far place lines more =
    so_far ∙ ap (λ text. captures_lines 1 captures ++ text) lines
    ∙ sym (append_assoc (captures_lines 1 captures) (capture_lines number capture) behind)
    ∙ ap (λ n. (captures_lines 1 captures ++ capture_lines n capture) ++ behind) (sym place)
    ∙ ap (λ text. text ++ behind) (sym (captures_lines_push 1 captures capture) ∙ ap (captures_lines 1) (sym more))

-- a capture is its records' lines and the one of its end
pub capture_whole : (number : ℕ) (whole rest behind : List ℕ) (capture : Capture) → whole ≡ record_lines number 1 capture.records ++ rest
    → rest ≡ capture.end.line.now ++ behind → whole ≡ capture_lines number capture ++ behind
capture_whole number whole rest behind capture records line =
    records ∙ ap (λ text. record_lines number 1 capture.records ++ text) line
    ∙ sym (append_assoc (record_lines number 1 capture.records) capture.end.line.now behind)
