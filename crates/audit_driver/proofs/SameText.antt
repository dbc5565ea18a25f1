-- What a comparer tells behind a writing, and which text it compares with.
use Rattle.std.proofs.Common.{◌≡◌, ℕ, List, [], ◌∷◌, ◌++◌, Some, ap, ◌∙◌, false, Result, Ok, Err}
use Rattle.std.specs.Prelude.{OnOk, is_err}
use Rattle.fw_base.specs.Texts.{SinkState, WritesText}
use Rattle.run_audit.specs.Comparison.{Compared, line_of_first_other}

first_same : (a b : List ℕ) (c d : List (List ℕ)) → a ∷ c ≡ b ∷ d → a ≡ b
first_same a b c d same = cc

some_same : (a b : List ℕ) → Some a ≡ Some b → a ≡ b
some_same a b same = cc

-- what a call answers, where it isn't an error
pub when_ok : {T E : Type 0} (result : Result T E) (P : Type 0) → is_err result ≡ false → OnOk result P → P
when_ok (Ok value) P fine told = told
when_ok (Err error) P fine told = absurd (cc)

-- a comparer, as a sink
abbrev state_of : Compared → SinkState
state_of c = record { written = Some c.written; made_with = c.text ∷ []; faults = 0 }

-- the first line that differs, where a text was written to what compares with another
pub other_line : {T E : Type 0} (old new : Compared) (report text : List ℕ) (result : Result T E) → old ≡ record { text = report; written = [] } → is_err result ≡ false
    → WritesText (state_of old) (state_of new) text result → line_of_first_other 1 new.written new.text ≡ line_of_first_other 1 text report
other_line old new report text result was fine wrote =
    let compared : new.text ≡ report = first_same new.text old.text [] [] wrote.made ∙ ap (λ (c : Compared). c.text) was in
    let written : new.written ≡ text = when_ok result _ fine wrote.whole ∙ ap (λ (c : Compared). c.written ++ text) was in
    ap (line_of_first_other 1 new.written) compared ∙ ap (λ (l : List ℕ). line_of_first_other 1 l report) written
