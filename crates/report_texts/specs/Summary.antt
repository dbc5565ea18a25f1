-- The summary of a run: six lines.
use Rattle.std.specs.Prelude.{ℕ, Bool, true, false, List, ◌++◌, length, sum_by, count_by, codes, decimal}
use Rattle.eval_engine.specs.Dockets.{DocketValue}
use Rattle.eval_engine.specs.declared.docket_entry.DocketEntry.{DocketEntry}
use Rattle.eval_engine.specs.declared.docket_entry.DocketEntry.TheVariants.{Other, Malformed, Judged, Limited, Full}
use Rattle.eval_engine.specs.declared.judgement.Verdict.{Verdict}
use Rattle.eval_engine.specs.declared.judgement.Verdict.TheVariants.{Allow, Deny, Reset, Unreach}

-- the packet was let through
abbrev pub is_allow : Verdict → Bool
is_allow Allow = true
is_allow Deny = false
is_allow Reset = false
is_allow (Unreach code) = false

-- the packet was dropped without an answer
abbrev pub is_deny : Verdict → Bool
is_deny Allow = false
is_deny Deny = true
is_deny Reset = false
is_deny (Unreach code) = false

-- a record that was judged so
abbrev pub is_judged : (Verdict → Bool) → DocketEntry → Bool
is_judged is Other = false
is_judged is (Malformed kind) = false
is_judged is (Judged verdict rule edition) = is verdict
is_judged is (Limited verdict rule states edition) = is verdict
is_judged is (Full verdict rule states edition) = is verdict

-- how many records there are
abbrev pub records_in : List DocketValue → ℕ
records_in dockets = sum_by (λ docket. length docket.entries) dockets

-- how many records were judged so
abbrev pub judged_in : (Verdict → Bool) → List DocketValue → ℕ
judged_in is dockets = sum_by (λ docket. count_by (is_judged is) docket.entries) dockets

-- the six lines
unfoldable pub summary_text : List DocketValue → ℕ → ℕ → ℕ → List ℕ
summary_text dockets editions entries states =
    codes "records " ++ (decimal (records_in dockets)
    ++ (codes "\nallow " ++ (decimal (judged_in is_allow dockets)
    ++ (codes "\ndeny " ++ (decimal (judged_in is_deny dockets)
    ++ (codes "\neditions " ++ (decimal editions
    ++ (codes "\nentries " ++ (decimal entries
    ++ (codes "\nstates " ++ (decimal states ++ codes "\n")))))))))))
