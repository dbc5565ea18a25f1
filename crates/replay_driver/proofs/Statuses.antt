-- What the status of a replay tells of how its captures ended and of its answers.
use Rattle.std.proofs.Common.{◌≡◌, ◌≢◌, ℕ, ◌≤◌, Bool, true, false, List, refl, sym, ◌∙◌, arith}
use Rattle.std.specs.Prelude.{if◌then◌else◌}
use Rattle.std.specs.List.{list_any}
use Rattle.report_texts.specs.CaptureEnds.{is_unread}
use Rattle.report_texts.specs.declared.capture_end.CaptureEnd.{CaptureEnd}
use Rattle.report_texts.specs.declared.ends.LineAnswer.{LineAnswer}
use Rattle.replay_driver.specs.RunResult.{is_stopped, is_refused, report_status}

-- the status by the three tests
abbrev pub status_by : Bool → Bool → Bool → ℕ
status_by unread stopped refused = if unread then 4 else if stopped then 3 else if refused then 2 else 0

-- the status of a report is the one by its three tests
pub by_tests : (captures : List CaptureEnd) (answers : List LineAnswer) → report_status captures answers ≡ status_by (list_any is_unread captures) (list_any is_stopped captures) (list_any is_refused answers)
unfolding report_status
by_tests captures answers = refl

quiet_tests : (u s r : Bool) → status_by u s r ≡ 0 → (s ≡ false) × (r ≡ false)
quiet_tests true s r e = absurd (omega arith)
quiet_tests false true r e = absurd (omega arith)
quiet_tests false false true e = absurd (omega arith)
quiet_tests false false false e = (refl, refl)

refused_tests : (u s r : Bool) → status_by u s r ≡ 2 → (s ≡ false) × (r ≡ true)
refused_tests true s r e = absurd (omega arith)
refused_tests false true r e = absurd (omega arith)
refused_tests false false true e = (refl, refl)
refused_tests false false false e = absurd (omega arith)

faulty_tests : (u s r : Bool) → status_by u s r ≡ 3 → (u ≡ false) × (s ≡ true)
faulty_tests true s r e = absurd (omega arith)
faulty_tests false true r e = (refl, refl)
faulty_tests false false true e = absurd (omega arith)
faulty_tests false false false e = absurd (omega arith)

unread_tests : (u s r : Bool) → status_by u s r ≡ 4 → u ≡ true
unread_tests true s r e = refl
unread_tests false true r e = absurd (omega arith)
unread_tests false false true e = absurd (omega arith)
unread_tests false false false e = absurd (omega arith)

few_tests : (u s r : Bool) → (status_by u s r ≤ 4) × (status_by u s r ≢ 1)
few_tests true s r = (omega arith, λ e. omega arith)
few_tests false true r = (omega arith, λ e. omega arith)
few_tests false false true = (omega arith, λ e. omega arith)
few_tests false false false = (omega arith, λ e. omega arith)

zero_tests : (u s r : Bool) → u ≡ false → s ≡ false → r ≡ false → status_by u s r ≡ 0
zero_tests true s r a b c = absurd (cc)
zero_tests false true r a b c = absurd (cc)
zero_tests false false true a b c = absurd (cc)
zero_tests false false false a b c = refl

module _ (captures : List CaptureEnd) (answers : List LineAnswer) where
  -- status 0: no capture ended with a fault, and no command was refused
  pub quiet_ends : report_status captures answers ≡ 0 → (list_any is_stopped captures ≡ false) × (list_any is_refused answers ≡ false)
  quiet_ends e = quiet_tests _ _ _ (sym (by_tests captures answers) ∙ e)

  -- status 2: no capture ended with a fault, and a command was refused
  pub refused_lines : report_status captures answers ≡ 2 → (list_any is_stopped captures ≡ false) × (list_any is_refused answers ≡ true)
  refused_lines e = refused_tests _ _ _ (sym (by_tests captures answers) ∙ e)

  -- status 3: a capture ended with a fault, and none because its source failed
  pub faulty_ends : report_status captures answers ≡ 3 → (list_any is_unread captures ≡ false) × (list_any is_stopped captures ≡ true)
  faulty_ends e = faulty_tests _ _ _ (sym (by_tests captures answers) ∙ e)

  -- status 4: a capture ended because its source failed
  pub unread_ends : report_status captures answers ≡ 4 → list_any is_unread captures ≡ true
  unread_ends e = unread_tests _ _ _ (sym (by_tests captures answers) ∙ e)

  -- it is at most 4 and not 1
  pub few : (report_status captures answers ≤ 4) × (report_status captures answers ≢ 1)
  few = rw (by_tests captures answers) (few_tests (list_any is_unread captures) (list_any is_stopped captures) (list_any is_refused answers))

  -- where no source failed, no capture has a fault and no command was refused, the status is 0
  pub all_well : list_any is_unread captures ≡ false → list_any is_stopped captures ≡ false → list_any is_refused answers ≡ false → report_status captures answers ≡ 0
  all_well a b c = by_tests captures answers ∙ zero_tests _ _ _ a b c
