-- A script, line after line.
use Rattle.std.proofs.Common.{◌≡◌, ◌≤◌, ◌+◌, if◌then◌else◌, arith, ℕ, List, [], ◌∷◌, ◌++◌, Bool, true, false, Result, Ok, Err, refl, sym, ap, ◌∙◌, append_assoc}
use Rattle.std.specs.Prelude.{is_some}
use Rattle.std.proofs.lemmas.List.{append-nil}
use Rattle.fw_command.specs.declared.script.Pace.{Pace}
use Rattle.fw_command.specs.declared.statement.Place.{Place}
use Rattle.fw_command.specs.declared.script.Line.{Line}
use Rattle.fw_command.specs.declared.script.Step.{Step}
use Rattle.fw_command.specs.declared.script.Step.TheVariants.{Run, After as AfterPackets}
use Rattle.fw_command.specs.declared.statement.Statement.{Statement}
use Rattle.fw_command.specs.declared.statement.Statement.TheVariants.{Nothing, Order, Live, After}
use Rattle.fw_command.specs.declared.script.Script.{Script}
use Rattle.fw_command.specs.declared.script_fault.ScriptFault.{ScriptFault}
use Rattle.fw_command.specs.declared.script_fault.ScriptFault.TheVariants.{TooLong, TooManyLines, Parse, PaceInLive, TooManyLive, OutOfMemory}
use Rattle.fw_command.specs.Scripts.{script_from, statement_at, next_place, with_statement, with_command, Reads, ◌>>=◌}
use Rattle.fw_command.specs.Drafts.{Draft, draft_with, draft_with_order, behind_draft, with_draft}

no_draft : Draft
no_draft = record { before = []; live = [] }

behind_draft-with_command : (live : Bool) (line : Line) (draft : Draft) (script : Script) → behind_draft draft (with_command live line script) ≡ behind_draft (draft_with_order live line draft) script
behind_draft-with_command false line draft script =
    ap (λ (b : List Line). let s : Script = record { before = b; live_at = script.live_at; live = draft.live ++ script.live } in s) (sym (append_assoc draft.before (line ∷ []) script.before))
behind_draft-with_command true line draft script =
    ap (λ (l : List Step). let s : Script = record { before = draft.before ++ script.before; live_at = script.live_at; live = l } in s) (sym (append_assoc draft.live (Run line ∷ []) script.live))

behind_draft-with_statement : (place : Place) (statement : Statement) (draft : Draft) (script : Script) → behind_draft draft (with_statement place statement script) ≡ behind_draft (draft_with place statement draft) script
behind_draft-with_statement place Nothing draft script = refl
behind_draft-with_statement place (Order command) draft script = behind_draft-with_command (is_some place.live) (record { line = place.line; command = command }) draft script
behind_draft-with_statement place Live draft script = refl
behind_draft-with_statement place (After column count) draft script =
    ap (λ (l : List Step). let s : Script = record { before = draft.before ++ script.before; live_at = script.live_at; live = l } in s) (sym (append_assoc draft.live (AfterPackets count ∷ []) script.live))

with_draft-with_statement : (place : Place) (statement : Statement) (draft : Draft) (reading : Result Script ScriptFault)
    → with_draft draft (reading >>= λ script. Ok (with_statement place statement script)) ≡ with_draft (draft_with place statement draft) reading
with_draft-with_statement place statement draft (Ok script) = ap Ok (behind_draft-with_statement place statement draft script)
with_draft-with_statement place statement draft (Err fault) = refl

with_draft-nil : (reading : Result Script ScriptFault) → with_draft (record { before = []; live = [] }) reading ≡ reading
with_draft-nil (Ok script) = refl
with_draft-nil (Err fault) = refl

-- the next line's number is one more than this one's
pub next_line : (place : Place) (statement : Statement) → (next_place place statement).line ≡ place.line + 1
next_line place Nothing = refl
next_line place (Order command) = refl
next_line place Live = refl
next_line place (After column count) = refl

counted : (live : Bool) (ran : ℕ) → (if live then ran + 1 else ran) ≤ ran + 1
counted true ran = omega arith
counted false ran = omega arith

-- a line is one more command behind `live` at most
pub next_ran : (place : Place) (statement : Statement) → (next_place place statement).ran ≤ place.ran + 1
next_ran place Nothing = omega arith
next_ran place (Order command) = counted (is_some place.live) place.ran
next_ran place Live = omega arith
next_ran place (After column count) = omega arith

-- so far this draft was read; these lines are left, the first of them at this place
pub record IsScripting (pace : Pace) (whole : Result Script ScriptFault) (draft : Draft) (place : Place) (left : List (List ℕ)) : Type 0 where
  pub same : with_draft draft (script_from pace place left) ≡ whole

-- before the first line nothing was read
pub starts : (pace : Pace) (place : Place) (lines : List (List ℕ)) → IsScripting pace (script_from pace place lines) (record { before = []; live = [] }) place lines
starts pace place lines = record { same = with_draft-nil (script_from pace place lines) }

-- a line that is read: what it says is taken into the draft, and the lines behind it are left
pub goes : (pace : Pace) (whole : Result Script ScriptFault) (draft next : Draft) (place behind : Place) (line : List ℕ) (all left : List (List ℕ)) (statement : Statement)
    → IsScripting pace whole draft place all → all ≡ line ∷ left → statement_at pace place line ≡ Ok statement → next ≡ draft_with place statement draft → behind ≡ next_place place statement
    → IsScripting pace whole next behind left
unfolding script_from
goes pace whole draft next place behind line all left statement so_far here ok took moved =
    let read = rw (here, ok) at so_far.same in
    let step = with_draft-with_statement place statement draft (script_from pace (next_place place statement) left) in
    rw (took, moved) (record { same = sym step ∙ read })

-- the first line with a fault gives the script's fault
pub breaks : (pace : Pace) (whole : Result Script ScriptFault) (draft : Draft) (place : Place) (line : List ℕ) (all left : List (List ℕ)) (fault : ScriptFault)
    → IsScripting pace whole draft place all → all ≡ line ∷ left → statement_at pace place line ≡ Err fault → whole ≡ Err fault
unfolding script_from
breaks pace whole draft place line all left fault so_far here failed = sym (rw (here, failed) at so_far.same)

-- where no line is left, the draft is the script
pub ends : (pace : Pace) (whole : Result Script ScriptFault) (draft : Draft) (place : Place) (all : List (List ℕ))
    → IsScripting pace whole draft place all → all ≡ [] → whole ≡ Ok (record { before = draft.before; live_at = place.live; live = draft.live })
unfolding script_from
ends pace whole draft place all so_far none =
    let read = rw (none, append-nil draft.before, append-nil draft.live) at so_far.same in
    sym read

-- a fault of a line is the script's
pub fails_on : {X Y : Type 0} (fault : ScriptFault) (r : Result X ScriptFault) (q : Result Y ScriptFault) → ((f : ScriptFault) → r ≡ Err f → q ≡ Err f) → Reads (Err fault) r → Reads (Err fault) q
fails_on TooLong r q on failed = sym (on TooLong (sym failed))
fails_on TooManyLines r q on failed = sym (on TooManyLines (sym failed))
fails_on (Parse line column kind) r q on failed = sym (on (Parse line column kind) (sym failed))
fails_on (PaceInLive line column) r q on failed = sym (on (PaceInLive line column) (sym failed))
fails_on TooManyLive r q on failed = sym (on TooManyLive (sym failed))
fails_on OutOfMemory r q on failed = tt
