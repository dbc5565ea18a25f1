-- The core of a read-mostly lock, rmlock(9): its state, its ten steps, and what holds in each state.
use Rattle.std.specs.Prelude.{◌≡◌, ◌≢◌, ◌⊎◌, ⊤, ℕ, ◌+◌, ◌-◌, ◌^◌, ◌<◌, ◌≤◌, ◌==◌, true, false, if◌then◌else◌, Option, Some, None, IsSomeAnd, List, length, map, slice_get, slice_set, replicate, All}
use Rattle.std.specs.Option.{option_map_or}
use Rattle.rm_core.specs.declared.processor_state.Phase.{Phase}
use Rattle.rm_core.specs.declared.processor_state.Phase.TheVariants.{Out, Raised, In}
use Rattle.rm_core.specs.declared.processor_state.Token.{Token}
use Rattle.rm_core.specs.declared.processor_state.Token.TheVariants.{Held, Revoked}
use Rattle.rm_core.specs.declared.event.Heard.{Heard}
use Rattle.rm_core.specs.declared.event.Heard.TheVariants.{Held as HeardHeld, Revoked as HeardRevoked, Drained, NotOut, Number, Nothing}
use Rattle.rm_core.specs.declared.event.Event.{Event}
use Rattle.rm_core.specs.declared.event.Event.TheVariants.{Raise, Check, Lower, TakeBack, GiveBack, Regain, Revoke, Drain, ReadNumber, Publish}
use Rattle.rm_core.specs.declared.processor_state.ProcessorState.{ProcessorState}

-- The processors whose flag `revoked` is set are those that the writer has revoked since the last
-- publication, and the flag `drained` says which of them it has found out since.
pub record CoreState : Type 0 where
  -- the published number
  pub number : ℕ
  -- who holds the lock behind
  pub holder : Option ℕ
  -- processor 1 first
  pub processors : List ProcessorState

-- the state of these parts
abbrev pub core_state_of : ℕ → Option ℕ → List ProcessorState → CoreState
core_state_of number holder processors = record { number = number; holder = holder; processors = processors }

-- a processor that is out and holds its token
abbrev pub idle : ProcessorState
idle = record { phase = Out; token = Held; revoked = false; drained = false }

-- a new lock of that many processors
abbrev pub opening : ℕ → ℕ → CoreState
opening processors number = core_state_of number None (replicate processors idle)

-- the operator's number, one past the last processor's
abbrev pub operator_of : CoreState → ℕ
operator_of s = length s.processors + 1

-- the number is a processor's or the operator's
abbrev pub IsSeat : CoreState → ℕ → Type 0
IsSeat s h = (0 < h) × (h ≤ operator_of s)

-- the processor of that number, 1 for the first, if there is one
abbrev pub processor_of : CoreState → ℕ → Option ProcessorState
processor_of s i = if i == 0 then None else slice_get s.processors (i - 1)

-- there is such a processor, and this holds of it
abbrev pub IsProcessor : CoreState → ℕ → (ProcessorState → Type 0) → Type 0
IsProcessor s i P = IsSomeAnd (processor_of s i) P

-- when a step may come. One with another number than a processor's, or than the operator's for the lock behind, never may
abbrev pub MayCome : CoreState → Event → Type 0
MayCome s (Raise i) = IsProcessor s i (λ p. p.phase ≡ Out)
MayCome s (Check i) = IsProcessor s i (λ p. p.phase ≡ Raised)
MayCome s (Lower i) = IsProcessor s i (λ p. (p.phase ≡ Raised) ⊎ (p.phase ≡ In))
MayCome s (TakeBack h) = IsSeat s h × (s.holder ≡ None)
-- the writer gives it back only once what it revoked is published
MayCome s (GiveBack h) = IsSeat s h × (s.holder ≡ Some h) × (h ≡ operator_of s → All (λ p. p.revoked ≡ false) s.processors)
MayCome s (Regain i) = IsProcessor s i (λ p. p.phase ≡ Out) × (s.holder ≡ Some i)
-- the next number has to fit a word of 64 bits
MayCome s (Revoke i) = IsProcessor s i (λ p. p.revoked ≡ false) × (s.holder ≡ Some (operator_of s)) × (s.number < 2 ^ 64 - 1)
MayCome s (Drain i) = IsProcessor s i (λ p. (p.revoked ≡ true) × (p.drained ≡ false))
MayCome s ReadNumber = ⊤
MayCome s Publish = (s.holder ≡ Some (operator_of s)) × All (λ p. p.drained ≡ true) s.processors

-- a processor after it has read its token: it is in if that is held
abbrev pub with_token_read : Token → ProcessorState → ProcessorState
with_token_read Held p = record p { phase = In }
with_token_read (Revoked number) p = p

-- a processor after it has read its token: it is in if that is held
abbrev pub after_check : ProcessorState → ProcessorState
after_check p = with_token_read p.token p

-- a processor after the writer has looked for it: it is drained if it is out
abbrev pub with_tracker_read : Phase → ProcessorState → ProcessorState
with_tracker_read Out p = record p { drained = true }
with_tracker_read Raised p = p
with_tracker_read In p = p

-- a processor after the writer has looked for it: it is drained if it is out
abbrev pub after_drain : ProcessorState → ProcessorState
after_drain p = with_tracker_read p.phase p

-- a processor after the publication
abbrev pub with_flags_cleared : ProcessorState → ProcessorState
with_flags_cleared p = record p { revoked = false; drained = false }

-- the state with that processor changed
abbrev pub with_processor : CoreState → ℕ → (ProcessorState → ProcessorState) → CoreState
with_processor s i change =
    option_map_or (λ p. record s { processors = slice_set s.processors (i - 1) (change p) }) (processor_of s i) s

-- the state after a step
abbrev pub after : CoreState → Event → CoreState
after s (Raise i) = with_processor s i (λ p. record p { phase = Raised })
after s (Check i) = with_processor s i after_check
after s (Lower i) = with_processor s i (λ p. record p { phase = Out })
after s (TakeBack h) = record s { holder = Some h }
after s (GiveBack h) = record s { holder = None }
after s (Regain i) = with_processor s i (λ p. record p { token = Held })
after s (Revoke i) = with_processor s i (λ p. record p { token = Revoked (s.number + 1); revoked = true })
after s (Drain i) = with_processor s i after_drain
after s ReadNumber = s
after s Publish = record s { number = s.number + 1; processors = map with_flags_cleared s.processors }

-- what a check hears
abbrev pub token_answer : Token → Heard
token_answer Held = HeardHeld
token_answer (Revoked number) = HeardRevoked number

-- what a drain hears
abbrev pub phase_answer : Phase → Heard
phase_answer Out = Drained
phase_answer Raised = NotOut
phase_answer In = NotOut

-- what a step hears
abbrev pub step_answer : CoreState → Event → Heard
step_answer s (Check i) = option_map_or (λ p. token_answer p.token) (processor_of s i) Nothing
step_answer s (Drain i) = option_map_or (λ p. phase_answer p.phase) (processor_of s i) Nothing
step_answer s ReadNumber = Number s.number
step_answer s _ = Nothing

-- What holds in each state that the lock can reach.
pub record Safe (s : CoreState) : Type 0 where
  -- the writer waits only for a processor whose token it has taken away, so a drained one can't come in again
  pub within : All (λ p. p.drained ≡ true → p.revoked ≡ true) s.processors
  -- the writer keeps the lock behind while tokens are away, so nobody regains one before the publication
  pub writing : All (λ p. p.revoked ≡ true → s.holder ≡ Some (operator_of s)) s.processors
  -- whom the writer refuses now is told the number of the publication to come
  pub announced : All (λ p. p.revoked ≡ true → p.token ≡ Revoked (s.number + 1)) s.processors
  -- any older refusal tells a number that is published, so whoever regains knows at least that one
  pub past : All (λ p. p.revoked ≡ false → (t : ℕ) → p.token ≡ Revoked t → t ≤ s.number) s.processors
  -- nobody that the writer counts as drained is in, so nobody is in at a publication
  pub outside : All (λ p. p.drained ≡ true → p.phase ≢ In) s.processors

-- There is a processor, and the numbers fit a word of 64 bits: with Safe this says that the number of
-- a publication fits, since one needs a revocation before it.
pub record Fits (s : CoreState) : Type 0 where
  pub nonempty : 0 < length s.processors
  pub number : s.number < 2 ^ 64
  pub tokens : All (λ p. (t : ℕ) → p.token ≡ Revoked t → t < 2 ^ 64) s.processors

-- What a `Core` keeps of its state.
pub record IsCore (s : CoreState) : Type 0 where
  pub safe : Safe s
  pub fits : Fits s
  pub few : length s.processors ≤ 64
