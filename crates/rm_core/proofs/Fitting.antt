-- Every allowed step from a safe state keeps the core's numbers below 2^64.
use Rattle.std.proofs.Common.{◌≡◌, ℕ, ◌+◌, ◌-◌, ◌^◌, ◌<◌, ◌⊎◌, true, false, Some, arith}
use Rattle.std.specs.Prelude.{All, slice_index_or}
use Rattle.std.proofs.lemmas.List.{length-map}
use Rattle.std.proofs.lemmas.List.Elements.{All-map}
use Rattle.rm_core.specs.declared.processor_state.Phase.{Phase}
use Rattle.rm_core.specs.declared.processor_state.Phase.TheVariants.{Out, Raised, In}
use Rattle.rm_core.specs.declared.processor_state.Token.{Token}
use Rattle.rm_core.specs.declared.processor_state.Token.TheVariants.{Held, Revoked}
use Rattle.rm_core.specs.declared.event.Event.{Event}
use Rattle.rm_core.specs.declared.event.Event.TheVariants.{Raise, Check, Lower, TakeBack, GiveBack, Regain, Revoke, Drain, ReadNumber, Publish}
use Rattle.rm_core.specs.declared.processor_state.ProcessorState.{ProcessorState}
use Rattle.rm_core.specs.CoreState.{CoreState, MayCome, after, Safe, Fits, idle, processor_of, with_processor, after_check, with_token_read, with_tracker_read, after_drain, with_flags_cleared}
use Rattle.rm_core.proofs.Changes.{IsProcessor-some, All-processor_of, All-with_processor, number-with_processor, length-with_processor}

-- the number of a processor's refusal fits 64 bits
abbrev pub FitsAt : ProcessorState → Type 0
FitsAt p = (t : ℕ) → p.token ≡ Revoked t → t < 2 ^ 64

Fits-with_processor : (s : CoreState) (i : ℕ) (change : ProcessorState → ProcessorState) (p : ProcessorState) → processor_of s i ≡ Some p → (FitsAt p → FitsAt (change p)) → Fits s → Fits (with_processor s i change)
Fits-with_processor s i change p is keeps fits = record {
  nonempty = rw (length-with_processor s i change) fits.nonempty;
  number = rw (number-with_processor s i change) fits.number;
  tokens = All-with_processor FitsAt s i change p is (keeps (All-processor_of FitsAt s i p fits.tokens is)) fits.tokens;
}

token_read_fits : (token : Token) (p : ProcessorState) → FitsAt p → FitsAt (with_token_read token p)
token_read_fits Held p fits = fits
token_read_fits (Revoked s) p fits = fits

tracker_read_fits : (phase : Phase) (p : ProcessorState) → FitsAt p → FitsAt (with_tracker_read phase p)
tracker_read_fits Out p fits = fits
tracker_read_fits Raised p fits = fits
tracker_read_fits In p fits = fits

-- the first processor is revoked for the next number, so that fits
next_fits : (s : CoreState) → Safe s → Fits s → All (λ p. p.drained ≡ true) s.processors → s.number + 1 < 2 ^ 64
next_fits s safe fits drained =
    let first : ProcessorState = slice_index_or s.processors 0 idle in
    let revoked : first.revoked ≡ true = safe.within 0 idle fits.nonempty (drained 0 idle fits.nonempty) in
    fits.tokens 0 idle fits.nonempty (s.number + 1) (safe.announced 0 idle fits.nonempty revoked)

-- where a publication may come, the number after it fits 64 bits
pub next_number_fits : (s : CoreState) → Safe s → Fits s → MayCome s Publish → s.number + 1 < 2 ^ 64
next_number_fits s safe fits may = next_fits s safe fits may.1

-- each allowed step of a safe state keeps the core's numbers below 2^64
pub Fits-after : (s : CoreState) (event : Event) → Safe s → Fits s → MayCome s event → Fits (after s event)
Fits-after s (Raise i) safe fits may =
    let there : (p : ProcessorState) × (processor_of s i ≡ Some p) × (p.phase ≡ Out) = IsProcessor-some s i (λ p. p.phase ≡ Out) may in
    Fits-with_processor s i (λ p. record p { phase = Raised }) there.0 there.1 (λ below. below) fits
Fits-after s (Check i) safe fits may =
    let there : (p : ProcessorState) × (processor_of s i ≡ Some p) × (p.phase ≡ Raised) = IsProcessor-some s i (λ p. p.phase ≡ Raised) may in
    Fits-with_processor s i after_check there.0 there.1 (token_read_fits there.0.token there.0) fits
Fits-after s (Lower i) safe fits may =
    let there : (p : ProcessorState) × (processor_of s i ≡ Some p) × ((p.phase ≡ Raised) ⊎ (p.phase ≡ In)) = IsProcessor-some s i (λ p. (p.phase ≡ Raised) ⊎ (p.phase ≡ In)) may in
    Fits-with_processor s i (λ p. record p { phase = Out }) there.0 there.1 (λ below. below) fits
Fits-after s (TakeBack h) safe fits may = record { nonempty = fits.nonempty; number = fits.number; tokens = fits.tokens }
Fits-after s (GiveBack h) safe fits may = record { nonempty = fits.nonempty; number = fits.number; tokens = fits.tokens }
Fits-after s (Regain i) safe fits may =
    let there : (p : ProcessorState) × (processor_of s i ≡ Some p) × (p.phase ≡ Out) = IsProcessor-some s i (λ p. p.phase ≡ Out) may.0 in
    Fits-with_processor s i (λ p. record p { token = Held }) there.0 there.1 (λ below t token. absurd cc) fits
Fits-after s (Revoke i) safe fits may =
    let there : (p : ProcessorState) × (processor_of s i ≡ Some p) × (p.revoked ≡ false) = IsProcessor-some s i (λ p. p.revoked ≡ false) may.0 in
    Fits-with_processor s i (λ p. record p { token = Revoked (s.number + 1); revoked = true }) there.0 there.1
    (λ below t token. let same : s.number + 1 ≡ t = cc in let room : s.number < 2 ^ 64 - 1 = may.2 in omega arith) fits
Fits-after s (Drain i) safe fits may =
    let there : (p : ProcessorState) × (processor_of s i ≡ Some p) × ((p.revoked ≡ true) × (p.drained ≡ false)) = IsProcessor-some s i (λ p. (p.revoked ≡ true) × (p.drained ≡ false)) may in
    Fits-with_processor s i after_drain there.0 there.1 (tracker_read_fits there.0.phase there.0) fits
Fits-after s ReadNumber safe fits may = fits
Fits-after s Publish safe fits may = record {
  nonempty = rw length-map fits.nonempty;
  number = next_fits s safe fits may.1;
  tokens = All-map FitsAt with_flags_cleared s.processors (λ k d inside. fits.tokens k d inside);
}
