-- Every allowed step of the core leads from a safe state to a safe one, and numbers keep fitting 64 bits.
use Rattle.std.proofs.Common.{◌≡◌, ◌≢◌, ℕ, ◌+◌, ◌<◌, ◌≤◌, ◌⊎◌, true, false, Some, None, length, refl, sym, ◌∙◌, ap, arith}
use Rattle.std.specs.Prelude.{All, slice_index_or}
use Rattle.std.proofs.lemmas.List.Elements.{All-map}
use Rattle.rm_core.specs.declared.processor_state.Phase.{Phase}
use Rattle.rm_core.specs.declared.processor_state.Phase.TheVariants.{Out, Raised, In}
use Rattle.rm_core.specs.declared.processor_state.Token.{Token}
use Rattle.rm_core.specs.declared.processor_state.Token.TheVariants.{Held, Revoked}
use Rattle.rm_core.specs.declared.event.Event.{Event}
use Rattle.rm_core.specs.declared.event.Event.TheVariants.{Raise, Check, Lower, TakeBack, GiveBack, Regain, Revoke, Drain, ReadNumber, Publish}
use Rattle.rm_core.specs.declared.processor_state.ProcessorState.{ProcessorState}
use Rattle.rm_core.specs.CoreState.{CoreState, MayCome, after, Safe, operator_of, processor_of, with_processor, after_check, with_token_read, with_tracker_read, after_drain, with_flags_cleared}
use Rattle.rm_core.proofs.Changes.{IsProcessor-some, processor_of-within, All-processor_of, All-with_processor, number-with_processor, holder-with_processor, length-with_processor}

-- the operator holds the lock behind
abbrev pub Writing : CoreState → Type 0
Writing s = s.holder ≡ Some (operator_of s)

-- what Safe says of one processor
pub record SafeAt (number : ℕ) (writing : Type 0) (p : ProcessorState) : Type 0 where
  pub within : p.drained ≡ true → p.revoked ≡ true
  pub behind : p.revoked ≡ true → writing
  pub announced : p.revoked ≡ true → p.token ≡ Revoked (number + 1)
  pub past : p.revoked ≡ false → (t : ℕ) → p.token ≡ Revoked t → t ≤ number
  pub outside : p.drained ≡ true → p.phase ≢ In

-- the parts of Safe, processor by processor
SafeAt-all : (s : CoreState) → Safe s → All (SafeAt s.number (Writing s)) s.processors
SafeAt-all s safe k d within = record {
  within = safe.within k d within;
  behind = safe.writing k d within;
  announced = safe.announced k d within;
  past = safe.past k d within;
  outside = safe.outside k d within;
}

-- a state is safe if it has the number and each processor is safe where the operator holds the lock behind still
Safe-from_all : (s : CoreState) (number : ℕ) (writing : Type 0) → number ≡ s.number → (writing → Writing s) → All (SafeAt number writing) s.processors → Safe s
Safe-from_all s number writing same still all = record {
  within = λ k d inside. (all k d inside).within;
  writing = λ k d inside revoked. still ((all k d inside).behind revoked);
  announced = λ k d inside revoked. rw (← same) ((all k d inside).announced revoked);
  past = λ k d inside not_revoked t token. rw (← same) ((all k d inside).past not_revoked t token);
  outside = λ k d inside. (all k d inside).outside;
}

-- a change of one processor keeps a state safe, if it keeps that processor safe
Safe-with_processor : (s : CoreState) (i : ℕ) (change : ProcessorState → ProcessorState) (p : ProcessorState) → processor_of s i ≡ Some p → (SafeAt s.number (Writing s) p → SafeAt s.number (Writing s) (change p)) → Safe s → Safe (with_processor s i change)
Safe-with_processor s i change p is keeps safe =
    Safe-from_all (with_processor s i change) s.number (Writing s)
    (sym (number-with_processor s i change))
    (λ writing. holder-with_processor s i change ∙ writing ∙ ap (λ (n : ℕ). Some (n + 1)) (sym (length-with_processor s i change)))
    (All-with_processor (SafeAt s.number (Writing s)) s i change p is
    (keeps (All-processor_of (SafeAt s.number (Writing s)) s i p (SafeAt-all s safe) is))
    (SafeAt-all s safe))

-- a check keeps a processor safe: a drained one has its token revoked, so it doesn't come in
token_read_safe : (number : ℕ) (writing : Type 0) (p : ProcessorState) (token : Token) → p.token ≡ token → SafeAt number writing p → SafeAt number writing (with_token_read token p)
token_read_safe number writing p Held held safe = record {
  within = safe.within;
  behind = safe.behind;
  announced = safe.announced;
  past = safe.past;
  outside = λ drained inside. let taken : p.token ≡ Revoked (number + 1) = safe.announced (safe.within drained) in absurd cc;
}
token_read_safe number writing p (Revoked s) is safe = safe

check_safe : (number : ℕ) (writing : Type 0) (p : ProcessorState) → SafeAt number writing p → SafeAt number writing (after_check p)
check_safe number writing p safe = token_read_safe number writing p p.token refl safe

-- a drain sets its flag only at a processor that is out
tracker_read_safe : (number : ℕ) (writing : Type 0) (p : ProcessorState) (phase : Phase) → p.phase ≡ phase → p.revoked ≡ true → SafeAt number writing p → SafeAt number writing (with_tracker_read phase p)
tracker_read_safe number writing p Out out revoked safe = record {
  within = λ drained. revoked;
  behind = safe.behind;
  announced = safe.announced;
  past = safe.past;
  outside = λ drained inside. absurd cc;
}
tracker_read_safe number writing p Raised is revoked safe = safe
tracker_read_safe number writing p In is revoked safe = safe

drain_safe : (number : ℕ) (writing : Type 0) (p : ProcessorState) → p.revoked ≡ true → SafeAt number writing p → SafeAt number writing (after_drain p)
drain_safe number writing p revoked safe = tracker_read_safe number writing p p.phase refl revoked safe

raise_safe : (number : ℕ) (writing : Type 0) (p : ProcessorState) → SafeAt number writing p → SafeAt number writing (record p { phase = Raised })
raise_safe number writing p safe = record {
  within = safe.within;
  behind = safe.behind;
  announced = safe.announced;
  past = safe.past;
  outside = λ drained inside. absurd cc;
}

lower_safe : (number : ℕ) (writing : Type 0) (p : ProcessorState) → SafeAt number writing p → SafeAt number writing (record p { phase = Out })
lower_safe number writing p safe = record {
  within = safe.within;
  behind = safe.behind;
  announced = safe.announced;
  past = safe.past;
  outside = λ drained inside. absurd cc;
}

-- only a processor that isn't revoked regains
regain_safe : (number : ℕ) (writing : Type 0) (p : ProcessorState) → (writing → ⊥) → SafeAt number writing p → SafeAt number writing (record p { token = Held })
regain_safe number writing p nobody safe = record {
  within = safe.within;
  behind = safe.behind;
  announced = λ revoked. absurd (nobody (safe.behind revoked));
  past = λ not_revoked t token. absurd cc;
  outside = safe.outside;
}

revoke_safe : (number : ℕ) (writing : Type 0) (p : ProcessorState) → writing → p.revoked ≡ false → SafeAt number writing p → SafeAt number writing (record p { token = Revoked (number + 1); revoked = true })
revoke_safe number writing p holds not_revoked safe = record {
  within = λ drained. refl;
  behind = λ revoked. holds;
  announced = λ revoked. refl;
  past = λ revoked t token. absurd cc;
  outside = safe.outside;
}

publish_safe : (number : ℕ) (writing other : Type 0) (p : ProcessorState) → p.drained ≡ true → SafeAt number writing p → SafeAt (number + 1) other (with_flags_cleared p)
publish_safe number writing other p drained safe = record {
  within = λ never. absurd cc;
  behind = λ never. absurd cc;
  announced = λ never. absurd cc;
  past = λ not_revoked t token.
      let taken : p.token ≡ Revoked (number + 1) = safe.announced (safe.within drained) in
      let same : number + 1 ≡ t = cc in
      omega arith;
  outside = λ never. absurd cc;
}

-- where nobody is revoked, who holds the lock behind doesn't matter
unwritten_safe : (number : ℕ) (writing other : Type 0) (p : ProcessorState) → (p.revoked ≡ true → ⊥) → SafeAt number writing p → SafeAt number other p
unwritten_safe number writing other p not_revoked safe = record {
  within = safe.within;
  behind = λ revoked. absurd (not_revoked revoked);
  announced = safe.announced;
  past = safe.past;
  outside = safe.outside;
}

-- the state of the table, by the kind of step
raise_keeps : (s : CoreState) (i : ℕ) → MayCome s (Raise i) → Safe s → Safe (after s (Raise i))
raise_keeps s i may safe =
    let found : (p : ProcessorState) × (processor_of s i ≡ Some p) × (p.phase ≡ Out) = IsProcessor-some s i (λ p. p.phase ≡ Out) may in
    Safe-with_processor s i (λ p. record p { phase = Raised }) found.0 found.1 (raise_safe s.number (Writing s) found.0) safe

check_keeps : (s : CoreState) (i : ℕ) → MayCome s (Check i) → Safe s → Safe (after s (Check i))
check_keeps s i may safe =
    let found : (p : ProcessorState) × (processor_of s i ≡ Some p) × (p.phase ≡ Raised) = IsProcessor-some s i (λ p. p.phase ≡ Raised) may in
    Safe-with_processor s i after_check found.0 found.1 (check_safe s.number (Writing s) found.0) safe

lower_keeps : (s : CoreState) (i : ℕ) → MayCome s (Lower i) → Safe s → Safe (after s (Lower i))
lower_keeps s i may safe =
    let found : (p : ProcessorState) × (processor_of s i ≡ Some p) × ((p.phase ≡ Raised) ⊎ (p.phase ≡ In)) = IsProcessor-some s i (λ p. (p.phase ≡ Raised) ⊎ (p.phase ≡ In)) may in
    Safe-with_processor s i (λ p. record p { phase = Out }) found.0 found.1 (lower_safe s.number (Writing s) found.0) safe

-- nobody held it, so the operator didn't
take_back_keeps : (s : CoreState) (h : ℕ) → MayCome s (TakeBack h) → Safe s → Safe (after s (TakeBack h))
take_back_keeps s h may safe =
    Safe-from_all (after s (TakeBack h)) s.number (Writing s) refl (λ writing. let free : s.holder ≡ None = may.1 in absurd cc) (SafeAt-all s safe)

-- another than the operator held it, or nobody is revoked
give_back_keeps : (s : CoreState) (h : ℕ) → MayCome s (GiveBack h) → Safe s → Safe (after s (GiveBack h))
give_back_keeps s h may safe =
    Safe-from_all (after s (GiveBack h)) s.number ⊥ refl (λ never. absurd never)
    (λ k d inside. unwritten_safe s.number (Writing s) ⊥ (slice_index_or s.processors k d)
    (λ revoked.
    let writing : s.holder ≡ Some (operator_of s) = safe.writing k d inside revoked in
    let held : s.holder ≡ Some h = may.1 in
    let operator : h ≡ operator_of s = cc in
    let not_revoked : (slice_index_or s.processors k d).revoked ≡ false = may.2 operator k d inside in
    absurd cc)
    (SafeAt-all s safe k d inside))

-- the operator holds nothing while a processor holds the lock behind
regain_keeps : (s : CoreState) (i : ℕ) → MayCome s (Regain i) → Safe s → Safe (after s (Regain i))
regain_keeps s i may safe =
    let found : (p : ProcessorState) × (processor_of s i ≡ Some p) × (p.phase ≡ Out) = IsProcessor-some s i (λ p. p.phase ≡ Out) may.0 in
    let within : (0 < i) × (i ≤ length s.processors) = processor_of-within s i found.0 found.1 in
    Safe-with_processor s i (λ p. record p { token = Held }) found.0 found.1
    (regain_safe s.number (Writing s) found.0
    (λ writing.
    let held : s.holder ≡ Some i = may.1 in
    let same : i ≡ length s.processors + 1 = cc in
    omega arith))
    safe

revoke_keeps : (s : CoreState) (i : ℕ) → MayCome s (Revoke i) → Safe s → Safe (after s (Revoke i))
revoke_keeps s i may safe =
    let found : (p : ProcessorState) × (processor_of s i ≡ Some p) × (p.revoked ≡ false) = IsProcessor-some s i (λ p. p.revoked ≡ false) may.0 in
    Safe-with_processor s i (λ p. record p { token = Revoked (s.number + 1); revoked = true }) found.0 found.1
    (revoke_safe s.number (Writing s) found.0 may.1 found.2) safe

drain_keeps : (s : CoreState) (i : ℕ) → MayCome s (Drain i) → Safe s → Safe (after s (Drain i))
drain_keeps s i may safe =
    let found : (p : ProcessorState) × (processor_of s i ≡ Some p) × ((p.revoked ≡ true) × (p.drained ≡ false)) = IsProcessor-some s i (λ p. (p.revoked ≡ true) × (p.drained ≡ false)) may in
    Safe-with_processor s i after_drain found.0 found.1 (drain_safe s.number (Writing s) found.0 found.2.0) safe

publish_keeps : (s : CoreState) → MayCome s Publish → Safe s → Safe (after s Publish)
publish_keeps s may safe =
    Safe-from_all (after s Publish) (s.number + 1) ⊥ refl (λ never. absurd never)
    (All-map (SafeAt (s.number + 1) ⊥) with_flags_cleared s.processors
    (λ k d inside. publish_safe s.number (Writing s) ⊥ (slice_index_or s.processors k d) (may.1 k d inside) (SafeAt-all s safe k d inside)))

-- each allowed step leads from a safe state to a safe one
pub Safe-after : (s : CoreState) (event : Event) → Safe s → MayCome s event → Safe (after s event)
Safe-after s (Raise i) safe may = raise_keeps s i may safe
Safe-after s (Check i) safe may = check_keeps s i may safe
Safe-after s (Lower i) safe may = lower_keeps s i may safe
Safe-after s (TakeBack h) safe may = take_back_keeps s h may safe
Safe-after s (GiveBack h) safe may = give_back_keeps s h may safe
Safe-after s (Regain i) safe may = regain_keeps s i may safe
Safe-after s (Revoke i) safe may = revoke_keeps s i may safe
Safe-after s (Drain i) safe may = drain_keeps s i may safe
Safe-after s ReadNumber safe may = safe
Safe-after s Publish safe may = publish_keeps s may safe
