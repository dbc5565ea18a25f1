-- What holds over every run of the core, by induction on its steps.
use Rattle.std.proofs.Common.{◌≡◌, ◌≢◌, ℕ, ◌+◌, ◌^◌, ◌<◌, ◌≤◌, ◌⊎◌, inl, inr, Bool, true, false, cond, Option, Some, None, List, [], ◌∷◌, ◌++◌, length, refl, sym, ◌∙◌, ap, arith}
use Rattle.std.specs.Prelude.{All, ◌&&◌, if◌then◌else◌}
use Rattle.std.specs.Option.{option_map_or}
use Rattle.std.proofs.lemmas.List.{length-replicate}
use Rattle.std.proofs.lemmas.List.Sums.{sum_by-cons}
use Rattle.std.proofs.lemmas.List.Elements.{All-replicate, All-head, All-tail}
use Rattle.rm_core.specs.declared.processor_state.Phase.{Phase}
use Rattle.rm_core.specs.declared.processor_state.Phase.TheVariants.{Out, Raised, In}
use Rattle.rm_core.specs.declared.processor_state.Token.{Token}
use Rattle.rm_core.specs.declared.processor_state.Token.TheVariants.{Held, Revoked}
use Rattle.rm_core.specs.declared.event.Heard.TheVariants.{Revoked as HeardRevoked, Drained, Nothing}
use Rattle.rm_core.specs.declared.event.Event.{Event}
use Rattle.rm_core.specs.declared.event.Event.TheVariants.{Raise, Check, Lower, TakeBack, GiveBack, Regain, Revoke, Drain, ReadNumber, Publish}
use Rattle.rm_core.specs.declared.processor_state.ProcessorState.{ProcessorState}
use Rattle.rm_core.specs.CoreState.{CoreState, MayCome, after, step_answer, Safe, Fits, idle, opening, operator_of, processor_of, IsProcessor, after_check, with_token_read, after_drain, with_tracker_read, token_answer, phase_answer}
use Rattle.rm_core.specs.Runs.{IsLockRun, after_all, is_regain_of, is_check_of, says_held, is_publish, number_regained, number_entered, publication_count}
use Rattle.rm_core.proofs.Changes.{IsProcessor-some, IsProcessor-from, All-processor_of, processor_of-within, processor_of-opening, processor_of-changed, number-with_processor, holder-with_processor, IsProcessor-with_processor}
use Rattle.rm_core.proofs.Fitting.{Fits-after}
use Rattle.rm_core.proofs.Numbers.{Knows, EntersAt, Knows-after, EntersAt-after, step_answer-check}
use Rattle.rm_core.proofs.Steps.{Safe-after}

-- the opening state is safe
pub Safe-opening : (n number : ℕ) → Safe (opening n number)
Safe-opening n number = record {
  within = All-replicate (λ p. p.drained ≡ true → p.revoked ≡ true) n idle (λ never. absurd cc);
  writing = All-replicate (λ p. p.revoked ≡ true → None ≡ Some (operator_of (opening n number))) n idle (λ never. absurd cc);
  announced = All-replicate (λ p. p.revoked ≡ true → p.token ≡ Revoked (number + 1)) n idle (λ never. absurd cc);
  past = All-replicate (λ p. p.revoked ≡ false → (t : ℕ) → p.token ≡ Revoked t → t ≤ number) n idle (λ _ t never. absurd cc);
  outside = All-replicate (λ p. p.drained ≡ true → p.phase ≢ In) n idle (λ never. absurd cc);
}

-- a new lock's numbers fit 64 bits, where its first number does and it has a processor
pub Fits-opening : (n number : ℕ) → 0 < n → number < 2 ^ 64 → Fits (opening n number)
Fits-opening n number some room = record {
  nonempty = rw (length-replicate n idle) some;
  number = room;
  tokens = All-replicate (λ p. (t : ℕ) → p.token ≡ Revoked t → t < 2 ^ 64) n idle (λ t never. absurd cc);
}

-- a run from a safe state ends in a safe state
pub Safe-after_all : (s : CoreState) (events : List Event) → Safe s → IsLockRun s events → Safe (after_all s events)
Safe-after_all s [] safe may = safe
Safe-after_all s (e ∷ es) safe may = Safe-after_all (after s e) es (Safe-after s e safe may.0) may.1

Fits-after_all : (s : CoreState) (events : List Event) → Safe s → Fits s → IsLockRun s events → Fits (after_all s events)
Fits-after_all s [] safe fits may = fits
Fits-after_all s (e ∷ es) safe fits may = Fits-after_all (after s e) es (Safe-after s e safe may.0) (Fits-after s e safe fits may.0) may.1

knows_run : (s : CoreState) (events : List Event) (i known : ℕ) → Safe s → IsLockRun s events → Knows s i known → Knows (after_all s events) i (number_regained i known s events)
knows_run s [] i known safe may knows = knows
knows_run s (e ∷ es) i known safe may knows =
    knows_run (after s e) es i (if is_regain_of i e then s.number else known) (Safe-after s e safe may.0) may.1 (Knows-after s e i known safe may.0 knows)

entered_run : (s : CoreState) (events : List Event) (i known : ℕ) → Safe s → IsLockRun s events → EntersAt s i known → EntersAt (after_all s events) i (number_entered i known s events)
entered_run s [] i known safe may knows = knows
entered_run s (e ∷ es) i known safe may knows =
    entered_run (after s e) es i (if is_check_of i e && says_held (step_answer s e) then s.number else known) (Safe-after s e safe may.0) may.1 (EntersAt-after s e i known safe may.0 knows)

-- from the opening on, whoever holds its token knows the published number, and whoever doesn't a smaller one than its refusal
Knows-opening : (n number i : ℕ) (events : List Event) → IsLockRun (opening n number) events → Knows (after_all (opening n number) events) i (number_regained i number (opening n number) events)
Knows-opening n number i events may =
    knows_run (opening n number) events i number (Safe-opening n number) may
    (λ p is. let begins : idle ≡ p = processor_of-opening n number i p is in record { held = λ held. refl; revoked = λ t never. let held : Held ≡ p.token = ap (λ (p : ProcessorState). p.token) begins in absurd cc })

EntersAt-opening : (n number i : ℕ) (events : List Event) → IsLockRun (opening n number) events → EntersAt (after_all (opening n number) events) i (number_entered i number (opening n number) events)
EntersAt-opening n number i events may =
    entered_run (opening n number) events i number (Safe-opening n number) may (λ p is inside. refl)

-- whoever holds its token regained it last under the number that is published now
pub token_known : (n number i : ℕ) (events : List Event) → IsLockRun (opening n number) events → IsProcessor (after_all (opening n number) events) i (λ p. p.token ≡ Held) → number_regained i number (opening n number) events ≡ (after_all (opening n number) events).number
token_known n number i events may holds =
    let found : (p : ProcessorState) × (processor_of (after_all (opening n number) events) i ≡ Some p) × (p.token ≡ Held) = IsProcessor-some (after_all (opening n number) events) i (λ p. p.token ≡ Held) holds in
    (Knows-opening n number i events may found.0 found.1).held found.2

-- whoever is refused with t regained its token last under a number below t
pub refusal_newer : (n number i t : ℕ) (events : List Event) → IsLockRun (opening n number) events → IsProcessor (after_all (opening n number) events) i (λ p. p.token ≡ Revoked t) → number_regained i number (opening n number) events < t
refusal_newer n number i t events may holds =
    let found : (p : ProcessorState) × (processor_of (after_all (opening n number) events) i ≡ Some p) × (p.token ≡ Revoked t) = IsProcessor-some (after_all (opening n number) events) i (λ p. p.token ≡ Revoked t) holds in
    (Knows-opening n number i events may found.0 found.1).revoked t found.2

-- whoever is in came in under the number that is published now
pub inside_number : (n number i : ℕ) (events : List Event) → IsLockRun (opening n number) events → IsProcessor (after_all (opening n number) events) i (λ p. p.phase ≡ In) → number_entered i number (opening n number) events ≡ (after_all (opening n number) events).number
inside_number n number i events may holds =
    let found : (p : ProcessorState) × (processor_of (after_all (opening n number) events) i ≡ Some p) × (p.phase ≡ In) = IsProcessor-some (after_all (opening n number) events) i (λ p. p.phase ≡ In) holds in
    EntersAt-opening n number i events may found.0 found.1 found.2

-- at a publication nobody is in
pub nobody_in : (s : CoreState) → Safe s → MayCome s Publish → All (λ p. p.phase ≢ In) s.processors
nobody_in s safe may k d within = safe.outside k d within (may.1 k d within)

-- a run is two runs, one after the other
IsLockRun-append : (s : CoreState) (before later : List Event) → IsLockRun s (before ++ later) → IsLockRun s before × IsLockRun (after_all s before) later
IsLockRun-append s [] later may = (tt, may)
IsLockRun-append s (e ∷ es) later may =
    let rest : IsLockRun (after s e) es × IsLockRun (after_all (after s e) es) later = IsLockRun-append (after s e) es later may.1 in
    ((may.0, rest.0), rest.1)

after_all-append : (s : CoreState) (before later : List Event) → after_all s (before ++ later) ≡ after_all (after_all s before) later
after_all-append s [] later = refl
after_all-append s (e ∷ es) later = after_all-append (after s e) es later

-- a step counts on where it publishes
number_after : (s : CoreState) (e : Event) → (after s e).number ≡ (if is_publish e then s.number + 1 else s.number)
number_after s (Raise i) = number-with_processor s i (λ p. record p { phase = Raised })
number_after s (Check i) = number-with_processor s i after_check
number_after s (Lower i) = number-with_processor s i (λ p. record p { phase = Out })
number_after s (TakeBack h) = refl
number_after s (GiveBack h) = refl
number_after s (Regain i) = number-with_processor s i (λ p. record p { token = Held })
number_after s (Revoke i) = number-with_processor s i (λ p. record p { token = Revoked (s.number + 1); revoked = true })
number_after s (Drain i) = number-with_processor s i after_drain
number_after s ReadNumber = refl
number_after s Publish = refl

-- a run raises the published number by one for each of its publications
pub number-after_all : (s : CoreState) (events : List Event) → (after_all s events).number ≡ s.number + publication_count events
number-after_all s [] = omega arith
number-after_all s (e ∷ es) =
    number-after_all (after s e) es
    ∙ ap (λ (n : ℕ). n + publication_count es) (number_after s e)
    ∙ counted (is_publish e) s.number (publication_count es)
    ∙ ap (λ (n : ℕ). s.number + n) (sym (sum_by-cons (λ (x : Event). cond (is_publish x) 1 0) e es))
  where
    counted : (b : Bool) (number rest : ℕ) → (if b then number + 1 else number) + rest ≡ number + (cond b 1 0 + rest)
    counted true number rest = omega arith
    counted false number rest = omega arith

-- whether a refusal at t is published, or will be with the next publication, for which the processor is revoked
abbrev pub Pending : CoreState → ℕ → ℕ → Type 0
Pending s i t = (t ≤ s.number) ⊎ ((t ≤ s.number + 1) × IsProcessor s i (λ p. p.revoked ≡ true))

-- a flag of a processor that only a publication takes away
flag_stays : (P : ProcessorState → Type 0) → ((p : ProcessorState) (phase : Phase) → P p → P (record p { phase = phase })) → ((p : ProcessorState) (token : Token) → P p → P (record p { token = token })) → ((p : ProcessorState) → P p → P (record p { revoked = true })) → ((p : ProcessorState) → P p → P (record p { drained = true })) → (s : CoreState) (i : ℕ) (e : Event) → MayCome s e → e ≢ Publish → IsProcessor s i P → IsProcessor (after s e) i P
flag_stays P phases tokens revokes drains s i (Raise j) may other holds =
    let there : (q : ProcessorState) × (processor_of s j ≡ Some q) × (q.phase ≡ Out) = IsProcessor-some s j (λ p. p.phase ≡ Out) may in
    IsProcessor-with_processor P s i j (λ p. record p { phase = Raised }) there.0 there.1 (λ _ at. phases there.0 Raised at) holds
flag_stays P phases tokens revokes drains s i (Check j) may other holds =
    let there : (q : ProcessorState) × (processor_of s j ≡ Some q) × (q.phase ≡ Raised) = IsProcessor-some s j (λ p. p.phase ≡ Raised) may in
    IsProcessor-with_processor P s i j after_check there.0 there.1 (λ _ at. checked there.0.token there.0 at) holds
  where
    checked : (token : Token) (q : ProcessorState) → P q → P (with_token_read token q)
    checked Held q at = phases q In at
    checked (Revoked t) q at = at
flag_stays P phases tokens revokes drains s i (Lower j) may other holds =
    let there : (q : ProcessorState) × (processor_of s j ≡ Some q) × ((q.phase ≡ Raised) ⊎ (q.phase ≡ In)) = IsProcessor-some s j (λ p. (p.phase ≡ Raised) ⊎ (p.phase ≡ In)) may in
    IsProcessor-with_processor P s i j (λ p. record p { phase = Out }) there.0 there.1 (λ _ at. phases there.0 Out at) holds
flag_stays P phases tokens revokes drains s i (TakeBack h) may other holds = holds
flag_stays P phases tokens revokes drains s i (GiveBack h) may other holds = holds
flag_stays P phases tokens revokes drains s i (Regain j) may other holds =
    let there : (q : ProcessorState) × (processor_of s j ≡ Some q) × (q.phase ≡ Out) = IsProcessor-some s j (λ p. p.phase ≡ Out) may.0 in
    IsProcessor-with_processor P s i j (λ p. record p { token = Held }) there.0 there.1 (λ _ at. tokens there.0 Held at) holds
flag_stays P phases tokens revokes drains s i (Revoke j) may other holds =
    let there : (q : ProcessorState) × (processor_of s j ≡ Some q) × (q.revoked ≡ false) = IsProcessor-some s j (λ p. p.revoked ≡ false) may.0 in
    IsProcessor-with_processor P s i j (λ p. record p { token = Revoked (s.number + 1); revoked = true }) there.0 there.1 (λ _ at. revokes (record there.0 { token = Revoked (s.number + 1) }) (tokens there.0 (Revoked (s.number + 1)) at)) holds
flag_stays P phases tokens revokes drains s i (Drain j) may other holds =
    let there : (q : ProcessorState) × (processor_of s j ≡ Some q) × ((q.revoked ≡ true) × (q.drained ≡ false)) = IsProcessor-some s j (λ p. (p.revoked ≡ true) × (p.drained ≡ false)) may in
    IsProcessor-with_processor P s i j after_drain there.0 there.1 (λ _ at. drained there.0.phase there.0 at) holds
  where
    drained : (phase : Phase) (q : ProcessorState) → P q → P (with_tracker_read phase q)
    drained Out q at = drains q at
    drained Raised q at = at
    drained In q at = at
flag_stays P phases tokens revokes drains s i ReadNumber may other holds = holds
flag_stays P phases tokens revokes drains s i Publish may other holds = absurd (other refl)

is_publish-apart : (e : Event) → is_publish e ≡ false → e ≢ Publish
is_publish-apart e unflagged is = let flagged : is_publish e ≡ true = ap is_publish is in absurd cc

-- a refusal that is published, or will be with the next publication, stays so over a step
pub Pending-after : (s : CoreState) (e : Event) (i t : ℕ) → MayCome s e → Pending s i t → Pending (after s e) i t
Pending-after s e i t may (inl done) = inl (pending_past (is_publish e) s.number (after s e).number (number_after s e) done)
  where
    pending_past : (b : Bool) (old new : ℕ) → new ≡ (if b then old + 1 else old) → t ≤ old → t ≤ new
    pending_past true old new is below = omega arith
    pending_past false old new is below = omega arith
Pending-after s e i t may (inr next) = by_kind (is_publish e) refl
  where
    by_kind : (b : Bool) → is_publish e ≡ b → Pending (after s e) i t
    by_kind true flagged = inl (let counted : (after s e).number ≡ s.number + 1 = number_after s e ∙ ap (λ (b : Bool). if b then s.number + 1 else s.number) flagged in omega (arith, next.0))
    by_kind false unflagged =
        let counted : (after s e).number ≡ s.number = number_after s e ∙ ap (λ (b : Bool). if b then s.number + 1 else s.number) unflagged in
        inr (
          omega (arith, next.0),
          flag_stays (λ p. p.revoked ≡ true) (λ p _ at. at) (λ p _ at. at) (λ p _. refl) (λ p at. at) s i e may (is_publish-apart e unflagged) next.1,
        )

pending_run : (s : CoreState) (events : List Event) (i t : ℕ) → IsLockRun s events → Pending s i t → Pending (after_all s events) i t
pending_run s [] i t may pending = pending
pending_run s (e ∷ es) i t may pending = pending_run (after s e) es i t may.1 (Pending-after s e i t may.0 pending)

-- where a processor regains its token, the writer has none revoked
pub pending_regain : (s : CoreState) (i t : ℕ) → Safe s → MayCome s (Regain i) → Pending s i t → t ≤ s.number
pending_regain s i t safe may (inl done) = done
pending_regain s i t safe may (inr next) =
    let found : (p : ProcessorState) × (processor_of s i ≡ Some p) × (p.revoked ≡ true) = IsProcessor-some s i (λ p. p.revoked ≡ true) next.1 in
    let writing : s.holder ≡ Some (operator_of s) = All-processor_of (λ p. p.revoked ≡ true → s.holder ≡ Some (operator_of s)) s i found.0 safe.writing found.1 found.2 in
    let held : s.holder ≡ Some i = may.1 in
    let same : i ≡ length s.processors + 1 = cc in
    let within : (0 < i) × (i ≤ length s.processors) = processor_of-within s i found.0 found.1 in
    absurd (omega arith)

-- a check that hears t finds a refusal that is published or pending
pub pending_check : (s : CoreState) (i t : ℕ) → Safe s → MayCome s (Check i) → step_answer s (Check i) ≡ HeardRevoked t → Pending s i t
pending_check s i t safe may hears =
    let found : (p : ProcessorState) × (processor_of s i ≡ Some p) × (p.phase ≡ Raised) = IsProcessor-some s i (λ p. p.phase ≡ Raised) may in
    let refusal : found.0.token ≡ Revoked t = token_from found.0.token (sym (step_answer-check s i found.0 found.1) ∙ hears) in
    by_flag found.0 found.1 refusal found.0.revoked refl
  where
    token_from : (token : Token) → token_answer token ≡ HeardRevoked t → token ≡ Revoked t
    token_from Held is = absurd cc
    token_from (Revoked u) is = let same : u ≡ t = cc in cc

    by_flag : (p : ProcessorState) → processor_of s i ≡ Some p → p.token ≡ Revoked t → (b : Bool) → p.revoked ≡ b → Pending s i t
    by_flag p is refusal true flagged =
        let next : p.token ≡ Revoked (s.number + 1) = All-processor_of (λ p. p.revoked ≡ true → p.token ≡ Revoked (s.number + 1)) s i p safe.announced is flagged in
        let same : t ≡ s.number + 1 = cc in
        inr (omega arith, IsProcessor-from s i (λ p. p.revoked ≡ true) p is flagged)
    by_flag p is refusal false unflagged =
        inl (All-processor_of (λ p. p.revoked ≡ false → (t : ℕ) → p.token ≡ Revoked t → t ≤ s.number) s i p safe.past is unflagged t refusal)

-- whoever was refused with t and regains its token later finds t published
refused_then_regains : (s : CoreState) (between : List Event) (i t : ℕ) → Safe s → IsLockRun s (Check i ∷ between ++ Regain i ∷ []) → step_answer s (Check i) ≡ HeardRevoked t → t ≤ (after_all s (Check i ∷ between)).number
refused_then_regains s between i t safe may hears =
    let parts : IsLockRun (after s (Check i)) between × IsLockRun (after_all (after s (Check i)) between) (Regain i ∷ []) = IsLockRun-append (after s (Check i)) between (Regain i ∷ []) may.1 in
    let first : Safe (after s (Check i)) = Safe-after s (Check i) safe may.0 in
    pending_regain (after_all (after s (Check i)) between) i t (Safe-after_all (after s (Check i)) between first parts.0) parts.1.0
    (pending_run (after s (Check i)) between i t parts.0 (Pending-after s (Check i) i t may.0 (pending_check s i t safe may.0 hears)))

-- whoever was refused with t finds t published once it regains its token, in each run from the opening
pub refused_in_run : (n number i t : ℕ) (before between : List Event) → IsLockRun (opening n number) (before ++ (Check i ∷ between ++ Regain i ∷ [])) → step_answer (after_all (opening n number) before) (Check i) ≡ HeardRevoked t → t ≤ (after_all (opening n number) (before ++ (Check i ∷ between))).number
refused_in_run n number i t before between may hears =
    let parts : IsLockRun (opening n number) before × IsLockRun (after_all (opening n number) before) (Check i ∷ between ++ Regain i ∷ []) = IsLockRun-append (opening n number) before (Check i ∷ between ++ Regain i ∷ []) may in
    rw (after_all-append (opening n number) before (Check i ∷ between))
    (refused_then_regains (after_all (opening n number) before) between i t (Safe-after_all (opening n number) before (Safe-opening n number) parts.0) parts.1 hears)

-- a drain that found a processor out counts it as drained until the publication
drained_run : (s : CoreState) (events : List Event) (i : ℕ) → IsLockRun s events → All (λ e. e ≢ Publish) events → IsProcessor s i (λ p. p.drained ≡ true) → IsProcessor (after_all s events) i (λ p. p.drained ≡ true)
drained_run s [] i may none drained = drained
drained_run s (e ∷ es) i may none drained =
    drained_run (after s e) es i may.1 (All-tail (λ e. e ≢ Publish) e es none)
    (flag_stays (λ p. p.drained ≡ true) (λ p _ at. at) (λ p _ at. at) (λ p at. at) (λ p _. refl) s i e may.0 (All-head (λ e. e ≢ Publish) e es none) drained)

drain_counts : (s : CoreState) (i : ℕ) → MayCome s (Drain i) → step_answer s (Drain i) ≡ Drained → IsProcessor (after s (Drain i)) i (λ p. p.drained ≡ true)
drain_counts s i may hears =
    let there : (q : ProcessorState) × (processor_of s i ≡ Some q) × ((q.revoked ≡ true) × (q.drained ≡ false)) = IsProcessor-some s i (λ p. (p.revoked ≡ true) × (p.drained ≡ false)) may in
    let found : phase_answer there.0.phase ≡ Drained = sym (ap (λ (o : Option ProcessorState). option_map_or (λ p. phase_answer p.phase) o Nothing) there.1) ∙ hears in
    IsProcessor-from (after s (Drain i)) i (λ p. p.drained ≡ true) (after_drain there.0) (processor_of-changed s i after_drain there.0 there.1) (marked there.0.phase there.0 found)
  where
    marked : (phase : Phase) (q : ProcessorState) → phase_answer phase ≡ Drained → (with_tracker_read phase q).drained ≡ true
    marked Out q is = refl
    marked Raised q is = absurd cc
    marked In q is = absurd cc

-- so that processor isn't in at any moment until then
pub drained_stays_out : (n number i : ℕ) (before later : List Event) → IsLockRun (opening n number) (before ++ (Drain i ∷ later)) → step_answer (after_all (opening n number) before) (Drain i) ≡ Drained → All (λ e. e ≢ Publish) later → IsProcessor (after_all (opening n number) (before ++ (Drain i ∷ later))) i (λ p. p.phase ≢ In)
drained_stays_out n number i before later may hears none =
    let s : CoreState = after_all (opening n number) before in
    let parts : IsLockRun (opening n number) before × IsLockRun s (Drain i ∷ later) = IsLockRun-append (opening n number) before (Drain i ∷ later) may in
    let drained : IsProcessor (after_all (after s (Drain i)) later) i (λ p. p.drained ≡ true) = drained_run (after s (Drain i)) later i parts.1.1 none (drain_counts s i parts.1.0 hears) in
    let safe : Safe (after_all s (Drain i ∷ later)) = Safe-after_all s (Drain i ∷ later) (Safe-after_all (opening n number) before (Safe-opening n number) parts.0) parts.1 in
    let found : (p : ProcessorState) × (processor_of (after_all s (Drain i ∷ later)) i ≡ Some p) × (p.drained ≡ true) = IsProcessor-some (after_all s (Drain i ∷ later)) i (λ p. p.drained ≡ true) drained in
    rw (after_all-append (opening n number) before (Drain i ∷ later))
    (IsProcessor-from (after_all s (Drain i ∷ later)) i (λ p. p.phase ≢ In) found.0 found.1
    (All-processor_of (λ p. p.drained ≡ true → p.phase ≢ In) (after_all s (Drain i ∷ later)) i found.0 safe.outside found.1 found.2))

-- who holds the lock behind holds it until it gives it back
holder_after : (s : CoreState) (e : Event) (h : ℕ) → MayCome s e → e ≢ GiveBack h → s.holder ≡ Some h → (after s e).holder ≡ Some h
holder_after s (Raise i) h may other held = holder-with_processor s i (λ p. record p { phase = Raised }) ∙ held
holder_after s (Check i) h may other held = holder-with_processor s i after_check ∙ held
holder_after s (Lower i) h may other held = holder-with_processor s i (λ p. record p { phase = Out }) ∙ held
holder_after s (TakeBack g) h may other held = let free : s.holder ≡ None = may.1 in absurd cc
holder_after s (GiveBack g) h may other held =
    let holds : s.holder ≡ Some g = may.1 in
    let same : g ≡ h = cc in
    absurd (other (ap (λ (n : ℕ). GiveBack n) same))
holder_after s (Regain i) h may other held = holder-with_processor s i (λ p. record p { token = Held }) ∙ held
holder_after s (Revoke i) h may other held = holder-with_processor s i (λ p. record p { token = Revoked (s.number + 1); revoked = true }) ∙ held
holder_after s (Drain i) h may other held = holder-with_processor s i after_drain ∙ held
holder_after s ReadNumber h may other held = held
holder_after s Publish h may other held = held

-- who holds the lock behind holds it through a run in which it doesn't give it back
pub holder_stays : (s : CoreState) (events : List Event) (h : ℕ) → IsLockRun s events → All (λ e. e ≢ GiveBack h) events → s.holder ≡ Some h → (after_all s events).holder ≡ Some h
holder_stays s [] h may none held = held
holder_stays s (e ∷ es) h may none held =
    holder_stays (after s e) es h may.1 (All-tail (λ e. e ≢ GiveBack h) e es none) (holder_after s e h may.0 (All-head (λ e. e ≢ GiveBack h) e es none) held)

-- each run from the opening ends with a published number that fits 64 bits
pub number_fits : (n number : ℕ) (events : List Event) → 0 < n → number < 2 ^ 64 → IsLockRun (opening n number) events → (after_all (opening n number) events).number < 2 ^ 64
number_fits n number events some room may = (Fits-after_all (opening n number) events (Safe-opening n number) (Fits-opening n number some room) may).number
