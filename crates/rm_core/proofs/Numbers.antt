-- What one step does to the numbers that a processor knows.
use Rattle.std.proofs.Common.{◌≡◌, ◌≢◌, ℕ, ◌+◌, ◌<◌, ◌≤◌, ◌⊎◌, inl, inr, true, false, Option, Some, refl, sym, ◌∙◌, ap, arith, subst}
use Rattle.std.specs.Prelude.{All, ◌==◌, ◌&&◌, if◌then◌else◌}
use Rattle.std.specs.Option.{option_map_or}
use Rattle.std.proofs.lemmas.Bool.Decides.{eqb_tells}
use Rattle.std.proofs.lemmas.Option.{same_Some}
use Rattle.rm_core.specs.declared.processor_state.Phase.{Phase}
use Rattle.rm_core.specs.declared.processor_state.Phase.TheVariants.{Out, Raised, In}
use Rattle.rm_core.specs.declared.processor_state.Token.{Token}
use Rattle.rm_core.specs.declared.processor_state.Token.TheVariants.{Held, Revoked}
use Rattle.rm_core.specs.declared.event.Heard.TheVariants.{Nothing}
use Rattle.rm_core.specs.declared.event.Event.{Event}
use Rattle.rm_core.specs.declared.event.Event.TheVariants.{Raise, Check, Lower, TakeBack, GiveBack, Regain, Revoke, Drain, ReadNumber, Publish}
use Rattle.rm_core.specs.declared.processor_state.ProcessorState.{ProcessorState}
use Rattle.rm_core.specs.CoreState.{CoreState, MayCome, after, step_answer, Safe, processor_of, with_processor, after_check, with_token_read, after_drain, with_tracker_read, with_flags_cleared, token_answer}
use Rattle.rm_core.specs.Runs.{is_regain_of, is_check_of, says_held}
use Rattle.rm_core.proofs.Changes.{IsProcessor-some, All-processor_of, Holds, Holds-with_processor, number-with_processor, processor_of-map, processor_of-changed}

-- whoever holds its token knows the published number, and whoever was revoked at t knows a smaller one than t
pub record KnowsAt (number known : ℕ) (p : ProcessorState) : Type 0 where
  pub held : p.token ≡ Held → known ≡ number
  pub revoked : (t : ℕ) → p.token ≡ Revoked t → known < t

-- `known` is the published number for a processor with its token, and below its refusal for another
abbrev pub Knows : CoreState → ℕ → ℕ → Type 0
Knows s i known = Holds (KnowsAt s.number known) s i

-- whoever is in came in under the published number
abbrev pub EntersAt : CoreState → ℕ → ℕ → Type 0
EntersAt s i entered = Holds (λ p. p.phase ≡ In → entered ≡ s.number) s i

-- a change of one processor that keeps the token keeps what it knows
same_token : (s : CoreState) (i j known : ℕ) (change : ProcessorState → ProcessorState) (q : ProcessorState) → processor_of s j ≡ Some q → (change q).token ≡ q.token → Knows s i known → Knows (with_processor s j change) i known
same_token s i j known change q there same knows =
    rw (number-with_processor s j change)
    (Holds-with_processor (KnowsAt s.number known) s i j change q there
    (λ _ at. record { held = λ held. at.held (sym same ∙ held); revoked = λ t revoked. at.revoked t (sym same ∙ revoked) })
    knows)

token-with_token_read : (t : Token) (q : ProcessorState) → (with_token_read t q).token ≡ q.token
token-with_token_read Held q = refl
token-with_token_read (Revoked s) q = refl

token-with_tracker_read : (phase : Phase) (q : ProcessorState) → (with_tracker_read phase q).token ≡ q.token
token-with_tracker_read Out q = refl
token-with_tracker_read Raised q = refl
token-with_tracker_read In q = refl

-- what is known before a publication of processors that are all drained, and so revoked
publish_knows : (s : CoreState) (i known : ℕ) → Safe s → All (λ p. p.drained ≡ true) s.processors → Knows s i known → Knows (after s Publish) i known
publish_knows s i known safe drained knows p is =
    let before : (q : ProcessorState) × (processor_of s i ≡ Some q) × (with_flags_cleared q ≡ p) = processor_of-map s (s.number + 1) s.holder i with_flags_cleared p is in
    let gone : (before.0).drained ≡ true = All-processor_of (λ p. p.drained ≡ true) s i before.0 drained before.1 in
    let revoked : (before.0).revoked ≡ true = All-processor_of (λ p. p.drained ≡ true → p.revoked ≡ true) s i before.0 safe.within before.1 gone in
    let taken : (before.0).token ≡ Revoked (s.number + 1) = All-processor_of (λ p. p.revoked ≡ true → p.token ≡ Revoked (s.number + 1)) s i before.0 safe.announced before.1 revoked in
    let same : (before.0).token ≡ p.token = ap (λ (q : ProcessorState). q.token) before.2 in
    record {
      held = λ held. let clash : Revoked (s.number + 1) ≡ Held = sym taken ∙ same ∙ held in absurd cc;
      revoked = λ t token. (knows before.0 before.1).revoked t (same ∙ token);
    }

-- a revocation at the next number: what was known is at most the published one
revoke_knows : (s : CoreState) (i j known : ℕ) (q : ProcessorState) → processor_of s j ≡ Some q → q.revoked ≡ false → Safe s → Knows s i known → Knows (with_processor s j (λ p. record p { token = Revoked (s.number + 1); revoked = true })) i known
revoke_knows s i j known q there not_revoked safe knows =
    let old : (t : ℕ) → q.token ≡ Revoked t → t ≤ s.number = All-processor_of (λ p. p.revoked ≡ false → (t : ℕ) → p.token ≡ Revoked t → t ≤ s.number) s j q safe.past there not_revoked in
    rw (number-with_processor s j (λ p. record p { token = Revoked (s.number + 1); revoked = true }))
    (Holds-with_processor (KnowsAt s.number known) s i j (λ p. record p { token = Revoked (s.number + 1); revoked = true }) q there
    (λ _ at. record {
      held = λ held. absurd cc;
      revoked = λ t token. let same : s.number + 1 ≡ t = cc in let low : known ≤ s.number = known_by q.token refl old at in omega arith;
    })
    knows)
  where
    known_by : (token : Token) → q.token ≡ token → ((t : ℕ) → q.token ≡ Revoked t → t ≤ s.number) → KnowsAt s.number known q → known ≤ s.number
    known_by Held is old at = omega (arith, at.held is)
    known_by (Revoked t) is old at = omega (arith, old t is, at.revoked t is)

-- the processor that regains knows the published number, any other what it knew
regain_knows : (s : CoreState) (i j known : ℕ) (q : ProcessorState) → processor_of s j ≡ Some q → Knows s i known → Knows (with_processor s j (λ p. record p { token = Held })) i (if i == j then s.number else known)
regain_knows s i j known q there knows =
    rw (number-with_processor s j (λ p. record p { token = Held })) (by_number (eqb_tells i j))
  where
    by_number : (((i == j) ≡ true) × (i ≡ j)) ⊎ (((i == j) ≡ false) × (i ≢ j)) → Holds (KnowsAt s.number (if i == j then s.number else known)) (with_processor s j (λ p. record p { token = Held })) i
    by_number (inl same) =
        rw same.0 (λ p is.
        let now : processor_of (with_processor s j (λ p. record p { token = Held })) i ≡ Some (record q { token = Held }) = subst (λ (n : ℕ). processor_of (with_processor s j (λ p. record p { token = Held })) n ≡ Some (record q { token = Held })) (sym same.1) (processor_of-changed s j (λ p. record p { token = Held }) q there) in
        let this : record q { token = Held } ≡ p = cc in
        record { held = λ held. refl; revoked = λ t token. absurd cc })
    by_number (inr other) =
        rw other.0 (Holds-with_processor (KnowsAt s.number known) s i j (λ p. record p { token = Held }) q there (λ same _. absurd (other.1 same)) knows)

-- a step keeps what a processor knows, and one that regains its token knows the published number
pub Knows-after : (s : CoreState) (event : Event) (i known : ℕ) → Safe s → MayCome s event → Knows s i known → Knows (after s event) i (if is_regain_of i event then s.number else known)
Knows-after s (Raise j) i known safe may knows =
    let there : (q : ProcessorState) × (processor_of s j ≡ Some q) × (q.phase ≡ Out) = IsProcessor-some s j (λ p. p.phase ≡ Out) may in
    same_token s i j known (λ p. record p { phase = Raised }) there.0 there.1 refl knows
Knows-after s (Check j) i known safe may knows =
    let there : (q : ProcessorState) × (processor_of s j ≡ Some q) × (q.phase ≡ Raised) = IsProcessor-some s j (λ p. p.phase ≡ Raised) may in
    same_token s i j known after_check there.0 there.1 (token-with_token_read there.0.token there.0) knows
Knows-after s (Lower j) i known safe may knows =
    let there : (q : ProcessorState) × (processor_of s j ≡ Some q) × ((q.phase ≡ Raised) ⊎ (q.phase ≡ In)) = IsProcessor-some s j (λ p. (p.phase ≡ Raised) ⊎ (p.phase ≡ In)) may in
    same_token s i j known (λ p. record p { phase = Out }) there.0 there.1 refl knows
Knows-after s (TakeBack h) i known safe may knows = knows
Knows-after s (GiveBack h) i known safe may knows = knows
Knows-after s (Regain j) i known safe may knows =
    let there : (q : ProcessorState) × (processor_of s j ≡ Some q) × (q.phase ≡ Out) = IsProcessor-some s j (λ p. p.phase ≡ Out) may.0 in
    regain_knows s i j known there.0 there.1 knows
Knows-after s (Revoke j) i known safe may knows =
    let there : (q : ProcessorState) × (processor_of s j ≡ Some q) × (q.revoked ≡ false) = IsProcessor-some s j (λ p. p.revoked ≡ false) may.0 in
    revoke_knows s i j known there.0 there.1 there.2 safe knows
Knows-after s (Drain j) i known safe may knows =
    let there : (q : ProcessorState) × (processor_of s j ≡ Some q) × ((q.revoked ≡ true) × (q.drained ≡ false)) = IsProcessor-some s j (λ p. (p.revoked ≡ true) × (p.drained ≡ false)) may in
    same_token s i j known after_drain there.0 there.1 (token-with_tracker_read there.0.phase there.0) knows
Knows-after s ReadNumber i known safe may knows = knows
Knows-after s Publish i known safe may knows = publish_knows s i known safe may.1 knows

-- a change of one processor that brings nobody in keeps the number under which each came in
same_inside : (s : CoreState) (i j entered : ℕ) (change : ProcessorState → ProcessorState) (q : ProcessorState) → processor_of s j ≡ Some q → ((change q).phase ≡ In → q.phase ≡ In) → EntersAt s i entered → EntersAt (with_processor s j change) i entered
same_inside s i j entered change q there same knows =
    rw (number-with_processor s j change)
    (Holds-with_processor (λ p. p.phase ≡ In → entered ≡ s.number) s i j change q there (λ _ at inside. at (same inside)) knows)

phase-with_tracker_read : (phase : Phase) (q : ProcessorState) → (with_tracker_read phase q).phase ≡ q.phase
phase-with_tracker_read Out q = refl
phase-with_tracker_read Raised q = refl
phase-with_tracker_read In q = refl

-- a check by this processor: it is in only if its token was held
own_check : (s : CoreState) (i entered : ℕ) (q : ProcessorState) (token : Token) → q.token ≡ token → q.phase ≡ Raised → processor_of s i ≡ Some q → Holds (λ p. p.phase ≡ In → (if says_held (token_answer token) then s.number else entered) ≡ s.number) (with_processor s i after_check) i
own_check s i entered q Held held raised there p is inside = refl
own_check s i entered q (Revoked t) revoked raised there p is inside =
    let same : with_token_read (Revoked t) q ≡ after_check q = ap (λ (t : Token). with_token_read t q) (sym revoked) in
    let this : after_check q ≡ p = same_Some (after_check q) p (sym (processor_of-changed s i after_check q there) ∙ is) in
    let phase : q.phase ≡ p.phase = ap (λ (p : ProcessorState). p.phase) (same ∙ this) in
    let clash : Raised ≡ In = sym raised ∙ phase ∙ inside in
    absurd cc

-- what a check hears
pub step_answer-check : (s : CoreState) (j : ℕ) (q : ProcessorState) → processor_of s j ≡ Some q → step_answer s (Check j) ≡ token_answer q.token
step_answer-check s j q there = ap (λ (o : Option ProcessorState). option_map_or (λ p. token_answer p.token) o Nothing) there

check_entered : (s : CoreState) (i j entered : ℕ) (q : ProcessorState) → processor_of s j ≡ Some q → q.phase ≡ Raised → EntersAt s i entered → EntersAt (with_processor s j after_check) i (if (i == j) && says_held (step_answer s (Check j)) then s.number else entered)
check_entered s i j entered q there raised knows =
    rw (number-with_processor s j after_check) (by_number (eqb_tells i j))
  where
    by_number : (((i == j) ≡ true) × (i ≡ j)) ⊎ (((i == j) ≡ false) × (i ≢ j)) → Holds (λ p. p.phase ≡ In → (if (i == j) && says_held (step_answer s (Check j)) then s.number else entered) ≡ s.number) (with_processor s j after_check) i
    by_number (inl same) =
        rw (same.0, step_answer-check s j q there)
        (subst (λ (n : ℕ). Holds (λ p. p.phase ≡ In → (if says_held (token_answer q.token) then s.number else entered) ≡ s.number) (with_processor s j after_check) n) (sym same.1)
        (own_check s j entered q q.token refl raised there))
    by_number (inr other) =
        rw other.0 (Holds-with_processor (λ p. p.phase ≡ In → entered ≡ s.number) s i j after_check q there (λ same _. absurd (other.1 same)) knows)

publish_entered : (s : CoreState) (i entered : ℕ) → Safe s → All (λ p. p.drained ≡ true) s.processors → EntersAt (after s Publish) i entered
publish_entered s i entered safe drained p is inside =
    let before : (q : ProcessorState) × (processor_of s i ≡ Some q) × (with_flags_cleared q ≡ p) = processor_of-map s (s.number + 1) s.holder i with_flags_cleared p is in
    let gone : (before.0).drained ≡ true = All-processor_of (λ p. p.drained ≡ true) s i before.0 drained before.1 in
    let same : (before.0).phase ≡ p.phase = ap (λ (q : ProcessorState). q.phase) before.2 in
    absurd (All-processor_of (λ p. p.drained ≡ true → p.phase ≢ In) s i before.0 safe.outside before.1 gone (same ∙ inside))

-- a step keeps that a processor which is in came in under the published number
pub EntersAt-after : (s : CoreState) (event : Event) (i entered : ℕ) → Safe s → MayCome s event → EntersAt s i entered → EntersAt (after s event) i (if is_check_of i event && says_held (step_answer s event) then s.number else entered)
EntersAt-after s (Raise j) i entered safe may knows =
    let there : (q : ProcessorState) × (processor_of s j ≡ Some q) × (q.phase ≡ Out) = IsProcessor-some s j (λ p. p.phase ≡ Out) may in
    same_inside s i j entered (λ p. record p { phase = Raised }) there.0 there.1 (λ inside. absurd cc) knows
EntersAt-after s (Check j) i entered safe may knows =
    let there : (q : ProcessorState) × (processor_of s j ≡ Some q) × (q.phase ≡ Raised) = IsProcessor-some s j (λ p. p.phase ≡ Raised) may in
    check_entered s i j entered there.0 there.1 there.2 knows
EntersAt-after s (Lower j) i entered safe may knows =
    let there : (q : ProcessorState) × (processor_of s j ≡ Some q) × ((q.phase ≡ Raised) ⊎ (q.phase ≡ In)) = IsProcessor-some s j (λ p. (p.phase ≡ Raised) ⊎ (p.phase ≡ In)) may in
    same_inside s i j entered (λ p. record p { phase = Out }) there.0 there.1 (λ inside. absurd cc) knows
EntersAt-after s (TakeBack h) i entered safe may knows = knows
EntersAt-after s (GiveBack h) i entered safe may knows = knows
EntersAt-after s (Regain j) i entered safe may knows =
    let there : (q : ProcessorState) × (processor_of s j ≡ Some q) × (q.phase ≡ Out) = IsProcessor-some s j (λ p. p.phase ≡ Out) may.0 in
    same_inside s i j entered (λ p. record p { token = Held }) there.0 there.1 (λ inside. inside) knows
EntersAt-after s (Revoke j) i entered safe may knows =
    let there : (q : ProcessorState) × (processor_of s j ≡ Some q) × (q.revoked ≡ false) = IsProcessor-some s j (λ p. p.revoked ≡ false) may.0 in
    same_inside s i j entered (λ p. record p { token = Revoked (s.number + 1); revoked = true }) there.0 there.1 (λ inside. inside) knows
EntersAt-after s (Drain j) i entered safe may knows =
    let there : (q : ProcessorState) × (processor_of s j ≡ Some q) × ((q.revoked ≡ true) × (q.drained ≡ false)) = IsProcessor-some s j (λ p. (p.revoked ≡ true) × (p.drained ≡ false)) may in
    same_inside s i j entered after_drain there.0 there.1 (λ inside. sym (phase-with_tracker_read there.0.phase there.0) ∙ inside) knows
EntersAt-after s ReadNumber i entered safe may knows = knows
EntersAt-after s Publish i entered safe may knows = publish_entered s i entered safe may.1
