-- Each reply is one to an ask.
use Rattle.std.proofs.Common.{◌≡◌, ℕ, suc, ◌+◌, ◌<◌, Bool, true, false, List, [], ◌∷◌, ◌++◌, length, length-append, refl, ap, sym, ◌∙◌, subst, arith}
use Rattle.std.specs.Prelude.{⊤}
use Rattle.std.proofs.lemmas.List.{append-nil}
use Rattle.state_asks.specs.declared.op.Op.{Op}
use Rattle.state_asks.specs.declared.reply.Reply.{Reply}
use Rattle.eval_engine.specs.Evaluated.{Outcome, Whole, OpenAt, Neither}
use Rattle.eval_engine.specs.Evaluation.{Progress, progress_by, progress_of, progress_from, progress_after_reply, is_reply_to, asks_at_stop, evaluate, outcome_of}
use Rattle.eval_engine.specs.Question.{Question}
use Rattle.eval_engine.specs.Trace.{Pause, Stop, EndsWith, WaitsFor, Mismatch, Trace, stop_of_trace}
use Rattle.eval_engine.specs.Walk.{first_trace, trace_after_reply}
use Rattle.eval_engine.specs.declared.judgement.Judgement.{Judgement}
use Rattle.eval_engine.proofs.Ending.{progress_in_two, ends_once, mismatch_stays}
use Rattle.evaluation_laws.specs.Laws.{AsksMatchReplies, AsksAreAnswered, RepliesAreAsked, IsOpenFor, OpensBeforeItEnds, HasOneOutcome}

-- with so many replies used
abbrev IsUsed : Stop → ℕ → ℕ → Type 0
IsUsed (EndsWith judgement) asks used = asks ≡ used
IsUsed (WaitsFor op pause) asks used = asks ≡ suc used
IsUsed Mismatch asks used = ⊤

one_more : (asks : List Op) (stop : Stop) (used : ℕ) → length asks ≡ used → IsUsed stop (length (asks ++ asks_at_stop stop)) used
one_more asks (EndsWith judgement) used is = ap (λ (ops : List Op). length ops) (append-nil asks) ∙ is
one_more asks (WaitsFor op pause) used is = let size = length-append asks (op ∷ []) in omega (arith, size, is)
one_more asks Mismatch used is = tt

used_by : (q : Question) (asks : List Op) (hits : List ℕ) (trace : Trace) (used : ℕ) → length asks ≡ used → IsUsed (progress_by asks hits trace).stop (length (progress_by asks hits trace).asks) used
used_by q asks hits trace used is = one_more asks (stop_of_trace trace) used is

used_next : (q : Question) (asks : List Op) (hits : List ℕ) (reply : Reply) (stop : Stop) (used : ℕ) → IsUsed stop (length asks) used
    → IsUsed (progress_after_reply q asks hits reply stop).stop (length (progress_after_reply q asks hits reply stop).asks) (suc used)
used_next q asks hits reply (EndsWith judgement) used is = tt
used_next q asks hits reply Mismatch used is = tt
used_next q asks hits reply (WaitsFor op pause) used is = go (is_reply_to q.edition.config.rules op reply) refl
  where
    go : (b : Bool) → is_reply_to q.edition.config.rules op reply ≡ b → IsUsed (progress_after_reply q asks hits reply (WaitsFor op pause)).stop (length (progress_after_reply q asks hits reply (WaitsFor op pause)).asks) (suc used)
    go true fits = rw fits (used_by q asks hits (trace_after_reply q pause reply) (suc used) is)
    go false fits = rw fits tt

used_from : (q : Question) (progress : Progress) (replies : List Reply) (used : ℕ) → IsUsed progress.stop (length progress.asks) used
    → IsUsed (progress_from q progress replies).stop (length (progress_from q progress replies).asks) (used + length replies)
unfolding progress_from
used_from q progress [] used is = let same : used ≡ used + 0 = omega arith in subst (λ (n : ℕ). IsUsed progress.stop (length progress.asks) n) same is
used_from q progress (reply ∷ replies) used is =
    let same : suc used + length replies ≡ used + suc (length replies) = omega arith in
    subst (λ (n : ℕ). IsUsed (progress_from q (progress_after_reply q progress.asks progress.hits reply progress.stop) replies).stop (length (progress_from q (progress_after_reply q progress.asks progress.hits reply progress.stop) replies).asks) n) same
    (used_from q (progress_after_reply q progress.asks progress.hits reply progress.stop) replies (suc used) (used_next q progress.asks progress.hits reply progress.stop used is))

by_stop : (stop : Stop) (asks replies : ℕ) → IsUsed stop asks replies → AsksMatchReplies (outcome_of stop) asks replies
by_stop (EndsWith judgement) asks replies is = is
by_stop (WaitsFor op pause) asks replies is = is
by_stop Mismatch asks replies is = tt

-- a whole evaluation has as many asks as replies, and an open one has one ask more
pub asks_are_answered : AsksAreAnswered
unfolding evaluate
asks_are_answered q replies =
    let all : 0 + length replies ≡ length replies = omega arith in
    by_stop (progress_of q replies).stop (length (progress_of q replies).asks) (length replies)
    (subst (λ (n : ℕ). IsUsed (progress_of q replies).stop (length (progress_of q replies).asks) n) all
    (used_from q (progress_by [] [] (first_trace q)) replies 0 (used_by q [] [] (first_trace q) 0 refl)))

too_many : (outcome : Outcome) (asks replies : ℕ) → AsksMatchReplies outcome asks replies → asks < replies → outcome ≡ Neither
too_many (Whole judgement) asks replies is less = absurd (omega arith)
too_many (OpenAt op) asks replies is less = absurd (omega arith)
too_many Neither asks replies is less = refl

-- with more replies than asks an evaluation is neither whole nor open
pub replies_are_asked : RepliesAreAsked
replies_are_asked q replies less = too_many (evaluate q replies).outcome (length (evaluate q replies).asks) (length replies) (asks_are_answered q replies) less

-- a mismatch is never whole
unwhole : (q : Question) (progress : Progress) (more : List Reply) (judgement : Judgement) → progress.stop ≡ Mismatch → outcome_of (progress_from q progress more).stop ≡ Whole judgement → ⊥
unwhole q progress more judgement is whole = let none : Neither ≡ Whole judgement = sym (ap (λ (s : Stop). outcome_of s) (mismatch_stays q progress more is)) ∙ whole in grind arith

unfit : (q : Question) (asks : List Op) (hits : List ℕ) (reply : Reply) (op : Op) (pause : Pause) → is_reply_to q.edition.config.rules op reply ≡ false → (progress_after_reply q asks hits reply (WaitsFor op pause)).stop ≡ Mismatch
unfit q asks hits reply op pause is = rw is refl

-- it goes on with a reply only where it is open for it
opens_at : (q : Question) (replies : List Reply) (reply : Reply) (more : List Reply) (judgement : Judgement) (stop : Stop) → (progress_of q replies).stop ≡ stop
    → outcome_of (progress_from q (progress_after_reply q (progress_of q replies).asks (progress_of q replies).hits reply (progress_of q replies).stop) more).stop ≡ Whole judgement → IsOpenFor q replies reply
unfolding evaluate
opens_at q replies reply more judgement (EndsWith ended) is whole =
    absurd (unwhole q (progress_after_reply q (progress_of q replies).asks (progress_of q replies).hits reply (progress_of q replies).stop) more judgement
    (ap (λ (s : Stop). (progress_after_reply q (progress_of q replies).asks (progress_of q replies).hits reply s).stop) is) whole)
opens_at q replies reply more judgement Mismatch is whole =
    absurd (unwhole q (progress_after_reply q (progress_of q replies).asks (progress_of q replies).hits reply (progress_of q replies).stop) more judgement
    (ap (λ (s : Stop). (progress_after_reply q (progress_of q replies).asks (progress_of q replies).hits reply s).stop) is) whole)
opens_at q replies reply more judgement (WaitsFor op pause) is whole = go (is_reply_to q.edition.config.rules op reply) refl
  where
    go : (b : Bool) → is_reply_to q.edition.config.rules op reply ≡ b → IsOpenFor q replies reply
    go true fits = record { op = op; open_at = ap (λ (s : Stop). outcome_of s) is; fits = fits }
    go false is_not =
        absurd (unwhole q (progress_after_reply q (progress_of q replies).asks (progress_of q replies).hits reply (progress_of q replies).stop) more judgement
        (ap (λ (s : Stop). (progress_after_reply q (progress_of q replies).asks (progress_of q replies).hits reply s).stop) is
        ∙ unfit q (progress_of q replies).asks (progress_of q replies).hits reply op pause is_not) whole)

-- before each of its replies a whole evaluation was open at an ask that the reply fits
pub opens_before_it_ends : OpensBeforeItEnds
unfolding evaluate progress_from
opens_before_it_ends q replies reply more judgement whole =
    opens_at q replies reply more judgement (progress_of q replies).stop refl
    (sym (ap (λ (p : Progress). outcome_of p.stop) (progress_in_two q (progress_by [] [] (first_trace q)) replies (reply ∷ more))) ∙ whole)

-- a whole evaluation is whole with no reply more, and has one judgement
pub has_one_outcome : HasOneOutcome
has_one_outcome q replies [] judgement other whole also =
    let same : Whole judgement ≡ Whole other = sym whole ∙ ap (λ (rs : List Reply). (evaluate q rs).outcome) (sym (append-nil replies)) ∙ also in (refl, grind arith)
has_one_outcome q replies (reply ∷ more) judgement other whole also =
    let none : Neither ≡ Whole other = sym (ends_once q judgement replies reply more whole) ∙ also in absurd (grind arith)
