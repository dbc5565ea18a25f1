-- Runs of asks that grow by one, and what a tally counts over them.
use Rattle.std.proofs.Common.{◌≡◌, ◌≢◌, ℕ, suc, ◌+◌, ◌<◌, ◌≤◌, Bool, true, false, Option, Some, None, List, [], ◌∷◌, ◌++◌, length, inl, inr, refl, sym, ap, ◌∙◌, subst, cond, arith, eq-eqb}
use Rattle.std.proofs.lemmas.List.{length-set, length-append, get_or-set_same, get_or-set_other, append-nil}
use Rattle.std.proofs.lemmas.List.Elements.{All-weaker}
use Rattle.std.proofs.lemmas.Option.{unwrap_or-slice_get}
use Rattle.std.proofs.Math.Dec.{T}
use Rattle.std.proofs.Math.Facts.{eqb_yes}
use Rattle.std.specs.Prelude.{◌==◌, All, slice_set}
use Rattle.counter_book.specs.Counts.{counted_under, count_after_packet, no_count}
use Rattle.counter_book.specs.declared.tally.Count.{Count}
use Rattle.state_asks.specs.declared.op.Op.{Op}
use Rattle.state_asks.specs.declared.reply.Reply.{Reply}
use Rattle.rule_chain.specs.Chain.{IsConfiguration}
use Rattle.ip6_headers.specs.Either.{total_of}
use Rattle.eval_engine.proofs.Hits.{hits_are_given_out}
use Rattle.eval_engine.specs.Evaluation.{evaluate}
use Rattle.eval_engine.specs.Question.{Question}
use Rattle.eval_engine.specs.Standing.{StandsAt, asked_by, asks_at, counts_after}
use Rattle.eval_engine.specs.declared.judgement.Judgement.{Judgement}
use Rattle.eval_engine.specs.declared.paused.Paused.{Paused}
use Rattle.fw_world.specs.AskRuns.{EntersEach, RisesBy, Evaluates, AsksFront, raised_by}

-- one ask more behind others
pub EntersEach-append : {B : Type 0} (enters : B → Op → Reply → B → Type 0) (old : B) (ops : List Op) (replies : List Reply) (next : B) (op : Op) (reply : Reply) (new : B)
    → EntersEach enters old ops replies next → enters next op reply new → EntersEach enters old (ops ++ op ∷ []) (replies ++ reply ∷ []) new
EntersEach-append enters old [] [] next op reply new each one = (new, subst (λ from. enters from op reply new) each one, refl)
EntersEach-append enters old [] (told ∷ replies) next op reply new each one = absurd each
EntersEach-append enters old (asked ∷ ops) [] next op reply new each one = absurd each
EntersEach-append enters old (asked ∷ ops) (told ∷ replies) next op reply new each one = (each.0, each.1, EntersEach-append enters each.0 ops replies next op reply new each.2 one)

-- a run of asks has as many replies
pub EntersEach-length : {B : Type 0} (enters : B → Op → Reply → B → Type 0) (old : B) (ops : List Op) (replies : List Reply) (new : B) → EntersEach enters old ops replies new → length ops ≡ length replies
EntersEach-length enters old [] [] new each = refl
EntersEach-length enters old [] (told ∷ replies) new each = absurd each
EntersEach-length enters old (asked ∷ ops) [] new each = absurd each
EntersEach-length enters old (asked ∷ ops) (told ∷ replies) new each = omega (arith, EntersEach-length enters each.0 ops replies new each.2)

-- How far a loop over asks has come: the replies so far, the judgement or the pause that they lead to, and the asks
-- entered.
pub record IsReached {B : Type 0} (enters : B → Op → Reply → B → Type 0) (old now : B) (q : Question) (counts tally : List Count) (judged : Option Judgement) (paused : Paused) : Type 0 where
  pub asks : List Op
  pub replies : List Reply
  pub stands : StandsAt q asks replies counts judged paused tally
  pub entered : EntersEach enters old asks replies now

-- the count under a number after one hit
count_of-hit : (counts : List Count) (counter id : ℕ) (bytes : ℕ) → counter < length counts
    → counted_under (slice_set counts counter (count_after_packet (counted_under counts counter) bytes)) id ≡ cond (counter == id) (count_after_packet (counted_under counts id) bytes) (counted_under counts id)
count_of-hit counts counter id bytes within = decided (counter == id) refl
  where
    decided : (b : Bool) → b ≡ (counter == id) → counted_under (slice_set counts counter (count_after_packet (counted_under counts counter) bytes)) id ≡ cond b (count_after_packet (counted_under counts id) bytes) (counted_under counts id)
    decided true is =
        let same : counter ≡ id = eqb_yes (subst T is tt) in
        subst (λ (k : ℕ). counted_under (slice_set counts counter (count_after_packet (counted_under counts counter) bytes)) k ≡ count_after_packet (counted_under counts k) bytes) same
        (unwrap_or-slice_get _ counter no_count ∙ get_or-set_same counts counter (count_after_packet (counted_under counts counter) bytes) no_count within)
    decided false is =
        let other : id ≢ counter = (λ (same : id ≡ counter). cc (eq-eqb counter id (sym same), is)) in
        unwrap_or-slice_get _ id no_count ∙ get_or-set_other counts counter id (count_after_packet (counted_under counts counter) bytes) no_count other ∙ sym (unwrap_or-slice_get counts id no_count)

-- counts after hits rise by them, where the tally is fitted for them
pub RisesBy-after : (bytes : ℕ) (hits : List ℕ) (counts : List Count) → All (λ counter. counter < length counts) hits → RisesBy bytes hits counts (counts_after bytes hits counts)
unfolding counts_after
RisesBy-after bytes [] counts within = λ id. refl
RisesBy-after bytes (counter ∷ hits) counts within = λ id.
    let first : counter < length counts = within 0 counter (omega arith) in
    let raise : Count = count_after_packet (counted_under counts counter) bytes in
    let rest : All (λ (k : ℕ). k < length (slice_set counts counter raise)) hits = (λ k d below. rw (length-set counts counter raise) (within (suc k) d (omega arith))) in
    RisesBy-after bytes hits (slice_set counts counter raise) rest id ∙ ap (raised_by bytes hits id) (count_of-hit counts counter id bytes first)

-- one ask more, answered
pub IsReached-answered : {B : Type 0} (enters : B → Op → Reply → B → Type 0) (old now next : B) (q : Question) (counts tally after : List Count) (waits : Paused) (reply : Reply) (judged : Option Judgement) (paused : Paused)
    → IsReached enters old now q counts tally None waits → enters now (asked_by waits) reply next
    → ((asks : List Op) (replies : List Reply) (start : List Count) → StandsAt q asks replies start None waits tally
    → StandsAt q (asks ++ asked_by waits ∷ []) (replies ++ reply ∷ []) start judged paused after) → IsReached enters old next q counts after judged paused
IsReached-answered enters old now next q counts tally after waits reply judged paused reached one goes = record {
  asks = reached.asks ++ asked_by waits ∷ [];
  replies = reached.replies ++ reply ∷ [];
  stands = goes reached.asks reached.replies counts reached.stands;
  entered = EntersEach-append enters old reached.asks reached.replies now (asked_by waits) reply next reached.entered one;
}

-- the evaluation of a run that ended
pub IsReached-ended : {B : Type 0} (enters : B → Op → Reply → B → Type 0) (old now : B) (q : Question) (counts tally : List Count) (judgement : Judgement) (paused : Paused)
    → IsConfiguration q.edition.config → q.edition.config.greatest_counter < length counts
    → IsReached enters old now q counts tally (Some judgement) paused → Evaluates enters old now q counts tally judgement
IsReached-ended enters old now q counts tally judgement paused lawful fitted reached = record {
  replies = reached.replies;
  outcome = reached.stands.outcome;
  entered = subst (λ ops. EntersEach enters old ops reached.replies now) (sym (append-nil reached.asks) ∙ sym reached.stands.asked) reached.entered;
  counted = subst (λ after. RisesBy (total_of q.packet) (evaluate q reached.replies).hits counts after) (sym reached.stands.tallied)
      (RisesBy-after (total_of q.packet) (evaluate q reached.replies).hits counts (All-weaker (λ (k : ℕ). k ≤ q.edition.config.greatest_counter) (λ (k : ℕ). k < length counts) (λ k below. omega arith) _ (hits_are_given_out q reached.replies lawful)));
}

-- the asks so far are a beginning of the evaluation's
pub AsksFront-reached : {B : Type 0} (enters : B → Op → Reply → B → Type 0) (misses : B → B → Type 0) (old now : B) (q : Question) (counts tally : List Count) (judged : Option Judgement) (paused : Paused)
    → IsReached enters old now q counts tally judged paused → AsksFront enters misses old now q
AsksFront-reached enters misses old now q counts tally judged paused reached =
    record { ops = reached.asks; replies = reached.replies; between = now; entered = reached.entered; begins = (asks_at judged paused, reached.stands.asked); missed = inl refl }

-- and stay one where the next wanted memory
pub AsksFront-missed : {B : Type 0} (enters : B → Op → Reply → B → Type 0) (misses : B → B → Type 0) (old now new : B) (q : Question) (counts tally : List Count) (judged : Option Judgement) (paused : Paused)
    → judged ≡ None → IsReached enters old now q counts tally judged paused → misses now new → AsksFront enters misses old new q
AsksFront-missed enters misses old now new q counts tally judged paused waits reached missed =
    let asked : (evaluate q reached.replies).asks ≡ reached.asks ++ asked_by paused ∷ [] = reached.stands.asked ∙ ap (λ (j : Option Judgement). reached.asks ++ asks_at j paused) waits in
    let longer : length (evaluate q reached.replies).asks ≡ length reached.asks + 1 = ap length asked ∙ length-append reached.asks (asked_by paused ∷ []) in
    record { ops = reached.asks; replies = reached.replies; between = now; entered = reached.entered; begins = (asks_at judged paused, reached.stands.asked); missed = inr (omega (arith, longer), missed) }

-- a tally that was fitted counts as before
pub Evaluates-fitted : {B : Type 0} (enters : B → Op → Reply → B → Type 0) (old new : B) (q : Question) (counts fitted tally : List Count) (judgement : Judgement)
    → ((id : ℕ) → counted_under fitted id ≡ counted_under counts id) → Evaluates enters old new q fitted tally judgement → Evaluates enters old new q counts tally judgement
Evaluates-fitted enters old new q counts fitted tally judgement same ran = record {
  replies = ran.replies;
  outcome = ran.outcome;
  entered = ran.entered;
  counted = λ id. ran.counted id ∙ ap (raised_by (total_of q.packet) (evaluate q ran.replies).hits id) (same id);
}

-- no ask is a beginning
pub asks_nothing : {B : Type 0} (enters : B → Op → Reply → B → Type 0) (misses : B → B → Type 0) (now : B) (q : Question) → AsksFront enters misses now now q
asks_nothing enters misses now q = record { ops = []; replies = []; between = now; entered = refl; begins = ((evaluate q []).asks, refl); missed = inl refl }
