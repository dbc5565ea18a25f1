-- Where each reply is the state object's, the replies to an evaluation's asks are determined.
use Rattle.std.proofs.Common.{◌≡◌, Bool, true, false, cond, List, [], ◌∷◌, ◌++◌, refl, sym, ap, ◌∙◌, subst, append_assoc, append-nil}
use Rattle.std.proofs.lemmas.List.{append_cancel_left}
use Rattle.std.specs.Prelude.{⊤}
use Rattle.dyn_states.specs.StateObject.{StateObject, reply_of, after_ask}
use Rattle.state_asks.specs.declared.op.Op.{Op}
use Rattle.state_asks.specs.declared.reply.Reply.{Reply}
use Rattle.eval_engine.proofs.Ending.{mismatch_stays, no_reply_due}
use Rattle.eval_engine.specs.Evaluated.{Whole}
use Rattle.eval_engine.specs.Evaluation.{Progress, progress_by, progress_of, progress_from, progress_after_reply, is_reply_to, asks_at_stop, outcome_of, evaluate}
use Rattle.eval_engine.specs.Question.{Question}
use Rattle.eval_engine.specs.Trace.{Stop, EndsWith, WaitsFor, Mismatch, stop_of_trace}
use Rattle.eval_engine.specs.Walk.{first_trace, trace_after_reply}
use Rattle.eval_engine.specs.declared.judgement.Judgement.{Judgement}

-- each of these asks was answered by the state object in its turn
abbrev pub AnswersInTurn : StateObject → List Op → List Reply → Type 0
AnswersInTurn o [] [] = ⊤
AnswersInTurn o [] (reply ∷ replies) = ⊥
AnswersInTurn o (op ∷ ops) [] = ⊥
AnswersInTurn o (op ∷ ops) (reply ∷ replies) = (reply ≡ reply_of o op) × AnswersInTurn (after_ask o op) ops replies

-- these asks are behind those
abbrev GoesOnFrom : List Op → List Op → Type 0
GoesOnFrom asks longer = (more : List Op) × (longer ≡ asks ++ more)

asks_after_reply : (q : Question) (progress : Progress) (reply : Reply) (stop : Stop) → GoesOnFrom progress.asks (progress_after_reply q progress.asks progress.hits reply stop).asks
asks_after_reply q progress reply (EndsWith judgement) = ([], sym (append-nil progress.asks))
asks_after_reply q progress reply (WaitsFor op pause) = by_fit (is_reply_to q.edition.config.rules op reply)
  where
    by_fit : (b : Bool) → GoesOnFrom progress.asks (cond b (progress_by progress.asks progress.hits (trace_after_reply q pause reply)) (record { asks = progress.asks; hits = progress.hits; stop = Mismatch })).asks
    by_fit true = (asks_at_stop (stop_of_trace (trace_after_reply q pause reply)), refl)
    by_fit false = ([], sym (append-nil progress.asks))
asks_after_reply q progress reply Mismatch = ([], sym (append-nil progress.asks))

-- more replies bring more asks, and change none
asks_go_on : (q : Question) (progress : Progress) (replies : List Reply) → GoesOnFrom progress.asks (progress_from q progress replies).asks
unfolding progress_from
asks_go_on q progress [] = ([], sym (append-nil progress.asks))
asks_go_on q progress (reply ∷ replies) =
    let next = progress_after_reply q progress.asks progress.hits reply progress.stop in
    let first = asks_after_reply q progress reply progress.stop in
    let rest = asks_go_on q next replies in
    (first.0 ++ rest.0, rest.1 ∙ ap (λ (asks : List Op). asks ++ rest.0) first.1 ∙ append_assoc progress.asks first.0 rest.0)

-- what never comes right isn't whole
never_whole : (q : Question) (progress : Progress) (replies : List Reply) (judgement : Judgement) → progress.stop ≡ Mismatch → outcome_of (progress_from q progress replies).stop ≡ Whole judgement → ⊥
never_whole q progress replies judgement wrong whole =
    let stays = mismatch_stays q progress replies wrong in
    not_whole (progress_from q progress replies).stop stays whole
  where
    not_whole : (stop : Stop) → stop ≡ Mismatch → outcome_of stop ≡ Whole judgement → ⊥
    not_whole (EndsWith judged) is whole = absurd (cc)
    not_whole (WaitsFor op pause) is whole = absurd (cc)
    not_whole Mismatch is whole = absurd (cc)

-- An evaluation that becomes whole with one reply more waits for it, and behind it has the asks so far and the next.
record TakesReply (q : Question) (progress : Progress) (reply : Reply) : Type 0 where
  op : Op
  waits : asks_at_stop progress.stop ≡ op ∷ []
  next : (progress_after_reply q progress.asks progress.hits reply progress.stop).asks ≡ progress.asks ++ asks_at_stop (progress_after_reply q progress.asks progress.hits reply progress.stop).stop

-- how far it is behind a reply that came at this stop
abbrev behind_stop : Question → Progress → Reply → Stop → Progress
behind_stop q progress reply stop = progress_after_reply q progress.asks progress.hits reply stop

takes_reply : (q : Question) (progress : Progress) (reply : Reply) (replies : List Reply) (judgement : Judgement) → outcome_of (progress_from q progress (reply ∷ replies)).stop ≡ Whole judgement → TakesReply q progress reply
unfolding progress_from
takes_reply q progress reply replies judgement whole = by_stop progress.stop refl
  where
    wrong : (stop : Stop) → progress.stop ≡ stop → (behind_stop q progress reply stop).stop ≡ Mismatch → ⊥
    wrong stop is mismatch = never_whole q (progress_after_reply q progress.asks progress.hits reply progress.stop) replies judgement (ap (λ (s : Stop). (behind_stop q progress reply s).stop) is ∙ mismatch) whole

    by_stop : (stop : Stop) → progress.stop ≡ stop → TakesReply q progress reply
    by_stop (EndsWith judged) is = absurd (wrong (EndsWith judged) is refl)
    by_stop (WaitsFor op pause) is = by_fit (is_reply_to q.edition.config.rules op reply) refl
      where
        by_fit : (b : Bool) → is_reply_to q.edition.config.rules op reply ≡ b → TakesReply q progress reply
        by_fit true fits = record {
          op = op;
          waits = ap asks_at_stop is;
          next = subst (λ (s : Stop). (behind_stop q progress reply s).asks ≡ progress.asks ++ asks_at_stop (behind_stop q progress reply s).stop) (sym is) (rw fits refl);
        }
        by_fit false fits = absurd (wrong (WaitsFor op pause) is (rw fits refl))
    by_stop Mismatch is = absurd (wrong Mismatch is refl)

-- Replies that the state object gives in turn, and with which an evaluation that has made these asks becomes whole.
record Completes (q : Question) (progress : Progress) (o : StateObject) (done : List Op) (replies : List Reply) : Type 0 where
  ops : List Op
  asks : (progress_from q progress replies).asks ≡ done ++ ops
  answered : AnswersInTurn o ops replies
  judgement : Judgement
  whole : outcome_of (progress_from q progress replies).stop ≡ Whole judgement

-- The first of them is the state object's answer to the ask that waits, and the others complete what follows.
record CompletesBehind (q : Question) (progress : Progress) (o : StateObject) (reply : Reply) (replies : List Reply) : Type 0 where
  op : Op
  waits : asks_at_stop progress.stop ≡ op ∷ []
  answer : reply ≡ reply_of o op
  next : (progress_after_reply q progress.asks progress.hits reply progress.stop).asks ≡ progress.asks ++ asks_at_stop (progress_after_reply q progress.asks progress.hits reply progress.stop).stop
  rest : Completes q (progress_after_reply q progress.asks progress.hits reply progress.stop) (after_ask o op) progress.asks replies

completes_behind : (q : Question) (progress : Progress) (o : StateObject) (done : List Op) (reply : Reply) (replies : List Reply) → progress.asks ≡ done ++ asks_at_stop progress.stop
    → Completes q progress o done (reply ∷ replies) → CompletesBehind q progress o reply replies
unfolding progress_from
completes_behind q progress o done reply replies so_far completes =
    let takes = takes_reply q progress reply replies completes.judgement completes.whole in
    let asked : progress.asks ≡ done ++ takes.op ∷ [] = so_far ∙ ap (λ (asks : List Op). done ++ asks) takes.waits in
    let on = asks_go_on q (progress_after_reply q progress.asks progress.hits reply progress.stop) replies in
    let next_asks = asks_at_stop (progress_after_reply q progress.asks progress.hits reply progress.stop).stop in
    let more : List Op = next_asks ++ on.0 in
    let all : (progress_from q progress (reply ∷ replies)).asks ≡ progress.asks ++ more = on.1 ∙ ap (λ (asks : List Op). asks ++ on.0) takes.next ∙ append_assoc progress.asks next_asks on.0 in
    let whole_asks : done ++ completes.ops ≡ done ++ takes.op ∷ more =
    sym completes.asks ∙ all ∙ ap (λ (asks : List Op). asks ++ more) asked ∙ append_assoc done (takes.op ∷ []) more in
    let is : completes.ops ≡ takes.op ∷ more = append_cancel_left done completes.ops (takes.op ∷ more) whole_asks in
    let answered : AnswersInTurn o (takes.op ∷ more) (reply ∷ replies) = subst (λ (ops : List Op). AnswersInTurn o ops (reply ∷ replies)) is completes.answered in
    record {
      op = takes.op;
      waits = takes.waits;
      answer = answered.0;
      next = takes.next;
      rest = record { ops = more; asks = all; answered = answered.1; judgement = completes.judgement; whole = completes.whole };
    }

-- there is one list of such replies
one_completion : (q : Question) (progress : Progress) (o : StateObject) (done : List Op) (replies others : List Reply) → progress.asks ≡ done ++ asks_at_stop progress.stop
    → Completes q progress o done replies → Completes q progress o done others → replies ≡ others
unfolding progress_from
one_completion q progress o done [] [] so_far a b = refl
one_completion q progress o done [] (other ∷ others) so_far a b =
    absurd (never_whole q (progress_after_reply q progress.asks progress.hits other progress.stop) others b.judgement (no_reply_due q progress other progress.stop a.judgement a.whole) b.whole)
one_completion q progress o done (reply ∷ replies) [] so_far a b =
    absurd (never_whole q (progress_after_reply q progress.asks progress.hits reply progress.stop) replies a.judgement (no_reply_due q progress reply progress.stop b.judgement b.whole) a.whole)
one_completion q progress o done (reply ∷ replies) (other ∷ others) so_far a b =
    let first = completes_behind q progress o done reply replies so_far a in
    let second = completes_behind q progress o done other others so_far b in
    let one : second.op ∷ [] ≡ first.op ∷ [] = sym second.waits ∙ first.waits in
    let op : second.op ≡ first.op = cc in
    let same : other ≡ reply = second.answer ∙ ap (reply_of o) op ∙ sym first.answer in
    let after : StateObject = after_ask o first.op in
    let next : Reply → Progress = λ r. progress_after_reply q progress.asks progress.hits r progress.stop in
    let rest : Completes q (next reply) after progress.asks others =
    subst (λ (r : Reply). Completes q (next r) after progress.asks others) same (subst (λ (x : Op). Completes q (next other) (after_ask o x) progress.asks others) op second.rest) in
    ap (λ (rs : List Reply). reply ∷ rs) (one_completion q (next reply) after progress.asks replies others first.next first.rest rest) ∙ ap (λ (r : Reply). r ∷ others) (sym same)

-- where an evaluation is whole with replies that the state object gives to its asks in turn, there are no other such replies
pub one_evaluation : (q : Question) (o : StateObject) (replies others : List Reply) (a b : Judgement) → (evaluate q replies).outcome ≡ Whole a → (evaluate q others).outcome ≡ Whole b
    → AnswersInTurn o (evaluate q replies).asks replies → AnswersInTurn o (evaluate q others).asks others → replies ≡ others
unfolding evaluate
one_evaluation q o replies others a b first second answered told =
    one_completion q (progress_by [] [] (first_trace q)) o [] replies others refl
    (record { ops = (progress_of q replies).asks; asks = refl; answered = answered; judgement = a; whole = first })
    (record { ops = (progress_of q others).asks; asks = refl; answered = told; judgement = b; whole = second })
