-- An evaluation is fed with the replies that are told, one after another.
use Rattle.std.proofs.Common.{◌≡◌, ℕ, ◌+◌, ◌<◌, ◌≤◌, true, false, Option, Some, None, IfSome, OnSome, is_some, List, [], ◌∷◌, ◌++◌, length, take, drop, get_or, refl, sym, ap, ◌∙◌, subst, arith, append_assoc, length-append}
use Rattle.std.proofs.Math.Seq.{get_or-append_seam}
use Rattle.std.proofs.lemmas.List.{take_more, take_all, append-nil, map-append, get_or-map, take-append-drop, length-map, length-take-le}
use Rattle.counter_book.specs.declared.tally.Count.{Count}
use Rattle.state_asks.specs.declared.op.Op.{Op}
use Rattle.state_asks.specs.declared.reply.Reply.{Reply}
use Rattle.ip6_headers.specs.Either.{total_of}
use Rattle.eval_engine.proofs.Fronts.{begins_with, stays, stays_ended}
use Rattle.eval_engine.proofs.Progressing.{progress_from-append}
use Rattle.eval_engine.specs.Evaluated.{Evaluated, Whole, Neither}
use Rattle.eval_engine.specs.Evaluation.{Progress, evaluate, progress_by, progress_of, progress_after_reply, is_reply_to, outcome_of}
use Rattle.eval_engine.specs.Question.{Question}
use Rattle.eval_engine.specs.Standing.{StandsAt, counts_after, asked_by, pause_of}
use Rattle.eval_engine.specs.Trace.{Stop, Pause, WaitsFor, Mismatch}
use Rattle.eval_engine.specs.Walk.{first_trace}
use Rattle.eval_engine.specs.declared.judgement.Judgement.{Judgement}
use Rattle.eval_engine.specs.declared.paused.Paused.{Paused}
use Rattle.run_audit.specs.ToldEvaluations.{ops_told, replies_told, ComesTo}

-- the asks and replies of one record, as they are told
abbrev Told : Type 0
Told = List (Op × Reply)

-- the asks told with one more
ops_more : (told : Told) (i : ℕ) (d : Op × Reply) → i < length told → ops_told (take (i + 1) told) ≡ ops_told (take i told) ++ (get_or told i d).0 ∷ []
ops_more told i d inside = ap (λ (t : Told). ops_told t) (take_more told i d inside) ∙ map-append (λ (ask : Op × Reply). ask.0) (take i told) (get_or told i d ∷ [])

-- the replies told with one more
replies_more : (told : Told) (i : ℕ) (d : Op × Reply) → i < length told
    → replies_told (take (i + 1) told) ≡ replies_told (take i told) ++ (get_or told i d).1 ∷ []
replies_more told i d inside = ap (λ (t : Told). replies_told t) (take_more told i d inside) ∙ map-append (λ (ask : Op × Reply). ask.1) (take i told) (get_or told i d ∷ [])

-- what is told with one more, whose ask is this one
pub told_more : (told : Told) (i : ℕ) (d : Op × Reply) (op : Op) → i < length told → op ≡ (get_or told i d).0
    → (ops_told (take (i + 1) told) ≡ ops_told (take i told) ++ op ∷ []) × (replies_told (take (i + 1) told) ≡ replies_told (take i told) ++ (get_or told i d).1 ∷ [])
told_more told i d op inside is =
    (ops_more told i d inside ∙ ap (λ (o : Op). ops_told (take i told) ++ o ∷ []) (sym is), replies_more told i d inside)

-- the first so many replies, and the others
replies_split : (told : Told) (i : ℕ) → replies_told told ≡ replies_told (take i told) ++ replies_told (drop i told)
replies_split told i = ap (λ (t : Told). replies_told t) (sym (take-append-drop i told)) ∙ map-append (λ (ask : Op × Reply). ask.1) (take i told) (drop i told)

ops_length : (told : Told) (i : ℕ) → i ≤ length told → length (ops_told (take i told)) ≡ i
ops_length told i inside = length-map (take i told) (λ (ask : Op × Reply). ask.0) ∙ length-take-le i told inside

-- an evaluation that ended makes no ask that is told behind its last
pub none_told : (q : Question) (told : Told) (i : ℕ) (judged : Option Judgement) (paused : Paused) (judgement : Judgement) (start tally : List Count) → i < length told → is_some judged ≡ true
    → StandsAt q (ops_told (take i told)) (replies_told (take i told)) start judged paused tally → ComesTo q told judgement → ⊥
none_told q told i None paused judgement start tally inside ended stands comes = absurd (cc)
none_told q told i (Some last) paused judgement start tally inside ended stands comes =
    let kept = (stays_ended q (replies_told (take i told)) (replies_told (drop i told)) last stands.outcome).0 in
    let same : ops_told told ≡ ops_told (take i told) ++ [] =
    sym comes.asked ∙ ap (λ (rs : List Reply). (evaluate q rs).asks) (replies_split told i) ∙ kept ∙ stands.asked in
    let long : length (ops_told told) ≡ length told = length-map told (λ (ask : Op × Reply). ask.0) in
    let short : length (ops_told (take i told) ++ []) ≡ i + 0 = length-append (ops_told (take i told)) [] ∙ ap (λ n. n + 0) (ops_length told i (omega (arith, inside))) in
    absurd (omega (arith, inside, ap length same, long, short))

-- an evaluation with no judgement yet waits
pub still_waits : (q : Question) (asks : List Op) (replies : List Reply) (start : List Count) (judged : Option Judgement) (paused : Paused) (tally : List Count) → is_some judged ≡ false
    → StandsAt q asks replies start judged paused tally → StandsAt q asks replies start None paused tally
still_waits q asks replies start None paused tally none stands = stands
still_waits q asks replies start (Some judgement) paused tally none stands = absurd (cc)

seam : (xs rest : List Op) (op d : Op) (i : ℕ) → length xs ≡ i → get_or ((xs ++ op ∷ []) ++ rest) i d ≡ op
seam xs rest op d i is = ap (λ (t : List Op). get_or t i d) (append_assoc xs (op ∷ []) rest) ∙ ap (λ n. get_or (xs ++ op ∷ rest) n d) (sym is) ∙ get_or-append_seam xs op rest d

-- the ask that the evaluation makes is the one that is told
pub asks_told : (q : Question) (told : Told) (i : ℕ) (d : Op × Reply) (paused : Paused) (judgement : Judgement) (start tally : List Count) → i < length told
    → StandsAt q (ops_told (take i told)) (replies_told (take i told)) start None paused tally → ComesTo q told judgement → asked_by paused ≡ (get_or told i d).0
asks_told q told i d paused judgement start tally inside stands comes =
    let op : Op = asked_by paused in
    let (rest, more) = begins_with q (replies_told (take i told)) (replies_told (drop i told)) in
    let same : ops_told told ≡ (ops_told (take i told) ++ op ∷ []) ++ rest =
    sym comes.asked ∙ ap (λ (rs : List Reply). (evaluate q rs).asks) (replies_split told i) ∙ more ∙ ap (λ (xs : List Op). xs ++ rest) stands.asked in
    sym (seam (ops_told (take i told)) rest op op i (ops_length told i (omega (arith, inside))))
    ∙ ap (λ (xs : List Op). get_or xs i op) (sym same)
    ∙ get_or-map (λ (ask : Op × Reply). ask.0) told i d op inside

mismatch : (q : Question) (asks : List Op) (hits : List ℕ) (reply : Reply) (op : Op) (pause : Pause) → is_reply_to q.edition.config.rules op reply ≡ false
    → (progress_after_reply q asks hits reply (WaitsFor op pause)).stop ≡ Mismatch
mismatch q asks hits reply op pause other = rw other refl

-- a reply that isn't one to its ask ends all
neither : (q : Question) (asks : List Op) (replies : List Reply) (reply : Reply) (paused : Paused) (start tally : List Count)
    → StandsAt q asks replies start None paused tally → is_reply_to q.edition.config.rules (asked_by paused) reply ≡ false
    → (evaluate q (replies ++ reply ∷ [])).outcome ≡ Neither
unfolding evaluate
neither q asks replies reply paused start tally stands other =
    let so_far : Progress = progress_of q replies in
    ap (λ (p : Progress). outcome_of p.stop) (progress_from-append q (progress_by [] [] (first_trace q)) replies reply
    ∙ ap (λ (s : Stop). progress_after_reply q so_far.asks so_far.hits reply s) stands.stop)
    ∙ ap (λ (s : Stop). outcome_of s) (mismatch q so_far.asks so_far.hits reply (asked_by paused) (pause_of q paused) other)

-- the reply that is told is one to its ask
pub replies_fit : (q : Question) (told : Told) (i : ℕ) (d : Op × Reply) (paused : Paused) (judgement : Judgement) (start tally : List Count) → i < length told
    → StandsAt q (ops_told (take i told)) (replies_told (take i told)) start None paused tally → ComesTo q told judgement
    → is_reply_to q.edition.config.rules (asked_by paused) (get_or told i d).1 ≡ false → ⊥
replies_fit q told i d paused judgement start tally inside stands comes other =
    let front : List Reply = replies_told (take i told) ++ (get_or told i d).1 ∷ [] in
    let here = neither q (ops_told (take i told)) (replies_told (take i told)) (get_or told i d).1 paused start tally stands other in
    let split : replies_told told ≡ front ++ replies_told (drop (i + 1) told) =
    replies_split told (i + 1) ∙ ap (λ (rs : List Reply). rs ++ replies_told (drop (i + 1) told)) (replies_more told i d inside) in
    let whole : (evaluate q front).outcome ≡ Whole judgement =
    sym (ap (λ (e : Evaluated). e.outcome) (stays q front (replies_told (drop (i + 1) told)) here)) ∙ ap (λ (rs : List Reply). (evaluate q rs).outcome) (sym split) ∙ comes.outcome in
    apart judgement (sym here ∙ whole)
  where
    apart : (judgement : Judgement) → Neither ≡ Whole judgement → ⊥
    apart judgement is = absurd (cc)

-- where all that is told was answered
pub all_told : (q : Question) (told : Told) (i : ℕ) (judged : Option Judgement) (paused : Paused) (start tally : List Count) → length told ≤ i
    → StandsAt q (ops_told (take i told)) (replies_told (take i told)) start judged paused tally → StandsAt q (ops_told told) (replies_told told) start judged paused tally
all_told q told i judged paused start tally all stands =
    subst (λ (t : Told). StandsAt q (ops_told t) (replies_told t) start judged paused tally) (take_all i told all) stands

-- the judgement is the one that the evaluation comes to
pub judged_so : (q : Question) (told : Told) (judged : Option Judgement) (paused : Paused) (start tally : List Count)
    → StandsAt q (ops_told told) (replies_told told) start judged paused tally → IfSome judged (ComesTo q told)
judged_so q told None paused start tally stands = tt
judged_so q told (Some judgement) paused start tally stands = record { outcome = stands.outcome; asked = stands.asked ∙ append-nil (ops_told told) }

-- its hits are counted
pub counted_so : (q : Question) (told : Told) (judged : Option Judgement) (paused : Paused) (start tally : List Count)
    → StandsAt q (ops_told told) (replies_told told) start judged paused tally
    → OnSome judged (tally ≡ counts_after (total_of q.packet) (evaluate q (replies_told told)).hits start)
counted_so q told None paused start tally stands = tt
counted_so q told (Some judgement) paused start tally stands = stands.tallied

-- it comes to no other
pub only_so : (q : Question) (told : Told) (judged : Option Judgement) (paused : Paused) (start tally : List Count)
    → StandsAt q (ops_told told) (replies_told told) start judged paused tally → (judgement : Judgement) → ComesTo q told judgement → judged ≡ Some judgement
only_so q told None paused start tally stands judgement comes = let here = stands.outcome in let whole = comes.outcome in absurd (cc)
only_so q told (Some last) paused start tally stands judgement comes = let here = stands.outcome in let whole = comes.outcome in cc
