-- What a run of the manual's sentences comes to is what the definition's function gives.
use Rattle.std.proofs.Common.{◌≡◌, ℕ, zero, suc, ◌+◌, ◌≤◌, ◌<◌, true, false, Option, Some, unwrap_or, List, [], ◌∷◌, ◌++◌, length, drop, refl, ap, sym, ◌∙◌, arith}
use Rattle.std.proofs.lemmas.List.{drop-drop, append-nil}
use Rattle.state_asks.specs.declared.op.Op.{Op}
use Rattle.state_asks.specs.declared.reply.Reply.{Reply}
use Rattle.state_asks.specs.declared.reply.Reply.TheVariants.{Found, NotFound, Created, Exists, LimitReached, TableFull}
use Rattle.fw_rule.specs.declared.action.Action.{Action}
use Rattle.fw_rule.specs.declared.action.Action.TheVariants.{Allow, Deny, Reset, Unreach, Count, SkipTo, Call, Return, CheckState}
use Rattle.fw_rule.specs.declared.rule.Rule.{Rule}
use Rattle.fw_rule.specs.declared.state_opt.StateOpt.{StateOpt}
use Rattle.generation_store.specs.Jumps.{first_from}
use Rattle.generation_store.specs.Published.{is_identity}
use Rattle.packet_headers.specs.declared.flows.Flow.{Flow}
use Rattle.std.specs.List.{position_or_len}
use Rattle.rule_chain.specs.Chain.{AscendsFrom}
use Rattle.eval_engine.specs.Encounter.{is_disabled, is_check_state, is_rule_met, state_of, any_flow_of, rule_ref, name_at, lookup_by, install_by}
use Rattle.eval_engine.specs.Evaluation.{is_reply_to, evaluate}
use Rattle.eval_engine.specs.Laws.{verdict_of}
use Rattle.eval_engine.specs.Question.{Question}
use Rattle.eval_engine.specs.Trace.{Seen, Done, with_seen, no_names, Pause, Trace, Stops, WaitsFor}
use Rattle.eval_engine.specs.Walk.{Walk, walk_from, follows, lookup_flow, trace_after_reply, call_from, return_to, acts_before, tests_before, acts_from, pause_at, trace_of_judgement, deeper_walk, way_back, calls_left}
use Rattle.eval_engine.specs.declared.judgement.Cause.TheVariants as cause
use Rattle.eval_engine.specs.declared.judgement.Verdict.{Verdict}
use Rattle.eval_engine.specs.declared.judgement.Verdict.TheVariants as verdicts
use Rattle.eval_engine.proofs.Configured.{rule_read}
use Rattle.eval_engine.proofs.Walks.{walk_skips, walk_ends, walk_calls, walk_stays, returns_none, returns_some, disabled_passed, looked_asks, unlooked_tests, check_passed, unheld_passed, held_installs, stateless_acts, flowless_passed, install_asks}
use Rattle.evaluation_laws.specs.Story.{Ending, Ends, OpensAt, Mistakes, Returns, Story, plain_story, story_with_ask, story_with_hit, stories_in_turn, told_by}
use Rattle.evaluation_laws.specs.Runs.{Moment, Meets, Tests, Acts, rules_from, judgement_under, last_judgement, HasEnded, Runs, BehindAll, IsDisabled, IsUnasked, IsUnanswered, IsFound, IsNotFound, IsMistaken, IsCheckState, IsUnheld, IsFlowless, IsStateless, IsWaiting, IsMade, IsThere, IsLimited, IsFull, IsMisread, IsDecided, IsCounted, IsChecked, IsSkipped, IsDeepest, IsEnded, IsReturned, IsOutside, IsWithin}
use Rattle.evaluation_laws.proofs.Results.{result_outside, result_of, trace_at, result_by, result_in, result_asked, result_hit, result_later, over, counted, ended, opened, answered, mistaken}

-- the rules from a place on
pub record IsSuffix (all suffix : List Rule) : Type 0 where
  pub place : ℕ
  pub is : drop place all ≡ suffix

-- a place with a rule is within the list
pub within : (all : List Rule) (place : ℕ) (rule : Rule) (rest : List Rule) → drop place all ≡ rule ∷ rest → place < length all
within [] zero rule rest is = absurd (grind arith)
within [] (suc place) rule rest is = absurd (grind arith)
within (first ∷ all) zero rule rest is = omega arith
within (first ∷ all) (suc place) rule rest is = let less = within all place rule rest is in omega arith

-- at the place behind a rule stand the rules behind it
pub rest_there : (all : List Rule) (place : ℕ) (rule : Rule) (rest : List Rule) → drop place all ≡ rule ∷ rest → drop (suc place) all ≡ rest
rest_there [] zero rule rest is = absurd (grind arith)
rest_there [] (suc place) rule rest is = absurd (grind arith)
rest_there (first ∷ all) zero rule rest is = ap (λ (suffix : List Rule). drop 1 suffix) is
rest_there (first ∷ all) (suc place) rule rest is = rest_there all place rule rest is

-- behind the rule in its place
pub rest_suffix : (all : List Rule) (rule : Rule) (rest : List Rule) → IsSuffix all (rule ∷ rest) → IsSuffix all rest
rest_suffix all rule rest suffix = record { place = suc suffix.place; is = rest_there all suffix.place rule rest suffix.is }

-- the rules of a suffix from a number on are a suffix of the same list
pub from_suffix : (all suffix : List Rule) (number : ℕ) → IsSuffix all suffix → IsSuffix all (rules_from number suffix)
from_suffix all suffix number s = record {
  place = s.place + first_from number suffix;
  is = sym (drop-drop (first_from number suffix) s.place all) ∙ ap (λ (rules : List Rule). drop (first_from number suffix) rules) s.is;
}

-- the rules that are left at a moment: its own rule, where it has one, and those behind it
abbrev pub rules_at : Moment → List Rule
rules_at (Meets suffix) = suffix
rules_at (Tests rule rest) = rule ∷ rest
rules_at (Acts rule rest) = rule ∷ rest

none_open : (callers : List ℕ) → length callers ≡ 0 → callers ≡ []
none_open [] is = refl
none_open (number ∷ callers) is = absurd (omega (arith, is))

module _ (q : Question) (ascends : AscendsFrom 1 q.edition.config.rules) where
  abbrev all : List Rule
  all = q.edition.config.rules

  -- the run comes to what the trace from its moment on comes to
  abbrev Comes : ℕ → Seen → Moment → List Reply → Story → Type 0
  Comes depth seen moment replies story =
      (callers : List ℕ) (asks : List Op) (hits : List ℕ) → length callers ≡ depth → depth ≤ 16 → IsSuffix all (rules_at moment)
      → result_of q asks hits (trace_at q seen callers moment) replies ≡ result_in q callers asks hits story

  same : (asks : List Op) (hits : List ℕ) (replies : List Reply) (trace next : Trace) → trace ≡ next → result_of q asks hits trace replies ≡ result_of q asks hits next replies
  same asks hits replies trace next is = ap (λ (t : Trace). result_of q asks hits t replies) is

  module _ (seen : Seen) (callers : List ℕ) (rule : Rule) (rest : List Rule) where
    abbrev deeper : Option Walk
    deeper = deeper_walk (calls_left callers) q seen

    abbrev back : Option Trace
    back = way_back (calls_left callers) q seen callers

    -- what follows an action
    abbrev next : Action → Trace
    next action = follows q deeper rule (walk_from q seen callers rest) callers back action

    decides : (action : Action) (verdict : Verdict) → verdict_of action ≡ Some verdict → next action ≡ trace_of_judgement q verdict (rule_ref rule) cause.Rule
    decides Allow verdict is = ap (λ (v : Option Verdict). trace_of_judgement q (unwrap_or v verdicts.Deny) (rule_ref rule) cause.Rule) is
    decides Deny verdict is = ap (λ (v : Option Verdict). trace_of_judgement q (unwrap_or v verdicts.Deny) (rule_ref rule) cause.Rule) is
    decides Reset verdict is = ap (λ (v : Option Verdict). trace_of_judgement q (unwrap_or v verdicts.Deny) (rule_ref rule) cause.Rule) is
    decides (Unreach code) verdict is = ap (λ (v : Option Verdict). trace_of_judgement q (unwrap_or v verdicts.Deny) (rule_ref rule) cause.Rule) is
    decides Count verdict is = absurd (grind arith)
    decides (SkipTo number) verdict is = absurd (grind arith)
    decides (Call number) verdict is = absurd (grind arith)
    decides Return verdict is = absurd (grind arith)
    decides (CheckState name) verdict is = absurd (grind arith)

    calls : (number : ℕ) (suffix : IsSuffix all (rule ∷ rest)) → length callers < 16 → next (Call number) ≡ walk_from q seen (rule.number ∷ callers) (rules_from number all) 0
    calls number suffix lt =
        let one : suffix.place + 1 ≡ suc suffix.place = omega arith in
        let there : rest ≡ drop (suffix.place + 1) all = sym (rest_there all suffix.place rule rest suffix.is) ∙ ap (λ n. drop n all) (sym one) in
        ap (λ (rules : List Rule). call_from q deeper number rule (walk_from q seen callers rules) callers) there
        ∙ walk_calls q seen callers suffix.place number rule ascends (within all suffix.place rule rest suffix.is) (rule_read all suffix.place rule rest suffix.is) lt

    -- the rule acts: it is counted, and what follows its action has this story
    acts : (asks : List Op) (hits : List ℕ) (replies : List Reply) (story : Story) (action : Action) (trace : Trace) → rule.action ≡ action → next action ≡ trace
        → result_of q asks (hits ++ rule.counter ∷ []) trace replies ≡ result_in q callers asks (hits ++ rule.counter ∷ []) story
        → result_of q asks hits (acts_before q seen callers rule rest) replies ≡ result_in q callers asks hits (story_with_hit rule.counter story)
    acts asks hits replies story action trace is follow on =
        counted q asks hits rule.counter (next rule.action) replies
        ∙ same asks (hits ++ rule.counter ∷ []) replies (next rule.action) trace (ap next is ∙ follow)
        ∙ on
        ∙ result_hit q callers asks hits rule.counter story

  -- within a call `return` goes on behind it
  return_within : (seen : Seen) (callers : List ℕ) (rest : List Rule) (asks : List Op) (hits : List ℕ) (replies : List Reply) (depth : ℕ) → length callers ≡ suc depth → suc depth ≤ 16
      → result_of q asks hits (return_to (way_back (calls_left callers) q seen callers) (walk_from q seen callers rest)) replies ≡ result_in q callers asks hits (plain_story (Returns seen replies))
  return_within seen [] rest asks hits replies depth size few = absurd (omega (arith, size))
  return_within seen (number ∷ callers) rest asks hits replies depth size few =
      let lt : length callers < 16 = omega (arith, size) in
      let later : Trace = walk_from q seen callers (rules_from (number + 1) all) 0 in
      same asks hits replies _ later (returns_some q seen (number ∷ callers) callers number (walk_from q seen (number ∷ callers) rest) refl lt)
      ∙ ap (λ (ops : List Op). result_of q ops hits later replies) (sym (append-nil asks))
      ∙ ap (λ (counters : List ℕ). result_of q (asks ++ []) counters later replies) (sym (append-nil hits))

  -- a reply that is one to the ask
  goes_on : (callers : List ℕ) (asks : List Op) (hits : List ℕ) (op : Op) (pause : Pause) (reply : Reply) (replies : List Reply) (story : Story) (trace now : Trace)
      → trace ≡ Stops (WaitsFor op pause) → is_reply_to all op reply ≡ true → trace_after_reply q pause reply ≡ now
      → result_of q (asks ++ op ∷ []) hits now replies ≡ result_in q callers (asks ++ op ∷ []) hits story
      → result_of q asks hits trace (reply ∷ replies) ≡ result_in q callers asks hits (story_with_ask op story)
  goes_on callers asks hits op pause reply replies story trace now waits fits is on =
      same asks hits (reply ∷ replies) trace (Stops (WaitsFor op pause)) waits
      ∙ answered q asks hits op pause reply replies fits
      ∙ same (asks ++ op ∷ []) hits replies (trace_after_reply q pause reply) now is
      ∙ on
      ∙ result_asked q callers asks hits op story

  -- an ask of the rule: the lookup, and the install
  looks : (seen : Seen) (callers : List ℕ) (rule : Rule) (rest : List Rule) (flow : Flow) → is_disabled q rule ≡ false → lookup_flow q seen rule ≡ Some flow
      → walk_from q seen callers (rule ∷ rest) 0 ≡ Stops (WaitsFor (lookup_by q rule flow) (pause_at seen callers (rule ∷ rest)))
  looks seen callers rule rest flow enabled due = looked_asks q seen callers rule rest (rule ∷ rest) refl enabled flow due

  installs : (seen : Seen) (callers : List ℕ) (rule : Rule) (rest : List Rule) (state : StateOpt) (flow : Flow) → is_check_state rule.action ≡ false → is_rule_met q rule ≡ true → state_of rule ≡ Some state → any_flow_of q.packet ≡ Some flow
      → tests_before q seen callers rule rest ≡ Stops (WaitsFor (install_by q rule state flow) (pause_at seen callers (rule ∷ rest)))
  installs seen callers rule rest state flow plain held made is = held_installs q seen callers rule rest [] plain held ∙ install_asks q seen callers rule rest (rule ∷ rest) refl state flow made is

  -- what ends the call ends the evaluation
  ended_within : (callers : List ℕ) (number : ℕ) (asks : List Op) (hits : List ℕ) (ending : Ending) → HasEnded ending → result_by q (number ∷ callers) asks hits ending ≡ result_by q callers asks hits ending
  ended_within callers number asks hits (Ends judgement []) is = refl
  ended_within callers number asks hits (Ends judgement (reply ∷ left)) is = refl
  ended_within callers number asks hits (OpensAt op) is = refl
  ended_within callers number asks hits Mistakes is = refl
  ended_within callers number asks hits (Returns seen left) is = absurd is

  pub comes : {depth : ℕ} {seen : Seen} {moment : Moment} {replies : List Reply} {story : Story} → Runs q depth seen moment replies story → Comes depth seen moment replies story
  comes (BehindAll depth seen replies) = λ callers asks hits size few suffix.
      same asks hits replies _ _ (walk_ends q seen callers) ∙ ended q callers asks hits (last_judgement q) replies
  comes (IsDisabled depth seen rule rest replies story disabled on) = λ callers asks hits size few suffix.
      over q asks hits _ _ replies (disabled_passed q seen callers rule rest (rule ∷ rest) refl disabled) ∙ comes on callers asks hits size few (rest_suffix all rule rest suffix)
  comes (IsUnasked depth seen rule rest replies story enabled undue on) = λ callers asks hits size few suffix.
      same asks hits replies _ _ (unlooked_tests q seen callers rule rest (rule ∷ rest) refl enabled undue) ∙ comes on callers asks hits size few suffix
  comes (IsUnanswered depth seen rule rest flow enabled due) = λ callers asks hits size few suffix.
      same asks hits [] _ _ (looks seen callers rule rest flow enabled due) ∙ opened q callers asks hits (lookup_by q rule flow) (pause_at seen callers (rule ∷ rest))
  comes (IsFound depth seen rule rest flow maker way found after replies story enabled due fits there on) = λ callers asks hits size few suffix.
      goes_on callers asks hits (lookup_by q rule flow) (pause_at seen callers (rule ∷ rest)) (Found way maker) replies story _ (acts_before q Done callers found after)
      (looks seen callers rule rest flow enabled due) fits (ap (λ (rules : List Rule). acts_from q Done callers rules) there)
      (comes on callers (asks ++ lookup_by q rule flow ∷ []) hits size few (record { place = position_or_len (is_identity maker.id) all; is = there }))
  comes (IsNotFound depth seen rule rest flow replies story enabled due on) = λ callers asks hits size few suffix.
      goes_on callers asks hits (lookup_by q rule flow) (pause_at seen callers (rule ∷ rest)) NotFound replies story _ (tests_before q (with_seen seen (name_at q rule)) callers rule rest)
      (looks seen callers rule rest flow enabled due) refl refl (comes on callers (asks ++ lookup_by q rule flow ∷ []) hits size few suffix)
  comes (IsMistaken depth seen rule rest flow reply replies enabled due unfit) = λ callers asks hits size few suffix.
      same asks hits (reply ∷ replies) _ _ (looks seen callers rule rest flow enabled due) ∙ mistaken q callers asks hits (lookup_by q rule flow) (pause_at seen callers (rule ∷ rest)) reply replies unfit
  comes (IsCheckState depth seen rule rest replies story check on) = λ callers asks hits size few suffix.
      over q asks hits _ _ replies (check_passed q seen callers rule rest [] check) ∙ comes on callers asks hits size few (rest_suffix all rule rest suffix)
  comes (IsUnheld depth seen rule rest replies story plain unheld on) = λ callers asks hits size few suffix.
      over q asks hits _ _ replies (unheld_passed q seen callers rule rest [] plain unheld) ∙ comes on callers asks hits size few (rest_suffix all rule rest suffix)
  comes (IsFlowless depth seen rule rest state replies story plain held made none on) = λ callers asks hits size few suffix.
      over q asks hits _ _ replies (held_installs q seen callers rule rest [] plain held ∙ flowless_passed q seen callers rule rest [] state made none)
      ∙ comes on callers asks hits size few (rest_suffix all rule rest suffix)
  comes (IsStateless depth seen rule rest replies story plain held made on) = λ callers asks hits size few suffix.
      same asks hits replies _ _ (held_installs q seen callers rule rest [] plain held ∙ stateless_acts q seen callers rule rest [] made) ∙ comes on callers asks hits size few suffix
  comes (IsWaiting depth seen rule rest state flow plain held made is) = λ callers asks hits size few suffix.
      same asks hits [] _ _ (installs seen callers rule rest state flow plain held made is) ∙ opened q callers asks hits (install_by q rule state flow) (pause_at seen callers (rule ∷ rest))
  comes (IsMade depth seen rule rest state flow replies story plain held made is on) = λ callers asks hits size few suffix.
      goes_on callers asks hits (install_by q rule state flow) (pause_at seen callers (rule ∷ rest)) Created replies story _ (acts_before q seen callers rule rest)
      (installs seen callers rule rest state flow plain held made is) refl refl (comes on callers (asks ++ install_by q rule state flow ∷ []) hits size few suffix)
  comes (IsThere depth seen rule rest state flow replies story plain held made is on) = λ callers asks hits size few suffix.
      goes_on callers asks hits (install_by q rule state flow) (pause_at seen callers (rule ∷ rest)) Exists replies story _ (acts_before q seen callers rule rest)
      (installs seen callers rule rest state flow plain held made is) refl refl (comes on callers (asks ++ install_by q rule state flow ∷ []) hits size few suffix)
  comes (IsLimited depth seen rule rest state flow count replies plain held made is) = λ callers asks hits size few suffix.
      goes_on callers asks hits (install_by q rule state flow) (pause_at seen callers (rule ∷ rest)) (LimitReached count) replies (plain_story (Ends (judgement_under q verdicts.Deny (rule_ref rule) (cause.Limit count)) replies)) _ (trace_of_judgement q verdicts.Deny (rule_ref rule) (cause.Limit count))
      (installs seen callers rule rest state flow plain held made is) refl refl
      (ended q callers (asks ++ install_by q rule state flow ∷ []) hits (judgement_under q verdicts.Deny (rule_ref rule) (cause.Limit count)) replies)
  comes (IsFull depth seen rule rest state flow count replies plain held made is) = λ callers asks hits size few suffix.
      goes_on callers asks hits (install_by q rule state flow) (pause_at seen callers (rule ∷ rest)) (TableFull count) replies (plain_story (Ends (judgement_under q verdicts.Deny (rule_ref rule) (cause.Full count)) replies)) _ (trace_of_judgement q verdicts.Deny (rule_ref rule) (cause.Full count))
      (installs seen callers rule rest state flow plain held made is) refl refl
      (ended q callers (asks ++ install_by q rule state flow ∷ []) hits (judgement_under q verdicts.Deny (rule_ref rule) (cause.Full count)) replies)
  comes (IsMisread depth seen rule rest state flow reply replies plain held made is unfit) = λ callers asks hits size few suffix.
      same asks hits (reply ∷ replies) _ _ (installs seen callers rule rest state flow plain held made is)
      ∙ mistaken q callers asks hits (install_by q rule state flow) (pause_at seen callers (rule ∷ rest)) reply replies unfit
  comes (IsDecided depth seen rule rest verdict replies decided) = λ callers asks hits size few suffix.
      acts seen callers rule rest asks hits replies (plain_story (Ends (judgement_under q verdict (rule_ref rule) cause.Rule) replies)) rule.action _ refl (decides seen callers rule rest rule.action verdict decided)
      (ended q callers asks (hits ++ rule.counter ∷ []) (judgement_under q verdict (rule_ref rule) cause.Rule) replies)
  comes (IsCounted depth seen rule rest replies story is on) = λ callers asks hits size few suffix.
      acts seen callers rule rest asks hits replies story Count _ is refl (comes on callers asks (hits ++ rule.counter ∷ []) size few (rest_suffix all rule rest suffix))
  comes (IsChecked depth seen rule rest name replies story is on) = λ callers asks hits size few suffix.
      acts seen callers rule rest asks hits replies story (CheckState name) _ is refl (comes on callers asks (hits ++ rule.counter ∷ []) size few (rest_suffix all rule rest suffix))
  comes (IsSkipped depth seen rule rest number replies story is on) = λ callers asks hits size few suffix.
      acts seen callers rule rest asks hits replies story (SkipTo number) _ is (walk_skips _ q seen number rest callers _)
      (comes on callers asks (hits ++ rule.counter ∷ []) size few (from_suffix all rest number (rest_suffix all rule rest suffix)))
  comes (IsDeepest depth seen rule rest number replies story is full on) = λ callers asks hits size few suffix.
      let deepest : 16 ≤ length callers = omega (arith, size) in
      acts seen callers rule rest asks hits replies story (Call number) _ is (walk_stays q seen callers number rule (walk_from q seen callers rest) deepest)
      (comes on callers asks (hits ++ rule.counter ∷ []) size few (rest_suffix all rule rest suffix))
  comes (IsEnded depth seen rule rest number replies inner is lt on last) = λ callers asks hits size few suffix.
      let more : length (rule.number ∷ callers) ≡ suc depth = omega (arith, size) in
      let lower : length callers < 16 = omega (arith, size) in
      acts seen callers rule rest asks hits replies inner (Call number) _ is (calls seen callers rule rest number suffix lower)
      (comes on (rule.number ∷ callers) asks (hits ++ rule.counter ∷ []) more lt (record { place = first_from number all; is = refl })
      ∙ ended_within callers rule.number (asks ++ inner.asks) ((hits ++ rule.counter ∷ []) ++ inner.hits) inner.ending last)
  comes (IsReturned depth seen rule rest number replies inner later left story is lt on returned then_on) = λ callers asks hits size few suffix.
      let more : length (rule.number ∷ callers) ≡ suc depth = omega (arith, size) in
      let lower : length callers < 16 = omega (arith, size) in
      let hits_now : List ℕ = hits ++ rule.counter ∷ [] in
      acts seen callers rule rest asks hits replies (stories_in_turn inner story) (Call number) _ is (calls seen callers rule rest number suffix lower)
      (comes on (rule.number ∷ callers) asks hits_now more lt (record { place = first_from number all; is = refl })
      ∙ ap (λ (ending : Ending). result_by q (rule.number ∷ callers) (asks ++ inner.asks) (hits_now ++ inner.hits) ending) returned
      ∙ comes then_on callers (asks ++ inner.asks) (hits_now ++ inner.hits) size few (record { place = first_from (rule.number + 1) all; is = refl })
      ∙ result_later q callers asks hits_now inner story)
  comes (IsOutside seen rule rest replies story is on) = λ callers asks hits size few suffix.
      acts seen callers rule rest asks hits replies story Return _ is (returns_none q seen callers (walk_from q seen callers rest) (none_open callers size))
      (comes on callers asks (hits ++ rule.counter ∷ []) size few (rest_suffix all rule rest suffix))
  comes (IsWithin depth seen rule rest replies is) = λ callers asks hits size few suffix.
      acts seen callers rule rest asks hits replies (plain_story (Returns seen replies)) Return _ is refl
      (return_within seen callers rest asks (hits ++ rule.counter ∷ []) replies depth size few)

-- a run from the first rule on, outside of calls
pub runs_are_evaluations : (q : Question) (replies : List Reply) (story : Story) → AscendsFrom 1 q.edition.config.rules → Runs q 0 no_names (Meets q.edition.config.rules) replies story → told_by story ≡ evaluate q replies
unfolding evaluate
runs_are_evaluations q replies story ascends runs =
    sym (result_outside q story) ∙ sym (comes q ascends runs [] [] [] refl (omega arith) (record { place = 0; is = refl }))
