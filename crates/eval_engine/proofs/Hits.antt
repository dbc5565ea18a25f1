-- What the hits and the judgement of every evaluation name: counter numbers that were given out, and the
-- edition of its question.
use Rattle.std.proofs.Common.{◌≡◌, ℕ, zero, suc, ◌+◌, ◌≤◌, Bool, true, false, nat_eq, nat_lt, Option, Some, None, List, [], ◌∷◌, ◌++◌, All, drop, refl, arith}
use Rattle.std.specs.Prelude.{⊤}
use Rattle.std.specs.List.{AllByRecursion, position_or_len}
use Rattle.std.proofs.lemmas.List.Elements.{All-nil, All-cons}
use Rattle.fw_rule.specs.declared.action.Action.{Action}
use Rattle.fw_rule.specs.declared.action.Action.TheVariants.{Allow, Deny, Reset, Unreach, Count, SkipTo, Call, Return, CheckState}
use Rattle.fw_rule.specs.declared.rule.Rule.{Rule}
use Rattle.fw_rule.specs.declared.state_opt.StateOpt.{StateOpt}
use Rattle.packet_headers.specs.declared.flows.Flow.{Flow}
use Rattle.state_asks.specs.declared.op.Op.{Op}
use Rattle.state_asks.specs.declared.reply.Reply.{Reply}
use Rattle.state_asks.specs.declared.reply.Reply.TheVariants.{Found, NotFound, Created, Exists, LimitReached, TableFull}
use Rattle.generation_store.specs.Published.{is_identity}
use Rattle.rule_chain.specs.Chain.{IsConfiguration, IsRule}
use Rattle.eval_engine.specs.Encounter.{is_check_state, is_disabled, is_rule_met, state_of, any_flow_of}
use Rattle.eval_engine.specs.Evaluated.{Whole}
use Rattle.eval_engine.specs.Laws.{is_counter_of, HitsAreOfRules}
use Rattle.eval_engine.specs.Evaluation.{Progress, progress_by, progress_from, progress_of, progress_after_reply, is_reply_to, evaluate, outcome_of}
use Rattle.eval_engine.specs.Question.{Question}
use Rattle.eval_engine.specs.Trace.{Seen, Pause, Stop, EndsWith, WaitsFor, Mismatch, Trace, PassesOver, Counts, Stops, hits_of, stop_of_trace}
use Rattle.eval_engine.specs.Walk.{Walk, walk, follows, call_from, return_to, installs, tests, looks, lookup_flow, meets, pause_at, deeper_walk, way_back, calls_left, walk_from, acts_before, acts_from, tests_from, refuses_from, suffix_of, leads_to, seen_after, trace_after_reply, first_trace}
use Rattle.eval_engine.specs.declared.judgement.Judgement.{Judgement}

module _ (q : Question) (P : ℕ → Type 0) where
  -- the fact holds of the rule's counter number
  abbrev IsCounted : Rule → Type 0
  IsCounted rule = P rule.counter

  abbrev IsStopOf : Stop → Type 0
  IsStopOf (EndsWith judgement) = judgement.edition ≡ q.edition.number
  IsStopOf (WaitsFor op pause) = AllByRecursion IsCounted pause.suffix
  IsStopOf Mismatch = ⊤

  -- the fact holds of each counter number on the way, and it ends under this edition
  abbrev IsTraceOf : Trace → Type 0
  IsTraceOf (PassesOver trace) = IsTraceOf trace
  IsTraceOf (Counts counter trace) = P counter × IsTraceOf trace
  IsTraceOf (Stops stop) = IsStopOf stop

  abbrev IsBackOf : Option Trace → Type 0
  IsBackOf None = ⊤
  IsBackOf (Some back) = IsTraceOf back

  abbrev IsWalkOf : Option Walk → Type 0
  IsWalkOf None = ⊤
  IsWalkOf (Some deeper) = (number : ℕ) (callers : List ℕ) (back : Option Trace) → IsBackOf back → IsTraceOf (deeper number q.edition.config.rules callers back)

  calls_on : (deeper : Option Walk) (number : ℕ) (rule : Rule) (next : ℕ → Trace) (callers : List ℕ) → IsWalkOf deeper → ((n : ℕ) → IsTraceOf (next n))
      → IsTraceOf (call_from q deeper number rule next callers)
  calls_on None number rule next callers w on = on 0
  calls_on (Some deeper) number rule next callers w on = w number (rule.number ∷ callers) (Some (next (rule.number + 1))) (on (rule.number + 1))

  returns_on : (back : Option Trace) (next : ℕ → Trace) → IsBackOf back → ((n : ℕ) → IsTraceOf (next n)) → IsTraceOf (return_to back next)
  returns_on None next b on = on 0
  returns_on (Some back) next b on = b

  follows_on : (deeper : Option Walk) (rule : Rule) (next : ℕ → Trace) (callers : List ℕ) (back : Option Trace) (action : Action) → IsWalkOf deeper → IsBackOf back → ((n : ℕ) → IsTraceOf (next n))
      → IsTraceOf (follows q deeper rule next callers back action)
  follows_on deeper rule next callers back Allow w b on = refl
  follows_on deeper rule next callers back Deny w b on = refl
  follows_on deeper rule next callers back Reset w b on = refl
  follows_on deeper rule next callers back (Unreach code) w b on = refl
  follows_on deeper rule next callers back Count w b on = on 0
  follows_on deeper rule next callers back (SkipTo number) w b on = on number
  follows_on deeper rule next callers back (Call number) w b on = calls_on deeper number rule next callers w on
  follows_on deeper rule next callers back Return w b on = returns_on back next b on
  follows_on deeper rule next callers back (CheckState name) w b on = on 0

  installs_on : (pause : Pause) (rule : Rule) (passed acted : Trace) (state : Option StateOpt) (flow : Option Flow) → AllByRecursion IsCounted pause.suffix → IsTraceOf passed → IsTraceOf acted
      → IsTraceOf (installs q pause rule passed acted state flow)
  installs_on pause rule passed acted None flow s p a = a
  installs_on pause rule passed acted (Some state) None s p a = p
  installs_on pause rule passed acted (Some state) (Some flow) s p a = s

  tests_on : (pause : Pause) (rule : Rule) (passed acted : Trace) → AllByRecursion IsCounted pause.suffix → IsTraceOf passed → IsTraceOf acted → IsTraceOf (tests q pause rule passed acted)
  tests_on pause rule passed acted s p a = go (is_check_state rule.action) (is_rule_met q rule) refl refl
    where
      go : (check held : Bool) → is_check_state rule.action ≡ check → is_rule_met q rule ≡ held → IsTraceOf (tests q pause rule passed acted)
      go true held c h = rw c p
      go false true c h = rw (c, h) (installs_on pause rule passed acted (state_of rule) (any_flow_of q.packet) s p a)
      go false false c h = rw (c, h) p

  looks_on : (pause : Pause) (rule : Rule) (passed acted : Trace) (flow : Option Flow) → AllByRecursion IsCounted pause.suffix → IsTraceOf passed → IsTraceOf acted → IsTraceOf (looks q pause rule passed acted flow)
  looks_on pause rule passed acted None s p a = tests_on pause rule passed acted s p a
  looks_on pause rule passed acted (Some flow) s p a = s

  meets_on : (pause : Pause) (rule : Rule) (passed acted : Trace) → AllByRecursion IsCounted pause.suffix → IsTraceOf passed → IsTraceOf acted → IsTraceOf (meets q pause rule passed acted)
  meets_on pause rule passed acted s p a = go (is_disabled q rule) refl
    where
      go : (disabled : Bool) → is_disabled q rule ≡ disabled → IsTraceOf (meets q pause rule passed acted)
      go true d = rw d p
      go false d = rw d (looks_on pause rule passed acted (lookup_flow q pause.seen rule) s p a)

  walks_on : (deeper : Option Walk) (seen : Seen) (number : ℕ) (suffix : List Rule) (callers : List ℕ) (back : Option Trace) → IsWalkOf deeper → AllByRecursion IsCounted suffix → IsBackOf back
      → IsTraceOf (walk deeper q seen number suffix callers back)
  unfolding walk
  walks_on deeper seen number [] callers back w s b = refl
  walks_on deeper seen number (rule ∷ rest) callers back w s b = go (λ n. walks_on deeper seen n rest callers back w s.1 b) (nat_lt rule.number number) refl
    where
      go : ((n : ℕ) → IsTraceOf (walk deeper q seen n rest callers back)) → (below : Bool) → nat_lt rule.number number ≡ below → IsTraceOf (walk deeper q seen number (rule ∷ rest) callers back)
      go on true is = rw is (on number)
      go on false is =
          rw is
          (meets_on (pause_at seen callers (rule ∷ rest)) rule (PassesOver (walk deeper q seen 0 rest callers back))
          (Counts rule.counter (follows q deeper rule (λ n. walk deeper q seen n rest callers back) callers back rule.action))
          s (on 0) (s.0, follows_on deeper rule (λ n. walk deeper q seen n rest callers back) callers back rule.action w b on))

  module _ (counted : AllByRecursion IsCounted q.edition.config.rules) where
    deeper_on : (left : ℕ) (seen : Seen) → IsWalkOf (deeper_walk left q seen)
    unfolding deeper_walk
    deeper_on zero seen = tt
    deeper_on (suc left) seen = λ number callers back b. walks_on (deeper_walk left q seen) seen number q.edition.config.rules callers back (deeper_on left seen) counted b

    back_on : (left : ℕ) (seen : Seen) (callers : List ℕ) → IsBackOf (way_back left q seen callers)
    unfolding way_back
    back_on left seen [] = tt
    back_on left seen (number ∷ callers) =
        walks_on (deeper_walk (suc left) q seen) seen (number + 1) q.edition.config.rules callers (way_back (suc left) q seen callers) (deeper_on (suc left) seen) counted (back_on (suc left) seen callers)

    walk_on : (seen : Seen) (callers : List ℕ) (suffix : List Rule) (number : ℕ) → AllByRecursion IsCounted suffix → IsTraceOf (walk_from q seen callers suffix number)
    walk_on seen callers suffix number s =
        walks_on (deeper_walk (calls_left callers) q seen) seen number suffix callers (way_back (calls_left callers) q seen callers) (deeper_on (calls_left callers) seen) s (back_on (calls_left callers) seen callers)

    act_on : (seen : Seen) (callers : List ℕ) (rule : Rule) (rest : List Rule) → AllByRecursion IsCounted (rule ∷ rest) → IsTraceOf (acts_before q seen callers rule rest)
    act_on seen callers rule rest s = (
      s.0,
      follows_on (deeper_walk (calls_left callers) q seen) rule (walk_from q seen callers rest) callers (way_back (calls_left callers) q seen callers) rule.action
          (deeper_on (calls_left callers) seen) (back_on (calls_left callers) seen callers) (λ n. walk_on seen callers rest n s.1),
    )

    acts_on : (seen : Seen) (callers : List ℕ) (suffix : List Rule) → AllByRecursion IsCounted suffix → IsTraceOf (acts_from q seen callers suffix)
    acts_on seen callers [] s = refl
    acts_on seen callers (rule ∷ rest) s = act_on seen callers rule rest s

    test_on : (seen : Seen) (callers : List ℕ) (suffix : List Rule) → AllByRecursion IsCounted suffix → IsTraceOf (tests_from q seen callers suffix)
    test_on seen callers [] s = refl
    test_on seen callers (rule ∷ rest) s =
        tests_on (pause_at seen callers (rule ∷ rest)) rule (PassesOver (walk_from q seen callers rest 0)) (acts_before q seen callers rule rest) s (walk_on seen callers rest 0 s.1) (act_on seen callers rule rest s)

    refuses_on : (cause : _) (suffix : List Rule) → IsTraceOf (refuses_from q cause suffix)
    refuses_on cause [] = refl
    refuses_on cause (rule ∷ rest) = refl

    behind_on : (n : ℕ) (rules : List Rule) → AllByRecursion IsCounted rules → AllByRecursion IsCounted (drop n rules)
    behind_on zero rules s = s
    behind_on (suc n) [] s = tt
    behind_on (suc n) (rule ∷ rules) s = behind_on n rules s.1

    leads_on : (seen : Seen) (callers : List ℕ) (suffix : List Rule) (reply : Reply) → AllByRecursion IsCounted suffix → IsTraceOf (leads_to q seen callers suffix reply)
    leads_on seen callers suffix (Found way rule) s =
        acts_on seen callers (suffix_of rule.id q.edition.config.rules) (behind_on (position_or_len (is_identity rule.id) q.edition.config.rules) q.edition.config.rules counted)
    leads_on seen callers suffix NotFound s = test_on seen callers suffix s
    leads_on seen callers suffix Created s = acts_on seen callers suffix s
    leads_on seen callers suffix Exists s = acts_on seen callers suffix s
    leads_on seen callers suffix (LimitReached count) s = refuses_on _ suffix
    leads_on seen callers suffix (TableFull count) s = refuses_on _ suffix

    -- so far the fact holds of each hit, and it stops under this edition
    record IsProgressOf (p : Progress) : Type 0 where
      hit : AllByRecursion P p.hits
      stopped : IsStopOf p.stop

    trace_hits : (trace : Trace) → IsTraceOf trace → AllByRecursion P (hits_of trace)
    unfolding hits_of
    trace_hits (PassesOver trace) t = trace_hits trace t
    trace_hits (Counts counter trace) t = (t.0, trace_hits trace t.1)
    trace_hits (Stops stop) t = tt

    trace_stop : (trace : Trace) → IsTraceOf trace → IsStopOf (stop_of_trace trace)
    unfolding stop_of_trace
    trace_stop (PassesOver trace) t = trace_stop trace t
    trace_stop (Counts counter trace) t = trace_stop trace t.1
    trace_stop (Stops stop) t = t

    both : (xs ys : List ℕ) → AllByRecursion P xs → AllByRecursion P ys
        → AllByRecursion P (xs ++ ys)
    both [] ys h k = k
    both (x ∷ xs) ys h k = (h.0, both xs ys h.1 k)

    goes_by : (asks : List Op) (hits : List ℕ) (trace : Trace) → AllByRecursion P hits → IsTraceOf trace → IsProgressOf (progress_by asks hits trace)
    goes_by asks hits trace h t = record { hit = both hits (hits_of trace) h (trace_hits trace t); stopped = trace_stop trace t }

    replied_on : (asks : List Op) (hits : List ℕ) (reply : Reply) (stop : Stop) → AllByRecursion P hits → IsStopOf stop → IsProgressOf (progress_after_reply q asks hits reply stop)
    replied_on asks hits reply (EndsWith judgement) h s = record { hit = h; stopped = tt }
    replied_on asks hits reply Mismatch h s = record { hit = h; stopped = tt }
    replied_on asks hits reply (WaitsFor op pause) h s = go (is_reply_to q.edition.config.rules op reply) refl
      where
        go : (fits : Bool) → is_reply_to q.edition.config.rules op reply ≡ fits → IsProgressOf (progress_after_reply q asks hits reply (WaitsFor op pause))
        go true is = rw is (goes_by asks hits (trace_after_reply q pause reply) h (leads_on (seen_after q pause.seen pause.suffix reply) pause.callers pause.suffix reply s))
        go false is = rw is (record { hit = h; stopped = tt })

    goes_from : (progress : Progress) (replies : List Reply) → IsProgressOf progress → IsProgressOf (progress_from q progress replies)
    unfolding progress_from
    goes_from progress [] p = p
    goes_from progress (reply ∷ replies) p = goes_from (progress_after_reply q progress.asks progress.hits reply progress.stop) replies (replied_on progress.asks progress.hits reply progress.stop p.hit p.stopped)

    goes_on : (replies : List Reply) → IsProgressOf (progress_of q replies)
    goes_on replies = goes_from (progress_by [] [] (first_trace q)) replies (goes_by [] [] (first_trace q) tt (walk_on _ [] q.edition.config.rules 0 counted))

all_of : (P : ℕ → Type 0) (xs : List ℕ) → AllByRecursion P xs → All P xs
all_of P [] h = All-nil P
all_of P (x ∷ xs) h = All-cons P x xs h.0 (all_of P xs h.1)

-- the counter numbers of a configuration's rules were given out
all_counted : (most id : ℕ) (rules : List Rule) → AllByRecursion (IsRule id most) rules → AllByRecursion (λ rule. rule.counter ≤ most) rules
all_counted most id [] h = tt
all_counted most id (rule ∷ rules) h = (h.0.counter, all_counted most id rules h.1)

anything : (rules : List Rule) → AllByRecursion (λ rule. ⊤) rules
anything [] = tt
anything (rule ∷ rules) = (tt, anything rules)

-- counters of hits were given out
pub hits_are_given_out : (q : Question) (replies : List Reply) → IsConfiguration q.edition.config → All (λ counter. counter ≤ q.edition.config.greatest_counter) (evaluate q replies).hits
unfolding evaluate
hits_are_given_out q replies lawful =
    let given : (ℕ → Type 0) = λ counter. counter ≤ q.edition.config.greatest_counter in
    all_of given (progress_of q replies).hits (goes_on q given (all_counted q.edition.config.greatest_counter q.edition.config.greatest_id q.edition.config.rules lawful.rules) replies).hit

ends_under : (q : Question) (P : ℕ → Type 0) (stop : Stop) (j : Judgement) → IsStopOf q P stop → outcome_of stop ≡ Whole j → j.edition ≡ q.edition.number
ends_under q P (EndsWith judgement) j s is = grind arith
ends_under q P (WaitsFor op pause) j s is = absurd (grind arith)
ends_under q P Mismatch j s is = absurd (grind arith)

-- a judgement names the edition of its question
pub judgement_names_edition : (q : Question) (replies : List Reply) (j : Judgement) → (evaluate q replies).outcome ≡ Whole j → j.edition ≡ q.edition.number
unfolding evaluate
judgement_names_edition q replies j is =
    ends_under q (λ counter. ⊤) (progress_of q replies).stop j (goes_on q (λ counter. ⊤) (anything q.edition.config.rules) replies).stopped is

-- one rule more counts under no number less
more_of : (rule : Rule) (all suffix : List Rule) → AllByRecursion (λ other. is_counter_of all other.counter ≡ true) suffix → AllByRecursion (λ other. is_counter_of (rule ∷ all) other.counter ≡ true) suffix
more_of rule all [] h = tt
more_of rule all (other ∷ suffix) h = (go (nat_eq rule.counter other.counter) refl, more_of rule all suffix h.1)
  where
    go : (same : Bool) → nat_eq rule.counter other.counter ≡ same → is_counter_of (rule ∷ all) other.counter ≡ true
    go true is = rw is refl
    go false is = rw is h.0

own_of : (rules : List Rule) → AllByRecursion (λ rule. is_counter_of rules rule.counter ≡ true) rules
own_of [] = tt
own_of (rule ∷ rules) =
    let itself : nat_eq rule.counter rule.counter ≡ true = grind arith in
    (rw itself refl, more_of rule rules rules (own_of rules))

-- each hit is of a rule of the edition
pub hits_are_of_rules : HitsAreOfRules
unfolding evaluate
hits_are_of_rules q replies = (goes_on q (λ counter. is_counter_of q.edition.config.rules counter ≡ true) (own_of q.edition.config.rules) replies).hit
