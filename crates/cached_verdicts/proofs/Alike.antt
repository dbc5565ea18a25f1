-- The evaluations of two IPv4 packets of one key differ in the seconds of their asks alone.
use Rattle.std.proofs.Common.{◌≡◌, ℕ, zero, suc, ◌+◌, Bool, true, false, ◌&&◌, if◌then◌else◌, nat_lt, unwrap_or, Option, Some, None, List, [], ◌∷◌, refl, ap, sym, ◌∙◌, arith}
use Rattle.std.specs.Prelude.{⊤}
use Rattle.fw_base.specs.declared.port.Port.{Port}
use Rattle.fw_rule.specs.declared.action.Action.{Action}
use Rattle.fw_rule.specs.declared.action.Action.TheVariants.{Allow, Deny, Reset, Unreach, Count, SkipTo, Call, Return, CheckState}
use Rattle.fw_rule.specs.declared.body.Body.{Body}
use Rattle.fw_rule.specs.declared.rule.Rule.{Rule}
use Rattle.fw_rule.specs.declared.state_opt.StateOpt.{StateOpt}
use Rattle.ip6_headers.specs.declared.any_ip.AnyIp.TheVariants.{Four}
use Rattle.packet_headers.specs.Fields.{Fields}
use Rattle.packet_headers.specs.declared.flows.Flow.{Flow}
use Rattle.rule_chain.specs.Names.{number_of_name, state_name}
use Rattle.state_asks.specs.Flags.{kept_flags}
use Rattle.state_asks.specs.declared.op.Op.{Op}
use Rattle.state_asks.specs.declared.op.Op.TheVariants.{Lookup, Install}
use Rattle.verdict_cache.specs.Key.{key_of}
use Rattle.verdict_cache.specs.declared.key.Key.{Key}
use Rattle.verdict_cache.proofs.HoldsByKey.{equal_keys_hold_alike}
use Rattle.verdict_cache.proofs.FlowByKey.{equal_keys_have_one_flow}
use Rattle.generation_store.specs.Published.{Published}
use Rattle.eval_engine.specs.Encounter.{is_check_state, is_body_met, is_disabled, is_rule_met, looks_up, name_at, state_of, any_flow_of, flags_of, rule_ref, state_limit_of}
use Rattle.eval_engine.specs.Evaluated.{Evaluated}
use Rattle.eval_engine.specs.Evaluation.{asks_at_stop}
use Rattle.eval_engine.specs.Question.{Question, question_under}
use Rattle.eval_engine.specs.Trace.{Seen, is_name_due, no_names, Pause, Stop, EndsWith, WaitsFor, Mismatch, Trace, PassesOver, Counts, Stops, hits_of, stop_of_trace}
use Rattle.eval_engine.specs.Walk.{Walk, walk, follows, call_from, return_to, installs, tests, looks, lookup_flow, meets, pause_at, deeper_walk, way_back, first_trace}
use Rattle.cached_verdicts.specs.Laws.{EqualKeysEvaluateAlike}
use Rattle.cached_verdicts.proofs.First.{result_of, evaluated_first}

-- ---- traces but for the seconds of their asks

abbrev timeless_op : Op → Op
timeless_op (Lookup flags flow second name) = Lookup flags flow 0 name
timeless_op (Install flags flow second rule limit name) = Install flags flow 0 rule limit name

abbrev timeless_stop : Stop → Stop
timeless_stop (EndsWith judgement) = EndsWith judgement
timeless_stop (WaitsFor op pause) = WaitsFor (timeless_op op) pause
timeless_stop Mismatch = Mismatch

abbrev timeless : Trace → Trace
timeless (PassesOver trace) = PassesOver (timeless trace)
timeless (Counts counter trace) = Counts counter (timeless trace)
timeless (Stops stop) = Stops (timeless_stop stop)

timeless_hits : (trace : Trace) → hits_of (timeless trace) ≡ hits_of trace
unfolding hits_of
timeless_hits (PassesOver trace) = timeless_hits trace
timeless_hits (Counts counter trace) = ap (λ hits. counter ∷ hits) (timeless_hits trace)
timeless_hits (Stops stop) = refl

timeless_end : (trace : Trace) → stop_of_trace (timeless trace) ≡ timeless_stop (stop_of_trace trace)
unfolding stop_of_trace
timeless_end (PassesOver trace) = timeless_end trace
timeless_end (Counts counter trace) = timeless_end trace
timeless_end (Stops stop) = refl

-- ---- two packets of one key

module _ (edition : Published) (port : Port) (p r : Fields) (s t : ℕ) (same : key_of p ≡ key_of r) where
  abbrev here : Question
  here = question_under edition (Four p) port s

  abbrev there : Question
  there = question_under edition (Four r) port t

  met_by : (body : Option Body) → is_body_met here body ≡ is_body_met there body
  met_by None = refl
  met_by (Some body) = equal_keys_hold_alike p r same body edition.config.tables edition.config.locals port

  met : (rule : Rule) → is_rule_met here rule ≡ is_rule_met there rule
  unfolding is_rule_met
  met rule = met_by rule.body

  one_disabled : (rule : Rule) → is_disabled here rule ≡ is_disabled there rule
  unfolding is_disabled
  one_disabled rule = refl

  one_flow : any_flow_of (Four p) ≡ any_flow_of (Four r)
  one_flow = equal_keys_have_one_flow p r same

  one_flags : flags_of (Four p) ≡ flags_of (Four r)
  one_flags = ap (λ (key : Key). kept_flags (unwrap_or key.tcp_flags 0)) same

  abbrev AreBacks : Option Trace → Option Trace → Type 0
  AreBacks None None = ⊤
  AreBacks None (Some c) = ⊥
  AreBacks (Some b) None = ⊥
  AreBacks (Some b) (Some c) = timeless b ≡ timeless c

  abbrev AreWalks : Option Walk → Option Walk → Type 0
  AreWalks None None = ⊤
  AreWalks None (Some e) = ⊥
  AreWalks (Some d) None = ⊥
  AreWalks (Some d) (Some e) = (number : ℕ) (callers : List ℕ) (b c : Option Trace) → AreBacks b c
      → timeless (d number edition.config.rules callers b) ≡ timeless (e number edition.config.rules callers c)

  abbrev AreNexts : (ℕ → Trace) → (ℕ → Trace) → Type 0
  AreNexts next other = (n : ℕ) → timeless (next n) ≡ timeless (other n)

  calls_alike : (d e : Option Walk) (number : ℕ) (rule : Rule) (next other : ℕ → Trace) (callers : List ℕ) → AreWalks d e → AreNexts next other
      → timeless (call_from here d number rule next callers) ≡ timeless (call_from there e number rule other callers)
  calls_alike None None number rule next other callers w on = on 0
  calls_alike None (Some e) number rule next other callers w on = absurd w
  calls_alike (Some d) None number rule next other callers w on = absurd w
  calls_alike (Some d) (Some e) number rule next other callers w on =
      w number (rule.number ∷ callers) (Some (next (rule.number + 1))) (Some (other (rule.number + 1))) (on (rule.number + 1))

  returns_alike : (b c : Option Trace) (next other : ℕ → Trace) → AreBacks b c → AreNexts next other → timeless (return_to b next) ≡ timeless (return_to c other)
  returns_alike None None next other w on = on 0
  returns_alike None (Some c) next other w on = absurd w
  returns_alike (Some b) None next other w on = absurd w
  returns_alike (Some b) (Some c) next other w on = w

  follows_alike : (d e : Option Walk) (rule : Rule) (next other : ℕ → Trace) (callers : List ℕ) (b c : Option Trace) (action : Action) → AreWalks d e → AreBacks b c → AreNexts next other
      → timeless (follows here d rule next callers b action) ≡ timeless (follows there e rule other callers c action)
  follows_alike d e rule next other callers b c Allow w k on = refl
  follows_alike d e rule next other callers b c Deny w k on = refl
  follows_alike d e rule next other callers b c Reset w k on = refl
  follows_alike d e rule next other callers b c (Unreach code) w k on = refl
  follows_alike d e rule next other callers b c Count w k on = on 0
  follows_alike d e rule next other callers b c (SkipTo number) w k on = on number
  follows_alike d e rule next other callers b c (Call number) w k on = calls_alike d e number rule next other callers w on
  follows_alike d e rule next other callers b c Return w k on = returns_alike b c next other k on
  follows_alike d e rule next other callers b c (CheckState name) w k on = on 0

  module _ (pause : Pause) (rule : Rule) (passed acted passes acts : Trace) (p_same : timeless passed ≡ timeless passes) (a_same : timeless acted ≡ timeless acts) where
    installs_alike : (state : Option StateOpt) (flow : Option Flow) → timeless (installs here pause rule passed acted state flow) ≡ timeless (installs there pause rule passes acts state flow)
    installs_alike None flow = a_same
    installs_alike (Some state) None = p_same
    installs_alike (Some state) (Some flow) =
        ap (λ (flags : ℕ). Stops (WaitsFor (Install flags flow 0 (rule_ref rule) (state_limit_of state) (number_of_name edition.config.names (state_name state))) pause)) one_flags

    tests_alike : timeless (tests here pause rule passed acted) ≡ timeless (tests there pause rule passes acts)
    tests_alike = go (is_check_state rule.action) (is_rule_met there rule) refl refl
      where
        go : (check held : Bool) → is_check_state rule.action ≡ check → is_rule_met there rule ≡ held
            → timeless (tests here pause rule passed acted) ≡ timeless (tests there pause rule passes acts)
        go true held c h = rw c p_same
        go false true c h =
            let m : is_rule_met here rule ≡ true = met rule ∙ h in
            rw (c, h, m)
            (installs_alike (state_of rule) (any_flow_of (Four p)) ∙ ap (λ (flow : Option Flow). timeless (installs there pause rule passes acts (state_of rule) flow)) one_flow)
        go false false c h = let m : is_rule_met here rule ≡ false = met rule ∙ h in rw (c, h, m) p_same

    looks_alike : (flow : Option Flow) → timeless (looks here pause rule passed acted flow) ≡ timeless (looks there pause rule passes acts flow)
    looks_alike None = tests_alike
    looks_alike (Some flow) = ap (λ (flags : ℕ). Stops (WaitsFor (Lookup flags flow 0 (name_at here rule)) pause)) one_flags

    meets_alike : timeless (meets here pause rule passed acted) ≡ timeless (meets there pause rule passes acts)
    meets_alike = go (is_disabled there rule) refl
      where
        go : (disabled : Bool) → is_disabled there rule ≡ disabled → timeless (meets here pause rule passed acted) ≡ timeless (meets there pause rule passes acts)
        go true is = let d : is_disabled here rule ≡ true = one_disabled rule ∙ is in rw (is, d) p_same
        go false is =
            let d : is_disabled here rule ≡ false = one_disabled rule ∙ is in
            rw (is, d)
            (looks_alike (lookup_flow here pause.seen rule)
            ∙ ap (λ (flow : Option Flow). timeless (looks there pause rule passes acts (if looks_up rule && is_name_due pause.seen (name_at here rule) then flow else None))) one_flow)

  walks_alike : (d e : Option Walk) (seen : Seen) (number : ℕ) (suffix : List Rule) (callers : List ℕ) (b c : Option Trace) → AreWalks d e → AreBacks b c
      → timeless (walk d here seen number suffix callers b) ≡ timeless (walk e there seen number suffix callers c)
  unfolding walk
  walks_alike d e seen number [] callers b c w k = refl
  walks_alike d e seen number (rule ∷ rest) callers b c w k = go (λ n. walks_alike d e seen n rest callers b c w k) (nat_lt rule.number number) refl
    where
      go : ((n : ℕ) → timeless (walk d here seen n rest callers b) ≡ timeless (walk e there seen n rest callers c)) → (below : Bool) → nat_lt rule.number number ≡ below
          → timeless (walk d here seen number (rule ∷ rest) callers b) ≡ timeless (walk e there seen number (rule ∷ rest) callers c)
      go on true is = rw is (on number)
      go on false is =
          rw is
          (meets_alike (pause_at seen callers (rule ∷ rest)) rule
          (PassesOver (walk d here seen 0 rest callers b)) (Counts rule.counter (follows here d rule (λ n. walk d here seen n rest callers b) callers b rule.action))
          (PassesOver (walk e there seen 0 rest callers c)) (Counts rule.counter (follows there e rule (λ n. walk e there seen n rest callers c) callers c rule.action))
          (ap (λ (trace : Trace). PassesOver trace) (on 0))
          (ap (λ (trace : Trace). Counts rule.counter trace)
          (follows_alike d e rule (λ n. walk d here seen n rest callers b) (λ n. walk e there seen n rest callers c) callers b c rule.action w k on)))

  deeper_alike : (left : ℕ) (seen : Seen) → AreWalks (deeper_walk left here seen) (deeper_walk left there seen)
  unfolding deeper_walk
  deeper_alike zero seen = tt
  deeper_alike (suc left) seen =
      λ number callers b c k. walks_alike (deeper_walk left here seen) (deeper_walk left there seen) seen number edition.config.rules callers b c (deeper_alike left seen) k

  first_alike : timeless (first_trace here) ≡ timeless (first_trace there)
  unfolding way_back
  first_alike = walks_alike (deeper_walk 16 here no_names) (deeper_walk 16 there no_names) no_names 0 edition.config.rules [] None None (deeper_alike 16 no_names) tt

settled : (a b : Stop) → asks_at_stop a ≡ [] → timeless_stop a ≡ timeless_stop b → b ≡ a
settled (EndsWith judgement) (EndsWith other) n is = sym is
settled (EndsWith judgement) (WaitsFor op pause) n is = absurd (grind arith)
settled (EndsWith judgement) Mismatch n is = absurd (grind arith)
settled (WaitsFor op pause) b n is = absurd (grind arith)
settled Mismatch (EndsWith other) n is = absurd (grind arith)
settled Mismatch (WaitsFor op pause) n is = absurd (grind arith)
settled Mismatch Mismatch n is = refl

-- packets of one key are evaluated alike, where one of them asks nothing
pub equal_keys_evaluate_alike : EqualKeysEvaluateAlike
equal_keys_evaluate_alike edition port p r s t same none =
    let one = first_trace (question_under edition (Four p) port s) in
    let other = first_trace (question_under edition (Four r) port t) in
    let alike = first_alike edition port p r s t same in
    let hits : hits_of other ≡ hits_of one = sym (timeless_hits other) ∙ ap (λ (trace : Trace). hits_of trace) (sym alike) ∙ timeless_hits one in
    let stops : timeless_stop (stop_of_trace one) ≡ timeless_stop (stop_of_trace other) = sym (timeless_end one) ∙ ap (λ (trace : Trace). stop_of_trace trace) alike ∙ timeless_end other in
    let silent : asks_at_stop (stop_of_trace one) ≡ [] = ap (λ (e : Evaluated). e.asks) (sym (evaluated_first (question_under edition (Four p) port s))) ∙ none in
    let stop : stop_of_trace other ≡ stop_of_trace one = settled (stop_of_trace one) (stop_of_trace other) silent stops in
    evaluated_first (question_under edition (Four r) port t)
    ∙ (λ i. result_of (hits i) (stop i))
    ∙ sym (evaluated_first (question_under edition (Four p) port s))
