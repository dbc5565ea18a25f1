-- In an edition of which each rule ends the search where it matches, an evaluation that asks nothing hits once.
use Rattle.std.proofs.Common.{◌≡◌, ◌≢◌, ℕ, Bool, true, false, nat_eq, nat_lt, Option, Some, None, List, [], ◌∷◌, find, refl, ap, sym, ◌∙◌, arith, subst}
use Rattle.std.proofs.lemmas.Bool.{and_parts}
use Rattle.std.proofs.Math.Nat.{div-eq_of_lt}
use Rattle.std.specs.List.{AllByRecursion}
use Rattle.fw_base.specs.declared.port.Port.{Port}
use Rattle.fw_rule.specs.declared.action.Action.{Action}
use Rattle.fw_rule.specs.declared.action.Action.TheVariants.{Allow, Deny, Reset, Unreach, Count, SkipTo, Call, Return, CheckState}
use Rattle.fw_rule.specs.declared.rule.Rule.{Rule}
use Rattle.fw_rule.specs.declared.state_opt.StateOpt.{StateOpt}
use Rattle.packet_headers.specs.Fields.{Fields}
use Rattle.packet_headers.specs.declared.flows.Flow.{Flow}
use Rattle.ip6_headers.specs.declared.any_ip.AnyIp.TheVariants.{Four}
use Rattle.rule_chain.specs.Chain.{AscendsFrom, HaveOwnIds, IsConfiguration}
use Rattle.rule_chain.specs.LastRule.{last_rule}
use Rattle.rule_gates.specs.Cacheable.{is_final, is_cacheable}
use Rattle.rule_match.specs.Holds.{holds}
use Rattle.state_asks.specs.declared.op.Op.{Op}
use Rattle.generation_store.specs.Published.{Published, is_identity}
use Rattle.eval_engine.specs.Encounter.{is_check_state, is_disabled, is_rule_met, state_of, any_flow_of}
use Rattle.eval_engine.specs.Evaluated.{Evaluated}
use Rattle.eval_engine.specs.Evaluation.{asks_at_stop}
use Rattle.eval_engine.specs.Laws.{judgement_by}
use Rattle.eval_engine.specs.Question.{Question, question_under}
use Rattle.eval_engine.specs.Trace.{Seen, no_names, Pause, Stop, EndsWith, WaitsFor, Trace, PassesOver, Counts, Stops, hits_of, stop_of_trace}
use Rattle.eval_engine.specs.Walk.{Walk, walk, follows, installs, tests, looks, lookup_flow, meets, pause_at, deeper_walk, way_back, first_trace}
use Rattle.cached_verdicts.specs.Laws.{CacheableEditionsHitOnce}
use Rattle.cached_verdicts.proofs.First.{result_of, evaluated_first}

-- ---- each rule is the one that its identity finds

abbrev IsFoundIn : List Rule → Rule → Type 0
IsFoundIn rules rule = find (is_identity rule.id) rules ≡ Some rule

found_behind : (first : Rule) (rules suffix : List Rule) → AllByRecursion (λ other. other.id ≢ first.id) suffix → AllByRecursion (IsFoundIn rules) suffix → AllByRecursion (IsFoundIn (first ∷ rules)) suffix
found_behind first rules [] own h = tt
found_behind first rules (rule ∷ suffix) own h =
    let other : nat_eq first.id rule.id ≡ false = differ (nat_eq first.id rule.id) refl in
    (rw other h.0, found_behind first rules suffix own.1 h.1)
  where
    differ : (b : Bool) → nat_eq first.id rule.id ≡ b → nat_eq first.id rule.id ≡ false
    differ true is = absurd (own.0 (grind arith))
    differ false is = is

found_all : (rules : List Rule) → HaveOwnIds rules → AllByRecursion (IsFoundIn rules) rules
found_all [] own = tt
found_all (rule ∷ rules) own =
    let itself : nat_eq rule.id rule.id ≡ true = grind arith in
    (rw itself refl, found_behind rule rules rules own.0 (found_all rules own.1))

finals : (rules : List Rule) → is_cacheable rules ≡ true → AllByRecursion (λ rule. is_final rule.action ≡ true) rules
finals [] is = tt
finals (rule ∷ rules) is =
    let both = and_parts (is_final rule.action) (is_cacheable rules) is in
    (both.0, finals rules both.1)

-- ---- one rule to a packet: it is passed over, acts, or waits

module _ (q : Question) (P : Trace → Type 0) (pause : Pause) (rule : Rule) (passed acted : Trace) (pass : P passed) (act : is_check_state rule.action ≡ false → P acted)
    (wait : (op : Op) → P (Stops (WaitsFor op pause))) where
  by_install : (state : Option StateOpt) (flow : Option Flow) → is_check_state rule.action ≡ false → P (installs q pause rule passed acted state flow)
  by_install None flow plain = act plain
  by_install (Some state) None plain = pass
  by_install (Some state) (Some flow) plain = wait _

  by_test : P (tests q pause rule passed acted)
  by_test = go (is_check_state rule.action) (is_rule_met q rule) refl refl
    where
      go : (check held : Bool) → is_check_state rule.action ≡ check → is_rule_met q rule ≡ held → P (tests q pause rule passed acted)
      go true held c h = rw c pass
      go false true c h = rw (c, h) (by_install (state_of rule) (any_flow_of q.packet) c)
      go false false c h = rw (c, h) pass

  by_look : (flow : Option Flow) → P (looks q pause rule passed acted flow)
  by_look None = by_test
  by_look (Some flow) = wait _

  by_rule : P (meets q pause rule passed acted)
  by_rule = go (is_disabled q rule) refl
    where
      go : (disabled : Bool) → is_disabled q rule ≡ disabled → P (meets q pause rule passed acted)
      go true is = rw is pass
      go false is = rw is (by_look (lookup_flow q pause.seen rule))

-- ---- traces that hit once

abbrev IsSilent : Trace → Type 0
IsSilent trace = asks_at_stop (stop_of_trace trace) ≡ []

module _ (edition : Published) (port : Port) (packet : Fields) (second : ℕ) (lawful : IsConfiguration edition.config) where
  abbrev asked : Question
  asked = question_under edition (Four packet) port second

  -- one rule hits and decides
  record IsOnce (trace : Trace) : Type 0 where
    rule : Rule
    found : IsFoundIn edition.config.rules rule
    hits : hits_of trace ≡ rule.counter ∷ []
    stop : stop_of_trace trace ≡ EndsWith (judgement_by asked (Some rule))

  abbrev HitsOnce : Trace → Type 0
  HitsOnce trace = IsSilent trace → IsOnce trace

  passes_once : (trace : Trace) → HitsOnce trace → HitsOnce (PassesOver trace)
  unfolding hits_of stop_of_trace
  passes_once trace once silent = let o = once silent in record { rule = o.rule; found = o.found; hits = o.hits; stop = o.stop }

  waits_never : (op : Op) (pause : Pause) → HitsOnce (Stops (WaitsFor op pause))
  unfolding stop_of_trace
  waits_never op pause silent = absurd (grind arith)

  decided_once : (rule : Rule) (stop : Stop) → IsFoundIn edition.config.rules rule → stop ≡ EndsWith (judgement_by asked (Some rule)) → IsOnce (Counts rule.counter (Stops stop))
  unfolding hits_of stop_of_trace
  decided_once rule stop found is = record { rule = rule; found = found; hits = refl; stop = is }

  acts_once : (deeper : Option Walk) (rule : Rule) (next : ℕ → Trace) (callers : List ℕ) (back : Option Trace) (action : Action) → rule.action ≡ action → IsFoundIn edition.config.rules rule
      → is_final action ≡ true → is_check_state action ≡ false → IsOnce (Counts rule.counter (follows asked deeper rule next callers back action))
  acts_once deeper rule next callers back Allow is found final plain = decided_once rule _ found (rw is refl)
  acts_once deeper rule next callers back Deny is found final plain = decided_once rule _ found (rw is refl)
  acts_once deeper rule next callers back Reset is found final plain = decided_once rule _ found (rw is refl)
  acts_once deeper rule next callers back (Unreach code) is found final plain = decided_once rule _ found (rw is refl)
  acts_once deeper rule next callers back Count is found final plain = absurd (grind arith)
  acts_once deeper rule next callers back (SkipTo number) is found final plain = absurd (grind arith)
  acts_once deeper rule next callers back (Call number) is found final plain = absurd (grind arith)
  acts_once deeper rule next callers back Return is found final plain = absurd (grind arith)
  acts_once deeper rule next callers back (CheckState name) is found final plain = absurd (grind arith)

  -- rule 65535 isn't disabled, looks nothing up, and its body holds
  enabled : (counter : ℕ) → is_disabled asked (last_rule counter) ≡ false
  unfolding is_disabled
  enabled counter = let few = lawful.disabled in rw (div-eq_of_lt few) refl

  any_packet : (counter : ℕ) → is_rule_met asked (last_rule counter) ≡ true
  unfolding is_rule_met holds
  any_packet counter = refl

  last_trace : (deeper : Option Walk) (seen : Seen) (counter : ℕ) (callers : List ℕ) (back : Option Trace)
      → walk deeper asked seen 0 (last_rule counter ∷ []) callers back ≡ Counts counter (Stops (EndsWith (judgement_by asked (Some (last_rule counter)))))
  unfolding walk
  last_trace deeper seen counter callers back = rw (enabled counter, any_packet counter) refl

  last_once : (deeper : Option Walk) (seen : Seen) (rule : Rule) (callers : List ℕ) (back : Option Trace) → rule ≡ last_rule rule.counter → IsFoundIn edition.config.rules rule
      → IsOnce (walk deeper asked seen 0 (rule ∷ []) callers back)
  last_once deeper seen rule callers back last found =
      let trace : walk deeper asked seen 0 (rule ∷ []) callers back ≡ Counts rule.counter (Stops (EndsWith (judgement_by asked (Some (last_rule rule.counter))))) =
      ap (λ (r : Rule). walk deeper asked seen 0 (r ∷ []) callers back) last ∙ last_trace deeper seen rule.counter callers back in
      subst (λ (t : Trace). IsOnce t) (sym trace)
      (decided_once rule (EndsWith (judgement_by asked (Some (last_rule rule.counter)))) found (ap (λ (r : Rule). EndsWith (judgement_by asked (Some r))) (sym last)))

  walks_once : (deeper : Option Walk) (seen : Seen) (least : ℕ) (suffix : List Rule) (callers : List ℕ) (back : Option Trace) → AscendsFrom least suffix
      → AllByRecursion (λ rule. is_final rule.action ≡ true) suffix → AllByRecursion (IsFoundIn edition.config.rules) suffix → HitsOnce (walk deeper asked seen 0 suffix callers back)
  unfolding walk
  walks_once deeper seen least [] callers back ascends final found = absurd ascends
  walks_once deeper seen least (rule ∷ []) callers back ascends final found = λ silent. last_once deeper seen rule callers back ascends found.0
  walks_once deeper seen least (rule ∷ next ∷ rest) callers back ascends final found =
      let below : nat_lt rule.number 0 ≡ false = grind arith in
      rw below
      (by_rule asked HitsOnce (pause_at seen callers (rule ∷ next ∷ rest)) rule
      (PassesOver (walk deeper asked seen 0 (next ∷ rest) callers back))
      (Counts rule.counter (follows asked deeper rule (λ n. walk deeper asked seen n (next ∷ rest) callers back) callers back rule.action))
      (passes_once (walk deeper asked seen 0 (next ∷ rest) callers back) (walks_once deeper seen rule.number (next ∷ rest) callers back ascends.2 final.1 found.1))
      (λ plain silent. acts_once deeper rule (λ n. walk deeper asked seen n (next ∷ rest) callers back) callers back rule.action refl found.0 final.0 plain)
      (λ op. waits_never op (pause_at seen callers (rule ∷ next ∷ rest))))

  first_once : is_cacheable edition.config.rules ≡ true → HitsOnce (first_trace asked)
  first_once cacheable =
      walks_once (deeper_walk 16 asked no_names) no_names 1 edition.config.rules [] (way_back 16 asked no_names []) lawful.ordered (finals edition.config.rules cacheable)
      (found_all edition.config.rules lawful.distinct)

-- an evaluation under such an edition that asks nothing hits the deciding rule's counter and no other
pub cacheable_editions_hit_once : CacheableEditionsHitOnce
cacheable_editions_hit_once edition port packet second cacheable lawful none =
    let q = question_under edition (Four packet) port second in
    let once = first_once edition port packet second lawful cacheable (ap (λ (e : Evaluated). e.asks) (sym (evaluated_first q)) ∙ none) in
    let hits = once.hits in
    let stop = once.stop in
    record {
      rule = once.rule;
      found = once.found;
      once = evaluated_first q ∙ (λ i. result_of (hits i) (stop i));
    }
