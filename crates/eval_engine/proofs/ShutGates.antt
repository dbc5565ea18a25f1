-- Rules whose gates don't admit the packet's key are passed over.
use Rattle.std.proofs.Common.{◌≡◌, ℕ, zero, suc, ◌+◌, ◌≤◌, Bool, true, false, Option, Some, None, List, [], ◌∷◌, drop, refl, ap, ◌∙◌, arith}
use Rattle.std.proofs.lemmas.Bool.{or_parts}
use Rattle.std.proofs.lemmas.List.{drop-drop}
use Rattle.std.specs.List.{position_or_len}
use Rattle.fw_rule.specs.declared.body.Body.{Body}
use Rattle.fw_rule.specs.declared.rule.Rule.{Rule}
use Rattle.rule_gates.specs.Gates.{admits, is_body_held, concerns, IsGateOf, AreGates}
use Rattle.rule_gates.specs.Keys.{IsKeyOf}
use Rattle.rule_gates.specs.declared.gate.Gate.{Gate}
use Rattle.rule_gates.specs.declared.gate_key.GateKey.{GateKey}
use Rattle.eval_engine.proofs.Walks.{walk_meets}
use Rattle.eval_engine.specs.Encounter.{is_disabled, is_rule_met, is_check_state, looks_up}
use Rattle.eval_engine.specs.Question.{Question}
use Rattle.eval_engine.specs.Steps.{PassesTo}
use Rattle.eval_engine.specs.Trace.{Seen, Trace, PassesOver, hits_of, stop_of_trace, length_of}
use Rattle.eval_engine.specs.Walk.{walk_from, meets, pause_at, acts_before}

-- gates of the rules from a place on
pub gates_from : (place : ℕ) (rules : List Rule) (gates : List Gate) → AreGates rules gates → AreGates (drop place rules) (drop place gates)
gates_from zero rules gates are = are
gates_from (suc place) [] [] are = are
gates_from (suc place) [] (gate ∷ gates) are = absurd are
gates_from (suc place) (rule ∷ rules) [] are = absurd are
gates_from (suc place) (rule ∷ rules) (gate ∷ gates) are = gates_from place rules gates are.1

module _ (q : Question) (seen : Seen) (callers : List ℕ) where
  -- a rule that looks nothing up, and whose body doesn't hold
  unconcerned_passed : (rule : Rule) (rest : List Rule) → looks_up rule ≡ false → is_rule_met q rule ≡ false
      → walk_from q seen callers (rule ∷ rest) 0 ≡ PassesOver (walk_from q seen callers rest 0)
  unconcerned_passed rule rest unlooked unheld =
      let plain : is_check_state rule.action ≡ false = (or_parts (is_check_state rule.action) _ unlooked).0 in
      walk_meets q seen callers rule rest ∙ cases plain (is_disabled q rule) refl
    where
      cases : is_check_state rule.action ≡ false → (disabled : Bool) → is_disabled q rule ≡ disabled
          → meets q (pause_at seen callers (rule ∷ rest)) rule (PassesOver (walk_from q seen callers rest 0)) (acts_before q seen callers rule rest) ≡ PassesOver (walk_from q seen callers rest 0)
      cases plain true is = rw is refl
      cases plain false is = rw (is, unlooked, plain, unheld) refl

  held_is : (rule : Rule) (body : Option Body) → rule.body ≡ body → is_body_held body q.edition.config.tables q.edition.config.locals q.packet q.port ≡ false → is_rule_met q rule ≡ false
  unfolding is_rule_met
  held_is rule None is none = rw is refl
  held_is rule (Some body) is none = rw is none

  -- a rule whose gate doesn't admit the key
  shut_passed : (key : GateKey) → IsKeyOf q.packet key → (rule : Rule) (gate : Gate) (rest : List Rule) → IsGateOf rule gate → admits gate key ≡ false
      → walk_from q seen callers (rule ∷ rest) 0 ≡ PassesOver (walk_from q seen callers rest 0)
  shut_passed key is rule gate rest sound shut =
      let neither = or_parts (looks_up rule) _ (unconcerned (concerns rule q.edition.config.tables q.edition.config.locals q.packet q.port) refl) in
      unconcerned_passed rule rest neither.0 (held_is rule rule.body refl neither.1)
    where
      unconcerned : (b : Bool) → concerns rule q.edition.config.tables q.edition.config.locals q.packet q.port ≡ b → concerns rule q.edition.config.tables q.edition.config.locals q.packet q.port ≡ false
      unconcerned true concerned = absurd (let open_gate = sound.sound q.edition.config.tables q.edition.config.locals q.packet q.port key is concerned in cc)
      unconcerned false concerned = concerned

  passes_at_once : (trace : Trace) → PassesTo trace trace
  passes_at_once trace = record { hits = refl; stop = refl; sooner = omega arith }

  passes_one : (trace next later : Trace) → trace ≡ PassesOver next → PassesTo next later → PassesTo trace later
  unfolding hits_of stop_of_trace length_of
  passes_one trace next later is passes = record {
    hits = ap (λ (t : Trace). hits_of t) is ∙ passes.hits;
    stop = ap (λ (t : Trace). stop_of_trace t) is ∙ passes.stop;
    sooner = longer (passes.sooner) (ap (λ (t : Trace). length_of t) is);
  }
    where
      longer : length_of later ≤ length_of next → length_of trace ≡ suc (length_of next) → length_of later ≤ length_of trace
      longer less one = omega arith

  -- all rules before the first whose gate admits the key are passed over
  pub shut_gates_passed : (key : GateKey) → IsKeyOf q.packet key → (rules : List Rule) (gates : List Gate) → AreGates rules gates
      → PassesTo (walk_from q seen callers rules 0) (walk_from q seen callers (drop (position_or_len (λ gate. admits gate key) gates) rules) 0)
  shut_gates_passed key is [] [] are = passes_at_once _
  shut_gates_passed key is [] (gate ∷ gates) are = absurd are
  shut_gates_passed key is (rule ∷ rules) [] are = absurd are
  shut_gates_passed key is (rule ∷ rules) (gate ∷ gates) are = go (shut_gates_passed key is rules gates are.1) (admits gate key) refl
    where
      go : PassesTo (walk_from q seen callers rules 0) (walk_from q seen callers (drop (position_or_len (λ gate. admits gate key) gates) rules) 0)
          → (b : Bool) → admits gate key ≡ b
          → PassesTo (walk_from q seen callers (rule ∷ rules) 0) (walk_from q seen callers (drop (position_or_len (λ gate. admits gate key) (gate ∷ gates)) (rule ∷ rules)) 0)
      go passes true admitted = rw admitted (passes_at_once _)
      go passes false shut =
          let one : 1 + position_or_len (λ gate. admits gate key) gates ≡ suc (position_or_len (λ gate. admits gate key) gates) = omega arith in
          rw (shut, one) (passes_one _ _ _ (shut_passed key is rule gate rules are.0 shut) passes)

  -- and so from a place on
  pub shut_gates_passed_from : (key : GateKey) → IsKeyOf q.packet key → (gates : List Gate) (place next : ℕ) → AreGates q.edition.config.rules gates
      → next ≡ place + position_or_len (λ gate. admits gate key) (drop place gates)
      → PassesTo (walk_from q seen callers (drop place q.edition.config.rules) 0) (walk_from q seen callers (drop next q.edition.config.rules) 0)
  shut_gates_passed_from key is gates place next are at =
      let passes = shut_gates_passed key is (drop place q.edition.config.rules) (drop place gates) (gates_from place q.edition.config.rules gates are) in
      rw at (rw drop-drop at passes)
