-- How an evaluation begins with a look, and what is to be kept of one.
use Rattle.std.proofs.Common.{◌≡◌, ℕ, ◌≤◌, ◌<◌, Bool, true, false, nat_lt, Option, Some, None, List, [], length, find, get_or, All, refl, ap, sym, ◌∙◌, arith, subst, slice_set, slice_get, map, Global}
use Rattle.std.proofs.lemmas.List.Elements.{All-head}
use Rattle.std.proofs.lemmas.List.Folds.{find_at}
use Rattle.std.proofs.lemmas.Option.{slice_get_past, get_or_from_slice_get}
use Rattle.ip6_headers.specs.declared.any_ip.AnyIp.TheVariants.{Four}
use Rattle.rule_chain.proofs.Lists.{map_length}
use Rattle.std.specs.Arc.{arc_value}
use Rattle.std.specs.List.{position, position_or_len}
use Rattle.std.specs.declared.sync.Arc.{Arc}
use Rattle.counter_book.specs.Counts.{counted_under, count_after_packet}
use Rattle.counter_book.specs.declared.tally.Count.{Count}
use Rattle.fw_base.specs.declared.port.Port.{Port}
use Rattle.fw_rule.specs.declared.rule.Rule.{Rule}
use Rattle.ip6_headers.specs.Either.{total_of}
use Rattle.packet_headers.specs.Fields.{Fields}
use Rattle.rule_chain.specs.Chain.{IsConfiguration}
use Rattle.rule_gates.specs.Cacheable.{is_cacheable}
use Rattle.generation_store.specs.Published.{Published, is_identity}
use Rattle.eval_engine.specs.Evaluated.{Evaluated, Whole}
use Rattle.eval_engine.specs.Evaluation.{evaluate}
use Rattle.eval_engine.specs.Laws.{judgement_by}
use Rattle.eval_engine.specs.Question.{Question, question_under}
use Rattle.eval_engine.specs.Standing.{StandsAt, counts_after}
use Rattle.eval_engine.specs.declared.judgement.Judgement.{Judgement}
use Rattle.eval_engine.specs.declared.paused.Paused.{Paused}
use Rattle.eval_engine.proofs.Hits.{hits_are_given_out}
use Rattle.cached_verdicts.specs.LaneCache.{IsToKeep}
use Rattle.cached_verdicts.specs.Verdicts.{evaluated_at_once}
use Rattle.cached_verdicts.specs.declared.kept_verdict.KeptVerdict.{KeptVerdict}
use Rattle.cached_verdicts.proofs.First.{stops_whole}
use Rattle.cached_verdicts.proofs.Once.{cacheable_editions_hit_once}

-- a hit ends the evaluation, with its rule's counter risen
pub hit_stands : (q : Question) (kept : KeptVerdict) (start : List Count) (paused : Paused) → evaluate q [] ≡ evaluated_at_once kept
    → StandsAt q [] [] start (Some kept.judgement) paused (slice_set start kept.counter (count_after_packet (counted_under start kept.counter) (total_of q.packet)))
unfolding counts_after
hit_stands q kept start paused once = record {
  asked = ap (λ (e : Evaluated). e.asks) once;
  outcome = ap (λ (e : Evaluated). e.outcome) once;
  tallied = ap (λ (e : Evaluated). counts_after (total_of q.packet) e.hits start) (sym once);
  waiting = tt;
  stop = stops_whole q kept.judgement (ap (λ (e : Evaluated). e.outcome) once);
}

-- that counter number was given out
pub hit_is_given_out : (q : Question) (kept : KeptVerdict) → IsConfiguration q.edition.config → evaluate q [] ≡ evaluated_at_once kept → kept.counter ≤ q.edition.config.greatest_counter
hit_is_given_out q kept lawful once =
    let given : (ℕ → Type 0) = λ counter. counter ≤ q.edition.config.greatest_counter in
    All-head given kept.counter [] (subst (λ (e : Evaluated). All given e.hits) once (hits_are_given_out q [] lawful))

-- the first rule of a list that passes is the one in its place
pub record IsPlaced {X : Type 0} (p : X → Bool) (xs : List X) (x : X) : Type 0 where
  pub first : position p xs ≡ Some (position_or_len p xs)
  pub within : position_or_len p xs < length xs
  pub read : (d : X) → get_or xs (position_or_len p xs) d ≡ x

-- where an element is found, it is placed: at the place of the first that passes
pub placed : {X : Type 0} (p : X → Bool) (xs : List X) (x : X) → find p xs ≡ Some x → IsPlaced p xs x
placed {X} p xs x is =
    let there : slice_get xs (position_or_len p xs) ≡ Some x = sym (find_at p xs) ∙ is in
    let below : nat_lt (position_or_len p xs) (length xs) ≡ true = go there (nat_lt (position_or_len p xs) (length xs)) refl in
    record {
      first = rw below refl;
      within = grind arith;
      read = λ d. get_or_from_slice_get xs (position_or_len p xs) x d there;
    }
  where
    missing : (x : X) → None ≡ Some x → ⊥
    missing x is = cc

    go : slice_get xs (position_or_len p xs) ≡ Some x → (b : Bool) → nat_lt (position_or_len p xs) (length xs) ≡ b → nat_lt (position_or_len p xs) (length xs) ≡ true
    go there true b = b
    go there false b =
        let past : length xs ≤ position_or_len p xs = grind arith in
        absurd (missing x (sym (slice_get_past xs (position_or_len p xs) past) ∙ there))

-- where there is such a rule it has a place
pub not_placed : {X : Type 0} (p : X → Bool) (xs : List X) (x : X) → find p xs ≡ Some x → None ≡ position p xs → ⊥
not_placed p xs x is none = missing (position_or_len p xs) (none ∙ (placed p xs x is).first)
  where
    missing : (place : ℕ) → None ≡ Some place → ⊥
    missing place is = cc

-- and no other one
pub one_place : {X : Type 0} (p : X → Bool) (xs : List X) (x : X) (place : ℕ) → find p xs ≡ Some x → Some place ≡ position p xs → (d : X) → get_or xs place d ≡ x
one_place {X} p xs x place is there d =
    let at = placed p xs x is in
    let same : place ≡ position_or_len p xs = equal place (position_or_len p xs) (there ∙ at.first) in
    ap (λ n. get_or xs n d) same ∙ at.read d
  where
    equal : (m n : ℕ) → Some m ≡ Some n → m ≡ n
    equal m n is = grind arith

-- of shared rules it is the place of one
pub shared_place : (p : Rule → Bool) (rules : List Rule) (shared : List (Arc Rule Global)) (rule : Rule) (place : ℕ) → map arc_value shared ≡ rules → find p rules ≡ Some rule → Some place ≡ position p rules
    → place < length shared
shared_place p rules shared rule place are is there =
    let at = placed p rules rule is in
    let first = at.first in
    let within = at.within in
    let same : place ≡ position_or_len p rules = equal place (position_or_len p rules) (there ∙ first) in
    let long : length rules ≡ length shared = ap (λ (rs : List Rule). length rs) (sym are) ∙ map_length arc_value shared in
    omega arith
  where
    equal : (m n : ℕ) → Some m ≡ Some n → m ≡ n
    equal m n is = grind arith

module _ (edition : Published) (port : Port) (packet : Fields) (second : ℕ) where
  abbrev asked : Question
  asked = question_under edition (Four packet) port second

  whole_is : (a b : Judgement) → Whole a ≡ Whole b → a ≡ b
  whole_is a b is = grind arith

  -- the judgement by a rule, with that rule's counter
  pub kept_by_rule : (judgement : Judgement) (value : Option KeptVerdict) → is_cacheable edition.config.rules ≡ true → IsConfiguration edition.config
      → (evaluate asked []).asks ≡ [] → (evaluate asked []).outcome ≡ Whole judgement
      → ((rule : Rule) → find (is_identity judgement.rule.id) edition.config.rules ≡ Some rule → value ≡ Some (record { judgement = judgement; counter = rule.counter }))
      → IsToKeep asked value
  kept_by_rule judgement value cacheable lawful none outcome is =
      let decided = cacheable_editions_hit_once edition port packet second cacheable lawful none in
      let rule = decided.rule in
      let same : judgement ≡ judgement_by asked (Some rule) =
      whole_is judgement (judgement_by asked (Some rule)) (sym outcome ∙ ap (λ (e : Evaluated). e.outcome) decided.once) in
      let found : find (is_identity judgement.rule.id) edition.config.rules ≡ Some rule =
      ap (λ (j : Judgement). find (is_identity j.rule.id) edition.config.rules) same ∙ decided.found in
      let kept : value ≡ Some (record { judgement = judgement; counter = rule.counter }) = is rule found in
      let once : evaluate asked [] ≡ evaluated_at_once (record { judgement = judgement; counter = rule.counter }) =
      decided.once ∙ ap (λ (j : Judgement). evaluated_at_once (record { judgement = j; counter = rule.counter })) (sym same) in
      record {
        fits = rw (kept, cacheable, none) refl;
        once = rw kept once;
      }
