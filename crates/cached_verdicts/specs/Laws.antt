-- Laws behind a cache of verdicts.
use Rattle.std.specs.Prelude.{◌≡◌, ℕ, true, false, Some, [], find}
use Rattle.fw_base.specs.declared.port.Port.{Port}
use Rattle.fw_rule.specs.declared.rule.Rule.{Rule}
use Rattle.packet_headers.specs.Fields.{Fields}
use Rattle.ip6_headers.specs.declared.any_ip.AnyIp.TheVariants.{Four}
use Rattle.rule_chain.specs.Chain.{IsConfiguration}
use Rattle.rule_gates.specs.Cacheable.{is_cacheable}
use Rattle.verdict_cache.specs.Cache.{is_given, Kept}
use Rattle.verdict_cache.specs.Key.{key_of}
use Rattle.generation_store.specs.Published.{Published, is_identity}
use Rattle.eval_engine.specs.Evaluated.{Whole}
use Rattle.eval_engine.specs.Evaluation.{evaluate}
use Rattle.eval_engine.specs.Laws.{judgement_by}
use Rattle.eval_engine.specs.Question.{Question, question_under}
use Rattle.eval_engine.specs.declared.judgement.Judgement.{Judgement}
use Rattle.cached_verdicts.specs.Verdicts.{evaluated_at_once, KeepsVerdicts}
use Rattle.cached_verdicts.specs.declared.kept_verdict.KeptVerdict.{KeptVerdict}

-- Under one edition and at one port two IPv4 packets of one key are evaluated to the same, whatever their seconds
-- and totals, where the evaluation of one asks nothing. That is so of every edition.
abbrev pub EqualKeysEvaluateAlike : Type 0
EqualKeysEvaluateAlike =
    (edition : Published) (port : Port) (p q : Fields) (s t : ℕ) → key_of p ≡ key_of q
    → (evaluate (question_under edition (Four p) port s) []).asks ≡ []
    → evaluate (question_under edition (Four q) port t) [] ≡ evaluate (question_under edition (Four p) port s) []

-- the verdict by a rule
abbrev pub verdict_by : Question → Rule → KeptVerdict
verdict_by q rule = record { judgement = judgement_by q (Some rule); counter = rule.counter }

-- one rule of the edition, which its identity finds, decides the packet, and its counter is the only one hit
pub record IsDecidedAtOnce (q : Question) : Type 0 where
  pub rule : Rule
  pub found : find (is_identity rule.id) q.edition.config.rules ≡ Some rule
  pub once : evaluate q [] ≡ evaluated_at_once (verdict_by q rule)

-- In an edition of which each rule ends the search where it matches, an evaluation of an IPv4 packet that
-- asks nothing ends, and hits the deciding rule's counter and no other.
abbrev pub CacheableEditionsHitOnce : Type 0
CacheableEditionsHitOnce =
    (edition : Published) (port : Port) (packet : Fields) (second : ℕ) → is_cacheable edition.config.rules ≡ true → IsConfiguration edition.config
    → (evaluate (question_under edition (Four packet) port second) []).asks ≡ []
    → IsDecidedAtOnce (question_under edition (Four packet) port second)

-- An evaluation that ends with no reply asks nothing.
abbrev pub WholeEvaluationsAskNothing : Type 0
WholeEvaluationsAskNothing = (q : Question) (judgement : Judgement) → (evaluate q []).outcome ≡ Whole judgement → (evaluate q []).asks ≡ []

-- A cache keeps nothing under an edition whose number isn't the last one given.
abbrev pub OtherEditionsKeepNothing : Type 0
OtherEditionsKeepNothing = (edition : Published) (port : Port) (kept : Kept KeptVerdict) → is_given kept.number edition.number ≡ false → KeepsVerdicts edition port kept
