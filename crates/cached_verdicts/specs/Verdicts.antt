-- What is kept for the packets of one key, and when it is true.
use Rattle.std.specs.Prelude.{◌≡◌, ℕ, [], ◌∷◌}
use Rattle.std.specs.List.{AllByRecursion}
use Rattle.fw_base.specs.declared.port.Port.{Port}
use Rattle.packet_headers.specs.Fields.{Fields}
use Rattle.ip6_headers.specs.declared.any_ip.AnyIp.TheVariants.{Four}
use Rattle.verdict_cache.specs.Cache.{Kept, at_number}
use Rattle.verdict_cache.specs.Key.{key_of}
use Rattle.verdict_cache.specs.declared.key.Key.{Key}
use Rattle.generation_store.specs.Published.{Published}
use Rattle.eval_engine.specs.Evaluated.{Evaluated, Whole}
use Rattle.eval_engine.specs.Evaluation.{evaluate}
use Rattle.eval_engine.specs.Question.{question_under}
use Rattle.cached_verdicts.specs.declared.kept_verdict.KeptVerdict.{KeptVerdict}

-- the evaluation that asks nothing, hits that one counter and ends with that judgement
abbrev pub evaluated_at_once : KeptVerdict → Evaluated
evaluated_at_once kept = record { asks = []; hits = kept.counter ∷ []; outcome = Whole kept.judgement }

-- At this port each IPv4 packet of the key is evaluated under the edition to just this, whatever its second.
abbrev pub IsVerdictOf : Published → Port → Key → KeptVerdict → Type 0
IsVerdictOf edition port key kept = (packet : Fields) (second : ℕ) → key_of packet ≡ key → evaluate (question_under edition (Four packet) port second) [] ≡ evaluated_at_once kept

-- All that a look under the edition can find is true of packets at this port. A cache of another number keeps
-- nothing for it.
abbrev pub KeepsVerdicts : Published → Port → Kept KeptVerdict → Type 0
KeepsVerdicts edition port kept = AllByRecursion (λ pair. IsVerdictOf edition port pair.0 pair.1) (at_number edition.number kept).pairs
