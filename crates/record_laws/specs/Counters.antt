-- The counters of a record.
use Rattle.std.specs.Prelude.{◌≡◌, ℕ, ◌%◌, ◌^◌, List, map, sum_by}
use Rattle.counter_book.specs.Counts as counts
use Rattle.eval_engine.specs.Evaluated.{Whole}
use Rattle.fw_rule.specs.declared.command.Command.{Command}
use Rattle.fw_world.specs.Inputs.{Input}
use Rattle.fw_world.specs.Legal.{IsLegal}
use Rattle.fw_world.specs.RecordValue.{RecordValue}
use Rattle.rule_chain.specs.Configuration.{Configuration}
use Rattle.record_laws.specs.JudgedPackets.{judged_packets, all_judgements, evaluation_of, hits_on, bytes_on}

-- Each judgement of a docket is what the evaluation of its judged packet came to, and there are no other judged
-- packets; and the total of a counter number over all tallies is how often these evaluations hit it, and the
-- bytes of the packets that did, each modulo 2^64.
pub record CountsItsHits (inputs : List (List Input)) (r : RecordValue) : Type 0 where
  pub judged : map (λ p. (evaluation_of p).outcome) (judged_packets inputs r) ≡ map Whole (all_judgements r.dockets)
  pub packets : (counter : ℕ) → (counts.total_under r.tallies counter).packets ≡ sum_by (hits_on counter) (judged_packets inputs r) % 2 ^ 64
  pub bytes : (counter : ℕ) → (counts.total_under r.tallies counter).bytes ≡ sum_by (bytes_on counter) (judged_packets inputs r) % 2 ^ 64

-- the counters of a legal record add up to the hits of its judged packets
abbrev pub CountersAddUp : Type 0
CountersAddUp = (first : Configuration) (commands : List Command) (inputs : List (List Input)) (r : RecordValue) → IsLegal first commands inputs r → CountsItsHits inputs r
