use Rattle.std.proofs.Common.{map}
use Rattle.std.specs.Prelude.{string_bytes}
use Rattle.replay_driver.specs.Served.{job_of}
use Rattle.replay_driver.proofs.LoadWords.{job_within}
use Rattle.audit_driver.proofs.Accepted.{all_accepted}
use Rattle.run_driver.proofs.RunPromises.{all_promised}
use Rattle.run_driver.proofs.run_command.run.Goals as goal

pub returns-clause-usage : goal.returns-clause-usage
returns-clause-usage g c = c.run_words.ensures.usage

pub returns-clause-replay : goal.returns-clause-replay
returns-clause-replay g c = c.run_words.ensures.replay

pub returns-clause-audit : goal.returns-clause-audit
returns-clause-audit g c = c.run_words.ensures.audit

pub returns-clause-promises : goal.returns-clause-promises
returns-clause-promises g c = all_promised _ _
    c.args.library.now c.run_words.new.library c.args.out.now c.run_words.new.out c.run_words.result (job_of (map string_bytes c.args.words.now)) (job_within (map string_bytes c.args.words.now)) c.run_words.ensures.replay

pub returns-clause-accepts : goal.returns-clause-accepts
returns-clause-accepts g c = all_accepted _ _
    c.args.library.now c.run_words.new.library c.args.out.now c.run_words.new.out c.run_words.result (map string_bytes c.args.words.now) c.run_words.ensures.audit
