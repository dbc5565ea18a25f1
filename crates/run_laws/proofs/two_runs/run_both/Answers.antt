use Rattle.std.proofs.Common.{map}
use Rattle.std.specs.Prelude.{string_bytes}
use Rattle.replay_driver.specs.Served.{job_of}
use Rattle.run_laws.proofs.TwoRuns.{run_promised, both_same}
use Rattle.run_laws.proofs.two_runs.run_both.Goals as goal

pub returns-clause-first_usage : goal.returns-clause-first_usage
returns-clause-first_usage g c = c.run-first.ensures.usage

pub returns-clause-first_found : goal.returns-clause-first_found
returns-clause-first_found g c = c.run-first.ensures.found

pub returns-clause-second_usage : goal.returns-clause-second_usage
returns-clause-second_usage g c = c.run-second.ensures.usage

pub returns-clause-second_found : goal.returns-clause-second_found
returns-clause-second_found g c = c.run-second.ensures.found

pub returns-clause-first : goal.returns-clause-first
returns-clause-first g c =
    let r = c.run-first.ensures in
    run_promised _ _ _ _ _ _ (job_of (map string_bytes c.args.words.now)) r.report r.status_0_cause r.status_1_cause r.status_2_before r.status_3_cause

pub returns-clause-second : goal.returns-clause-second
returns-clause-second g c =
    let r = c.run-second.ensures in
    run_promised _ _ _ _ _ _ (job_of (map string_bytes c.args.words.now)) r.report r.status_0_cause r.status_1_cause r.status_2_before r.status_3_cause

pub returns-clause-same : goal.returns-clause-same
returns-clause-same g c =
    let r = c.run-first.ensures in
    let s = c.run-second.ensures in
    let job = job_of (map string_bytes c.args.words.now) in
    both_same _ _ _ _ _ _ _ _ _ _ _ _ job
    (run_promised _ _ _ _ _ _ job r.report r.status_0_cause r.status_1_cause r.status_2_before r.status_3_cause)
    (run_promised _ _ _ _ _ _ job s.report s.status_0_cause s.status_1_cause s.status_2_before s.status_3_cause)
