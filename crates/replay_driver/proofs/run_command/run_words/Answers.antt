use Rattle.std.proofs.Common.{map}
use Rattle.std.specs.Prelude.{string_bytes}
use Rattle.replay_driver.specs.Served.{job_of}
use Rattle.replay_driver.proofs.Promised.{usage_run, found_run}
use Rattle.replay_driver.proofs.run_command.run_words.Goals as goal

pub returns-in-Ok-clause-usage : goal.returns-in-Ok-clause-usage
returns-in-Ok-clause-usage g c = λ none. usage_run _ _
    c.args.library.now c.find.new.library c.args.out.now c.report.new.out (job_of (map string_bytes c.args.words.now)) c.in-Ok.found c.report.result none c.in-Ok.ensures.finds c.report.ensures

pub returns-in-Ok-clause-found : goal.returns-in-Ok-clause-found
returns-in-Ok-clause-found g c = found_run _ _
    c.args.library.now c.find.new.library c.args.out.now c.report.new.out (job_of (map string_bytes c.args.words.now)) c.in-Ok.found c.report.result c.in-Ok.ensures.finds c.report.ensures
