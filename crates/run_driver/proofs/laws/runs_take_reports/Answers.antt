use Rattle.run_driver.proofs.RunReports.{runs_take_reports}
use Rattle.run_driver.proofs.laws.runs_take_reports.Goals as goal

pub returns : goal.returns
returns g c = runs_take_reports _ _
