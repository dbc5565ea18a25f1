use Rattle.record_laws.proofs.OneReplay.{contents_determine_reports}
use Rattle.record_laws.proofs.laws.contents_determine_reports.Goals as goal

pub returns : goal.returns
returns g c = contents_determine_reports _ _ _ _
