use Rattle.audit_laws.proofs.Rebuilding.{rebuilt_records_print_alike}
use Rattle.audit_laws.proofs.laws.rebuilt_records_print_alike.Goals as goal

pub returns : goal.returns
returns c = rebuilt_records_print_alike
