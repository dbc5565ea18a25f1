use Rattle.record_laws.proofs.KeptOrder.{captures_keep_their_order}
use Rattle.record_laws.proofs.laws.captures_keep_their_order.Goals as goal

pub returns : goal.returns
returns c = captures_keep_their_order
