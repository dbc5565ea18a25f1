use Rattle.pcap_read.proofs.Exact.{whole_run, exact_run, exact_refusal}
use Rattle.pcap_read.proofs.counting.count_records.Goals as goal

pub returns-in-Ok-clause-counted : goal.returns-in-Ok-clause-counted
returns-in-Ok-clause-counted g c = whole_run g.S.Source.left g.S.Source.faults c.args.limit c.args.source c.in-Ok.capture c.count_rest-records.new.capture c.close.result _ _ c.in-Ok.ensures c.count_rest-records.ensures c.close.ensures

pub returns-in-Ok-clause-exact : goal.returns-in-Ok-clause-exact
returns-in-Ok-clause-exact g c = λ whole told.
    exact_run g.S.Source.left g.S.Source.faults c.args.limit c.args.source c.close.result _ _ whole
    (whole_run g.S.Source.left g.S.Source.faults c.args.limit c.args.source c.in-Ok.capture c.count_rest-records.new.capture c.close.result _ _ c.in-Ok.ensures c.count_rest-records.ensures c.close.ensures) told

pub returns-in-Err-clause-exact_fault : goal.returns-in-Err-clause-exact_fault
returns-in-Err-clause-exact_fault g c = λ whole told. exact_refusal g.S.Source.left g.S.Source.faults c.args.limit c.args.source c.in-Err.refused whole c.in-Err.ensures told
