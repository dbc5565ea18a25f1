use Rattle.std.proofs.Common.{◌≡◌, take}
use Rattle.std.specs.List.{filter}
use Rattle.run_audit.specs.Indexes.{is_of_lane}
use Rattle.run_audit.specs.Numbering.{picked}
use Rattle.run_audit.proofs.ask_index.asks_of_lane.Given as goal

abbrev pub invariant-loop-one : goal.invariant-loop-one
invariant-loop-one l = l.own.items ≡ filter (is_of_lane l.lane) (picked l.stands (take l.one-index l.places))
