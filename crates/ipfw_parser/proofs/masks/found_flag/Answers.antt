use Rattle.std.proofs.Common.{sym, ◌∙◌, ap}
use Rattle.ipfw_parser.specs.Lists.{found_flag}
use Rattle.ipfw_parser.proofs.Steps.Masks.{place-map}
use Rattle.ipfw_parser.proofs.masks.found_flag.Goals as goal

pub returns-in-Some-clause-value : goal.returns-in-Some-clause-value
returns-in-Some-clause-value c = ap (found_flag c.args.word.column) (place-map c.args.names.now c.args.word.text.now ∙ sym c.in-Some.ensures.place)

pub returns-in-None-clause-value : goal.returns-in-None-clause-value
returns-in-None-clause-value c = rw c.fault.ensures (ap (found_flag c.args.word.column) (place-map c.args.names.now c.args.word.text.now ∙ sym c.in-None.ensures.place))
