use Rattle.std.proofs.Common.{◌-◌, length}
use Rattle.ipfw_parser.specs.Views.{list_of}
use Rattle.ipfw_parser.proofs.Steps.Options.{IsPlacing}
use Rattle.ipfw_parser.proofs.placed.options.Given as goal

abbrev pub invariant-loop-step : goal.invariant-loop-step
invariant-loop-step l = IsPlacing l.end (list_of l.words) l.found.items l.made l.state_at (length l.words.tokens.now - l.step) (list_of l.rest)
