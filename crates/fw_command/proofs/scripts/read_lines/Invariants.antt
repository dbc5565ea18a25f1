use Rattle.std.proofs.Common.{◌+◌, ◌≤◌, ◌<◌, length}
use Rattle.fw_command.specs.Lines.{lines_of}
use Rattle.fw_command.specs.Scripts.{script_from, first_place}
use Rattle.fw_command.specs.DraftViews.{draft_view}
use Rattle.fw_command.proofs.ScriptSteps.{IsScripting}
use Rattle.fw_command.proofs.scripts.read_lines.Given as goal

abbrev pub invariant-loop-rest : goal.invariant-loop-rest
invariant-loop-rest l = record {
  read : IsScripting l.pace (script_from l.pace first_place (lines_of l.bytes)) (draft_view l.draft) l.place (lines_of l.rest);
  within : length l.rest ≤ length l.bytes;
  few_lines : l.place.line + length l.rest ≤ length l.bytes + 1;
  few_live : l.place.ran < l.place.line;
}

abbrev pub decreases-loop-rest : goal.decreases-loop-rest
decreases-loop-rest l = length l.rest
