-- What stands behind `live`.
use Rattle.std.specs.Prelude.{List, [], ◌∷◌}
use Rattle.fw_command.specs.declared.script.Line.{Line}
use Rattle.fw_command.specs.declared.script.Step.{Step}
use Rattle.fw_command.specs.declared.script.Step.TheVariants.{Run, After}

-- all lines of these steps, whatever they wait for
abbrev pub all_lines : List Step → List Line
all_lines [] = []
all_lines (Run line ∷ steps) = line ∷ all_lines steps
all_lines (After count ∷ steps) = all_lines steps
