-- Commands that are accepted, one after the other.
use Rattle.std.specs.Prelude.{◌≡◌, Ok, ⊤, List, [], ◌∷◌}
use Rattle.fw_command.specs.declared.script.Line.{Line}
use Rattle.rule_edits.specs.Apply.{apply}
use Rattle.rule_chain.specs.Configuration.{Configuration}

-- the command of each line is accepted by the configuration that the lines before it left
abbrev pub AreAccepted : Configuration → List Line → Type 0
AreAccepted config [] = ⊤
AreAccepted config (line ∷ lines) = (next : Configuration) × (apply config line.command ≡ Ok next) × AreAccepted next lines
