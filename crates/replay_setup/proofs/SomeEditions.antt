-- A record has an edition.
use Rattle.std.proofs.Common.{ℕ, ◌<◌, List, [], ◌∷◌, length, arith}
use Rattle.fw_rule.specs.declared.command.Command.{Command}
use Rattle.fw_world.specs.Editions.{AreEditionsFrom}
use Rattle.generation_store.specs.Published.{Published}
use Rattle.rule_chain.specs.Configuration.{Configuration}

-- what a configuration and commands make has one edition at least
pub some_editions : (number : ℕ) (config : Configuration) (commands : List Command) (editions : List Published) → AreEditionsFrom number config commands editions → 0 < length editions
some_editions number config commands [] are = absurd are
some_editions number config commands (edition ∷ editions) are = omega arith
