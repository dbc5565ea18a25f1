-- What a commit does.
use Rattle.std.specs.Prelude.{◌≡◌, ℕ, Result, IfOk, OnOk, IfErr, OnErr, List, [], ◌∷◌, ◌++◌, length}
use Rattle.fw_rule.specs.declared.command.Command.{Command}
use Rattle.fw_world.specs.CommitFaults.{IsCauseOf}
use Rattle.fw_world.specs.Editions.{IsNextEdition}
use Rattle.fw_world.specs.declared.commit_fault.CommitFault.{CommitFault}
use Rattle.generation_store.specs.Published.{Published}
use Rattle.rule_chain.specs.Configuration.{Configuration}
use Rattle.shared_world.specs.SharedDesk.{SharedDesk, AreOnBook}
use Rattle.shared_world.specs.Standing.{DeskStandsFor}

-- What the command makes of the last edition was published as the next one, and stands last.
pub record Publishes (before after : SharedDesk) (command : Command) : Type 0 where
  pub edition : Published
  pub next : IsNextEdition before.editions command edition
  pub editions : after.editions ≡ before.editions ++ edition ∷ []

-- Nothing was published, and nobody was held up: the desk is as it was, and made no step but on the word that
-- tells who has the book. So no token was revoked.
pub record StaysAsItWas (before after : SharedDesk) : Type 0 where
  pub more : List (ℕ × ℕ)
  pub on_book : AreOnBook more
  pub after_is : after ≡ record before { steps = before.steps ++ more }

-- A command made the next edition and it was published, or it is refused, or memory was wanted.
pub record Commits (before after : SharedDesk) (command : Command) (result : Result ℕ CommitFault) : Type 0 where
  pub published : OnOk result (Publishes before after command)
  pub number : IfOk result (λ number. number ≡ length after.editions)
  -- the desk stands for one command more
  pub accepts : OnOk result ((first : Configuration) (commands : List Command) → DeskStandsFor before first commands → DeskStandsFor after first (commands ++ command ∷ []))
  pub cause : IfErr result (IsCauseOf before.editions command)
  pub unchanged : OnErr result (StaysAsItWas before after)
  -- whatever comes out, it is the desk of its world, and knows how many lanes that has
  pub world : after.world ≡ before.world
  pub lanes : after.lanes ≡ before.lanes
