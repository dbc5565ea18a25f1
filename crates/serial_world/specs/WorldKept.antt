-- What holds of every world, and how one is opened.
use Rattle.std.specs.Prelude.{◌≡◌, ℕ, ◌≤◌, false, [], ◌∷◌}
use Rattle.generation_store.specs.Published.{Published, IsBuilt}
use Rattle.rule_chain.specs.Configuration.{Configuration}
use Rattle.state_journal.specs.Journal.{first_journal}
use Rattle.fw_world.specs.Editions.{AreNumbered}
use Rattle.fw_world.specs.Publications.{IsPublished}
use Rattle.fw_world.specs.World.{WorldValue, published_count}

-- The editions are numbered from 1, the journal is theirs, and no publication is under way.
pub record IsWorld (world : WorldValue) : Type 0 where
  pub begun : 1 ≤ published_count world
  pub numbered : AreNumbered 1 world.editions
  pub published : IsPublished world.editions world.journal
  pub still : world.journal.ready ≡ false

-- a world of so many lanes that shows this configuration as edition 1
pub record IsNewWorld (config : Configuration) (lanes : ℕ) (world : WorldValue) : Type 0 where
  pub edition : Published
  pub built : IsBuilt 1 config edition
  pub editions : world.editions ≡ edition ∷ []
  pub journal : world.journal ≡ first_journal lanes edition.facts
