-- What contracts see of a desk: who publishes the editions of a shared world.
use Rattle.std.specs.Prelude.{◌≡◌, ℕ, List, [], ◌∷◌}
use Rattle.std.specs.List.{AllByRecursion}
use Rattle.atomic_table.specs.Seated.{TableId}
use Rattle.generation_store.specs.Published.{Published, IsBuilt}
use Rattle.rm_table.specs.Layout.{book_index}
use Rattle.rule_chain.specs.Configuration.{Configuration}

-- Its world, and how many lanes that has; the editions that were published, in order; and each step that it
-- made on a word of the lock, with what the step found or stored.
pub record SharedDesk : Type 0 where
  pub world : TableId
  pub lanes : ℕ
  pub editions : List Published
  pub steps : List (ℕ × ℕ)

-- The desk of a new world of so many lanes, which shows the configuration as edition 1 and has made no step.
pub record IsNewDesk (config : Configuration) (lanes : ℕ) (world : TableId) (desk : SharedDesk) : Type 0 where
  pub edition : Published
  pub built : IsBuilt 1 config edition
  pub is : desk ≡ record { world = world; lanes = lanes; editions = edition ∷ []; steps = [] }

-- each of these steps is on the word that tells who has the book
abbrev pub AreOnBook : List (ℕ × ℕ) → Type 0
AreOnBook steps = AllByRecursion (λ step. step.0 ≡ book_index) steps
