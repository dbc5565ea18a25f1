-- The last edition as a value.
use Rattle.std.specs.Prelude.{List, [], ◌∷◌}
use Rattle.generation_store.specs.Published.{Published}
use Rattle.rule_chain.specs.First.{first_configuration}
use Rattle.state_journal.specs.Items.{no_facts}

-- the last of these editions; of none, an edition 0 that nothing publishes: each world has edition 1
abbrev pub last_published : List Published → Published
last_published [] = record { number = 0; config = first_configuration; facts = no_facts }
last_published (last ∷ []) = last
last_published (first ∷ next ∷ editions) = last_published (next ∷ editions)
