-- What the lock knows, where its editions are configurations and its book is that of the states.
use Rattle.std.specs.Prelude.{length}
use Rattle.std.specs.Arc.{arc_value}
use Rattle.std.specs.declared.sync.Arc.{Arc}
use Rattle.std.proofs.Common.{Global}
use Rattle.generation_store.specs.Published.{Published}
use Rattle.rm_table.specs.Meanings.{Meanings}
use Rattle.rm_table.specs.declared.view.View.{View}
use Rattle.rule_chain.specs.Configuration.{Configuration}
use Rattle.state_asks.specs.declared.facts.Facts.{Facts}
use Rattle.state_journal.specs.Items.{items_of, last_facts}
use Rattle.state_journal.specs.Journal.{Journal}
use Rattle.state_journal.specs.declared.entry.Item.{Item}
use Rattle.state_journal.specs.declared.entry.Item.TheVariants as item

-- an edition, of which each processor has a share
abbrev pub SharedEdition : Type 0
SharedEdition = Arc Published Global

-- what a seat of the lock knows
abbrev pub Known : Type 0
Known = View SharedEdition Journal Facts Configuration Item

-- what editions and book mean to the lock
abbrev pub means : Meanings SharedEdition Journal Facts Configuration Item
means = record {
  number = λ e. (arc_value e).number;
  tag = λ e. (arc_value e).facts;
  name = λ e. (arc_value e).config;
  book_number = λ j. length j.facts;
  book_tag = λ j. last_facts j.facts;
  book_ready = λ j. j.ready;
  of = items_of;
  item = λ facts. item.Published facts;
}
