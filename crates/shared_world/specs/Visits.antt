-- How a lane in a section asks the states: each ask is one visit to the book.
use Rattle.std.specs.Prelude.{◌≡◌, ℕ, ◌+◌, ◌≤◌, false, Option, Some, None, List, [], ◌∷◌, ◌++◌, length, unwrap_or}
use Rattle.atomic_table.specs.Seated.{TableId}
use Rattle.generation_store.specs.Published.{Published}
use Rattle.rm_lock.specs.Tokens.{TokenState}
use Rattle.rm_table.specs.Moves.{spent_view}
use Rattle.rule_chain.specs.Configuration.{Configuration}
use Rattle.rule_chain.specs.First.{first_configuration}
use Rattle.state_asks.specs.declared.facts.Facts.{Facts}
use Rattle.state_asks.specs.declared.op.Op.{Op}
use Rattle.state_asks.specs.declared.reply.Reply.{Reply}
use Rattle.state_journal.specs.Items.{no_facts}
use Rattle.state_journal.specs.Journal.{Journal}
use Rattle.state_journal.specs.declared.entry.Entry.TheVariants.{Ask}
use Rattle.state_journal.specs.declared.entry.Item.{Item}
use Rattle.state_journal.specs.declared.entry.Item.TheVariants.{Asked}
use Rattle.shared_world.specs.Known.{Known, SharedEdition}
use Rattle.shared_world.specs.LaneKept.{IsOfBook, ReadsSeen}
use Rattle.shared_world.specs.SharedLane.{edition_read}

-- what the lane's seat knows while it asks, and how many asks were answered
pub record AskingValue : Type 0 where
  pub lock : TableId
  pub view : Known
  pub asks : ℕ

-- the edition that is read; an edition 0 that nothing publishes stands for none
abbrev pub edition_of : Known → Published
edition_of v = unwrap_or (edition_read v) (record { number = 0; config = first_configuration; facts = no_facts })

-- what the seat knows but for the book, its own list, how often it took the book, and its steps
abbrev pub steady_view : Known → Known
steady_view v = record v { book = None; ready = false; stale = false; steps = []; part = record v.part { own = []; book_taken = 0 } }

-- The book was taken once and given back, with this as the list of the seat, and nothing else happened.
pub record VisitsBook (before after : Known) (own : List Item) : Type 0 where
  pub steady : steady_view after ≡ steady_view before
  pub taken : after.part.book_taken ≡ before.part.book_taken + 1
  pub own_is : after.part.own ≡ own

-- an ask for that record was answered so
abbrev pub AsksOnce : Known → ℕ → Op → Reply → Known → Type 0
AsksOnce before at op reply after = VisitsBook before after (before.part.own ++ Asked before.part.held (Ask before.place op reply at) ∷ [])

-- an ask wanted memory
abbrev pub MissesOnce : Known → Known → Type 0
MissesOnce before after = VisitsBook before after before.part.own

-- what is known of the lane's seat, where it has it
abbrev pub view_in : Option (TokenState SharedEdition Journal Facts Configuration Item) → Known
view_in None = spent_view
view_in (Some token) = token.view

-- The seat is there, is of this lock, and reads what it saw; and its own list has each ask that was answered.
pub record IsAskingBy (lock : TableId) (reading : Option (TokenState SharedEdition Journal Facts Configuration Item)) (asks : ℕ) : Type 0 where
  pub token : TokenState SharedEdition Journal Facts Configuration Item
  pub is_there : reading ≡ Some token
  pub of_lock : token.table_id ≡ lock
  pub reads : ReadsSeen token.view
  pub of_book : IsOfBook token.view
  pub counted : asks ≤ length token.view.part.own
