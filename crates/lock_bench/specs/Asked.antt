-- What an ask does to a book of the states.
use Rattle.std.specs.Prelude.{◌≡◌, ℕ, ◌⊎◌}
use Rattle.state_asks.specs.declared.op.Op.{Op}
use Rattle.state_asks.specs.declared.reply.Reply.{Reply}
use Rattle.state_journal.specs.Journal.{Journal, with_ask}

-- the book is as it was, or has met one ask more of this lane
abbrev pub IsAskedBy : ℕ → Journal → Journal → Type 0
IsAskedBy lane before after = (after ≡ before) ⊎ ((at : ℕ) × (op : Op) × (reply : Reply) × (after ≡ with_ask before lane at op reply))
