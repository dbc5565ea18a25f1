-- An ask of the journal beside the states: what a line tells of it is what they answer.
use Rattle.std.specs.Prelude.{⊤, [], ◌∷◌, ◌≡◌, ℕ, ◌+◌, ◌-◌, true, Some, IsSomeAnd, List, slice_get, length}
use Rattle.dyn_states.specs.StateObject.{StateObject, reply_of}
use Rattle.generation_store.specs.Published.{Published}
use Rattle.report_reading.specs.AskLines.{AskValue, IsAsk}
use Rattle.report_reading.specs.Readings.{LineValue, OfRecord, OfPublication, OfAsk, OfLane, OfOther}
use Rattle.state_asks.specs.declared.op.Op.{Op}
use Rattle.state_journal.specs.Journal.{Journal, with_ask, with_publication, last_rules}
use Rattle.run_audit.specs.ToldAsks.{op_under, are_told_alike}

-- Under the edition that was published last this is the ask that a line tells, and the states answer it as the line tells.
pub record IsAskTold (edition : Published) (object : StateObject) (told : AskValue) (op : Op) : Type 0 where
  pub known : op_under edition told.op told.name ≡ Some op
  pub answered : are_told_alike (reply_of object op) told.reply ≡ true

-- it was entered, with its answer
pub record IsEntered (edition : Published) (told : AskValue) (old new : Journal) : Type 0 where
  pub op : Op
  pub is : IsAskTold edition old.object told op
  pub now : new ≡ with_ask old told.lane told.at op (reply_of old.object op)

-- each edition is numbered by its place, from 1
abbrev pub AreNumbered : List Published → Type 0
AreNumbered editions = (place : ℕ) (edition : Published) → slice_get editions place ≡ Some edition → edition.number ≡ place + 1

-- the rules of the edition that was published last are those of the last facts
abbrev pub IsPublishedLast : List Published → Journal → Type 0
IsPublishedLast editions journal = IsSomeAnd (slice_get editions (length journal.facts - 1)) (λ edition. last_rules journal.facts ≡ edition.facts.rules)

-- the edition of this number is the next one, and was published
abbrev pub IsPublishedNext : List Published → ℕ → Journal → Journal → Type 0
IsPublishedNext editions number old new =
    IsSomeAnd (slice_get editions (length old.facts)) (λ edition. (number ≡ edition.number) × (new ≡ with_publication old edition.facts))

-- under the edition that was published last it was asked and answered as a line tells
abbrev pub IsAskedLast : List Published → AskValue → Journal → Journal → Type 0
IsAskedLast editions told old new = IsSomeAnd (slice_get editions (length old.facts - 1)) (λ edition. IsEntered edition told old new)

-- what the states met by a line: a publication or an ask by the line of one, nothing by others
abbrev pub IsReplayed : List Published → LineValue → Journal → Journal → Type 0
IsReplayed editions (OfRecord told) old new = new ≡ old
IsReplayed editions (OfPublication number) old new = IsPublishedNext editions number old new
IsReplayed editions (OfAsk told) old new = IsAskedLast editions told old new
IsReplayed editions (OfLane told) old new = new ≡ old
IsReplayed editions OfOther old new = new ≡ old

-- an ask that a line tells is in the ranges of its fields
abbrev pub IsAskInRange : LineValue → Type 0
IsAskInRange (OfRecord told) = ⊤
IsAskInRange (OfPublication number) = ⊤
IsAskInRange (OfAsk told) = IsAsk (told.name ∷ []) told.lane told.at told.op told.reply
IsAskInRange (OfLane told) = ⊤
IsAskInRange OfOther = ⊤
