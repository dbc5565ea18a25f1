-- The asks of a lane, each with the number of the last publication before it.
use Rattle.std.specs.Prelude.{◌≡◌, ℕ, ◌-◌, ◌≤◌, ◌==◌, IsSomeAnd, List, [], ◌∷◌, map, filter, slice_get}
use Rattle.std.specs.List.Sorted.{IsNonDecreasing}
use Rattle.std.specs.List.{AllByRecursion}
use Rattle.state_asks.specs.declared.op.Op.{Op}
use Rattle.state_asks.specs.declared.reply.Reply.{Reply}
use Rattle.eval_engine.specs.Dockets.{judgement_in}
use Rattle.eval_engine.specs.declared.docket_entry.DocketEntry.{DocketEntry}
use Rattle.state_journal.specs.Items.{asks_of}
use Rattle.state_journal.specs.Journal.{Journal, with_ask}
use Rattle.state_journal.specs.declared.entry.Entry.{Entry}
use Rattle.state_journal.specs.declared.entry.Entry.TheVariants.{Publish, Ask}
use Rattle.state_journal.specs.declared.entry.Item.{Item}
use Rattle.state_journal.specs.declared.entry.Item.TheVariants.{Lanes, Published, Asked}

-- an ask of a lane: the publication before it, its record, what was asked and what was replied
pub record LaneAsk : Type 0 where
  pub after : ℕ
  pub at : ℕ
  pub op : Op
  pub reply : Reply

-- the asks among a list of items; the other items hold none
abbrev pub asks_in : List Item → List LaneAsk
asks_in [] = []
asks_in (Lanes count ∷ items) = asks_in items
asks_in (Published facts ∷ items) = asks_in items
asks_in (Asked after (Publish number) ∷ items) = asks_in items
asks_in (Asked after (Ask lane op reply at) ∷ items) = record { after = after; at = at; op = op; reply = reply } ∷ asks_in items

-- the asks of a lane in a journal
abbrev pub lane_asks : ℕ → List Entry → List LaneAsk
lane_asks lane entries = asks_in (asks_of lane 0 entries)

-- the asks that a record made and their replies, all behind the same publication
abbrev pub record_asks : ℕ → ℕ → List Op → List Reply → List LaneAsk
record_asks after at [] replies = []
record_asks after at (op ∷ ops) [] = []
record_asks after at (op ∷ ops) (reply ∷ replies) = record { after = after; at = at; op = op; reply = reply } ∷ record_asks after at ops replies

-- the asks of one record among a lane's
abbrev pub asks_of_record : ℕ → List LaneAsk → List LaneAsk
asks_of_record at asks = filter (λ ask. ask.at == at) asks

-- what was asked
abbrev pub ops_of : List LaneAsk → List Op
ops_of asks = map (λ ask. ask.op) asks

-- what was answered
abbrev pub replies_of : List LaneAsk → List Reply
replies_of asks = map (λ ask. ask.reply) asks

-- the entry was judged under the edition of that number
abbrev pub IsJudgedUnder : ℕ → DocketEntry → Type 0
IsJudgedUnder number entry = IsSomeAnd (judgement_in entry) (λ judgement. judgement.edition ≡ number)

-- the ask's record has a judged entry, whose edition is the one that was published last before the ask
abbrev pub IsAskOfEntry : List DocketEntry → LaneAsk → Type 0
IsAskOfEntry entries ask = IsSomeAnd (slice_get entries (ask.at - 1)) (IsJudgedUnder ask.after)

-- A lane asks for its records in their order, for judged ones alone, and no publication falls between two
-- asks of one record.
pub record AreAsksOf (entries : List DocketEntry) (asks : List LaneAsk) : Type 0 where
  pub ordered : IsNonDecreasing (map (λ ask. ask.at) asks)
  pub numbered : AllByRecursion (λ ask. 1 ≤ ask.at) asks
  pub entered : AllByRecursion (IsAskOfEntry entries) asks

-- the journal after these asks of one record, each with its reply
abbrev pub with_asks : Journal → ℕ → ℕ → List Op → List Reply → Journal
with_asks j lane at [] replies = j
with_asks j lane at (op ∷ ops) [] = j
with_asks j lane at (op ∷ ops) (reply ∷ replies) = with_asks (with_ask j lane at op reply) lane at ops replies
