-- The asks of a journal in its order, each with what is tested of its place.
use Rattle.std.specs.Prelude.{ℕ, ◌+◌, nat_lt, max, Bool, ◌&&◌, ◌==◌, not, Option, Some, None, List, [], ◌∷◌, slice_index, slice_set, slice_get, replicate, filter_map, option_and_then}
use Rattle.std.specs.List.{cons_option}
use Rattle.state_asks.specs.declared.op.Op.{Op}
use Rattle.state_asks.specs.declared.reply.Reply.{Reply}
use Rattle.state_journal.specs.declared.entry.Entry.{Entry}
use Rattle.state_journal.specs.declared.entry.Entry.TheVariants.{Publish, Ask}
use Rattle.fw_world.specs.Asks.{LaneAsk}
use Rattle.run_audit.specs.declared.ask_stands.AskStand.{AskStand}

-- how far a journal was read: the greatest record that each lane has asked for, and the last publication
pub record SweepValue : Type 0 where
  pub greatest : List ℕ
  pub after : ℕ

-- so many lanes an entry can name
unfoldable pub most_lanes : ℕ
most_lanes = 65536

-- nothing was read of a journal of so many lanes
abbrev pub no_sweep : ℕ → SweepValue
no_sweep lanes = record { greatest = replicate lanes 0; after = 0 }

-- what is kept of the entry in this place, where it is an ask
abbrev pub stand_of : SweepValue → ℕ → Entry → Option AskStand
stand_of sweep place (Publish number) = None
stand_of sweep place (Ask lane op reply at) =
    Some (record { lane = lane; at = at; place = place; after = sweep.after; is_late = nat_lt at (slice_index sweep.greatest lane) })

-- the journal was read beyond this entry
abbrev pub swept : SweepValue → Entry → SweepValue
swept sweep (Publish number) = record sweep { after = number }
swept sweep (Ask lane op reply at) = record sweep { greatest = slice_set sweep.greatest lane (max (slice_index sweep.greatest lane) at) }

-- what is kept of these entries, the first of which stands in this place
abbrev pub stands_from : SweepValue → ℕ → List Entry → List AskStand
stands_from sweep place [] = []
stands_from sweep place (entry ∷ entries) = cons_option (stand_of sweep place entry) (stands_from (swept sweep entry) (place + 1) entries)

-- what is kept of a journal of these entries
abbrev pub stands_of : List Entry → List AskStand
stands_of entries = stands_from (no_sweep most_lanes) 0 entries

-- it is an ask of this record
abbrev pub is_asked_for : ℕ → ℕ → AskStand → Bool
is_asked_for lane at stand = stand.lane == lane && stand.at == at

-- what an entry asks, and what is answered, where it is an ask
abbrev pub asked_by : Entry → Option (Op × Reply)
asked_by (Publish number) = None
asked_by (Ask lane op reply at) = Some (op, reply)

-- what is asked in this place, and what is answered
abbrev pub asked_at : List Entry → ℕ → Option (Op × Reply)
asked_at entries place = option_and_then asked_by (slice_get entries place)

-- what these ask, with their answers
abbrev pub asked_by_each : List Entry → List AskStand → List (Op × Reply)
asked_by_each entries stands = filter_map (λ stand. asked_at entries stand.place) stands

-- what an ask of a lane asks, and what is answered
abbrev pub asked_of : LaneAsk → Op × Reply
asked_of ask = (ask.op, ask.reply)

-- the ask was made under this edition, and not behind one of a later record of its lane
abbrev pub is_timely : ℕ → AskStand → Bool
is_timely edition stand = stand.after == edition && not stand.is_late
