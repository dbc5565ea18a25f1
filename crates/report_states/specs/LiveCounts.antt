-- How many states live along the seconds of a journal. The one state object stands as each entry of the journal leaves
-- it; its clock never goes back, and tells in which second an entry stands, whatever second the ask of another lane had.
use Rattle.std.specs.Prelude.{ℕ, zero, suc, ◌+◌, ◌&&◌, Bool, nat_lt, nat_le, max, if◌then◌else◌, List, [], ◌∷◌, length, drop, filter, count_by}
use Rattle.dyn_states.specs.StateObject.{StateObject, after_ask, is_live}
use Rattle.report_values.specs.declared.journal_columns.JournalColumns.{JournalColumns}
use Rattle.state_asks.specs.declared.facts.Facts.{Facts}
use Rattle.state_journal.specs.Journal.{Journal, no_states, object_after_publication}
use Rattle.state_journal.specs.declared.entry.Entry.{Entry}
use Rattle.state_journal.specs.declared.entry.Entry.TheVariants.{Publish, Ask}

-- the state object after the next publication, where these facts are left; as it is where none are
abbrev pub after_next : StateObject → List Facts → StateObject
after_next o [] = o
after_next o (next ∷ facts) = object_after_publication o next

-- the state object after an entry, before which these facts are left
abbrev pub after_entry : StateObject → List Facts → Entry → StateObject
after_entry o facts (Publish number) = after_next o facts
after_entry o facts (Ask lane op reply at) = after_ask o op

-- the facts that are left behind an entry: a publication takes the first
abbrev pub facts_behind : List Facts → Entry → List Facts
facts_behind facts (Publish number) = drop 1 facts
facts_behind facts (Ask lane op reply at) = facts

-- the state object as each of these entries leaves it, in their order
unfoldable pub objects_along : StateObject → List Facts → List Entry → List StateObject
objects_along o facts [] = []
objects_along o facts (entry ∷ entries) = after_entry o facts entry ∷ objects_along (after_entry o facts entry) (facts_behind facts entry) entries

-- how many of the object's states live at a second
abbrev pub living_at : ℕ → StateObject → ℕ
living_at second o = count_by (is_live second) o.states

-- the last of these objects to whose clock this second is still to come; the first one where there is none
unfoldable pub left_before : ℕ → StateObject → List StateObject → StateObject
left_before second o [] = o
left_before second o (next ∷ objects) = left_before second (if nat_lt next.clock second then next else o) objects

-- its clock is below the end
abbrev pub is_before : ℕ → StateObject → Bool
is_before end o = nat_lt o.clock end

-- its clock is in the seconds from the beginning to before the end
abbrev pub is_within : ℕ → ℕ → StateObject → Bool
is_within begin end o = nat_le begin o.clock && is_before end o

-- the greatest number of states that one of these objects has
unfoldable pub most_states : List StateObject → ℕ
most_states [] = 0
most_states (o ∷ objects) = max (length o.states) (most_states objects)

-- The greatest number of states that lived at once in the seconds from the beginning to before the end: at the beginning
-- live those of the states left before that haven't died until then, and behind each entry in these seconds those that
-- the object has. Between two entries no state is made.
abbrev pub most_living : ℕ → ℕ → StateObject → List StateObject → ℕ
most_living begin end o objects = max (living_at begin (left_before begin o objects)) (most_states (filter (is_within begin end) objects))

-- so it is in each of so many columns of so many seconds, the first of which begins at this second
unfoldable pub counts_from : ℕ → ℕ → ℕ → StateObject → List StateObject → List ℕ
counts_from zero begin seconds o objects = []
counts_from (suc count) begin seconds o objects = most_living begin (begin + seconds) o objects ∷ counts_from count (begin + seconds) seconds o objects

-- the greatest number of states that lived at once in each column, along a journal from no state on
abbrev pub live_counts : JournalColumns → Journal → List ℕ
live_counts columns journal =
    counts_from columns.count columns.first columns.seconds no_states (objects_along no_states journal.facts journal.entries)
