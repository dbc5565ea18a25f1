-- The journal that a report tells, under the editions that its script makes: its publications are those of the editions
-- in order, each of its asks is one under the edition that was published last, and each reply is that of the states after
-- all that was asked and published before.
use Rattle.std.specs.Prelude.{ℕ, ◌+◌, false, ◌==◌, if◌then◌else◌, Option, Some, None, List, [], ◌∷◌, slice_get, length}
use Rattle.state_asks.specs.declared.facts.Facts.{Facts}
use Rattle.dyn_states.specs.StateObject.{reply_of}
use Rattle.generation_store.specs.Published.{Published}
use Rattle.report_reading.specs.AskLines.{AskValue}
use Rattle.report_reading.specs.Readings.{LineValue, OfRecord, OfPublication, OfAsk, OfLane, OfOther}
use Rattle.fw_base.specs.Chain.{◌>>=◌}
use Rattle.state_asks.specs.declared.op.Op.{Op}
use Rattle.state_journal.specs.Journal.{Journal, no_states, with_ask, with_publication}
use Rattle.run_audit.specs.ToldAsks.{op_under, are_told_alike}

-- the journal of 16 lanes that nothing was entered in
abbrev pub no_journal : Journal
no_journal = record { lanes = 16; facts = []; entries = []; object = no_states; ready = false }

-- the edition that was published last, where these facts were; none before the first publication
abbrev pub edition_in_force : List Published → List Facts → Option Published
edition_in_force editions [] = None
edition_in_force editions (first ∷ facts) = slice_get editions (length facts)

-- the journal with the publication of an edition, where it has this number
abbrev pub published_under : ℕ → Journal → Published → Option Journal
published_under number journal edition = if edition.number == number then Some (with_publication journal edition.facts) else None

-- the journal with the publication of this number, where that is the next of these editions
abbrev pub with_next : List Published → ℕ → Journal → Option Journal
with_next editions number journal = slice_get editions (length journal.facts) >>= published_under number journal

-- the journal with an ask, where the states answer it as it is told
abbrev pub answered_as : AskValue → Journal → Op → Option Journal
answered_as told journal op =
    if are_told_alike (reply_of journal.object op) told.reply then Some (with_ask journal told.lane told.at op (reply_of journal.object op)) else None

-- The journal with what a line tells: the publication of the edition that is next, or an ask under the edition that was
-- published last; nothing where it is neither. Others leave it.
abbrev pub with_line : List Published → LineValue → Journal → Option Journal
with_line editions (OfRecord told) journal = Some journal
with_line editions (OfPublication number) journal = with_next editions number journal
with_line editions (OfAsk told) journal = do
  edition ← edition_in_force editions journal.facts
  op ← op_under edition told.op told.name
  answered_as told journal op
with_line editions (OfLane told) journal = Some journal
with_line editions OfOther journal = Some journal

-- what a journal that is told comes to: the journal, or the number of the first line that is wrong
pub data ToldJournal : Type 0 where
  Lawful : Journal → ToldJournal
  WrongAt : ℕ → ToldJournal

-- the first line that is wrong, if one is
abbrev pub wrong_line : ToldJournal → Option ℕ
wrong_line (Lawful journal) = None
wrong_line (WrongAt line) = Some line

-- where no line is left, each edition was published; else the line behind the last one lacks
abbrev pub at_the_end : List Published → ℕ → Journal → ToldJournal
at_the_end editions line journal = if length journal.facts == length editions then Lawful journal else WrongAt line

-- what follows a line, where that isn't wrong
abbrev pub or_wrong : ℕ → (Journal → ToldJournal) → Option Journal → ToldJournal
or_wrong line goes_on None = WrongAt line
or_wrong line goes_on (Some journal) = goes_on journal

-- the journal that lines tell behind this one, or the first of them that is wrong; the first has this number
unfoldable pub replay : List Published → ℕ → List LineValue → Journal → ToldJournal
replay editions line [] journal = at_the_end editions line journal
replay editions line (value ∷ values) journal = or_wrong line (replay editions (line + 1) values) (with_line editions value journal)
