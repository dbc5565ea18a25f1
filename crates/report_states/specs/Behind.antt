-- The journal that lines tell, by the script behind them, and why there is none.
use Rattle.std.specs.Prelude.{◌≡◌, ⊤, ℕ, Ok, Err, List}
use Rattle.fw_command.specs.declared.script.Pace.TheVariants.{Serial}
use Rattle.generation_store.specs.Published.{Published}
use Rattle.replay_setup.specs.FirstEdition.{first_edition}
use Rattle.replay_setup.specs.declared.first_edition.FirstEdition.{FirstEdition}
use Rattle.report_values.specs.declared.journal_columns.JournalColumns.{JournalColumns}
use Rattle.run_audit.specs.Audit.{FailsAtOpening, IsOpened}
use Rattle.state_journal.specs.Journal.{Journal, IsLawfulFrom, no_states}
use Rattle.report_states.specs.LiveCounts.{live_counts}
use Rattle.report_states.specs.declared.states_fault.StatesFault.{StatesFault}
use Rattle.report_states.specs.declared.states_fault.StatesFault.TheVariants.{Script, Line, OutOfMemory}

-- The script makes editions, and under them the lines tell this journal: each publication is that of the next of them,
-- and each reply that of the states.
pub record IsJournalBehind (script lines : List ℕ) (journal : Journal) : Type 0 where
  pub first : FirstEdition
  pub made : first_edition Serial script ≡ Ok first
  pub editions : List Published
  pub opened : IsOpened first.config first.live lines editions journal

-- These are the counts of the columns, by that journal, which is lawful: each entry is what the states meet after those
-- before it.
pub record AreLiveCounts (script lines : List ℕ) (columns : JournalColumns) (counts : List ℕ) : Type 0 where
  pub journal : Journal
  pub behind : IsJournalBehind script lines journal
  pub lawful : IsLawfulFrom no_states journal.facts journal.entries
  pub counted : counts ≡ live_counts columns journal

-- The script makes editions, and this line is the first that is wrong under them.
pub record IsWrongLine (script lines : List ℕ) (line : ℕ) : Type 0 where
  pub first : FirstEdition
  pub made : first_edition Serial script ≡ Ok first
  pub fails : FailsAtOpening first.config first.live lines line

-- why there are no counts; want of memory needs no cause
abbrev pub HasCause : List ℕ → List ℕ → StatesFault → Type 0
HasCause script lines (Script error) = first_edition Serial script ≡ Err error
HasCause script lines (Line line) = IsWrongLine script lines line
HasCause script lines OutOfMemory = ⊤
