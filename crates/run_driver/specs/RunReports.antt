-- That the report which a replay prints, with its journal and without a cache, is one of which an audit says yes.
use Rattle.std.specs.Prelude.{◌≡◌, ℕ, ◌≤◌, true, None, Some, List}
use Rattle.std.specs.Io.KnownBytes.{Appends}
use Rattle.fw_base.specs.Pairs.{Pair}
use Rattle.fw_world.specs.RecordValue.{RecordValue}
use Rattle.replay_setup.specs.Outside.{Files, Output}
use Rattle.replay_driver.specs.Promises.{IsReported}
use Rattle.replay_driver.specs.Served.{ReplayNames}
use Rattle.replay_setup.specs.declared.outcome.Outcome.{Outcome}
use Rattle.audit_driver.specs.Printed.{IsReportOf}

module _ {K S L : Type 0} (output : Output K) (files : Files L S) where
  -- the sink took the report of what stands under these names in the told list
  pub record TakesReport (names : ReplayNames) (told : List Pair) (sink sinkAfter : K) : Type 0 where
    pub report : List ℕ
    pub is : IsReportOf names.script names.captures told report
    pub took : Appends (output.written sink) (output.written sinkAfter) report

  -- In either mode, over a library that tells its list: what `run` promises where a record is kept, with a status of at
  -- most 3, says so.
  abbrev pub RunsTakeReports : Type 0
  RunsTakeReports = (names : ReplayNames) (library libraryAfter : L) (sink sinkAfter : K) (outcome : Outcome S) (kept : RecordValue) (told : List Pair)
      → names.journal ≡ true → names.cache ≡ None → files.pairs library ≡ Some told → outcome.status ≤ 3
      → IsReported output files names library libraryAfter sink sinkAfter outcome kept → TakesReport names told sink sinkAfter
