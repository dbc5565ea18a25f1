-- The text of the report: its sections one after another.
use Rattle.std.specs.Prelude.{ℕ, Bool, Option, None, Some, List, [], ◌∷◌, ◌++◌, length}
use Rattle.counter_book.specs.declared.tally.Count.{Count}
use Rattle.dyn_states.specs.StateObject.{StateObject}
use Rattle.state_texts.specs.StateTexts.{states_text}
use Rattle.eval_engine.specs.Dockets.{DocketValue}
use Rattle.generation_store.specs.Published.{Published}
use Rattle.rule_chain.specs.Configuration.{Configuration}
use Rattle.report_texts.specs.AnswerText.{answers_text}
use Rattle.report_texts.specs.DocketText.{captures_text}
use Rattle.report_texts.specs.JournalText.{hits_text, optional_journal}
use Rattle.report_texts.specs.Recorded.{Recorded}
use Rattle.report_texts.specs.RulesText.{editions_line, disabled_text, rules_text}
use Rattle.report_texts.specs.declared.capture_end.CaptureEnd.{CaptureEnd}
use Rattle.report_texts.specs.declared.ends.LineAnswer.{LineAnswer}

-- the edition that was published last
abbrev pub last_edition : List Published → Option Published
last_edition [] = None
last_edition (edition ∷ []) = Some edition
last_edition (edition ∷ next ∷ editions) = last_edition (next ∷ editions)

-- The lines of the captures' records, the answers to lines of the script, and how many editions were
-- published.
unfoldable pub start_text : List Published → List DocketValue → List CaptureEnd → List LineAnswer → List ℕ
start_text editions dockets ends answers = captures_text 1 dockets ends ++ (answers_text editions answers ++ editions_line (length editions))

-- Of the last edition's configuration the disabled sets and the rules with their counts; the clock and
-- the live states.
unfoldable pub last_text : Configuration → List (List Count) → StateObject → List ℕ
last_text config tallies object = disabled_text config.disabled ++ (rules_text tallies config.rules ++ states_text config.names object)

-- That, the hits of the caches, and the journal where it is asked for.
unfoldable pub closing_text : Recorded → Bool → Configuration → List ℕ
closing_text r journal config =
    last_text config r.tallies r.journal.object ++ (hits_text 1 r.hits ++ optional_journal journal config.names r.journal.entries r.dockets r.trackers)

-- what follows by the last edition
abbrev pub last_closing : Recorded → Bool → Option Published → List ℕ
last_closing r journal None = []
last_closing r journal (Some edition) = closing_text r journal edition.config

-- the whole report
unfoldable pub report_text : Recorded → List CaptureEnd → List LineAnswer → Bool → List ℕ
report_text r ends answers journal = start_text r.editions r.dockets ends answers ++ last_closing r journal (last_edition r.editions)
