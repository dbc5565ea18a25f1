-- A legal record of a script and of captures of bytes has a report whose lines are in their ranges.
use Rattle.std.proofs.Common.{◌≡◌, ℕ, suc, ◌+◌, ◌^◌, ◌<◌, ◌≤◌, Bool, true, false, if◌then◌else◌, is_some, Option, None, Some, IfSome, Ok, Err, List, [], ◌∷◌, ◌++◌, length, map, refl, sym, subst, arith}
use Rattle.std.specs.List.{AllByRecursion}
use Rattle.fw_base.proofs.Lists.{all_push}
use Rattle.capture_tracks.specs.Commands.{Entries, Listing, Rules, Standing, after_applied, after_command, after_line, after_lines, first_standing, line_answer, lines_outcome, listed_answer, listing_of}
use Rattle.capture_tracks.specs.Reading.{track_inputs}
use Rattle.capture_tracks.specs.Replay.{limit_for}
use Rattle.counter_book.specs.declared.tally.Count.{Count}
use Rattle.eval_engine.specs.Dockets.{DocketValue}
use Rattle.eval_engine.specs.declared.docket_entry.DocketEntry.{DocketEntry}
use Rattle.fw_command.specs.Steps.{all_lines}
use Rattle.fw_command.specs.declared.script.Line.{Line}
use Rattle.fw_command.specs.declared.script.Step.{Step}
use Rattle.fw_command.specs.declared.script.Step.TheVariants.{Run, After}
use Rattle.report_texts.specs.declared.ends.Answer.TheVariants.{Refused, Listed}
use Rattle.report_texts.specs.declared.ends.LineAnswer.{LineAnswer}
use Rattle.fw_rule.specs.declared.command.Command.{Command}
use Rattle.fw_rule.specs.declared.command.Command.TheVariants.{Add, Delete, DeleteSet, Flush, Zero, ListRules, SetMask, MoveSet, MoveRule, SwapSets, Table, Sysctl, Local}
use Rattle.fw_rule.specs.declared.table_command.TableCommand.TheVariants.{Create, Destroy, Add as AddEntry, Remove, Clear, SwapWith, ListEntries}
use Rattle.fw_world.specs.Editions.{AreEditionsFrom}
use Rattle.fw_world.specs.Entries.{EachRecord}
use Rattle.fw_world.specs.Inputs.{Input}
use Rattle.fw_world.specs.Lanes.{EachLane, LaneStands}
use Rattle.fw_world.specs.RecordValue.{RecordValue}
use Rattle.generation_store.specs.Published.{IsBuilt, Published}
use Rattle.lookup_tables.specs.Tables.{table_named}
use Rattle.rule_chain.specs.Configuration.{Configuration}
use Rattle.rule_edits.specs.Answers.{Answer as Applied}
use Rattle.rule_edits.specs.Apply.{apply}
use Rattle.rule_edits.specs.declared.apply_fault.ApplyFault.TheVariants.{NoSuchTable}
use Rattle.audit_laws.proofs.Captured.{AreGoodInputs, tracks_in_range}
use Rattle.audit_laws.proofs.KeptForms.{form_kept}
use Rattle.audit_laws.proofs.Lanes.{same_lanes}
use Rattle.audit_laws.proofs.Lists.{both}
use Rattle.audit_laws.proofs.RuleForms.{name_bytes}
use Rattle.audit_laws.specs.Captures.{RecordsAreReported}
use Rattle.audit_laws.specs.Formed.{IsFormed, IsFormedLine, IsFormedStep}
use Rattle.audit_laws.specs.Printable.{IsPrintableAnswer, IsPrintableConfig, IsPrintableInput}
use Rattle.audit_laws.specs.RuleNames.{HasNameBytes}

-- ---- the commands behind `live`

-- a listing of a table names it by the bytes of names
abbrev pub IsGoodListing : Listing → Type 0
IsGoodListing Rules = Unit {0}
IsGoodListing (Entries name) = HasNameBytes name

-- the listing of a command that the grammar yields is such a one, if it is a listing
pub listing_on : (command : Command) → IsFormed command → IfSome (listing_of command) IsGoodListing
listing_on (Add draft) formed = tt
listing_on (Delete numbers) formed = tt
listing_on (DeleteSet set) formed = tt
listing_on Flush formed = tt
listing_on (Zero numbers) formed = tt
listing_on ListRules formed = tt
listing_on (SetMask disable enable) formed = tt
listing_on (MoveSet from to) formed = tt
listing_on (MoveRule number to) formed = tt
listing_on (SwapSets first second) formed = tt
listing_on (Table name (Create type)) formed = tt
listing_on (Table name Destroy) formed = tt
listing_on (Table name (AddEntry key value)) formed = tt
listing_on (Table name (Remove key)) formed = tt
listing_on (Table name Clear) formed = tt
listing_on (Table name (SwapWith other)) formed = tt
listing_on (Table name ListEntries) formed = name_bytes 63 name formed.names
listing_on (Sysctl setting value) formed = tt
listing_on (Local addresses) formed = tt

-- answers whose tables have names
abbrev pub ArePrintableAnswers : List LineAnswer → Type 0
ArePrintableAnswers answers = AllByRecursion (λ answer. IsPrintableAnswer answer.answer) answers

-- a table that is listed has its name
listed_in_range : (there : Bool) (number : ℕ) (name : List ℕ) → HasNameBytes name → IsPrintableAnswer (if there then Listed number (Some name) else Refused NoSuchTable)
listed_in_range true number name named = named
listed_in_range false number name named = tt

-- the answer to a listing
pub answer_in_range : (config : Configuration) (number : ℕ) (listing : Listing) → IsGoodListing listing → IsPrintableAnswer (listed_answer config number listing)
answer_in_range config number Rules good = tt
answer_in_range config number (Entries name) good = listed_in_range (is_some (table_named config.tables name)) number name good

-- what stands after some lines: accepted commands, no more than so many, and answers in their ranges
record StandsFormed (lines : ℕ) (s : Standing) : Type 0 where
  accepted : AllByRecursion IsFormed s.accepted
  few : length s.accepted ≤ lines
  answers : ArePrintableAnswers s.answers

one_more : {X : Type 0} (xs : List X) (x : X) → length (xs ++ x ∷ []) ≡ suc (length xs)
one_more [] x = refl
one_more (y ∷ xs) x = omega (arith, one_more xs x)

applied_formed : (lines : ℕ) (s : Standing) (line : ℕ) (command : Command) (made : Applied Configuration) → IsFormed command → StandsFormed lines s → StandsFormed (suc lines) (after_applied s line command made)
applied_formed lines s line command (Ok made) formed is = record { accepted = all_push IsFormed s.accepted command is.accepted formed; few = omega (arith, is.few, one_more s.accepted command); answers = is.answers }
applied_formed lines s line command (Err fault) formed is =
    record { accepted = is.accepted; few = omega (arith, is.few); answers = all_push (λ answer. IsPrintableAnswer answer.answer) s.answers (line_answer line (Refused fault)) is.answers tt }

command_formed : (lines : ℕ) (s : Standing) (line : ℕ) (command : Command) (listing : Option Listing) → IsFormed command → IfSome listing IsGoodListing → StandsFormed lines s → StandsFormed (suc lines) (after_command s line command listing)
command_formed lines s line command None formed good is = applied_formed lines s line command (apply s.config command) formed is
command_formed lines s line command (Some listing) formed good is = record {
  accepted = is.accepted;
  few = omega (arith, is.few);
  answers = all_push (λ answer. IsPrintableAnswer answer.answer) s.answers (line_answer line (listed_answer s.config s.number listing)) is.answers (answer_in_range s.config s.number listing good);
}

lines_formed : (before : ℕ) (s : Standing) (lines : List Line) → AllByRecursion IsFormedLine lines → StandsFormed before s → StandsFormed (before + length lines) (after_lines s lines)
unfolding after_lines
lines_formed before s [] formed is = record { accepted = is.accepted; few = omega (arith, is.few); answers = is.answers }
lines_formed before s (line ∷ lines) formed is =
    let place : suc before + length lines ≡ before + length (line ∷ lines) = omega arith in
    subst (λ (n : ℕ). StandsFormed n (after_lines (after_line s line) lines)) place
    (lines_formed (suc before) (after_line s line) lines formed.1 (command_formed before s line.line line.command (listing_of line.command) formed.0 (listing_on line.command formed.0) is))

all_formed : (steps : List Step) → AllByRecursion IsFormedStep steps → AllByRecursion IsFormedLine (all_lines steps) × (length (all_lines steps) ≤ length steps)
all_formed [] formed = (tt, omega arith)
all_formed (Run line ∷ steps) formed = let others = all_formed steps formed.1 in ((formed.0, others.0), omega (arith, others.1))
all_formed (After count ∷ steps) formed = let others = all_formed steps formed.1 in (others.0, omega (arith, others.1))

-- what the steps come to
outcome_formed : (config : Configuration) (steps : List Step) → AllByRecursion IsFormedStep steps → StandsFormed (length steps) (lines_outcome config steps)
outcome_formed config steps formed =
    let lines = all_formed steps formed in
    let stands = lines_formed 0 (first_standing config) (all_lines steps) lines.0 (record { accepted = tt; few = omega arith; answers = tt }) in
    record { accepted = stands.accepted; few = omega (arith, stands.few, lines.1); answers = stands.answers }

-- ---- editions

built_in_range : (number : ℕ) (config : Configuration) (edition : Published) → IsPrintableConfig config → IsBuilt number config edition → IsPrintableConfig edition.config
built_in_range number config edition is built = subst IsPrintableConfig (sym built.configured) is

-- as many editions as commands and one more, and each in its ranges
editions_in_range : (number : ℕ) (config : Configuration) (commands : List Command) (editions : List Published) → IsPrintableConfig config → AllByRecursion IsFormed commands → AreEditionsFrom number config commands editions
    → AllByRecursion (λ edition. IsPrintableConfig edition.config) editions × (length editions ≡ suc (length commands))
editions_in_range number config commands [] is formed are = absurd are
editions_in_range number config [] (edition ∷ []) is formed are = ((built_in_range number config edition is are, tt), refl)
editions_in_range number config [] (edition ∷ next ∷ editions) is formed are = absurd are
editions_in_range number config (command ∷ commands) (edition ∷ editions) is formed (built, made, applies, others) =
    let rest = editions_in_range (number + 1) made commands editions (form_kept config made command is formed.0 applies) formed.1 others in
    ((built_in_range number config edition is built, rest.0), omega (arith, rest.1))

-- ---- dockets

entries_count : (P : ℕ → Input → DocketEntry → Type 0) (at : ℕ) (inputs : List Input) (entries : List DocketEntry) → EachRecord P at inputs entries → length entries ≡ length inputs
entries_count P at [] [] each = refl
entries_count P at [] (entry ∷ entries) each = absurd each
entries_count P at (input ∷ inputs) [] each = absurd each
entries_count P at (input ∷ inputs) (entry ∷ entries) each = omega (arith, entries_count P (at + 1) inputs entries each.1)

limit_fits : (captures : ℕ) → limit_for captures < 2 ^ 64
limit_fits captures = omega arith

dockets_in_range : (r : RecordValue) (captures lane : ℕ) (inputs : List (List Input)) (dockets : List DocketValue) (tallies : List (List Count)) (trackers : List ℕ) → AllByRecursion (AreGoodInputs (limit_for captures)) inputs
    → EachLane (LaneStands r) lane inputs dockets tallies trackers → AllByRecursion (λ docket. length docket.entries < 2 ^ 64) dockets
dockets_in_range r captures lane inputs [] tallies trackers good each = tt
dockets_in_range r captures lane [] (docket ∷ dockets) tallies trackers good each = absurd each
dockets_in_range r captures lane (own ∷ inputs) (docket ∷ dockets) [] trackers good each = absurd each
dockets_in_range r captures lane (own ∷ inputs) (docket ∷ dockets) (tally ∷ tallies) [] good each = absurd each
dockets_in_range r captures lane (own ∷ inputs) (docket ∷ dockets) (tally ∷ tallies) (tracker ∷ trackers) good each =
    let few = good.0.few in
    let count = entries_count _ 1 own docket.entries each.0.entered in
    (omega (arith, few, count, limit_fits captures), dockets_in_range r captures (lane + 1) inputs dockets tallies trackers good.1 each.1)

inputs_good : (limit : ℕ) (inputs : List (List Input)) → AllByRecursion (AreGoodInputs limit) inputs → AllByRecursion (λ own. AllByRecursion IsPrintableInput own) inputs
inputs_good limit [] good = tt
inputs_good limit (own ∷ inputs) good = (good.0.each, inputs_good limit inputs good.1)

-- ---- a record

-- a legal record of a script and of captures of bytes has a report whose lines are in their ranges
pub records_are_reported : {S : Type 0} (left : S → Option (List ℕ)) (faults : S → ℕ) → RecordsAreReported left faults
records_are_reported left faults config first steps captures sources tracks ends r script told read legal uncached =
    let inputs : List (List Input) = map track_inputs tracks in
    let known = tracks_in_range left faults (limit_for (length captures)) captures sources tracks ends told.told read in
    let outcome = outcome_formed config steps script.formed in
    let editions = editions_in_range 1 config (lines_outcome config steps).accepted r.editions script.printable outcome.accepted legal.editions in
    let lanes = same_lanes (LaneStands r) 1 inputs r.dockets r.tallies r.trackers legal.lanes in
    record {
      legal = legal;
      printable = record {
        captures = omega (arith, lanes.0, known.2, told.few);
        ended = omega (arith, known.1, lanes.0);
        few = omega (arith, editions.1, outcome.few, script.few);
        editions = editions.0;
        records = dockets_in_range r (length captures) 1 inputs r.dockets r.tallies r.trackers known.0 legal.lanes;
        captured = inputs_good (limit_for (length captures)) inputs known.0;
        uncached = uncached;
        listings = both (λ answer. IsPrintableAnswer answer.answer) first (lines_outcome config steps).answers script.listings outcome.answers;
      };
    }
