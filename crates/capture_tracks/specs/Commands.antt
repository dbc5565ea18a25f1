-- The commands behind `live`: each is applied to the configuration that stands then, or refused; a listing
-- is answered by the edition that stands then (ipfw(8)).
use Rattle.std.specs.Prelude.{ℕ, ◌+◌, is_some, if◌then◌else◌, Option, Some, None, Ok, Err, List, [], ◌∷◌, ◌++◌}
use Rattle.fw_command.specs.declared.script.Line.{Line}
use Rattle.fw_command.specs.declared.script.Step.{Step}
use Rattle.fw_command.specs.Steps.{all_lines}
use Rattle.report_texts.specs.declared.ends.Answer.{Answer}
use Rattle.report_texts.specs.declared.ends.Answer.TheVariants.{Refused, Listed}
use Rattle.report_texts.specs.declared.ends.LineAnswer.{LineAnswer}
use Rattle.fw_rule.specs.declared.command.Command.{Command}
use Rattle.fw_rule.specs.declared.command.Command.TheVariants.{Add, Delete, DeleteSet, Flush, Zero, ListRules, SetMask, MoveSet, MoveRule, SwapSets, Table, Sysctl, Local}
use Rattle.fw_rule.specs.declared.table_command.TableCommand.{TableCommand}
use Rattle.fw_rule.specs.declared.table_command.TableCommand.TheVariants as entries
use Rattle.lookup_tables.specs.Tables.{table_named}
use Rattle.rule_edits.specs.Answers.{Answer as Applied}
use Rattle.rule_edits.specs.Apply.{apply}
use Rattle.rule_chain.specs.Configuration.{Configuration}
use Rattle.rule_edits.specs.declared.apply_fault.ApplyFault.TheVariants.{NoSuchTable}

-- what a listing asks for: the rules, or the entries of a table
pub data Listing : Type 0 where
  Rules : Listing
  Entries : List ℕ → Listing

-- `table NAME list` is a listing, and no other command on a table
abbrev pub listing_of_table : List ℕ → TableCommand → Option Listing
listing_of_table name (entries.Create type) = None
listing_of_table name entries.Destroy = None
listing_of_table name (entries.Add key value) = None
listing_of_table name (entries.Remove key) = None
listing_of_table name entries.Clear = None
listing_of_table name (entries.SwapWith other) = None
listing_of_table name entries.ListEntries = Some (Entries name)

-- the listing that a command is, if it is one; all others change the configuration
abbrev pub listing_of : Command → Option Listing
listing_of (Add draft) = None
listing_of (Delete numbers) = None
listing_of (DeleteSet set) = None
listing_of Flush = None
listing_of (Zero numbers) = None
listing_of ListRules = Some Rules
listing_of (SetMask disable enable) = None
listing_of (MoveSet from to) = None
listing_of (MoveRule number to) = None
listing_of (SwapSets first second) = None
listing_of (Table name command) = listing_of_table name command
listing_of (Sysctl setting value) = None
listing_of (Local addresses) = None

-- the answer under its line
abbrev pub line_answer : ℕ → Answer → LineAnswer
line_answer line answer = record { line = line; answer = answer }

-- a listing is answered by the edition of this number and configuration; one of no table is refused
abbrev pub listed_answer : Configuration → ℕ → Listing → Answer
listed_answer config number Rules = Listed number None
listed_answer config number (Entries name) = if is_some (table_named config.tables name) then Listed number (Some name) else Refused NoSuchTable

-- The configuration that stands, its number, the commands that were accepted, and the answers, each so far.
pub record Standing : Type 0 where
  pub config : Configuration
  pub number : ℕ
  pub accepted : List Command
  pub answers : List LineAnswer

-- an accepted command makes the next edition; a refused one is answered with its fault
abbrev pub after_applied : Standing → ℕ → Command → Applied Configuration → Standing
after_applied s line command (Ok made) = record s { config = made; number = s.number + 1; accepted = s.accepted ++ command ∷ [] }
after_applied s line command (Err fault) = record s { answers = s.answers ++ line_answer line (Refused fault) ∷ [] }

-- what stands after a command: a listing is answered by the edition that stands then
abbrev pub after_command : Standing → ℕ → Command → Option Listing → Standing
after_command s line command None = after_applied s line command (apply s.config command)
after_command s line command (Some listing) = record s { answers = s.answers ++ line_answer line (listed_answer s.config s.number listing) ∷ [] }

-- what stands after a line
abbrev pub after_line : Standing → Line → Standing
after_line s line = after_command s line.line line.command (listing_of line.command)

-- after these lines, in their order
unfoldable pub after_lines : Standing → List Line → Standing
after_lines s [] = s
after_lines s (line ∷ lines) = after_lines (after_line s line) lines

-- edition 1, with no command accepted and no answer
abbrev pub first_standing : Configuration → Standing
first_standing config = record { config = config; number = 1; accepted = []; answers = [] }

-- what the commands behind `live` come to, on edition 1
abbrev pub lines_outcome : Configuration → List Step → Standing
lines_outcome config steps = after_lines (first_standing config) (all_lines steps)
