-- The report that is printed of a record, and which records have one whose lines are in the ranges of their fields.
use Rattle.std.specs.Prelude.{◌≡◌, ⊤, ℕ, ◌^◌, ◌<◌, ◌≤◌, true, IfSome, Option, Some, None, List, [], length}
use Rattle.std.specs.List.{AllByRecursion}
use Rattle.eval_engine.specs.Encounter.{any_flow_of}
use Rattle.fw_base.specs.Prefix.{Network}
use Rattle.capture_tracks.specs.Reported.{report_record}
use Rattle.report_texts.specs.Report.{last_edition, report_text}
use Rattle.report_texts.specs.declared.capture_end.CaptureEnd.{CaptureEnd}
use Rattle.report_texts.specs.declared.ends.Answer.{Answer}
use Rattle.report_texts.specs.declared.ends.Answer.TheVariants.{Refused, Listed}
use Rattle.report_texts.specs.declared.ends.LineAnswer.{LineAnswer}
use Rattle.fw_rule.specs.FlowName.{IsFlowName}
use Rattle.fw_world.specs.Inputs.{Input, Other, Malformed, Packet}
use Rattle.fw_world.specs.RecordValue.{RecordValue}
use Rattle.generation_store.specs.Published.{Published}
use Rattle.lookup_tables.specs.declared.table.Table.{Table}
use Rattle.lookup_tables.specs.declared.table.Table.TheVariants.{Addresses, Numbers}
use Rattle.report_reading.specs.FlowTexts.{IsFlow, IsNameText}
use Rattle.rule_chain.specs.Chain.{IsConfiguration}
use Rattle.rule_chain.specs.Configuration.{Configuration}
use Rattle.audit_laws.specs.RuleNames.{HasNameBytes, names_in_rule}

-- its report, with the journal
abbrev pub report_of : RecordValue → List CaptureEnd → List LineAnswer → List ℕ
report_of r ends answers = report_text (report_record r) ends answers true

-- the flow names of an edition, where there is one
abbrev pub names_of : Option Published → List (List ℕ)
names_of None = []
names_of (Some edition) = edition.config.names

-- the flow names of the edition that was published last
abbrev pub last_names : RecordValue → List (List ℕ)
last_names r = names_of (last_edition r.editions)

-- an entry of a table of addresses: a prefix's length, and a value of 32 bits
pub record IsPrintableNetwork (entry : Network × ℕ) : Type 0 where
  pub bits : entry.0.bits ≤ 32
  pub value : entry.1 ≤ 4294967295

-- an entry of a table of numbers, each of 32 bits
pub record IsPrintableNumber (entry : ℕ × ℕ) : Type 0 where
  pub key : entry.0 ≤ 4294967295
  pub value : entry.1 ≤ 4294967295

-- all entries of a table
abbrev pub IsPrintableTable : Table → Type 0
IsPrintableTable (Addresses entries) = AllByRecursion IsPrintableNetwork entries
IsPrintableTable (Numbers entries) = AllByRecursion IsPrintableNumber entries

-- What is captured: a header that can't be read is of one of five kinds; a packet has a second of 32 bits and, where it
-- has a flow, one in its ranges.
abbrev pub IsPrintableInput : Input → Type 0
IsPrintableInput Other = ⊤
IsPrintableInput (Malformed kind) = (1 ≤ kind) × (kind ≤ 5)
IsPrintableInput (Packet packet port second) = (second < 2 ^ 32) × IfSome (any_flow_of packet) IsFlow

-- a name of flows has 1 to 63 bytes of names, and isn't `any` (ipfw(8), "STATEFUL FIREWALL")
pub record IsFlowNameText (name : List ℕ) : Type 0 where
  pub text : IsNameText name
  pub other : IsFlowName name

-- what holds in every configuration, and that its names and tables are in their ranges
pub record IsPrintableConfig (config : Configuration) : Type 0 where
  -- rules have their numbers, and set 31 isn't disabled
  pub lawful : IsConfiguration config
  -- the names in a rule have the bytes of names
  pub rules : AllByRecursion (λ rule. AllByRecursion HasNameBytes (names_in_rule rule)) config.rules
  pub names : AllByRecursion IsFlowNameText config.names
  pub tables : AllByRecursion (λ named. IsPrintableTable named.1) config.tables

-- a table whose entries are listed has a name
abbrev pub IsPrintableAnswer : Answer → Type 0
IsPrintableAnswer (Refused fault) = ⊤
IsPrintableAnswer (Listed number table) = IfSome table HasNameBytes

-- Each line of a record's report is in the ranges of its fields.
pub record IsPrintableRecord (inputs : List (List Input)) (r : RecordValue) (ends : List CaptureEnd) (answers : List LineAnswer) : Type 0 where
  -- there are at most 16 captures, and the end of each is known
  pub captures : length r.dockets ≤ 16
  pub ended : length ends ≡ length r.dockets
  -- editions are numbered below 2^64, and their configurations are in their ranges
  pub few : length r.editions < 2 ^ 64
  pub editions : AllByRecursion (λ edition. IsPrintableConfig edition.config) r.editions
  -- records are numbered below 2^64, and what was captured is in its ranges
  pub records : AllByRecursion (λ docket. length docket.entries < 2 ^ 64) r.dockets
  pub captured : AllByRecursion (λ own. AllByRecursion IsPrintableInput own) inputs
  -- no cache was asked for
  pub uncached : r.hits ≡ []
  -- tables that were listed have names
  pub listings : AllByRecursion (λ answer. IsPrintableAnswer answer.answer) answers
