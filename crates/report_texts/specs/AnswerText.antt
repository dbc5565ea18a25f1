-- The report's second section: the answers to lines of the script.
use Rattle.std.specs.Prelude.{ℕ, ◌==◌, Bool, Option, None, Some, List, [], ◌++◌, length, codes, decimal, find}
use Rattle.std.specs.List.{flat_map}
use Rattle.fw_base.specs.Addr.{address_text}
use Rattle.fw_base.specs.Prefix.{Network}
use Rattle.rule_text.specs.Canonical.{rule_text}
use Rattle.fw_rule.specs.declared.rule.Rule.{Rule}
use Rattle.lookup_tables.specs.Tables.{table_named}
use Rattle.lookup_tables.specs.declared.table.Table.{Table}
use Rattle.lookup_tables.specs.declared.table.Table.TheVariants.{Addresses, Numbers}
use Rattle.rule_chain.specs.Configuration.{Configuration}
use Rattle.rule_edits.specs.Words.{word_of}
use Rattle.rule_edits.specs.declared.apply_fault.ApplyFault.{ApplyFault}
use Rattle.generation_store.specs.Published.{Published}
use Rattle.report_texts.specs.declared.ends.Answer.{Answer}
use Rattle.report_texts.specs.declared.ends.Answer.TheVariants.{Refused, Listed}
use Rattle.report_texts.specs.declared.ends.LineAnswer.{LineAnswer}

-- a rule, by its canonical text
unfoldable pub rule_line : Rule → List ℕ
rule_line rule = rule_text rule ++ codes "\n"

-- an entry of a table: a prefix with its length, or a number; and the value
unfoldable pub length_text : ℕ → ℕ → List ℕ
length_text bits value = codes "/" ++ (decimal bits ++ (codes " " ++ (decimal value ++ codes "\n")))

-- an entry of a table of addresses
unfoldable pub address_line : Network × ℕ → List ℕ
address_line entry = address_text entry.0.address ++ length_text entry.0.bits entry.1

-- an entry of a table of numbers
unfoldable pub number_line : ℕ × ℕ → List ℕ
number_line entry = decimal entry.0 ++ (codes " " ++ (decimal entry.1 ++ codes "\n"))

-- all entries of a table
abbrev pub table_lines : Table → List ℕ
table_lines (Addresses entries) = flat_map address_line entries
table_lines (Numbers entries) = flat_map number_line entries

-- the table's type, and how many entries it has
unfoldable pub table_size : Table → List ℕ
table_size (Addresses entries) = codes " addr " ++ decimal (length entries)
table_size (Numbers entries) = codes " number " ++ decimal (length entries)

-- the line of the script that is answered, and the edition
unfoldable pub origin : ℕ → ℕ → List ℕ
origin line edition = codes " line " ++ (decimal line ++ (codes " edition " ++ (decimal edition ++ codes "\n")))

-- how many rules there are
unfoldable pub count_line : ℕ → List ℕ
count_line count = codes "rules " ++ (decimal count ++ codes "\n")

-- the answer to `list`
unfoldable pub rules_listing : ℕ → ℕ → List Rule → List ℕ
rules_listing line edition rules = codes "list" ++ (origin line edition ++ (count_line (length rules) ++ flat_map rule_line rules))

-- the answer to `table NAME list`
unfoldable pub table_listing : ℕ → ℕ → List ℕ → Table → List ℕ
table_listing line edition name table = codes "table " ++ (name ++ (table_size table ++ (origin line edition ++ table_lines table)))

-- that, where the edition has the table
abbrev pub named_listing : ℕ → ℕ → List ℕ → Option Table → List ℕ
named_listing line edition name None = []
named_listing line edition name (Some table) = table_listing line edition name table

-- a listing, by the configuration that stood then
abbrev pub config_listing : ℕ → ℕ → Option (List ℕ) → Configuration → List ℕ
config_listing line edition None config = rules_listing line edition config.rules
config_listing line edition (Some name) config = named_listing line edition name (table_named config.tables name)

-- the edition has this number
abbrev pub has_number : ℕ → Published → Bool
has_number number edition = edition.number == number

-- the edition of this number
abbrev pub edition_of : List Published → ℕ → Option Published
edition_of editions number = find (has_number number) editions

-- a listing, by the edition of its number
abbrev pub listing : ℕ → ℕ → Option (List ℕ) → Option Published → List ℕ
listing line number table None = []
listing line number table (Some edition) = config_listing line number table edition.config

-- a refused command
unfoldable pub refused_line : ℕ → ApplyFault → List ℕ
refused_line line fault = codes "refused line " ++ (decimal line ++ (codes " " ++ (word_of fault ++ codes "\n")))

-- the answer to a line
abbrev pub reply_text : List Published → ℕ → Answer → List ℕ
reply_text editions line (Refused fault) = refused_line line fault
reply_text editions line (Listed number table) = listing line number table (edition_of editions number)

-- what a line of the script is answered
abbrev pub answer_text : List Published → LineAnswer → List ℕ
answer_text editions answer = reply_text editions answer.line answer.answer

-- in the order of the lines
abbrev pub answers_text : List Published → List LineAnswer → List ℕ
answers_text editions answers = flat_map (answer_text editions) answers
