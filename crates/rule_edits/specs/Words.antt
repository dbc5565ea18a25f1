-- The refusals by their own names.
use Rattle.std.specs.Prelude.{ℕ, List, codes}
use Rattle.rule_edits.specs.declared.apply_fault.ApplyFault.{ApplyFault}
use Rattle.rule_edits.specs.declared.apply_fault.ApplyFault.TheVariants.{NoSuchRule, ReservedRule, ReservedSet, NoSuchTable, EntryExists, NoSuchEntry, TableInUse, WrongType, TooManyRules, TooManyCounters, TooManyNames, OutOfMemory}

-- the word for a refusal, as the line about a refused command prints it
abbrev pub word_of : ApplyFault → List ℕ
word_of NoSuchRule = codes "NoSuchRule"
word_of ReservedRule = codes "ReservedRule"
word_of ReservedSet = codes "ReservedSet"
word_of NoSuchTable = codes "NoSuchTable"
word_of EntryExists = codes "EntryExists"
word_of NoSuchEntry = codes "NoSuchEntry"
word_of TableInUse = codes "TableInUse"
word_of WrongType = codes "WrongType"
word_of TooManyRules = codes "TooManyRules"
word_of TooManyCounters = codes "TooManyCounters"
word_of TooManyNames = codes "TooManyNames"
word_of OutOfMemory = codes "OutOfMemory"
