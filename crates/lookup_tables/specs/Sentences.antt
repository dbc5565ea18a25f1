-- What a fault prints.
use Rattle.std.specs.Prelude.{ℕ, List, codes}
use Rattle.lookup_tables.specs.declared.insert_fault.InsertFault.{InsertFault}
use Rattle.lookup_tables.specs.declared.insert_fault.InsertFault.TheVariants.{Exists, OutOfMemory}

-- why an entry isn't put in
abbrev pub sentence_of : InsertFault → List ℕ
sentence_of Exists = codes "the key is there"
sentence_of OutOfMemory = codes "out of memory"
