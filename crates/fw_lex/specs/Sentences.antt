-- What a fault prints.
use Rattle.std.specs.Prelude.{ℕ, List, ◌++◌, codes}
use Rattle.std.specs.Fmt.{decimal}
use Rattle.fw_lex.specs.declared.token.LexFault.{LexFault}
use Rattle.fw_lex.specs.declared.token.LexFault.TheVariants.{BadByte, OutOfMemory}

-- which byte, and where; or that memory ran out
abbrev pub sentence_of : LexFault → List ℕ
sentence_of (BadByte column byte) = codes "byte " ++ (decimal byte ++ (codes " in column " ++ (decimal column ++ codes " may not stand in a script")))
sentence_of OutOfMemory = codes "out of memory"
