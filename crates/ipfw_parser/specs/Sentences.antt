-- What a fault prints.
use Rattle.std.specs.Prelude.{ℕ, List, ◌++◌, codes}
use Rattle.std.specs.Fmt.{decimal}
use Rattle.ipfw_parser.specs.declared.kind.Kind.{Kind}
use Rattle.ipfw_parser.specs.declared.kind.Kind.TheVariants.{UnknownWord, MissingWord, ExtraWord, BadNumber, NumberRange, BadAddress, BadPrefix, BadPort, BadRange, BadFlag, BadName, SecondState, Misplaced, BadByte}
use Rattle.ipfw_parser.specs.declared.parse_fault.ParseFault.{ParseFault}
use Rattle.ipfw_parser.specs.declared.parse_fault.ParseFault.TheVariants.{At, OutOfMemory}

-- what is wrong with a word
abbrev pub sentence_of : Kind → List ℕ
sentence_of UnknownWord = codes "another word is wanted here"
sentence_of MissingWord = codes "a word is missing"
sentence_of ExtraWord = codes "a word too many"
sentence_of BadNumber = codes "a number is wanted here"
sentence_of NumberRange = codes "the number is out of its range"
sentence_of BadAddress = codes "an address is wanted here"
sentence_of BadPrefix = codes "the length of a prefix is 0 to 32, of an IPv6 prefix 0 to 128"
sentence_of BadPort = codes "a port or a service is wanted here"
sentence_of BadRange = codes "the range's low port is above its high port"
sentence_of BadFlag = codes "an unknown flag, or one both set and clear"
sentence_of BadName = codes "this can't be a name"
sentence_of SecondState = codes "a second keep-state or limit"
sentence_of Misplaced = codes "this can't stand here"
sentence_of BadByte = codes "a byte that may not stand in a script"

-- where, and what
abbrev pub fault_sentence : ParseFault → List ℕ
fault_sentence (At column kind) = codes "column " ++ (decimal column ++ (codes ": " ++ sentence_of kind))
fault_sentence OutOfMemory = codes "out of memory"
