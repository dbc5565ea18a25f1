-- What is printed of a script's fault.
use Rattle.std.specs.Prelude.{ℕ, List, [], ◌++◌, codes}
use Rattle.std.specs.Fmt.{decimal}
use Rattle.ipfw_parser.specs.declared.kind.Kind.{Kind}
use Rattle.ipfw_parser.specs.declared.kind.Kind.TheVariants.{UnknownWord, MissingWord, ExtraWord, BadNumber, NumberRange, BadAddress, BadPrefix, BadPort, BadRange, BadFlag, BadName, SecondState, Misplaced, BadByte}
use Rattle.fw_command.specs.declared.script_fault.ScriptFault.{ScriptFault}
use Rattle.fw_command.specs.declared.script_fault.ScriptFault.TheVariants.{TooLong, TooManyLines, Parse, PaceInLive, TooManyLive, OutOfMemory}

-- the word for a fault's kind
unfoldable pub kind_text : Kind → List ℕ
kind_text UnknownWord = codes "UnknownWord"
kind_text MissingWord = codes "MissingWord"
kind_text ExtraWord = codes "ExtraWord"
kind_text BadNumber = codes "BadNumber"
kind_text NumberRange = codes "NumberRange"
kind_text BadAddress = codes "BadAddress"
kind_text BadPrefix = codes "BadPrefix"
kind_text BadPort = codes "BadPort"
kind_text BadRange = codes "BadRange"
kind_text BadFlag = codes "BadFlag"
kind_text BadName = codes "BadName"
kind_text SecondState = codes "SecondState"
kind_text Misplaced = codes "Misplaced"
kind_text BadByte = codes "BadByte"

-- where a fault stands, and which
unfoldable pub placed_text : ℕ → ℕ → List ℕ → List ℕ
placed_text line column kind = codes "script line " ++ (decimal line ++ (codes " column " ++ (decimal column ++ (codes " " ++ (kind ++ codes "\n")))))

-- the one line that the program prints; nothing where memory ran out
unfoldable pub fault_text : ScriptFault → List ℕ
fault_text TooLong = codes "script TooLong\n"
fault_text TooManyLines = codes "script TooManyLines\n"
fault_text (Parse line column kind) = placed_text line column (kind_text kind)
fault_text (PaceInLive line column) = placed_text line column (codes "PaceInLive")
fault_text TooManyLive = codes "script TooManyLive\n"
fault_text OutOfMemory = []
