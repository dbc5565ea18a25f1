-- What is printed of a script that gives no edition.
use Rattle.std.specs.Prelude.{ℕ, List, [], ◌++◌, codes, decimal}
use Rattle.fw_command.specs.FaultText.{fault_text}
use Rattle.rule_edits.specs.Words.{word_of}
use Rattle.replay_setup.specs.declared.script_error.RefusedLine.{RefusedLine}
use Rattle.replay_setup.specs.declared.script_error.ScriptError.{ScriptError}
use Rattle.replay_setup.specs.declared.script_error.ScriptError.TheVariants.{Fault, Refused, OutOfMemory}

-- which line's command is refused, and why
unfoldable pub refused_text : RefusedLine → List ℕ
refused_text refused = codes "script line " ++ (decimal refused.line ++ (codes " " ++ (word_of refused.fault ++ codes "\n")))

-- the first fault of a script, or its first refused command
unfoldable pub error_text : ScriptError → List ℕ
error_text (Fault fault) = fault_text fault
error_text (Refused refused) = refused_text refused
error_text OutOfMemory = []
