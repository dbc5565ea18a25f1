-- What a load makes of a number.
use Rattle.std.specs.Prelude.{◌≡◌, ℕ, ◌≤◌, Ok, List, ◌++◌, length}
use Rattle.fw_command.specs.Scripts.{script_of}
use Rattle.fw_command.specs.declared.script.Pace.TheVariants.{Serial}
use Rattle.fw_base.specs.declared.limits.TheConstants.{MOST_LOAD_RECORDS}
use Rattle.load_maker.specs.Load as load
use Rattle.pcap_read.specs.Reading.{Captured, HasFront, Open, AtBoundary}
use Rattle.rule_chain.specs.First.{first_configuration}
use Rattle.fw_command.specs.Steps.{all_lines}
use Rattle.load_laws.specs.Acceptance.{AreAccepted}
use Rattle.load_laws.specs.MadeScript.{made_script}

-- the bytes of a load's script are read as its rules, `live` and the two steps behind it
abbrev pub MadeScriptsAreRead : Type 0
MadeScriptsAreRead = (n : ℕ) → n ≤ MOST_LOAD_RECORDS → script_of Serial (load.load_script n) ≡ Ok (made_script n)

-- each command of a load's script is accepted, before `live` and behind it
abbrev pub MadeScriptsAreAccepted : Type 0
MadeScriptsAreAccepted = (n : ℕ) → AreAccepted first_configuration ((made_script n).before ++ all_lines (made_script n).live)

-- a load's capture of n records is read as n records, to its end
abbrev pub MadeCapturesAreWhole : Type 0
MadeCapturesAreWhole = (n limit : ℕ) → n ≤ limit → (records : List Captured) × (length records ≡ n) × HasFront limit (load.load_capture n) records (Open AtBoundary)
