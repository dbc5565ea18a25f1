-- The settings (ipfw(8), "SYSCTL VARIABLES"): the words behind `sysctl`.
use Rattle.std.specs.Prelude.{ℕ, if◌then◌else◌, Option, Some, None, Result, Ok, List, codes, drop, nat_eq}
use Rattle.std.specs.List.{starts_with}
use Rattle.fw_rule.specs.declared.command.Command.{Command}
use Rattle.fw_rule.specs.declared.command.Command.TheVariants.{Sysctl}
use Rattle.fw_rule.specs.declared.setting.Setting.{Setting}
use Rattle.fw_rule.specs.declared.setting.Setting.TheVariants.{Ack, Syn, Fin, Rst, Udp, Short, Max, Keep}
use Rattle.ipfw_parser.specs.declared.kind.Kind.TheVariants.{UnknownWord}
use Rattle.ipfw_parser.specs.Reading.{Word, Fault, fault_at, ◌>>=◌, same, first}
use Rattle.ipfw_parser.specs.Numbers.{number}
use Rattle.ipfw_parser.specs.Addresses.{part_before, part_behind}
use Rattle.fw_command.specs.Ends.{result_at_end}

-- a setting by its name
unfoldable pub setting : List ℕ → Option Setting
setting name =
    if same name (codes "dyn_ack_lifetime") then Some Ack
    else if same name (codes "dyn_syn_lifetime") then Some Syn
    else if same name (codes "dyn_fin_lifetime") then Some Fin
    else if same name (codes "dyn_rst_lifetime") then Some Rst
    else if same name (codes "dyn_udp_lifetime") then Some Udp
    else if same name (codes "dyn_short_lifetime") then Some Short
    else if same name (codes "dyn_max") then Some Max
    else if same name (codes "dyn_keep_states") then Some Keep
    else None

-- the least value: of a lifetime in seconds, of how many states there may be, and of whether they are kept
abbrev pub least : Setting → ℕ
least Ack = 1
least Syn = 1
least Fin = 1
least Rst = 1
least Udp = 1
least Short = 1
least Max = 1
least Keep = 0

-- the greatest value
abbrev pub most : Setting → ℕ
most Ack = 86400
most Syn = 86400
most Fin = 86400
most Rst = 86400
most Udp = 86400
most Short = 86400
most Max = 65536
most Keep = 1

-- The name that the settings have may stand in front, once.
unfoldable pub without_prefix : List ℕ → List ℕ
without_prefix text = if starts_with nat_eq text (codes "net.inet.ip.fw.") then drop 15 text else text

-- the setting of that name with its value
abbrev pub set_to : ℕ → Option Setting → Option (List ℕ) → Result (Setting × ℕ) Fault
set_to column (Some which) (Some text) = number (least which) (most which) (record { column = column; text = text }) >>= λ n. Ok (which, n)
set_to column other more = fault_at column UnknownWord

-- NAME=VALUE
unfoldable pub assignment : Word → Result (Setting × ℕ) Fault
assignment word = set_to word.column (setting (part_before 61 (without_prefix word.text))) (part_behind 61 (without_prefix word.text))

-- behind `sysctl`
unfoldable pub sysctl : ℕ → List Word → Result Command Fault
sysctl end words = do
  next ← first end words
  found ← assignment next.0
  result_at_end (Sysctl found.0 found.1) next.1
