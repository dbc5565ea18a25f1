-- The values of the settings (ipfw(8), "SYSCTL VARIABLES").
use Rattle.std.specs.Prelude.{ℕ, Bool, false, ◌==◌}
use Rattle.fw_rule.specs.declared.setting.Setting.{Setting}
use Rattle.fw_rule.specs.declared.setting.Setting.TheVariants.{Ack, Syn, Fin, Rst, Udp, Short, Max, Keep}
use Rattle.fw_rule.specs.declared.settings.Settings.{Settings}

-- the lifetimes of states in seconds, how many states there may be, and whether a state outlives its rule
pub record Values : Type 0 where
  pub ack : ℕ
  pub syn : ℕ
  pub fin : ℕ
  pub rst : ℕ
  pub udp : ℕ
  pub short : ℕ
  pub max : ℕ
  pub keep : Bool

-- the settings as plain values
abbrev pub values_of : Settings → Values
values_of s = record { ack = s.ack; syn = s.syn; fin = s.fin; rst = s.rst; udp = s.udp; short = s.short; max = s.max; keep = s.keep }

-- the values that hold before any command
abbrev pub default_values : Values
default_values = record { ack = 300; syn = 20; fin = 1; rst = 1; udp = 10; short = 5; max = 16384; keep = false }

-- the values with one of them changed
abbrev pub with_value : Values → Setting → ℕ → Values
with_value values Ack n = record values { ack = n }
with_value values Syn n = record values { syn = n }
with_value values Fin n = record values { fin = n }
with_value values Rst n = record values { rst = n }
with_value values Udp n = record values { udp = n }
with_value values Short n = record values { short = n }
with_value values Max n = record values { max = n }
with_value values Keep n = record values { keep = n == 1 }
