-- The ranges of the settings.
use Rattle.std.specs.Prelude.{ℕ, ◌≤◌}
use Rattle.fw_rule.specs.declared.setting.Setting.{Setting}
use Rattle.fw_rule.specs.declared.setting.Setting.TheVariants.{Ack, Syn, Fin, Rst, Udp, Short, Max, Keep}

-- a lifetime in seconds, from one to a day
pub record IsLifetime (seconds : ℕ) : Type 0 where
  pub least : 1 ≤ seconds
  pub most : seconds ≤ 86400

-- how many states there may be
pub record IsMostStates (count : ℕ) : Type 0 where
  pub least : 1 ≤ count
  pub most : count ≤ 65536

-- the value is in the setting's range
abbrev pub IsInRange : Setting → ℕ → Type 0
IsInRange Ack value = IsLifetime value
IsInRange Syn value = IsLifetime value
IsInRange Fin value = IsLifetime value
IsInRange Rst value = IsLifetime value
IsInRange Udp value = IsLifetime value
IsInRange Short value = IsLifetime value
IsInRange Max value = IsMostStates value
IsInRange Keep value = value ≤ 1
