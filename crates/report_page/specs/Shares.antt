-- What a part is of a whole, and what rules counted. Figures stand still at the greatest number of 64 bits.
use Rattle.std.specs.Prelude.{ℕ, ◌*◌, ◌/◌, ◌-◌, ◌^◌, ◌==◌, Bool, List, min, max, count_by, sum_by, if◌then◌else◌}
use Rattle.report_values.specs.declared.rules.CountedRule.{CountedRule}

-- a number, or the greatest one
abbrev pub capped : ℕ → ℕ
capped number = min number (2 ^ 64 - 1)

-- how many of so many parts it takes of the whole, rounded down; of nothing none
abbrev pub share_of : ℕ → ℕ → ℕ → ℕ
share_of part whole parts = capped (part * parts) / max whole 1

-- how many packets some rules counted
abbrev pub packets_of : List CountedRule → ℕ
packets_of rules = capped (sum_by (λ rule. rule.packets) rules)

-- what rule 65535 counted of them
abbrev pub last_part : CountedRule → ℕ
last_part rule = if rule.number == 65535 then rule.packets else 0

-- how many packets rule 65535 counted
abbrev pub last_packets : List CountedRule → ℕ
last_packets rules = capped (sum_by last_part rules)

-- nothing was counted by it
abbrev pub is_never_met : CountedRule → Bool
is_never_met rule = rule.packets == 0

-- how many rules counted nothing
abbrev pub never_met : List CountedRule → ℕ
never_met rules = count_by is_never_met rules
