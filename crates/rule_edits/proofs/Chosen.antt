-- The number of a new rule is 1 at least.
use Rattle.std.proofs.Common.{◌≡◌, ℕ, ◌+◌, ◌≤◌, true, false, nat_le, Option, Some, None, List, refl, arith, if◌then◌else◌}
use Rattle.std.specs.Prelude.{◌==◌}
use Rattle.std.proofs.lemmas.Bool.Decides.{nat_tests}
use Rattle.fw_rule.specs.declared.rule.Rule.{Rule}
use Rattle.rule_edits.specs.Rules.{greatest_number, number_behind, automatic_number, chosen_number}

behind_least : (n : ℕ) → 1 ≤ number_behind n
behind_least n =
    elim (nat_le (n + 100) 65534) as (λ b. nat_le (n + 100) 65534 ≡ b → 1 ≤ (if b then n + 100 else n)) [
      | true ↦ λ is. omega arith
      | false ↦ λ is. grind (arith, nat_tests)
    ] refl

automatic_least : (rules : List Rule) → 1 ≤ automatic_number rules
unfolding automatic_number
automatic_least rules = behind_least (greatest_number rules)

-- the number of a new rule is 1 at least
pub chosen_least : (rules : List Rule) (number : Option ℕ) → 1 ≤ chosen_number rules number
chosen_least rules None = automatic_least rules
chosen_least rules (Some n) =
    let automatic = automatic_least rules in
    elim (n == 0) as (λ b. (n == 0) ≡ b → 1 ≤ (if b then automatic_number rules else n)) [
      | true ↦ λ is. automatic
      | false ↦ λ is. grind (arith, nat_tests)
    ] refl
