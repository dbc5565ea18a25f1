-- An `add`, step by step: what refuses it, the names and tables that it makes, and when its rule may be put in its place.
use Rattle.std.specs.Prelude.{◌≡◌, ℕ, ◌+◌, ◌<◌, not, ◌==◌, nat_le, if◌then◌else◌, Option, Some, None, IfSome, Ok, length}
use Rattle.fw_rule.specs.declared.rule_draft.RuleDraft.{RuleDraft}
use Rattle.rule_edits.specs.Answers.{Answer, ◌>>=◌}
use Rattle.rule_edits.specs.Apply.{has_counters}
use Rattle.rule_chain.specs.Configuration.{Configuration}
use Rattle.rule_edits.specs.Lookups.{with_uses}
use Rattle.rule_chain.specs.Names.{name_of, number_of_name}
use Rattle.rule_edits.specs.NewNames.{with_name_of}
use Rattle.rule_edits.specs.Rules.{chosen_number}
use Rattle.rule_edits.specs.Uses.{uses_of}
use Rattle.rule_edits.specs.declared.apply_fault.ApplyFault.{ApplyFault}
use Rattle.rule_edits.specs.declared.apply_fault.ApplyFault.TheVariants.{ReservedRule, TooManyRules, TooManyCounters}

-- why no rule of this number can be added, if anything speaks against it
abbrev pub adding_fault : Configuration → ℕ → Option ApplyFault
adding_fault c number =
    if number == 65535 then Some ReservedRule
    else if nat_le 65535 (length c.rules) then Some TooManyRules
    else if not (has_counters c 1) then Some TooManyCounters
    else None

-- the configuration with the draft's flow name and its tables
abbrev pub with_name_and_tables : Configuration → RuleDraft → Answer Configuration
with_name_and_tables c draft =
    with_name_of c.names (name_of draft.action draft.body) >>= λ names.
    with_uses c.tables (uses_of draft.body) >>= λ made. Ok (record c { names = names; tables = made })

-- the draft's rule can be put in its place under this number, which is the one that it gets
pub record IsReadyFor (c : Configuration) (number : ℕ) (draft : RuleDraft) : Type 0 where
  pub chosen : number ≡ chosen_number c.rules draft.number
  pub other : number < 65535
  pub room : length c.rules < 65535
  pub counters : c.greatest_counter + 1 < 16777216
  pub named : IfSome (name_of draft.action draft.body) (λ name. number_of_name c.names name < length c.names)
