use Rattle.std.proofs.Common.{ℕ, ◌+◌, List, map, ◌∙◌, sym, ap, subst}
use Rattle.std.proofs.lemmas.List.{length-map}
use Rattle.std.specs.Arc.{arc_value}
use Rattle.fw_rule.specs.declared.command.Command.{Command}
use Rattle.generation_store.specs.Published.{Published, IsBuilt}
use Rattle.rule_edits.specs.Answers.{IsRefusal}
use Rattle.rule_edits.specs.Apply.{apply}
use Rattle.rule_chain.specs.Configuration.{Configuration}
use Rattle.rule_edits.specs.declared.apply_fault.ApplyFault.{ApplyFault}
use Rattle.rule_edits.specs.declared.apply_fault.ApplyFault.TheVariants as fault
use Rattle.fw_world.specs.CommitFaults.{IsCauseOf, commit_fault}
use Rattle.fw_world.specs.declared.commit_fault.CommitFault.{CommitFault}
use Rattle.fw_world.specs.Editions.{IsLastOf}
use Rattle.fw_world.proofs.editions.next_edition.Goals as goal

cause_of : (editions : List Published) (command : Command) (before : Published) (refused : ApplyFault) → IsLastOf editions before → IsRefusal refused (apply before.config command) → IsCauseOf editions command (commit_fault refused)
cause_of editions command before fault.NoSuchRule last is = record { edition = before; last = last; refused = is (λ e. cc) }
cause_of editions command before fault.ReservedRule last is = record { edition = before; last = last; refused = is (λ e. cc) }
cause_of editions command before fault.ReservedSet last is = record { edition = before; last = last; refused = is (λ e. cc) }
cause_of editions command before fault.NoSuchTable last is = record { edition = before; last = last; refused = is (λ e. cc) }
cause_of editions command before fault.EntryExists last is = record { edition = before; last = last; refused = is (λ e. cc) }
cause_of editions command before fault.NoSuchEntry last is = record { edition = before; last = last; refused = is (λ e. cc) }
cause_of editions command before fault.TableInUse last is = record { edition = before; last = last; refused = is (λ e. cc) }
cause_of editions command before fault.WrongType last is = record { edition = before; last = last; refused = is (λ e. cc) }
cause_of editions command before fault.TooManyRules last is = record { edition = before; last = last; refused = is (λ e. cc) }
cause_of editions command before fault.TooManyCounters last is = record { edition = before; last = last; refused = is (λ e. cc) }
cause_of editions command before fault.TooManyNames last is = record { edition = before; last = last; refused = is (λ e. cc) }
cause_of editions command before fault.OutOfMemory last is = tt

pub edition_after-requires : goal.edition_after-requires
edition_after-requires c = ap (λ (k : Configuration). apply k c.args.command.now) (sym c.config.ensures.value) ∙ c.in-Ok.ensures

pub returns-in_ok-edition_after-in-Ok-clause-next : goal.returns-in_ok-edition_after-in-Ok-clause-next
returns-in_ok-edition_after-in-Ok-clause-next c =
    let count = ap (λ (n : ℕ). n + 1) (sym (length-map c.args.editions.now arc_value)) in
    record {
      before = c.last_edition-last.result.now;
      last = c.last_edition-last.ensures;
      made = c.in-Ok.config;
      applied = ap (λ (k : Configuration). apply k c.args.command.now) (sym c.config.ensures.value) ∙ c.in-Ok.ensures;
      built = subst (λ (n : ℕ). IsBuilt n c.in-Ok.config (arc_value c.in_ok-edition_after-in-Ok.field-0)) count c.in_ok-edition_after-in-Ok.ensures;
    }

pub returns-in-Err : goal.returns-in-Err
returns-in-Err c =
    let refused = subst (λ (k : Configuration). IsRefusal c.in-Err.fault (apply k c.args.command.now)) c.config.ensures.value c.in-Err.ensures in
    let cause = cause_of (map arc_value c.args.editions.now) c.args.command.now c.last_edition-last.result.now c.in-Err.fault c.last_edition-last.ensures refused in
    record { next = tt; cause = subst (λ (f : CommitFault). IsCauseOf (map arc_value c.args.editions.now) c.args.command.now f) (sym c.refusal.ensures) cause }
