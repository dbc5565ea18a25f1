use Rattle.std.proofs.Common.{List, ℕ, subst, sym, ◌∙◌}
use Rattle.std.specs.Prelude.{IfOk}
use Rattle.state_journal.proofs.ItemLists.{last_rules_of_journal}
use Rattle.state_journal.specs.Journal.{Journal, NamesRuleOf, IsFoundOf, last_rules}
use Rattle.shared_world.proofs.shared_book.SharedBook.ask.Goals as goal

pub ask-reply-requires-clause-rule : goal.ask-reply-requires-clause-rule
ask-reply-requires-clause-rule c =
    let same = last_rules_of_journal c.args.self.now c.law_of_journal.ensures.journal in
    subst (λ (j : Journal). NamesRuleOf (last_rules j.facts) c.args.op.now) (sym c.self.view_is ∙ sym c.deref_mut.ensures.value) (subst (λ (rules : List ℕ). NamesRuleOf rules c.args.op.now) (sym same) c.requires.rule)

pub returns-clause-found : goal.returns-clause-found
returns-clause-found c =
    let same = last_rules_of_journal c.args.self.now c.law_of_journal.ensures.journal in
    subst (λ (rules : List ℕ). IfOk c.ask-reply.result (IsFoundOf rules)) same
    (subst (λ (j : Journal). IfOk c.ask-reply.result (IsFoundOf (last_rules j.facts))) (c.deref_mut.ensures.value ∙ c.self.view_is) c.ask-reply.ensures.found)
