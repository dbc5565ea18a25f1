use Rattle.std.proofs.Common.{◌≡◌, List, ℕ, ap, sym, ◌∙◌}
use Rattle.state_asks.specs.RuleLists.{has_id}
use Rattle.state_journal.specs.Journal.{Journal, last_rules}
use Rattle.state_journal.proofs.Growing.{last_rules-append}
use Rattle.state_journal.proofs.book.Book.has_rule.Goals as goal

pub returns-in-Some : goal.returns-in-Some
returns-in-Some c =
    let facts : c.self.inside.facts.items ≡ c.args.self.now.facts = ap (λ (j : Journal). j.facts) c.self.view_is in
    let split = sym facts ∙ sym c.deref.ensures.value ∙ c.in-Some.ensures.cases.0 in
    let told = ap last_rules split ∙ last_rules-append c.in-Some.field-0-1.now c.in-Some.last.now in
    c.is_among.ensures ∙ ap (λ (all : List ℕ). has_id all c.args.id) (c.as_slice.ensures ∙ sym told)
