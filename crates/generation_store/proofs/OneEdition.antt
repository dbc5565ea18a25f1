-- There is one edition of a number and a configuration.
use Rattle.std.proofs.Common.{◌≡◌, sym, ap, ◌∙◌}
use Rattle.rule_chain.specs.Configuration.{Configuration}
use Rattle.generation_store.specs.Published.{IsEdition, Published, has_identity}
use Rattle.generation_store.proofs.OneFacts.{same_facts}

-- editions of one number and one configuration are the same: their facts are determined
pub same_edition : (a b : Published) → a.number ≡ b.number → a.config ≡ b.config → IsEdition a → IsEdition b → a ≡ b
same_edition a b numbered configured first second =
    let facts = same_facts a.facts b.facts (first.numbered ∙ numbered ∙ sym second.numbered)
    (λ id. first.identified id ∙ ap (λ (c : Configuration). has_identity c.rules id) configured ∙ sym (second.identified id))
    (first.set ∙ ap (λ (c : Configuration). c.values) configured ∙ sym second.set) in
    λ i. record { number = numbered i; config = configured i; facts = facts i }
