use Rattle.std.proofs.Common.{◌≡◌, ℕ, length, List, Option, Some, None, sym, ap, subst, ◌∙◌}
use Rattle.std.specs.Prelude.{IsSomeAnd, slice_get}
use Rattle.generation_store.specs.Published.{Published}
use Rattle.state_asks.specs.declared.facts.Facts.{Facts}
use Rattle.state_journal.specs.Journal.{Journal, with_publication}
use Rattle.run_audit.specs.Replaying.{IsPublishedNext}
use Rattle.run_audit.proofs.replaying.replay_published.Goals as goal

next_so : (editions : List Published) (number : ℕ) (old new : Journal) (edition : Published) → Some edition ≡ slice_get editions (length old.facts)
    → edition.number ≡ number → new ≡ with_publication old edition.facts → IsPublishedNext editions number old new
next_so editions number old new edition found same now =
    subst (λ (o : Option Published). IsSomeAnd o (λ e. (number ≡ e.number) × (new ≡ with_publication old e.facts))) found (sym same, now)

none_next : (editions : List Published) (number : ℕ) (old new : Journal) → None ≡ slice_get editions (length old.facts) → IsPublishedNext editions number old new → ⊥
none_next editions number old new none is =
    subst (λ (o : Option Published). IsSomeAnd o (λ e. (number ≡ e.number) × (new ≡ with_publication old e.facts))) (sym none) is

at_length : (editions : List Published) (told facts : List Facts) (found : Option Published) → found ≡ slice_get editions (length told) → told ≡ facts
    → found ≡ slice_get editions (length facts)
at_length editions told facts found is same = is ∙ ap (λ (fs : List Facts). slice_get editions (length fs)) same

pub replay_publication-requires : goal.replay_publication-requires
replay_publication-requires c =
    let found = at_length _ _ _ _ c.in-Some.ensures c.facts.ensures in
    record { next = c.requires.numbered (length c.args.book.now.facts) c.in-Some.edition.now (sym found) }

pub returns-in_ok-replay_publication-in-Some-clause-published :
    goal.returns-in_ok-replay_publication-in-Some-clause-published
returns-in_ok-replay_publication-in-Some-clause-published c = λ ok.
    let found = at_length _ _ _ _ c.in-Some.ensures c.facts.ensures in
    next_so _ c.args.number c.args.book.now c.replay_publication.new.book c.in-Some.edition.now found (sym c.number.ensures ∙ c.if-number.false) c.in_ok-replay_publication-in-Some.ensures

pub returns-in-None-clause-wrong : goal.returns-in-None-clause-wrong
returns-in-None-clause-wrong c = λ ok new is.
    let none = at_length _ _ _ _ c.in-None.ensures c.facts.ensures in
    none_next _ c.args.number c.args.book.now new none is
