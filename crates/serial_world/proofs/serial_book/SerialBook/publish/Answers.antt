use Rattle.std.proofs.Common.{◌≡◌, List, [], ◌∷◌, ◌++◌, ◌∙◌, sym, ap, subst}
use Rattle.std.specs.Arc.{arc_value}
use Rattle.state_asks.specs.declared.facts.Facts.{Facts}
use Rattle.generation_store.specs.Published.{Published}
use Rattle.generation_store.specs.Held.{Held}
use Rattle.state_journal.specs.Journal.{Journal, with_publication}
use Rattle.fw_world.specs.Editions.{IsNextEdition}
use Rattle.serial_world.specs.Steps.{Publishes}
use Rattle.fw_world.specs.World.{WorldValue}
use Rattle.serial_world.specs.WorldKept.{IsWorld}
use Rattle.serial_world.proofs.WorldSteps.{IsWorld-publication}
use Rattle.serial_world.proofs.serial_book.SerialBook.publish.Goals as goal
use Rattle.serial_world.proofs.serial_book.SerialBook.publish.Goals.{After-push-2}

grown : (c : After-push-2) → c.push.new.self.editions ≡ c.self.inside.store.editions ++ arc_value c.in_ok-edition.edition ∷ []
grown c = ap (λ (h : Held). h.editions) c.push.ensures ∙ ap (λ (h : Held). h.editions ++ arc_value c.in_ok-edition.edition ∷ []) c.in_ok-ready.ensures.made

told : (c : After-push-2) → c.in_ok-facts.facts ≡ (arc_value c.in_ok-edition.edition).facts
told c = c.in_ok-facts.ensures ∙ c.facts.ensures.value ∙ ap (λ (e : Published). e.facts) c.deref.ensures

book : (c : After-push-2) → c.publish.new.self ≡ with_publication c.self.inside.book (arc_value c.in_ok-edition.edition).facts
book c = c.publish.ensures.published ∙ ap (λ (j : Journal). with_publication j c.in_ok-facts.facts) c.in_ok-ready-3.ensures.made ∙ ap (λ (f : Facts). with_publication c.self.inside.book f) (told c)

next : (c : After-push-2) → IsNextEdition c.self.inside.store.editions c.args.command.now (arc_value c.in_ok-edition.edition)
next c = subst (λ (all : List Published). IsNextEdition all c.args.command.now (arc_value c.in_ok-edition.edition)) c.all.ensures c.in_ok-edition.ensures.next

pub invariant_of-self-2 : goal.invariant_of-self-2
invariant_of-self-2 c =
    let edition = arc_value c.in_ok-edition.edition in
    let world = IsWorld-publication c.self.inside.store.editions c.self.inside.book c.args.command.now edition c.self.invariant (next c) in
    let journal = subst (λ (j : Journal). IsWorld (record { editions = c.self.inside.store.editions ++ edition ∷ []; journal = j })) (sym (book c)) world in
    subst (λ (all : List Published). IsWorld (record { editions = all; journal = c.publish.new.self })) (sym (grown c)) journal

pub returns-clause-published : goal.returns-clause-published
returns-clause-published c =
    let edition = arc_value c.in_ok-edition.edition in
    subst (λ (w : WorldValue). Publishes w (record { editions = c.push.new.self.editions; journal = c.publish.new.self }) c.args.command.now) c.self.view_is
    (record { edition = edition; next = next c; editions = grown c; journal = book c })
