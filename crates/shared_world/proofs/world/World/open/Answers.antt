use Rattle.std.proofs.Common.{List, sym, ap, ◌∙◌, subst, arith}
use Rattle.std.specs.Prelude.{vec_len}
use Rattle.std.specs.Arc.{arc_value}
use Rattle.generation_store.specs.Published.{Published}
use Rattle.state_journal.specs.Journal.{first_journal}
use Rattle.shared_world.proofs.DeskSteps.{first_share}
use Rattle.shared_world.proofs.NewWorld.{desk-kept, lanes-count, lanes-new, opens-with, seats-new, steps-none}
use Rattle.shared_world.proofs.world.World.open.Goals as goal
use Rattle.shared_world.specs.DeskKept.{IsSharedDesk}

pub open-requires-2-clause-opens : goal.open-requires-2-clause-opens
open-requires-2-clause-opens c =
    opens-with (arc_value c.in_ok-edition.edition) c.args.config c.args.lanes c.in_ok-shares.shares.items c.in_ok-book.book c.in_ok-edition.ensures c.requires.least c.in_ok-shares.ensures (c.in_ok-book.ensures ∙ ap (λ (p : Published). first_journal c.args.lanes p.facts) c.deref.ensures)

pub lanes_of-requires-clause-seats : goal.lanes_of-requires-clause-seats
lanes_of-requires-clause-seats c =
    let share = opens-with (arc_value c.in_ok-edition.edition) c.args.config c.args.lanes c.in_ok-shares.shares.items c.in_ok-book.book c.in_ok-edition.ensures c.requires.least c.in_ok-shares.ensures (c.in_ok-book.ensures ∙ ap (λ (p : Published). first_journal c.args.lanes p.facts) c.deref.ensures) in
    seats-new c.args.lanes (vec_len c.in_ok-shares.shares) c.args.config (arc_value c.in_ok-edition.edition) share.0 c.in_ok-book.book c.in_ok-lock.field-0.lock c.in_ok-lock.field-0.processors.items c.in_ok-lock.field-0.operator c.in_ok-edition.ensures (first_share (arc_value c.in_ok-edition.edition) c.args.lanes c.in_ok-shares.shares.items share.0 c.in_ok-shares.ensures share.1) (c.in_ok-shares.shares.ok.0 ∙ c.in_ok-shares.ensures.many) (c.in_ok-book.ensures ∙ ap (λ (p : Published). first_journal c.args.lanes p.facts) c.deref.ensures) (c.in_ok-lock.ensures.opened share.0 share.1)

pub invariant_of-result : goal.invariant_of-result
invariant_of-result c =
    let share = opens-with (arc_value c.in_ok-edition.edition) c.args.config c.args.lanes c.in_ok-shares.shares.items c.in_ok-book.book c.in_ok-edition.ensures c.requires.least c.in_ok-shares.ensures (c.in_ok-book.ensures ∙ ap (λ (p : Published). first_journal c.args.lanes p.facts) c.deref.ensures) in
    let kept = desk-kept c.args.lanes (vec_len c.in_ok-shares.shares) c.args.config (arc_value c.in_ok-edition.edition) share.0 c.in_ok-book.book c.in_ok-lock.field-0.lock c.in_ok-lock.field-0.processors.items c.in_ok-lock.field-0.operator c.in_ok-edition.ensures (first_share (arc_value c.in_ok-edition.edition) c.args.lanes c.in_ok-shares.shares.items share.0 c.in_ok-shares.ensures share.1) (c.in_ok-shares.shares.ok.0 ∙ c.in_ok-shares.ensures.many) (c.in_ok-book.ensures ∙ ap (λ (p : Published). first_journal c.args.lanes p.facts) c.deref.ensures) (c.in_ok-lock.ensures.opened share.0 share.1) (omega (arith, c.requires.most)) in
    (subst (λ (all : List Published). IsSharedDesk c.args.lanes c.in_ok-lock.field-0.operator.view all) (sym c.in_ok-store.ensures) kept, c.in_ok-room.ensures)

pub returns-clause-lanes : goal.returns-clause-lanes
returns-clause-lanes c =
    let share = opens-with (arc_value c.in_ok-edition.edition) c.args.config c.args.lanes c.in_ok-shares.shares.items c.in_ok-book.book c.in_ok-edition.ensures c.requires.least c.in_ok-shares.ensures (c.in_ok-book.ensures ∙ ap (λ (p : Published). first_journal c.args.lanes p.facts) c.deref.ensures) in
    lanes-new c.args.lanes (vec_len c.in_ok-shares.shares) c.args.config (arc_value c.in_ok-edition.edition) share.0 c.in_ok-book.book c.in_ok-lock.field-0.lock c.in_ok-lock.field-0.processors.items c.in_ok-lock.field-0.operator c.in_ok-edition.ensures (first_share (arc_value c.in_ok-edition.edition) c.args.lanes c.in_ok-shares.shares.items share.0 c.in_ok-shares.ensures share.1) (c.in_ok-shares.shares.ok.0 ∙ c.in_ok-shares.ensures.many) (c.in_ok-book.ensures ∙ ap (λ (p : Published). first_journal c.args.lanes p.facts) c.deref.ensures) (c.in_ok-lock.ensures.opened share.0 share.1) c.args.cache c.in_ok-opened.opened.items c.in_ok-opened.ensures

pub returns-clause-count : goal.returns-clause-count
returns-clause-count c =
    let share = opens-with (arc_value c.in_ok-edition.edition) c.args.config c.args.lanes c.in_ok-shares.shares.items c.in_ok-book.book c.in_ok-edition.ensures c.requires.least c.in_ok-shares.ensures (c.in_ok-book.ensures ∙ ap (λ (p : Published). first_journal c.args.lanes p.facts) c.deref.ensures) in
    lanes-count c.args.lanes (vec_len c.in_ok-shares.shares) c.args.config (arc_value c.in_ok-edition.edition) share.0 c.in_ok-book.book c.in_ok-lock.field-0.lock c.in_ok-lock.field-0.processors.items c.in_ok-lock.field-0.operator c.in_ok-edition.ensures (first_share (arc_value c.in_ok-edition.edition) c.args.lanes c.in_ok-shares.shares.items share.0 c.in_ok-shares.ensures share.1) (c.in_ok-shares.shares.ok.0 ∙ c.in_ok-shares.ensures.many) (c.in_ok-book.ensures ∙ ap (λ (p : Published). first_journal c.args.lanes p.facts) c.deref.ensures) (c.in_ok-lock.ensures.opened share.0 share.1) c.args.cache c.in_ok-opened.opened.items c.in_ok-opened.ensures

pub returns-clause-desk : goal.returns-clause-desk
returns-clause-desk c =
    let share = opens-with (arc_value c.in_ok-edition.edition) c.args.config c.args.lanes c.in_ok-shares.shares.items c.in_ok-book.book c.in_ok-edition.ensures c.requires.least c.in_ok-shares.ensures (c.in_ok-book.ensures ∙ ap (λ (p : Published). first_journal c.args.lanes p.facts) c.deref.ensures) in
    let opens = c.in_ok-lock.ensures.opened share.0 share.1 in
    let none = steps-none c.args.lanes (vec_len c.in_ok-shares.shares) c.args.config (arc_value c.in_ok-edition.edition) share.0 c.in_ok-book.book c.in_ok-lock.field-0.lock c.in_ok-lock.field-0.processors.items c.in_ok-lock.field-0.operator c.in_ok-edition.ensures (first_share (arc_value c.in_ok-edition.edition) c.args.lanes c.in_ok-shares.shares.items share.0 c.in_ok-shares.ensures share.1) (c.in_ok-shares.shares.ok.0 ∙ c.in_ok-shares.ensures.many) (c.in_ok-book.ensures ∙ ap (λ (p : Published). first_journal c.args.lanes p.facts) c.deref.ensures) (c.in_ok-lock.ensures.opened share.0 share.1) in
    record {
      edition = arc_value c.in_ok-edition.edition;
      built = c.in_ok-edition.ensures;
      is = λ i. record { world = opens.lock i; lanes = c.args.lanes; editions = c.in_ok-store.ensures i; steps = none i };
    }
