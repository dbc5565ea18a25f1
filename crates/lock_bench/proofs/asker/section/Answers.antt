use Rattle.std.proofs.Common.{◌∙◌, ap, sym}
use Rattle.lock_bench.proofs.Asked.{asked_as_taken}
use Rattle.lock_bench.proofs.asker.section.Goals as goal

pub give_book-requires-clause-left : goal.give_book-requires-clause-left
give_book-requires-clause-left g c =
    asked_as_taken c.place-place.result c.in-In.reading.view c.take_book-holding.result.view c.take_book-holding.result.book _ c.deref_mut.result.now
    c.take_book-holding.ensures.taken (c.deref_mut.ensures.value ∙ ap (λ b. b.book.value) c.book.ensures.value)
    (c.place-place.ensures ∙ sym (ap (λ v. v.place) c.in-In.ensures.entry.1.1)) c.look_up-asked.ensures
