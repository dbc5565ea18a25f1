use Rattle.std.proofs.Common.{rules, refl, ◌∙◌, ap}
use Rattle.std.proofs.lemmas.Option.{slice_get_read}
use Rattle.rm_lock.proofs.Hands.{exchanging_none, exchanging_one, next_kept}
use Rattle.rm_lock.proofs.publishing.exchange_all.Goals as goal

pub loop-index-init : goal.loop-index-init
loop-index-init g c = (search rules, refl, search rules, refl, λ olds count hand. exchanging_none olds c.args.editions.now.items c.args.seat.now.me.1 hand)

pub exchange_one-requires-clause-on_top : goal.exchange_one-requires-clause-on_top
exchange_one-requires-clause-on_top g c =
    let o = c.requires.hand in
    next_kept c.loop-index.index o.0 c.args.editions.now.items c.loop-index.editions.items c.loop-index.seat.me.1 (let e = o.1 in search rules) (c.loop-index.invariant.4 o.0 o.1 o.2)

pub loop-index-preserved : goal.loop-index-preserved
loop-index-preserved g c = (
  search rules,
  search rules,
  search rules,
  ap (λ z. z.0) c.exchange_one.ensures.now ∙ c.loop-index.invariant.3,
  λ olds count hand.
      exchanging_one c.loop-index.index olds c.args.editions.now.items c.loop-index.editions.items _ c.loop-index.seat.me.1 c.exchange_one.new.seat.me.1 c.exchange_one.new.edition c.index_mut.result.now
      (let e = count in search rules) (search rules) c.exchange_one.ensures.was (slice_get_read c.loop-index.editions.items _ c.loop-index.index c.index_mut.result.now refl (search rules) c.index_mut.ensures.value)
      (ap (λ z. z.1) c.exchange_one.ensures.now) refl (c.loop-index.invariant.4 olds count hand),
)
