use Rattle.std.proofs.Common.{◌≡◌, ℕ, ◌-◌, Option, refl, ap, sym}
use Rattle.std.specs.Prelude.{unwrap_or}
use Rattle.std.specs.HashMap.{get}
use Rattle.dyn_states.specs.LimitCounts.{amount_of, same_pair, pair_eq}
use Rattle.dyn_states.proofs.Pairs.{amount_put, amount_kept, same_pair_is}
use Rattle.dyn_states.proofs.limit_counts.LimitCounts.take.Goals as goal

pub returns-in-Some-clause-amounts : goal.returns-in-Some-clause-amounts
unfolding amount_of same_pair
returns-in-Some-clause-amounts c =
    let was : c.in-Some.amount.now ≡ amount_of c.args.self.now c.args.pair = ap (λ (o : Option ℕ). unwrap_or o 0) (rw c.in-Some.is at c.get_mut.ensures.value) in
    λ q. let put = ((c.get_mut.follows.holds (c.in-Some.amount.now - 1)).3 (rw (← c.get_mut.ensures.value) (rw c.in-Some.is refl))).0 q in
    rw (c.saturating_sub.ensures) (rw (← was) (amount_put (same_pair c.args.pair q) (get pair_eq (c.get_mut.follows.lender (c.in-Some.amount.now - 1)) q) (get pair_eq c.args.self.now.amounts q) (c.in-Some.amount.now - 1) put))

pub returns-in_default-clause-amounts : goal.returns-in_default-clause-amounts
unfolding amount_of same_pair
returns-in_default-clause-amounts c =
    let none : amount_of c.args.self.now c.args.pair ≡ 0 = ap (λ (o : Option ℕ). unwrap_or o 0) (sym (rw c.in_default.is at c.get_mut.ensures.value)) in
    λ q. rw c.get_mut.follows.holds-at-none (amount_kept (same_pair c.args.pair q) (amount_of c.args.self.now q) (amount_of c.args.self.now c.args.pair) (λ same. ap (amount_of c.args.self.now) (sym (same_pair_is c.args.pair q same))) none)
