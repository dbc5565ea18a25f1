use Rattle.std.proofs.Common.{◌≡◌, ℕ, ◌+◌, Option, refl, arith, ap, sym}
use Rattle.std.specs.Prelude.{unwrap_or}
use Rattle.std.specs.HashMap.{get}
use Rattle.dyn_states.specs.LimitCounts.{amount_of, same_pair, pair_eq}
use Rattle.dyn_states.proofs.Pairs.{amount_put}
use Rattle.dyn_states.proofs.limit_counts.LimitCounts.add.Goals as goal

pub overflow_add-amount : goal.overflow_add-amount
unfolding amount_of
overflow_add-amount c =
    let was : c.in-Some.amount.now ≡ amount_of c.args.self.now c.args.pair = ap (λ (o : Option ℕ). unwrap_or o 0) (rw c.in-Some.is at c.get_mut.ensures.value) in
    omega arith

pub returns-in-Some-clause-amounts : goal.returns-in-Some-clause-amounts
unfolding amount_of same_pair
returns-in-Some-clause-amounts c =
    let was : c.in-Some.amount.now ≡ amount_of c.args.self.now c.args.pair = ap (λ (o : Option ℕ). unwrap_or o 0) (rw c.in-Some.is at c.get_mut.ensures.value) in
    λ q. let put = ((c.get_mut.follows.holds (c.in-Some.amount.now + 1)).3 (rw (← c.get_mut.ensures.value) (rw c.in-Some.is refl))).0 q in
    rw (← was) (amount_put (same_pair c.args.pair q) (get pair_eq (c.get_mut.follows.lender (c.in-Some.amount.now + 1)) q) (get pair_eq c.args.self.now.amounts q) (c.in-Some.amount.now + 1) put)

pub returns-clause-amounts : goal.returns-clause-amounts
unfolding amount_of same_pair
returns-clause-amounts c =
    let none : amount_of c.args.self.now c.args.pair ≡ 0 = ap (λ (o : Option ℕ). unwrap_or o 0) (sym (rw c.in_default.is at c.get_mut.ensures.value)) in
    λ q. let put = rw c.get_mut.follows.holds-at-none at (c.in-Ok.ensures.updates.0 q) in
    rw none (amount_put (same_pair c.args.pair q) (get pair_eq c.insert.new.self q) (get pair_eq c.args.self.now.amounts q) 1 put)
