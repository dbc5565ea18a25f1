-- Elements that stand for rules in number order.
use Rattle.std.proofs.Common.{ℕ, ◌≤◌, ◌<◌, List, map, length, get_or, sym, arith}
use Rattle.fw_rule.specs.declared.rule.Rule.{Rule}
use Rattle.rule_chain.specs.Chain.{AscendsFrom}
use Rattle.rule_chain.proofs.Chains.{numbers_ascend}
use Rattle.rule_chain.proofs.Lists.{map_length, map_get}

module _ {X : Type 0} (f : X → Rule) where
  -- of two elements the one before has no greater number, as a rule
  pub ascend : (a : ℕ) (xs : List X) (i j : ℕ) (d : X) → AscendsFrom a (map f xs) → i ≤ j → j < length xs → (f (get_or xs i d)).number ≤ (f (get_or xs j d)).number
  ascend a xs i j d h le within =
      let up = numbers_ascend a (map f xs) i j (f d) h le (let same = map_length f xs in omega arith) in
      let at_i = map_get f xs i d (omega arith) in
      let at_j = map_get f xs j d within in
      rw (sym at_i, sym at_j) up
