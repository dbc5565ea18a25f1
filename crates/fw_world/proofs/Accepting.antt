-- Editions that stand for some commands stand for one more once that was published.
use Rattle.std.proofs.Common.{◌≡◌, ℕ, ◌+◌, List, [], ◌∷◌, ◌++◌, length, Some, Ok, sym, ap, ◌∙◌, arith}
use Rattle.fw_rule.specs.declared.command.Command.{Command}
use Rattle.generation_store.specs.Published.{Published, IsBuilt}
use Rattle.rule_edits.specs.Apply.{apply}
use Rattle.rule_chain.specs.Configuration.{Configuration}
use Rattle.fw_world.specs.Editions.{AreEditions, AreEditionsFrom, IsLastOf, IsNextEdition}
use Rattle.fw_world.proofs.Numbering.{IsLastOf-tail}

same_value : {X : Type 0} (x y : X) → Some x ≡ Some y → x ≡ y
same_value x y is = cc

more_editions : (number : ℕ) (config : Configuration) (commands : List Command) (editions : List Published) (command : Command) (before : Published) (made : Configuration) (edition : Published)
    → AreEditionsFrom number config commands editions → IsLastOf editions before → apply before.config command ≡ Ok made → IsBuilt (number + length editions) made edition
    → AreEditionsFrom number config (commands ++ command ∷ []) (editions ++ edition ∷ [])
more_editions number config commands [] command before made edition are last is built = absurd are
more_editions number config [] (one ∷ []) command before made edition are last is built =
    let same : one ≡ before = same_value one before last in
    let own : before.config ≡ config = ap (λ (e : Published). e.config) (sym same) ∙ are.configured in
    let count : number + length (one ∷ []) ≡ number + 1 = omega arith in
    (are, made, rw own at is, rw count at built)
more_editions number config [] (one ∷ next ∷ editions) command before made edition are last is built = absurd are
more_editions number config (first ∷ commands) (one ∷ []) command before made edition are last is built = absurd are.3
more_editions number config (first ∷ commands) (one ∷ next ∷ editions) command before made edition are last is built =
    let count : number + length (one ∷ next ∷ editions) ≡ number + 1 + length (next ∷ editions) = omega arith in
    (are.0, are.1, are.2, more_editions (number + 1) are.1 commands (next ∷ editions) command before made edition are.3 (IsLastOf-tail one next editions before last) is (rw count at built))

-- one command more, which made the next edition
pub accepts_one_more : (editions : List Published) (command : Command) (edition : Published) (first : Configuration) (commands : List Command) → IsNextEdition editions command edition
    → AreEditions first commands editions → AreEditions first (commands ++ command ∷ []) (editions ++ edition ∷ [])
accepts_one_more editions command edition first commands next stands =
    let count : length editions + 1 ≡ 1 + length editions = omega arith in
    more_editions 1 first commands editions command next.before next.made edition stands next.last next.applied (rw count at next.built)
