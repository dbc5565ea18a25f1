-- A tree over a list of addresses.
use Rattle.std.proofs.Common.{ℕ, true, List, [], ◌∷◌, ◌++◌, arith, nat_cmp}
use Rattle.std.specs.Prelude.{◌==◌}
use Rattle.std.specs.BTreeSet.{BTreeSet, Updates}
use Rattle.std.proofs.lemmas.Grind.{common_steps}
use Rattle.fw_base.specs.declared.address.Addr.{Addr}
use Rattle.rule_edits.specs.Addresses.{AreListed}
use Rattle.rule_edits.proofs.Lists.{any-append}

-- an address more in both
pub listed_more : (addresses : List Addr) (a : Addr) (old new : BTreeSet ℕ) → Updates nat_cmp old new a.0 true → AreListed addresses old → AreListed (addresses ++ a ∷ []) new
listed_more addresses a old new updates h q =
    let first = updates.0 q in
    let were = h q in
    let both = any-append (λ (b : Addr). b.0 == q) addresses (a ∷ []) in
    grind (arith, common_steps)
