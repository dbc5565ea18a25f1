-- Addresses beside a tree of them.
use Rattle.std.specs.Prelude.{◌≡◌, ℕ, ◌==◌, List}
use Rattle.std.specs.BTreeSet.{BTreeSet, contains}
use Rattle.std.specs.List.{list_any}
use Rattle.std.specs.Ordering.{nat_cmp}
use Rattle.fw_base.specs.declared.address.Addr.{Addr}

-- the tree has exactly the addresses of the list
abbrev pub AreListed : List Addr → BTreeSet ℕ → Type 0
AreListed addresses tree = (address : ℕ) → contains nat_cmp tree address ≡ list_any (λ a. a.0 == address) addresses
