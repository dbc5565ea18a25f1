-- No source before this place has the name.
use Rattle.std.proofs.Common.{◌≡◌, ℕ, ◌<◌, false, get_or, nat_eq}
use Rattle.std.specs.Cmp.Lexicographic.{pointwise}
use Rattle.memory_files.specs.Memory.{NamedSource}
use Rattle.memory_files.proofs.memory_library.place_of.Given as goal

abbrev pub invariant-loop-place : goal.invariant-loop-place
invariant-loop-place l = (k : ℕ) (d : NamedSource) → k < l.place → pointwise nat_eq (get_or l.sources k d).0 l.name ≡ false
