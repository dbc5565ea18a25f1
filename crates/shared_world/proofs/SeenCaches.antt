-- What a lane saw, beside the editions under which it judged.
use Rattle.std.proofs.Common.{ℕ, ◌≤◌, Option, Some, None, List, [], ◌∷◌, arith}
use Rattle.std.specs.Prelude.{IfSome, IsSomeAnd}
use Rattle.std.specs.List.{AllByRecursion}
use Rattle.fw_world.proofs.Caching.{AreBelow}
use Rattle.fw_world.specs.Editions.{edition_numbered}
use Rattle.fw_world.specs.Standing.{AreSeenOf}
use Rattle.generation_store.specs.Published.{Published, IsBuilt}
use Rattle.rule_chain.specs.Configuration.{Configuration}
use Rattle.shared_world.specs.LaneKept.{IsSeenIn}

-- numbers that were seen, none of which is past this one, are below it among the editions
pub seen-below : (editions : List Published) (seen : List (ℕ × Configuration)) (top : ℕ) (numbers : List ℕ) → AreSeenOf editions seen → AllByRecursion (λ number. (number ≤ top) × IsSeenIn seen number) numbers → AreBelow editions top numbers
seen-below editions seen top [] are all = tt
seen-below editions seen top (number ∷ numbers) are all = (
  one (edition_numbered editions number) (are all.0.1.index number all.0.1.config all.0.1.pair),
  seen-below editions seen top numbers are all.1,
)
  where
    one : (found : Option Published) → IsSomeAnd found (IsBuilt number all.0.1.config) → IfSome found (λ edition. edition.number ≤ top)
    one None built = tt
    one (Some edition) built = omega (arith, built.numbered, all.0.0)
