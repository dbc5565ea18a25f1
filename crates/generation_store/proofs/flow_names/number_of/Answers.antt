use Rattle.std.proofs.Common.{◌≡◌, ◌≤◌, Bool, true, false, cond, nat_lt, nat_eq, Some, None, List, length, refl, arith}
use Rattle.std.proofs.lemmas.Bool.Decides.{nat_tests}
use Rattle.std.proofs.lemmas.List.Sums.{prefix_len-le-length}
use Rattle.std.specs.Cmp.Lexicographic.{pointwise}
use Rattle.std.specs.List.{position, position_or_len}
use Rattle.std.specs.Option.{unwrap_or}
use Rattle.generation_store.proofs.flow_names.number_of.Goals as goal

-- the place, or the length
place_or_length : {X : Type 0} (p : X → Bool) (xs : List X) → position_or_len p xs ≤ length xs → unwrap_or (position p xs) (length xs) ≡ position_or_len p xs
place_or_length p xs within =
    elim (nat_lt (position_or_len p xs) (length xs)) as (λ b. nat_lt (position_or_len p xs) (length xs) ≡ b → unwrap_or (cond b (Some (position_or_len p xs)) None) (length xs) ≡ position_or_len p xs) [
      | true ↦ λ is. refl
      | false ↦ λ is. grind (arith, nat_tests)
    ] refl

pub returns : goal.returns
returns c =
    let whole = place_or_length (λ other. pointwise nat_eq other c.args.name.now) c.args.names.now (prefix_len-le-length _ c.args.names.now) in
    cc
