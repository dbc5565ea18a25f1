-- Parts of a word, and readings that may find nothing.
use Rattle.std.specs.Prelude.{ℕ, ◌+◌, ◌==◌, Option, Some, None, Result, Ok, List, length, take, drop, position, unwrap_or}
use Rattle.std.specs.Option.{option_map}
use Rattle.ipfw_parser.specs.declared.kind.Kind.{Kind}
use Rattle.ipfw_parser.specs.Reading.{Fault, fault_at}

-- the part before the first such byte
unfoldable pub part_before : ℕ → List ℕ → List ℕ
part_before byte text = take (unwrap_or (position (λ b. b == byte) text) (length text)) text

-- the part behind it, where it is there
unfoldable pub part_behind : ℕ → List ℕ → Option (List ℕ)
part_behind byte text = option_map (λ k. drop (k + 1) text) (position (λ b. b == byte) text)

-- what is found in what was found
abbrev pub then_some : {X Y : Type 0} → Option X → (X → Option Y) → Option Y
then_some None f = None
then_some (Some x) f = f x

-- what was found, or this fault
abbrev pub found_or : {X : Type 0} → Kind → ℕ → Option X → Result X Fault
found_or kind column (Some x) = Ok x
found_or kind column None = fault_at column kind
