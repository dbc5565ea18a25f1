-- A list of editions that grows.
use Rattle.std.specs.Prelude.{Bool, List}
use Rattle.generation_store.specs.Published.{Published}

-- the editions in order, and whether there is room for one more
pub record Held : Type 0 where
  pub editions : List Published
  pub ready : Bool
