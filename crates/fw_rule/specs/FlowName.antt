-- The names of flows (ipfw(8), "STATEFUL FIREWALL"): a state is found only by the name that made it.
use Rattle.std.specs.Prelude.{◌≢◌, ℕ, List, codes}

-- the name of a flow that is given none
abbrev pub default_flow : List ℕ
default_flow = codes "default"

-- `:any` stands for every name, so no flow is called so
abbrev pub IsFlowName : List ℕ → Type 0
IsFlowName name = name ≢ codes "any"
