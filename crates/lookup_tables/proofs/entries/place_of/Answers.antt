use Rattle.std.proofs.Common.{rules}
use Rattle.std.proofs.lemmas.Fn.{always_returns_same}
use Rattle.lookup_tables.proofs.Places.{IsPlaceOf-searched}
use Rattle.lookup_tables.proofs.entries.place_of.Goals as goal

pub returns : goal.returns
returns g c =
    let found = c.binary_search_by.ensures in
    let compared = found.position (λ entry. g.K.Ord.cmp entry.0 c.args.key.now) (always_returns_same _ _ _ (λ a r after called. search rules)) in
    IsPlaceOf-searched g.K.Ord.cmp g.met.K.Ord.total c.args.entries.now c.args.key.now c.binary_search_by.result c.requires found.bound compared
