use Rattle.std.proofs.Common.{refl}
use Rattle.verdict_cache.proofs.Missed.{put_entries-none}
use Rattle.verdict_cache.proofs.cache.VerdictCache.keep.Goals as goal

pub returns-clause-kept : goal.returns-clause-kept
returns-clause-kept g c =
    let missing = rw (← c.self.view_is) at c.requires.missing in
    rw (c.in_ok-put.ensures.entries, ← c.self.view_is, put_entries-none c.self.inside.recent c.args.key c.args.value c.self.invariant missing) refl
