use Rattle.std.proofs.Common.{sym, ◌∙◌}
use Rattle.cached_verdicts.proofs.Begun.{kept_by_rule}
use Rattle.cached_verdicts.proofs.beginning.verdict_to_keep.Goals as goal

pub returns-in-Some : goal.returns-in-Some
returns-in-Some c = λ packet port second start tally paused stands.
    let there = rw c.in-Some.is at stands in
    kept_by_rule c.args.edition.now port packet second c.in-Some.judgement c.verdict_by_rule.result (sym c.is_cacheable.ensures ∙ c.if-not-is_cacheable.false) c.verdict_by_rule.ensures.lawful
    there.asked there.outcome c.verdict_by_rule.ensures.found
