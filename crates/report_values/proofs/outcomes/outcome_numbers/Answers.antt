use Rattle.std.proofs.Common.{ℕ, List, ap, ◌∙◌, map, get_or}
use Rattle.report_values.proofs.OutcomeNumbers.{records_numbered}
use Rattle.report_values.proofs.outcomes.outcome_numbers.Goals as goal

pub returns : goal.returns
returns c =
    let found =
    c.from_vec.ensures ∙ c.in_ok-numbers.ensures
    ∙ ap (λ (numbers : List ℕ). map (λ (place : ℕ). get_or numbers place 0) c.parts.result.1.now) c.deref.ensures.value
    in
    records_numbered c.args.texts.now c.numbers_of_kinds.new.texts c.args.known.now c.parts.result.0.now
    c.in_ok-of_kinds.of_kinds.items c.in_ok-of_kinds.ensures c.parts.result.1.now c.from_vec.result c.args.records.now c.parts.ensures.within
    c.parts.ensures.entries found
