use Rattle.std.proofs.Common.{ℕ, drop, ap, sym, ◌∙◌}
use Rattle.generation_store.specs.Published.{is_identity}
use Rattle.evaluation_laws.proofs.Stepping.{found_at, found_nowhere, found_within}
use Rattle.evaluation_laws.proofs.places.place_of.Goals as goal

pub returns-in_err-place : goal.returns-in_err-place
returns-in_err-place c =
    let rules = c.args.question.now.edition.now.config.rules in
    rw c.from_residual.ensures (found_nowhere (is_identity c.args.id) rules (sym c.in_err-place.ensures))

pub returns-in_err-rule : goal.returns-in_err-rule
returns-in_err-rule c =
    let rules = c.args.question.now.edition.now.config.rules in
    absurd (found_within (is_identity c.args.id) rules c.in_ok-place.place (sym c.in_ok-place.ensures) c.in_err-rule.ensures)

pub returns : goal.returns
returns c =
    let rules = c.args.question.now.edition.now.config.rules in
    let found = found_at (is_identity c.args.id) rules c.in_ok-place.place (sym c.in_ok-place.ensures) in
    record { known = found.0; there = c.in_ok-rule.ensures; suffix = ap (λ (n : ℕ). drop n rules) found.1 ∙ c.in_ok-rule.ensures.there }
