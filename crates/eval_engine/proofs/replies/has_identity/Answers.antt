use Rattle.std.proofs.Common.{◌≡◌, ℕ, Bool, true, false, cond, nat_lt, Option, Some, None, is_some, length, refl, ap, ◌∙◌}
use Rattle.std.specs.List.{position_or_len}
use Rattle.generation_store.specs.Published.{is_identity}
use Rattle.eval_engine.proofs.replies.has_identity.Goals as goal
use Rattle.eval_engine.proofs.FirstPlaces.{some_place}

is_there : (b : Bool) (place : ℕ) → is_some (cond b (Some place) None) ≡ b
is_there true place = refl
is_there false place = refl

pub returns : goal.returns
returns c =
    let rules = c.args.edition.now.config.rules in
    let test = is_identity c.args.id in
    c.is_some.ensures ∙ ap (λ (place : Option ℕ). is_some place) c.place_of.ensures
    ∙ is_there (nat_lt (position_or_len test rules) (length rules)) (position_or_len test rules)
    ∙ some_place test rules
