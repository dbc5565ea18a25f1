use Rattle.std.proofs.Common.{◌≡◌, Bool, true, false, List, [], refl, ℕ}
use Rattle.dyn_states.specs.StateObject.{after_publication, states_after}
use Rattle.state_journal.proofs.book.open_states.Goals as goal

nothing_taken : (keep : Bool) (rules : List ℕ) → states_after keep rules [] ≡ []
nothing_taken true rules = refl
nothing_taken false rules = refl

pub returns-clause-object : goal.returns-clause-object
unfolding after_publication
returns-clause-object c = rw (nothing_taken c.args.facts.now.settings.keep c.args.facts.now.rules) c.open.ensures.object
