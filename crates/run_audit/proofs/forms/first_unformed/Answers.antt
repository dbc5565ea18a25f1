use Rattle.std.proofs.Common.{◌≡◌, ℕ, None, List, [], refl, ◌∙◌}
use Rattle.report_reading.specs.Lines.{lines_with_ends}
use Rattle.run_audit.specs.Forms.{first_unformed}
use Rattle.run_audit.proofs.forms.first_unformed.Goals as goal

-- where no line is left each had a form
ended : (number : ℕ) (rest : List ℕ) → rest ≡ [] → None ≡ first_unformed number (lines_with_ends rest)
unfolding first_unformed lines_with_ends
ended number rest is = rw is refl

pub returns-in-None : goal.returns-in-None
returns-in-None c = ended c.loop-line.number c.loop-line.rest.now c.in-None.ensures.lines ∙ c.loop-line.invariant.same
