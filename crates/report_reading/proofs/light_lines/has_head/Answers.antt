use Rattle.std.proofs.Common.{◌≡◌, Option, Some, None, refl, ap, ◌∙◌}
use Rattle.std.specs.Prelude.{is_some}
use Rattle.std.specs.Option.{option_map}
use Rattle.report_reading.specs.LightLines.{has_head, head_words}
use Rattle.report_reading.proofs.light_lines.has_head.Goals as goal

some_mapped : {A B : Type 0} (f : A → B) (found : Option A) → is_some found ≡ is_some (option_map f found)
some_mapped f None = refl
some_mapped f (Some told) = refl

pub returns : goal.returns
unfolding has_head head_words
returns c = c.is_some.ensures ∙ some_mapped _ c.named_code.result ∙ ap is_some c.named_code.ensures
