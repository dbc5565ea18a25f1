use Rattle.std.proofs.Common.{◌≡◌, map}
use Rattle.std.specs.Option.{option_copied}
use Rattle.ipfw_parser.specs.Lists.{elements, elements_left, sign_masks}
use Rattle.ipfw_parser.specs.SignViews.{signs_view}
use Rattle.ipfw_parser.proofs.Steps.Lists.{left_len}
use Rattle.ipfw_parser.proofs.masks.signed_names.Given as goal

abbrev pub invariant-loop-rest : goal.invariant-loop-rest
invariant-loop-rest l =
    sign_masks (map (λ name. name.now) l.names) (signs_view l.found) l.word.column (elements_left (option_copied l.rest))
    ≡ sign_masks (map (λ name. name.now) l.names) (record { set = 0; clear = 0 }) l.word.column (elements l.word.text.now)

abbrev pub decreases-loop-rest : goal.decreases-loop-rest
decreases-loop-rest l = left_len l.rest
