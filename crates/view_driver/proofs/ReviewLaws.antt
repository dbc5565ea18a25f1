-- What the writers of a review go through.
use Rattle.std.proofs.Common.{◌≡◌, ◌∙◌, ℕ, ◌+◌, ◌<◌, List, [], ◌++◌, length, drop, get_or, flat_map, sym, ap}
use Rattle.fw_base.proofs.Texts.{flat_map-drop}
use Rattle.ipfw_parser.specs.declared.kind.Kind.TheVariants.{UnknownWord}
use Rattle.script_review.specs.declared.faulty_lines.LineFault.{LineFault}

-- the text of the element at this place, and of those behind it
pub more_texts : {X : Type 0} (text_of : X → List ℕ) (elements : List X) (place : ℕ) (element : X) → place < length elements → element ≡ get_or elements place element
    → flat_map text_of (drop place elements) ≡ text_of element ++ flat_map text_of (drop (place + 1) elements)
more_texts text_of elements place element within same =
    flat_map-drop text_of elements place element within ∙ ap (λ x. text_of x ++ flat_map text_of (drop (place + 1) elements)) (sym same)

-- a fault, for a place beyond the last one
abbrev pub some_fault : LineFault
some_fault = record { line = 0; text = record { ref_ptr = (0, 0); now = [] }; column = 0; kind = UnknownWord }
