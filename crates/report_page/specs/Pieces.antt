-- The text of a page: markup of its own, text of a report, and figures.
use Rattle.std.specs.Prelude.{ℕ, List, decimal}
use Rattle.std.specs.List.{flat_map}
use Rattle.report_page.specs.Escapes.{escaped}
use Rattle.report_page.specs.declared.pieces.Piece.{Piece}
use Rattle.report_page.specs.declared.pieces.Piece.TheVariants.{Markup, Text, Figure}

-- markup as it is, text escaped, a figure in decimal digits
abbrev pub piece_text : Piece → List ℕ
piece_text (Markup markup) = markup.now
piece_text (Text text) = escaped text.now
piece_text (Figure figure) = decimal figure

-- the pieces one after another
unfoldable pub page_text : List Piece → List ℕ
page_text pieces = flat_map piece_text pieces
