-- The pieces that a text is written in.
use Rattle.std.specs.Prelude.{ℕ, List}
use Rattle.std.specs.List.{flat_map}
use Rattle.std.specs.Fmt.{decimal}
use Rattle.rule_text.specs.declared.writing.Piece.{Piece}
use Rattle.rule_text.specs.declared.writing.Piece.TheVariants.{Text, Number}

-- the text of one piece
abbrev pub piece_text : Piece → List ℕ
piece_text (Text bytes) = bytes.now
piece_text (Number n) = decimal n

-- the pieces' texts, one behind the other
abbrev pub pieces_text : List Piece → List ℕ
pieces_text pieces = flat_map piece_text pieces
