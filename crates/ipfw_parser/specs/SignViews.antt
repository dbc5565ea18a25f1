-- Signs as contracts see them.
use Rattle.ipfw_parser.specs.Lists.{Masks}
use Rattle.ipfw_parser.specs.declared.masks.Signs.{Signs}

-- the two masks
abbrev pub signs_view : Signs → Masks
signs_view signs = record { set = signs.set; clear = signs.clear }
