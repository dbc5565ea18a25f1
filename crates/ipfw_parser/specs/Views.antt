-- What the parser's words mean.
use Rattle.std.specs.Prelude.{List, map}
use Rattle.ipfw_parser.specs.Reading.{Word, word_at}
use Rattle.ipfw_parser.specs.declared.word.Word.{Word as TextWord}
use Rattle.ipfw_parser.specs.declared.words.Words.{Words}

-- a word with its column
abbrev pub view : TextWord → Word
view word = record { column = word.column; text = word.text.now }

-- the words as a list
abbrev pub list_of : Words → List Word
list_of words = map (word_at words.line.now) words.tokens.now
