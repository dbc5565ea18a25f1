use Rattle.std.proofs.Common.{◌≡◌, ◌++◌, length, map, drop}
use Rattle.std.specs.Option.{option_map}
use Rattle.command_words.specs.Invocation.{capture_names, word_texts}
use Rattle.command_words.specs.Words as spec
use Rattle.command_words.proofs.captures.captures_of.Given as goal

abbrev pub invariant-loop-word : goal.invariant-loop-word
invariant-loop-word l = record {
  kept : spec.captures_of (word_texts l.fn.words) ≡ option_map (λ rest. map capture_names l.captures.items ++ rest) (spec.captures_of (word_texts (drop l.word-index l.fn.words)));
  count : length l.captures.items ≡ l.word-index;
}
