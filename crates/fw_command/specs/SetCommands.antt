-- The commands on sets (ipfw(8), "SETS OF RULES"): their words behind `set`.
use Rattle.std.specs.Prelude.{ℕ, ◌^◌, Bool, true, false, ◌&&◌, if◌then◌else◌, bit_or, Result, Ok, List, [], ◌∷◌, codes}
use Rattle.fw_rule.specs.declared.command.Command.{Command}
use Rattle.fw_rule.specs.declared.command.Command.TheVariants.{SetMask, MoveSet, MoveRule, SwapSets}
use Rattle.ipfw_parser.specs.declared.kind.Kind.TheVariants.{UnknownWord}
use Rattle.ipfw_parser.specs.Reading.{Word, Fault, WordReading, fault_at, ◌>>=◌, same, first, words_behind_word}
use Rattle.ipfw_parser.specs.Numbers.{set_number}
use Rattle.ipfw_parser.specs.Rules.{set_behind}
use Rattle.fw_command.specs.Ends.{result_at_end, first_number}

-- a set as the bit of a mask
unfoldable pub set_bit : Word → Result ℕ Fault
set_bit word = set_number word >>= λ n. Ok (2 ^ n)

-- the word ends a list of sets behind which `enable` may follow
unfoldable pub ends_sets : Bool → List ℕ → Bool
ends_sets to_enable text = to_enable && same text (codes "enable")

-- Sets up to the line's end, or up to `enable` where it may follow, as bits beside those of the mask.
unfoldable pub more_sets : Bool → ℕ → List Word → WordReading ℕ
more_sets to_enable mask [] = Ok (mask, [])
more_sets to_enable mask (word ∷ words) =
    if ends_sets to_enable word.text then Ok (mask, word ∷ words)
    else (do
      bit ← set_bit word
      more_sets to_enable (bit_or mask bit) words)

-- the same, with one set at least
unfoldable pub sets : Bool → ℕ → List Word → WordReading ℕ
sets to_enable end words = do
  next ← first end words
  bit ← set_bit next.0
  more_sets to_enable bit next.1

-- behind `enable`
unfoldable pub enable : ℕ → ℕ → List Word → Result Command Fault
enable disabled end words = do
  enabled ← sets false end words
  Ok (SetMask disabled enabled.0)

-- behind the sets of `disable`: the line's end, or `enable`
unfoldable pub disable_end : ℕ → ℕ → List Word → Result Command Fault
disable_end disabled end [] = Ok (SetMask disabled 0)
disable_end disabled end (word ∷ words) = enable disabled end words

-- behind `disable`
unfoldable pub disable : ℕ → List Word → Result Command Fault
disable end words = do
  disabled ← sets true end words
  disable_end disabled.0 end disabled.1

-- behind `move rule`: a number of rules, `to` and a set
unfoldable pub move_rule_command : ℕ → List Word → Result Command Fault
move_rule_command end words = do
  which ← first_number 1 65535 end words
  to_end ← words_behind_word (codes "to") end which.1
  target ← set_behind end to_end
  result_at_end (MoveRule which.0 target.0) target.1

-- behind `move`: a set, `to` and a set
unfoldable pub move_set_command : ℕ → List Word → Result Command Fault
move_set_command end words = do
  which ← set_behind end words
  to_end ← words_behind_word (codes "to") end which.1
  target ← set_behind end to_end
  result_at_end (MoveSet which.0 target.0) target.1

-- behind `move`
unfoldable pub move_words : ℕ → List Word → Result Command Fault
move_words end words = do
  next ← first end words
  if same next.0.text (codes "rule") then move_rule_command end next.1 else move_set_command end words

-- behind `swap`
unfoldable pub swap_sets_command : ℕ → List Word → Result Command Fault
swap_sets_command end words = do
  one ← set_behind end words
  other ← set_behind end one.1
  result_at_end (SwapSets one.0 other.0) other.1

-- behind `set`
unfoldable pub set_command : ℕ → List Word → Result Command Fault
set_command end words = do
  next ← first end words
  (if same next.0.text (codes "disable") then disable end next.1
      else if same next.0.text (codes "enable") then enable 0 end next.1
      else if same next.0.text (codes "move") then move_words end next.1
      else if same next.0.text (codes "swap") then swap_sets_command end next.1
      else fault_at next.0.column UnknownWord)
