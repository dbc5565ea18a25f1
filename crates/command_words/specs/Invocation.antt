-- What the words of a command name, as the definition says it.
use Rattle.std.specs.Prelude.{ℕ, ◌<◌, ◌≤◌, IfSome, List, length, map}
use Rattle.std.specs.Borrow.{Bor}
use Rattle.command_words.specs.declared.arguments.Arguments.{Arguments}
use Rattle.command_words.specs.declared.capture_word.CaptureWord.{CaptureWord}
use Rattle.command_words.specs.declared.invocation.Invocation.{Invocation}
use Rattle.command_words.specs.declared.invocation.Invocation.TheVariants as invocation
use Rattle.command_words.specs.Words as words

-- the texts of words
abbrev pub word_texts : List (Bor (List ℕ)) → List (List ℕ)
word_texts = map (λ word. word.now)

-- the words behind the first
abbrev pub arguments_named : Arguments → words.Arguments
arguments_named a = record { journal = a.journal; cache = a.cache; positional = word_texts a.positional.items }

-- a capture
abbrev pub capture_names : CaptureWord → words.CaptureNames
capture_names c = record { direction = c.direction; interface = c.interface.now; name = c.name.now }

-- a command
abbrev pub command_named : Invocation → words.CommandWords
command_named (invocation.Replay mode journal cache script captures) = words.Replay mode journal cache script.now (map capture_names captures.items)
command_named (invocation.Load records) = words.Load records
command_named (invocation.Audit report script captures) = words.Audit report.now script.now (map capture_names captures.items)

-- a replay has a script's name that isn't empty, 1 to 16 captures, and caches for 1 to 65,536 verdicts or none; a
-- load has 1 to 1,000,000 records; an audit has names that aren't empty of a report and a script, and 1 to 16 captures
abbrev pub IsWithinLimits : Invocation → Type 0
IsWithinLimits (invocation.Replay mode journal cache script captures) =
    (0 < length script.now) × (1 ≤ length captures.items) × (length captures.items ≤ 16) × IfSome cache (λ room. (1 ≤ room) × (room ≤ 65536))
IsWithinLimits (invocation.Load records) = (1 ≤ records) × (records ≤ 1000000)
IsWithinLimits (invocation.Audit report script captures) =
    (0 < length report.now) × (0 < length script.now) × (1 ≤ length captures.items) × (length captures.items ≤ 16)
