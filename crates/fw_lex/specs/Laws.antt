-- That a scan finds a part's longest runs of bytes that aren't blank.
use Rattle.std.specs.Prelude.{◌≡◌, ℕ, List}
use Rattle.fw_lex.specs.declared.token.Token.{Token}
use Rattle.fw_lex.specs.Words.{tokens_in, AreLongestRuns}

-- what the scan finds are the longest runs
abbrev pub ScannedAreLongestRuns : Type 0
ScannedAreLongestRuns = (part : List ℕ) → AreLongestRuns part (tokens_in part)

-- whatever are the longest runs is what the scan finds
abbrev pub LongestRunsAreScanned : Type 0
LongestRunsAreScanned = (part : List ℕ) (tokens : List Token) → AreLongestRuns part tokens → tokens ≡ tokens_in part
