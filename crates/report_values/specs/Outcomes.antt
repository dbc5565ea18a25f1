-- What a record came to, by the verdict and the texts of the rule.
use Rattle.std.specs.Prelude.{◌≡◌, ℕ, ◌<◌, ◌≤◌, ◌==◌, ◌&&◌, Bool, if◌then◌else◌, List, [], ◌∷◌, ◌++◌, codes, decimal, length, map, slice_index_or, All}
use Rattle.std.specs.List.{flat_map}
use Rattle.rule_text.specs.Canonical.{code_word}
use Rattle.eval_engine.specs.declared.docket_entry.DocketEntry.{DocketEntry}
use Rattle.eval_engine.specs.declared.docket_entry.DocketEntry.TheVariants as entry
use Rattle.eval_engine.specs.declared.judgement.Verdict.{Verdict}
use Rattle.eval_engine.specs.declared.judgement.Verdict.TheVariants.{Allow, Deny, Reset, Unreach}
use Rattle.report_values.specs.declared.rules.KnownRule.{KnownRule}

-- a rule of this edition has this number
abbrev pub is_numbered : ℕ → ℕ → KnownRule → Bool
is_numbered edition number rule = rule.edition == edition && rule.number == number

-- how a rule of this number in this edition is told: by its text
abbrev pub rule_part : ℕ → ℕ → KnownRule → List ℕ
rule_part edition number rule = if is_numbered edition number rule then codes ", by " ++ rule.text.now else []

-- a rule of which the report has no text: its number and its edition
unfoldable pub unknown_part : ℕ → ℕ → List ℕ
unknown_part edition number = codes ", by rule " ++ (decimal number ++ (codes " of edition " ++ decimal edition))

-- these texts, or a rule without
abbrev pub known_or : List ℕ → ℕ → ℕ → List ℕ
known_or [] edition number = unknown_part edition number
known_or (byte ∷ bytes) edition number = byte ∷ bytes

-- the rules of a number in an edition, by their texts
unfoldable pub rules_part : List KnownRule → ℕ → ℕ → List ℕ
rules_part known edition number = known_or (flat_map (rule_part edition number) known) edition number

-- the verdict with its code (ipfw(8), "RULE ACTIONS")
abbrev pub verdict_part : Verdict → List ℕ
verdict_part Allow = codes "allow"
verdict_part Deny = codes "deny"
verdict_part Reset = codes "reset"
verdict_part (Unreach code) = codes "unreach " ++ code_word code

-- a verdict, these words, and the rules
unfoldable pub judged_part : List KnownRule → Verdict → List ℕ → ℕ → ℕ → List ℕ
judged_part known verdict words edition number = verdict_part verdict ++ (words ++ rules_part known edition number)

-- what a record came to
abbrev pub outcome_text : List KnownRule → DocketEntry → List ℕ
outcome_text known entry.Other = codes "no IP"
outcome_text known (entry.Malformed kind) = codes "malformed, kind " ++ decimal kind
outcome_text known (entry.Judged verdict rule edition) = judged_part known verdict [] edition rule.number
outcome_text known (entry.Limited verdict rule states edition) = judged_part known verdict (codes " at a limit") edition rule.number
outcome_text known (entry.Full verdict rule states edition) = judged_part known verdict (codes " with all states taken") edition rule.number

-- the texts of these numbers
abbrev pub texts_at : List (List ℕ) → List ℕ → List (List ℕ)
texts_at texts numbers = map (λ number. slice_index_or texts number []) numbers

-- no text was taken away or changed
pub record Keeps (old new : List (List ℕ)) : Type 0 where
  pub count : length old ≤ length new
  pub same : (number : ℕ) → number < length old → slice_index_or new number [] ≡ slice_index_or old number []

-- a text has this number
pub record IsNumbered (texts : List (List ℕ)) (number : ℕ) (text : List ℕ) : Type 0 where
  pub within : number < length texts
  pub is : slice_index_or texts number [] ≡ text

-- a text has this number behind the call, whether it was there or was added
pub record Numbers (old new : List (List ℕ)) (text : List ℕ) (number : ℕ) : Type 0 where
  pub kept : Keeps old new
  pub numbered : IsNumbered new number text

-- each of these texts has its number
pub record NumbersAll (old new texts : List (List ℕ)) (numbers : List ℕ) : Type 0 where
  pub kept : Keeps old new
  pub within : All (λ number. number < length new) numbers
  pub told : texts_at new numbers ≡ texts
