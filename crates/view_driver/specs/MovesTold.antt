-- What is told of moves. Figures stand still at the greatest number of 64 bits.
use Rattle.std.specs.Prelude.{◌≡◌, ◌≢◌, ℕ, ◌+◌, ◌-◌, ◌<◌, ◌≤◌, ◌^◌, List, All, length, map, min, nat_eq, slice_index_or, sum_by, zip, ⊤, ◌⊎◌}
use Rattle.std.specs.Cmp.Lexicographic.{pointwise}
use Rattle.std.specs.List.{IsDistinct}
use Rattle.report_moves.specs.Moves.{AreInOrder, AreToldOnce, HaveSameLengths, IsToldOf, records_in, records_of}
use Rattle.report_moves.specs.declared.moves.Move.{Move}
use Rattle.report_values.specs.Outcomes.{Keeps, outcome_text, texts_at}
use Rattle.report_values.specs.Reports.{IsReport, IsUnfitLine}
use Rattle.report_values.specs.Verdicts.{other_verdicts}
use Rattle.report_values.specs.declared.capture.Capture.{Capture as ToldCapture}
use Rattle.report_values.specs.declared.rules.KnownRule.{KnownRule}
use Rattle.view_driver.specs.declared.trouble.Trouble.{Trouble}
use Rattle.view_driver.specs.declared.trouble.Trouble.TheVariants.{Usage, Unread, NoReport, Script, NoJournal, OtherScript, Captures, Records, Named, OtherRecords, Capture, OutOfMemory}
use Rattle.view_driver.specs.declared.compared.Compared.{Compared}

-- how many records some moves have
abbrev pub records_told : List Move → ℕ
records_told moves = min (records_of moves) (2 ^ 64 - 1)

-- Two reports were compared: their captures have as many records. What moved and what stayed is told as it is, once,
-- and whole: together they have as many records as the captures. The most records come first.
pub record IsCompared (compared : Compared) : Type 0 where
  pub lengths : HaveSameLengths compared.old.items compared.new.items
  pub told : All (IsToldOf compared.old.items compared.new.items) compared.moves.moved.items
  pub once : AreToldOnce compared.moves.moved.items
  pub others : All (λ move. move.was ≢ move.is) compared.moves.moved.items
  pub order : AreInOrder compared.moves.moved.items
  pub stayed_told : All (IsToldOf compared.old.items compared.new.items) compared.moves.stayed.items
  pub stayed_once : AreToldOnce compared.moves.stayed.items
  pub same : All (λ move. move.was ≡ move.is) compared.moves.stayed.items
  pub stayed_order : AreInOrder compared.moves.stayed.items
  pub all : records_of compared.moves.moved.items + records_of compared.moves.stayed.items ≡ records_in compared.old.items

-- How many records of captures came to another verdict. A record has one place in both reports.
abbrev pub verdicts_between : List ToldCapture → List ToldCapture → ℕ
verdicts_between old new = min (sum_by (λ told. other_verdicts told.0.records told.1.records) (zip old new)) (2 ^ 64 - 1)

-- how many records each capture of a report has
abbrev pub counts_of : List ToldCapture → List ℕ
counts_of captures = map (λ capture. length capture.records) captures

-- A list of numbers for each capture: they have texts, and those are what the capture's records came to, by these rules.
pub record AreOutcomes (texts : List (List ℕ)) (known : List KnownRule) (captures : List ToldCapture) (numbers : List (List ℕ)) : Type 0 where
  pub within : All (All (λ number. number < length texts)) numbers
  pub told : map (texts_at texts) numbers ≡ map (λ capture. map (outcome_text known) capture.records) captures

-- the same behind a call that may add texts, by some rules
pub record TellsOutcomes (old new : List (List ℕ)) (captures : List ToldCapture) (numbers : List (List ℕ)) : Type 0 where
  pub kept : Keeps old new
  pub known : List KnownRule
  pub outcomes : AreOutcomes new known captures numbers

-- What was compared are the outcomes of the records of these captures, then by some rules and now by some: two of
-- them are the same text exactly where they have one number. So many of the records came to another verdict.
pub record HasOutcomes (old new : List ToldCapture) (compared : Compared) : Type 0 where
  pub distinct : IsDistinct (pointwise nat_eq) compared.texts.items
  pub old_known : List KnownRule
  pub old_outcomes : AreOutcomes compared.texts.items old_known old compared.old.items
  pub new_known : List KnownRule
  pub new_outcomes : AreOutcomes compared.texts.items new_known new compared.new.items
  pub verdicts : compared.other_verdicts ≡ verdicts_between old new

-- the captures that both have have as many records, as far as so many
abbrev pub AreAlike : List ℕ → List ℕ → ℕ → Type 0
AreAlike old new count = (place : ℕ) → place < count → slice_index_or old place 0 ≡ slice_index_or new place 0

-- the capture at this place is the first of both that has another number of records in one than in the other
pub record IsOtherAt (old new : List ℕ) (place : ℕ) : Type 0 where
  pub within : place < min (length old) (length new)
  pub before : AreAlike old new place
  pub apart : slice_index_or old place 0 ≢ slice_index_or new place 0

-- the same of its number, from 1, with its numbers of records
pub record IsFirstOther (old new : List ℕ) (capture was is_now : ℕ) : Type 0 where
  pub first : 1 ≤ capture
  pub other : IsOtherAt old new (capture - 1)
  pub was_is : was ≡ slice_index_or old (capture - 1) 0
  pub is_so : is_now ≡ slice_index_or new (capture - 1) 0

-- one has more captures, and those that both have have as many records
pub record IsOtherNumber (old new : List ℕ) (was is_now : ℕ) : Type 0 where
  pub was_is : was ≡ length old
  pub is_so : is_now ≡ length new
  pub apart : was ≢ is_now
  pub alike : AreAlike old new (min (length old) (length new))

-- what was compared has as many captures, each with as many records, as the reports
pub record HasCounts (old new : List ℕ) (compared : Compared) : Type 0 where
  pub old_is : map length compared.old.items ≡ old
  pub new_is : map length compared.new.items ≡ new

-- Why two reports aren't compared, by how many records each of their captures has. Want of memory is free.
abbrev pub IsUnlike : List ℕ → List ℕ → Trouble → Type 0
IsUnlike old new (Captures was is_now) = IsOtherNumber old new was is_now
IsUnlike old new (Records capture was is_now) = IsFirstOther old new capture was is_now
IsUnlike old new OutOfMemory = ⊤
IsUnlike old new Usage = ⊥
IsUnlike old new (Unread name) = ⊥
IsUnlike old new (NoReport name line) = ⊥
IsUnlike old new (Script fault) = ⊥
IsUnlike old new (NoJournal name) = ⊥
IsUnlike old new (OtherScript name line script) = ⊥
IsUnlike old new (Named told named) = ⊥
IsUnlike old new (OtherRecords name told read) = ⊥
IsUnlike old new (Capture name at fault) = ⊥

-- the text of this name is no report: the line of this number is the first that none has there; or memory ran out
abbrev pub IsNoReport : List ℕ → List ℕ → Trouble → Type 0
IsNoReport name text (NoReport told line) = (told.now ≡ name) × IsUnfitLine text line
IsNoReport name text OutOfMemory = ⊤
IsNoReport name text Usage = ⊥
IsNoReport name text (Unread unread) = ⊥
IsNoReport name text (Script fault) = ⊥
IsNoReport name text (NoJournal report) = ⊥
IsNoReport name text (OtherScript report line script) = ⊥
IsNoReport name text (Captures was is_now) = ⊥
IsNoReport name text (Records capture was is_now) = ⊥
IsNoReport name text (Named told named) = ⊥
IsNoReport name text (OtherRecords capture told read) = ⊥
IsNoReport name text (Capture capture at fault) = ⊥

-- two texts are reports of captures that don't fit
pub record AreUnlikeTexts (old new : List ℕ) (trouble : Trouble) : Type 0 where
  pub old_captures : List ToldCapture
  pub new_captures : List ToldCapture
  pub old_behind : List ℕ
  pub new_behind : List ℕ
  pub old_is : IsReport old old_captures old_behind
  pub new_is : IsReport new new_captures new_behind
  pub unlike : IsUnlike (counts_of old_captures) (counts_of new_captures) trouble

-- two texts are reports, and the outcomes of their captures' records were compared
pub record ComparesTexts (old new : List ℕ) (compared : Compared) : Type 0 where
  pub old_captures : List ToldCapture
  pub new_captures : List ToldCapture
  pub old_behind : List ℕ
  pub new_behind : List ℕ
  pub old_is : IsReport old old_captures old_behind
  pub new_is : IsReport new new_captures new_behind
  pub told : IsCompared compared
  pub outcomes : HasOutcomes old_captures new_captures compared

-- Why two texts, which have these names, aren't compared. Want of memory is free.
abbrev pub IsTroubleOf : List ℕ → List ℕ → List ℕ → List ℕ → Trouble → Type 0
IsTroubleOf old_name old new_name new (Captures was is_now) = AreUnlikeTexts old new (Captures was is_now)
IsTroubleOf old_name old new_name new (Records capture was is_now) = AreUnlikeTexts old new (Records capture was is_now)
IsTroubleOf old_name old new_name new (NoReport told line) = IsNoReport old_name old (NoReport told line) ⊎ IsNoReport new_name new (NoReport told line)
IsTroubleOf old_name old new_name new OutOfMemory = ⊤
IsTroubleOf old_name old new_name new Usage = ⊥
IsTroubleOf old_name old new_name new (Unread unread) = ⊥
IsTroubleOf old_name old new_name new (Script fault) = ⊥
IsTroubleOf old_name old new_name new (NoJournal report) = ⊥
IsTroubleOf old_name old new_name new (OtherScript report line script) = ⊥
IsTroubleOf old_name old new_name new (Named told named) = ⊥
IsTroubleOf old_name old new_name new (OtherRecords capture told read) = ⊥
IsTroubleOf old_name old new_name new (Capture capture at fault) = ⊥
