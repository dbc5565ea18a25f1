-- As many answers as a text has bytes are enough: what stands behind one is shorter.
use Rattle.std.proofs.Common.{◌≡◌, ℕ, zero, suc, ◌+◌, ◌<◌, ◌≤◌, Option, Some, None, List, [], ◌∷◌, length, take, drop, position, refl, arith}
use Rattle.std.specs.Prelude.{Ok, Err, IfOk, IfSome, codes}
use Rattle.std.specs.Option.{option_map}
use Rattle.std.proofs.lemmas.List.{length-drop}
use Rattle.report_reading.specs.Parts.{behind}
use Rattle.fw_base.specs.Chain as steps
use Rattle.fw_base.specs.Chain.{or_else}
use Rattle.report_values.specs.Fields.{whole_number, edition_in, entries_in, rule_number_at}
use Rattle.report_values.specs.Lines.{◌>>=◌, Fit, any, first_line, is_end, line_of, lines_of, or_at, told_at}
use Rattle.report_values.specs.Sections.{Lines, answer, answers, behind_answer, entries_of, listing, listing_of}

-- a line's rest is shorter than this text
abbrev IsShorter : {A : Type 0} → List ℕ → A × List ℕ → Type 0
IsShorter text line = length line.1 < length text

-- where lines fit, less than this stands behind them
abbrev LeaveLess : ℕ → Lines → Type 0
LeaveLess limit lines = IfOk lines (λ rest. length rest < limit)

-- what stands behind a line is shorter
first_shorter : (text : List ℕ) → IfSome (first_line text) (IsShorter text)
unfolding first_line
first_shorter [] = tt
first_shorter (byte ∷ bytes) = by_end (position is_end (byte ∷ bytes))
  where
    by_end : (end : Option ℕ)
        → IfSome (steps.◌>>=◌ end (λ at. Some (take at (byte ∷ bytes), drop (at + 1) (byte ∷ bytes)))) (IsShorter (byte ∷ bytes))
    by_end None = tt
    by_end (Some at) = omega (arith, length-drop (at + 1) (byte ∷ bytes))

told_shorter : (word text : List ℕ) → IfSome (told_at word text) (IsShorter text)
unfolding told_at
told_shorter word text = by_line (first_line text) (first_shorter text)
  where
    by_word : (told : Option (List ℕ)) (rest : List ℕ) → length rest < length text
        → IfSome (steps.◌>>=◌ told (λ words. Some (words, rest))) (IsShorter text)
    by_word None rest less = tt
    by_word (Some words) rest less = less

    by_line : (line : Option (List ℕ × List ℕ)) → IfSome line (IsShorter text)
        → IfSome (steps.◌>>=◌ line (λ l. steps.◌>>=◌ (behind word l.0) (λ words. Some (words, l.1)))) (IsShorter text)
    by_line None less = tt
    by_line (Some line) less = by_word (behind word line.0) line.1 less

line_shorter : {A : Type 0} (reads : List ℕ → Option A) (word text : List ℕ) → IfOk (line_of reads word text) (IsShorter text)
unfolding line_of
line_shorter {A} reads word text = by_line (told_at word text) (told_shorter word text)
  where
    by_value : (value : Option A) (rest : List ℕ) → length rest < length text
        → IfOk (or_at text (steps.◌>>=◌ value (λ v. Some (v, rest)))) (IsShorter text)
    by_value None rest less = tt
    by_value (Some value) rest less = less

    by_line : (line : Option (List ℕ × List ℕ)) → IfSome line (IsShorter text)
        → IfOk (or_at text (steps.◌>>=◌ line (λ l. steps.◌>>=◌ (reads l.0) (λ v. Some (v, l.1))))) (IsShorter text)
    by_line None less = tt
    by_line (Some line) less = by_value (reads line.0) line.1 less

-- behind lines stands no more than before them
module _ (limit : ℕ) where
  lines_less : {A : Type 0} (reads : ℕ → List ℕ → Option A) (word : List ℕ) (number count : ℕ) (text : List ℕ) → length text < limit
      → LeaveLess limit (lines_of reads word number count text)
  unfolding lines_of
  lines_less reads word number zero text less = less
  lines_less {A} reads word number (suc count) text less =
      by_line (line_of (reads number) word text) (line_shorter (reads number) word text) (lines_less reads word (number + 1) count)
    where
      by_line : (line : Fit A) → IfOk line (IsShorter text)
          → ((rest : List ℕ) → length rest < limit → LeaveLess limit (lines_of reads word (number + 1) count rest))
          → LeaveLess limit (line >>= λ l. lines_of reads word (number + 1) count l.1)
      by_line (Err at) shorter more = tt
      by_line (Ok line) shorter more = more line.1 (omega (arith, shorter, less))

  listing_less : (text : List ℕ) → length text < limit → LeaveLess limit (listing text)
  unfolding listing
  listing_less text less = by_line (line_of whole_number (codes "rules ") text) (line_shorter whole_number (codes "rules ") text)
    where
      by_line : (line : Fit ℕ) → IfOk line (IsShorter text) → LeaveLess limit (line >>= λ l. lines_of (λ number. rule_number_at) [] 1 l.0 l.1)
      by_line (Err at) shorter = tt
      by_line (Ok line) shorter = lines_less (λ number. rule_number_at) [] 1 line.0 line.1 (omega (arith, shorter, less))

  listing_of_less : (text : List ℕ) (line : List ℕ × List ℕ) → length line.1 < limit → LeaveLess limit (listing_of text line)
  listing_of_less text line less = by_edition (edition_in line.0)
    where
      by_edition : (edition : Option ℕ) → LeaveLess limit (or_at text edition >>= λ e. listing line.1)
      by_edition None = tt
      by_edition (Some edition) = listing_less line.1 less

  entries_of_less : (text : List ℕ) (line : List ℕ × List ℕ) → length line.1 < limit → LeaveLess limit (entries_of text line)
  entries_of_less text line less = by_count (entries_in line.0)
    where
      by_count : (count : Option ℕ) → LeaveLess limit (or_at text count >>= λ n. lines_of any [] 1 n line.1)
      by_count None = tt
      by_count (Some count) = lines_less any [] 1 count line.1 less

-- what stands behind an answer is shorter
module _ (text : List ℕ) where
  -- where it begins with a line that is read so
  kind_shorter : (behind_line : List ℕ × List ℕ → Lines) → ((line : List ℕ × List ℕ) → IsShorter text line → LeaveLess (length text) (behind_line line))
      → (line : Option (List ℕ × List ℕ)) → IfSome line (IsShorter text) → IfSome (option_map behind_line line) (LeaveLess (length text))
  kind_shorter behind_line less None shorter = tt
  kind_shorter behind_line less (Some line) shorter = less line shorter

  either_shorter : (one other : Option Lines) → IfSome one (LeaveLess (length text)) → IfSome other (LeaveLess (length text))
      → IfSome (or_else one other) (LeaveLess (length text))
  either_shorter None other one_less other_less = other_less
  either_shorter (Some lines) other one_less other_less = one_less

  answer_shorter : IfSome (answer text) (LeaveLess (length text))
  unfolding answer
  answer_shorter =
      either_shorter _ _ (kind_shorter (λ line. Ok line.1) (λ line shorter. shorter) (told_at (codes "refused ") text) (told_shorter (codes "refused ") text))
      (either_shorter _ _
      (kind_shorter (listing_of text) (listing_of_less (length text) text) (told_at (codes "list line ") text) (told_shorter (codes "list line ") text))
      (kind_shorter (entries_of text) (entries_of_less (length text) text) (told_at (codes "table ") text) (told_shorter (codes "table ") text)))

-- no answer stands in no text
none_left : answer [] ≡ None
unfolding answer told_at first_line
none_left = refl

-- two numbers of answers, each of which is enough
both_enough : (one other : ℕ) (text : List ℕ) → length text ≤ one → length text ≤ other → answers one text ≡ answers other text
unfolding answers
both_enough zero zero text in_one in_other = refl
both_enough zero (suc other) [] in_one in_other = rw none_left refl
both_enough (suc one) zero [] in_one in_other = rw none_left refl
both_enough zero (suc other) (byte ∷ bytes) in_one in_other = absurd (omega arith)
both_enough (suc one) zero (byte ∷ bytes) in_one in_other = absurd (omega arith)
both_enough (suc one) (suc other) text in_one in_other =
    by_answer (answer text) (answer_shorter text) (λ rest less. both_enough one other rest (omega (arith, less, in_one)) (omega (arith, less, in_other)))
  where
    by_answer : (found : Option Lines) → IfSome found (LeaveLess (length text))
        → ((rest : List ℕ) → length rest < length text → answers one rest ≡ answers other rest)
        → behind_answer (answers one) text found ≡ behind_answer (answers other) text found
    by_answer None shorter more = refl
    by_answer (Some (Ok rest)) shorter more = more rest shorter
    by_answer (Some (Err at)) shorter more = refl

-- more answers than a text has bytes make no difference
pub enough_answers : (most : ℕ) (text : List ℕ) → length text ≤ most → answers most text ≡ answers (length text) text
enough_answers most text enough = both_enough most (length text) text enough (omega arith)
