-- Lines of which only the whole text counts, and that they are read as such.
use Rattle.std.proofs.Common.{◌≡◌, ℕ, suc, ◌-◌, ◌≤◌, ◌==◌, nat_le, true, Some, None, List, [], ◌∷◌, ◌++◌, length, codes, refl, ap, ◌∙◌, arith}
use Rattle.std.specs.Prelude.{slice_index}
use Rattle.std.specs.Fmt.{decimal}
use Rattle.report_texts.proofs.SilentWords.{number_is_silent}
use Rattle.report_texts.specs.Lines.{lines_in}
use Rattle.report_texts.specs.RulesText.{editions_line}
use Rattle.report_texts.specs.JournalText.{journal_heading}
use Rattle.report_reading.specs.AskLines.{ask_in}
use Rattle.report_reading.specs.LaneLines.{lane_in, publication_in}
use Rattle.report_reading.specs.LightLines.{has_end, has_head, head_words, is_light}
use Rattle.report_reading.specs.Parts.{behind, positive_at}
use Rattle.report_reading.specs.Readings.{OfOther, reading_of}
use Rattle.report_reading.specs.RecordLines.{named_code_at, record_in}
use Rattle.run_audit.proofs.ToldTexts.{TellsAs, newline, silent_before, tells_line}

-- ---- the end of a line

-- a text has a byte, and its last one is 10
pub record Ends (text : List ℕ) : Type 0 where
  pub some : 1 ≤ length text
  pub last : (slice_index text (length text - 1) == 10) ≡ true

byte_more : (byte : ℕ) (text : List ℕ) → Ends text → Ends (byte ∷ text)
byte_more byte text ends =
    let some = ends.some in
    let place : length (byte ∷ text) - 1 ≡ suc (length text - 1) = omega (arith, some) in
    record {
      some = omega arith;
      last = ap (λ k. slice_index (byte ∷ text) k == 10) place ∙ ends.last;
    }

-- more in front changes nothing
pub ends_behind : (front back : List ℕ) → Ends back → Ends (front ++ back)
ends_behind [] back ends = ends
ends_behind (byte ∷ front) back ends = byte_more byte (front ++ back) (ends_behind front back ends)

-- a newline ends a line
pub newline_ends : Ends (codes "\n")
newline_ends = record { some = omega arith; last = refl }

low : (n : ℕ) → 1 ≤ n → nat_le 1 n ≡ true
low n some = grind (arith)

-- a text that ends a line is seen to
pub end_found : (text : List ℕ) → Ends text → has_end text ≡ true
unfolding has_end
end_found text ends = rw (low (length text) ends.some, ends.last) refl

-- ---- a line with a head

-- a line that begins with a known word is one of which only the whole text counts
pub headed : (text : List ℕ) → Ends text → has_head text ≡ true → is_light text ≡ true
unfolding is_light
headed text ends head = rw (end_found text ends, head) refl

-- a line that is none of a record, a publication, an ask or a lane
pub record IsNoOther (text : List ℕ) : Type 0 where
  pub record_of : record_in text ≡ None
  pub publication_of : publication_in text ≡ None
  pub ask_of : ask_in text ≡ None
  pub lane_of : lane_in text ≡ None

-- such a line tells nothing else
pub light_told : (text : List ℕ) → is_light text ≡ true → IsNoOther text → reading_of text ≡ Some OfOther
unfolding reading_of
light_told text light none = rw (none.record_of, none.publication_of, none.ask_of, none.lane_of, light) refl

-- ---- the lines of ends

end_head : (rest : List ℕ) → has_head (codes "end " ++ rest) ≡ true
unfolding has_head head_words named_code_at behind
end_head rest = refl

fault_head : (rest : List ℕ) → has_head (codes "fault " ++ rest) ≡ true
unfolding has_head head_words named_code_at behind
fault_head rest = refl

no_other_end : (rest : List ℕ) → IsNoOther (codes "end " ++ rest)
unfolding record_in publication_in ask_in lane_in positive_at behind
no_other_end rest = record { record_of = refl; publication_of = refl; ask_of = refl; lane_of = refl }

editions_head : (rest : List ℕ) → has_head (codes "editions " ++ rest) ≡ true
unfolding has_head head_words named_code_at behind
editions_head rest = refl

no_other_editions : (rest : List ℕ) → IsNoOther (codes "editions " ++ rest)
unfolding record_in publication_in ask_in lane_in positive_at behind
no_other_editions rest = record { record_of = refl; publication_of = refl; ask_of = refl; lane_of = refl }

-- the count of the editions
pub editions_tell : (count : ℕ) → TellsAs (editions_line count) (OfOther ∷ [])
unfolding editions_line lines_in
editions_tell count =
    let rest : List ℕ = decimal count ++ codes "\n" in
    tells_line (codes "editions " ++ rest) OfOther (silent_before (codes "editions ") rest refl (silent_before (decimal count) _ (number_is_silent count) newline))
    (light_told (codes "editions " ++ rest) (headed (codes "editions " ++ rest) (ends_behind (codes "editions ") rest (ends_behind (decimal count) (codes "\n") newline_ends)) (editions_head rest)) (no_other_editions rest))

heading_head : (rest : List ℕ) → has_head (codes "journal 2 " ++ rest) ≡ true
unfolding has_head head_words named_code_at behind
heading_head rest = refl

no_other_heading : (rest : List ℕ) → IsNoOther (codes "journal 2 " ++ rest)
unfolding record_in publication_in ask_in lane_in positive_at behind
no_other_heading rest = record { record_of = refl; publication_of = refl; ask_of = refl; lane_of = refl }

-- the heading of the journal
pub heading_tells : (entries : ℕ) → TellsAs (journal_heading entries) (OfOther ∷ [])
unfolding journal_heading lines_in
heading_tells entries =
    let rest : List ℕ = decimal entries ++ codes "\n" in
    tells_line (codes "journal 2 " ++ rest) OfOther (silent_before (codes "journal 2 ") rest refl (silent_before (decimal entries) _ (number_is_silent entries) newline))
    (light_told (codes "journal 2 " ++ rest) (headed (codes "journal 2 " ++ rest) (ends_behind (codes "journal 2 ") rest (ends_behind (decimal entries) (codes "\n") newline_ends)) (heading_head rest)) (no_other_heading rest))
