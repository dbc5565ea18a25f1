-- The line that tells how a capture ended.
use Rattle.std.proofs.Common.{◌≡◌, ℕ, suc, ◌+◌, ◌<◌, true, List, [], ◌∷◌, ◌++◌, codes, decimal, Option, None, Some, Bor, ◌≢◌, ap, ◌∙◌, length, take, refl, sym, subst, arith, nat_lt, ◌==◌, inl, inr}
use Rattle.std.specs.Prelude.{MatchOption, position}
use Rattle.std.specs.List.{position_or_len}
use Rattle.std.proofs.lemmas.Bool.{cases_Bool, ltb-true}
use Rattle.std.proofs.lemmas.List.{append_cancel_left}
use Rattle.std.proofs.lemmas.Option.{cond_some}
use Rattle.report_values.specs.Captures.{begins_capture_line, captures_lines, count_text, is_line, IsCutOff, IsEnd, IsUnfitCapture, HaveEnds}
use Rattle.report_values.specs.declared.capture.Capture.{Capture}

-- what stands behind more, where the front of a text is known
pub match_behind : (result : Option (Bor (List ℕ))) (front behind text : List ℕ) (form : List ℕ → List ℕ) → text ≡ front ++ behind
    → MatchOption result ((rest : List ℕ) → behind ≢ form rest) (λ rest. behind ≡ form rest.now)
    → MatchOption result ((rest : List ℕ) → text ≢ front ++ form rest) (λ rest. text ≡ front ++ form rest.now)
match_behind None front behind text form is found = λ rest also. found rest (append_cancel_left front behind (form rest) (sym is ∙ also))
match_behind (Some rest) front behind text form is found = is ∙ ap (λ t. front ++ t) found

-- and where it isn't, there is nothing behind it
pub none_behind : (front text : List ℕ) (form : List ℕ → List ℕ) → ((rest : List ℕ) → text ≢ front ++ rest) → (rest : List ℕ) → text ≢ front ++ form rest
none_behind front text form isn't rest is = isn't (form rest) is

-- what stands behind the same count is the same
pub count_same : (number records : ℕ) (a b : List ℕ) → count_text number records a ≡ count_text number records b → a ≡ b
count_same number records a b is =
    append_cancel_left (decimal records) a b
    (append_cancel_left (codes " records ") (decimal records ++ a) (decimal records ++ b)
    (append_cancel_left (decimal number) (codes " records " ++ (decimal records ++ a)) (codes " records " ++ (decimal records ++ b))
    (append_cancel_left (codes "end ") (decimal number ++ (codes " records " ++ (decimal records ++ a)))
    (decimal number ++ (codes " records " ++ (decimal records ++ b))) is)))

-- where the first byte 10 stands, or the length
abbrev first_end : List ℕ → ℕ
first_end bytes = position_or_len (λ b. b == 10) bytes

front_is_line : (bytes : List ℕ) → first_end bytes < length bytes → is_line (take (suc (first_end bytes)) bytes) ≡ true
unfolding is_line
front_is_line [] within = absurd (omega arith)
front_is_line (b ∷ bytes) within = elim (cases_Bool (b == 10)) [
  | inl is ↦ rw is refl
  | inr isn't ↦
      let shifted : 1 + first_end bytes ≡ suc (first_end bytes) = omega arith in
      let inside = rw isn't at within in
      let inner : first_end bytes < length bytes = omega arith in
      rw (isn't, shifted) (front_is_line bytes inner)
]

-- the bytes to the first byte 10 are one line
pub line_front : (bytes : List ℕ) (at : ℕ) → Some at ≡ position (λ b. b == 10) bytes → is_line (take (at + 1) bytes) ≡ true
line_front bytes at found =
    let (within, is) = cond_some (nat_lt (first_end bytes) (length bytes)) (first_end bytes) at (sym found) in
    let front = front_is_line bytes (ltb-true _ _ within) in
    let here = rw is at front in
    let next : suc at ≡ at + 1 = omega arith in
    rw next at here

ends_push : (number : ℕ) (captures : List Capture) (capture : Capture) → HaveEnds number captures
    → IsEnd (number + length captures) (length capture.records) capture.end → HaveEnds number (captures ++ capture ∷ [])
ends_push number [] capture none end = (subst (λ (n : ℕ). IsEnd n (length capture.records) capture.end) (omega arith) end, tt)
ends_push number (first ∷ captures) capture ends end =
    let next : number + suc (length captures) ≡ number + 1 + length captures = omega arith in
    (ends.0, ends_push (number + 1) captures capture ends.1 (subst (λ (n : ℕ). IsEnd n (length capture.records) capture.end) next end))

-- a capture more was read
pub ends_more : (number : ℕ) (captures news : List Capture) (capture : Capture) → HaveEnds 1 captures → 1 + length captures ≡ number
    → IsEnd number (length capture.records) capture.end → news ≡ captures ++ capture ∷ [] → HaveEnds 1 news
ends_more number captures news capture so_far place end more =
    subst (HaveEnds 1) (sym more)
    (ends_push 1 captures capture so_far (subst (λ (n : ℕ). IsEnd n (length capture.records) capture.end) (sym place) end))

-- Captures are whole, and behind them one is cut off.
pub unfit_capture : (text rest at : List ℕ) (captures : List Capture) (number : ℕ) → text ≡ captures_lines 1 captures ++ rest → HaveEnds 1 captures
    → begins_capture_line rest ≡ true → number ≡ 1 + length captures → IsCutOff number rest at → IsUnfitCapture text at
unfit_capture text rest at captures number is ends begins place cut = record {
  captures = captures;
  behind = rest;
  lines = is;
  ends = ends;
  more = begins;
  cut = subst (λ (n : ℕ). IsCutOff n rest at) place cut;
}
