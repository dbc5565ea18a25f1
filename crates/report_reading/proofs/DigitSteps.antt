-- Digits of a text, from the first one on.
use Rattle.std.proofs.Common.{◌≡◌, ℕ, ◌+◌, ◌-◌, ◌*◌, ◌<◌, ◌≤◌, true, false, Some, None, List, [], ◌∷◌, length, drop, get_or, refl, sym, ap, ◌∙◌, add-one, drop-cons, nat_le, Bool, if◌then◌else◌}
use Rattle.std.proofs.lemmas.List.{drop_all}
use Rattle.std.proofs.lemmas.Option.{none-some, same_Some}
use Rattle.std.specs.Char.{is_ascii_digit}
use Rattle.report_reading.specs.Parts.{number_on}

-- the byte in this place stands before those behind it
pub here : (text : List ℕ) (i byte : ℕ) → i < length text → byte ≡ get_or text i 0 → drop i text ≡ byte ∷ drop (i + 1) text
here text i byte inside is = rw (add-one, is) (drop-cons text i 0 inside)

-- with one digit more the number goes on
pub goes : (most n : ℕ) (text : List ℕ) (i byte : ℕ) → i < length text → byte ≡ get_or text i 0 → is_ascii_digit byte ≡ true
    → nat_le (10 * n + (byte - 48)) most ≡ true → number_on most n (drop i text) ≡ number_on most (10 * n + (byte - 48)) (drop (i + 1) text)
unfolding number_on
goes most n text i byte inside is digit low = ap (number_on most n) (here text i byte inside is) ∙ rw (digit, low) refl

-- a digit that makes the number too great ends the reading
pub breaks : (most n : ℕ) (text : List ℕ) (i byte : ℕ) → i < length text → byte ≡ get_or text i 0 → is_ascii_digit byte ≡ true
    → nat_le (10 * n + (byte - 48)) most ≡ false → number_on most n (drop i text) ≡ None
unfolding number_on
breaks most n text i byte inside is digit high = ap (number_on most n) (here text i byte inside is) ∙ rw (digit, high) refl

-- the number ends before what is no digit
pub stops : (most n : ℕ) (text : List ℕ) (i byte : ℕ) → i < length text → byte ≡ get_or text i 0 → is_ascii_digit byte ≡ false
    → number_on most n (drop i text) ≡ Some (n, drop i text)
unfolding number_on
stops most n text i byte inside is other =
    let split : drop i text ≡ byte ∷ drop (i + 1) text = here text i byte inside is in
    ap (number_on most n) split ∙ rw other refl ∙ sym (ap (λ t. Some (n, t)) split)

-- the number ends with the text
pub ends : (most n : ℕ) (text : List ℕ) (i : ℕ) → length text ≤ i → number_on most n (drop i text) ≡ Some (n, [])
unfolding number_on
ends most n text i done = ap (number_on most n) (drop_all i text done)

-- why there is no number with one digit more
pub none_so : (low : Bool) (n : ℕ) → None ≡ (if low then Some n else None) → low ≡ false
none_so true n is = absurd (none-some n is)
none_so false n is = refl

-- what the number with one digit more is
pub some_so : (low : Bool) (m n : ℕ) → Some m ≡ (if low then Some n else None) → (low ≡ true) × (m ≡ n)
some_so true m n is = (refl, same_Some m n is)
some_so false m n is = absurd (none-some m (sym is))
