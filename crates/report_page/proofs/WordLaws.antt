-- Rows of causes, from one place on.
use Rattle.std.proofs.Common.{◌≡◌, ◌∙◌, ℕ, ◌+◌, ◌<◌, ◌≤◌, true, false, cond, List, [], length, map, drop, drop-cons, get_or, suc, refl, ap, arith}
use Rattle.std.proofs.lemmas.List.{at_drop_all}
use Rattle.report_page.specs.PlainWords.{ends_with_word, words_for}

-- the row at this place, and those behind it
next_row : {X : Type 0} (f : X → List ℕ × List ℕ) (rows : List X) (i : ℕ) (d : X) (text : List ℕ) → i < length rows
    → words_for (map f (drop i rows)) text ≡ cond (ends_with_word text (f (get_or rows i d)).0) (f (get_or rows i d)).1 (words_for (map f (drop (i + 1) rows)) text)
unfolding words_for
next_row f rows i d text within = let next : i + 1 ≡ suc i = omega arith in rw (drop-cons rows i d, next) refl

-- the text's last word is that of the row at this place
pub found_row : {X : Type 0} (f : X → List ℕ × List ℕ) (rows : List X) (i : ℕ) (d : X) (text : List ℕ) → i < length rows
    → ends_with_word text (f (get_or rows i d)).0 ≡ true → words_for (map f (drop i rows)) text ≡ (f (get_or rows i d)).1
found_row f rows i d text within same =
    next_row f rows i d text within ∙ ap (λ b. cond b (f (get_or rows i d)).1 (words_for (map f (drop (i + 1) rows)) text)) same

-- it is another
pub other_row : {X : Type 0} (f : X → List ℕ × List ℕ) (rows : List X) (i : ℕ) (d : X) (text : List ℕ) → i < length rows
    → ends_with_word text (f (get_or rows i d)).0 ≡ false → words_for (map f (drop i rows)) text ≡ words_for (map f (drop (i + 1) rows)) text
other_row f rows i d text within other =
    next_row f rows i d text within ∙ ap (λ b. cond b (f (get_or rows i d)).1 (words_for (map f (drop (i + 1) rows)) text)) other

-- no row is left
pub no_row : {X : Type 0} (f : X → List ℕ × List ℕ) (rows : List X) (i : ℕ) (text : List ℕ) → length rows ≤ i → words_for (map f (drop i rows)) text ≡ words_for [] text
no_row f rows i text past = at_drop_all (λ rest. words_for (map f rest) text) rows i past
