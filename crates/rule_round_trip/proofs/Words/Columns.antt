-- Words of given texts, whatever their columns.
use Rattle.std.proofs.Common.{◌≡◌, ℕ, ◌<◌, ◌≤◌, suc, false, ◌==◌, if◌then◌else◌, List, ◌∷◌, length, map, refl, ap, ◌∙◌, arith, inl, inr, eq-eqb, []}
use Rattle.std.proofs.lemmas.Bool.Decides.{eqb_tells}
use Rattle.std.proofs.lemmas.List.{length-map}
use Rattle.ipfw_parser.specs.Reading.{Word}

-- words of these texts, the column of each given by the texts from it on
abbrev pub at_columns : (List (List ℕ) → ℕ) → List (List ℕ) → List Word
at_columns c [] = []
at_columns c (text ∷ texts) = record { column = c (text ∷ texts); text = text } ∷ at_columns c texts

-- the column of the word from which on so many words are left
column_from : List Word → ℕ → ℕ
column_from [] left = 0
column_from (word ∷ words) left = if left == suc (length words) then word.column else column_from words left

-- the column of each word, by the texts from it on
pub columns_of : List Word → List (List ℕ) → ℕ
columns_of words texts = column_from words (length texts)

texts_of : List Word → List (List ℕ)
texts_of words = map (λ word. word.text) words

same_columns : (c d : List (List ℕ) → ℕ) (texts : List (List ℕ)) → ((ts : List (List ℕ)) → length ts ≤ length texts → c ts ≡ d ts) → at_columns c texts ≡ at_columns d texts
same_columns c d [] same = refl
same_columns c d (text ∷ texts) same =
    ap (λ n. let w : Word = record { column = n; text = text } in w ∷ at_columns c texts) (same (text ∷ texts) (omega arith))
    ∙ ap (λ ws. let w : Word = record { column = d (text ∷ texts); text = text } in w ∷ ws) (same_columns c d texts (λ ts fewer. same ts (omega (arith, fewer))))

not_equal : (a b : ℕ) → a < b → a == b ≡ false
not_equal a b less = elim (eqb_tells a b) [ inl h ↦ absurd (omega (arith, less, h.1)) | inr h ↦ h.0 ]

later : (word : Word) (words : List Word) (texts : List (List ℕ)) → length texts ≤ length words → columns_of (word ∷ words) texts ≡ columns_of words texts
unfolding columns_of column_from
later word words texts fewer = ap (λ b. if b then word.column else column_from words (length texts)) (not_equal (length texts) (suc (length words)) (omega (arith, fewer)))

here : (word : Word) (words : List Word) (texts : List (List ℕ)) → length texts ≡ suc (length words) → columns_of (word ∷ words) texts ≡ word.column
unfolding columns_of column_from
here word words texts same = ap (λ b. if b then word.column else column_from words (length texts)) (eq-eqb (length texts) (suc (length words)) same)

-- words are words of their texts
pub words_are : (words : List Word) → at_columns (columns_of words) (map (λ word. word.text) words) ≡ words
words_are [] = refl
words_are (word ∷ words) =
    ap (λ n. let w : Word = record { column = n; text = word.text } in w ∷ at_columns (columns_of (word ∷ words)) (map (λ w. w.text) words))
    (here word words (word.text ∷ map (λ w. w.text) words) (ap suc (length-map words (λ w. w.text))))
    ∙ ap (λ ws. word ∷ ws)
    (same_columns (columns_of (word ∷ words)) (columns_of words) (map (λ w. w.text) words) (λ ts fewer. later word words ts (omega (arith, fewer, length-map words (λ w. w.text))))
    ∙ words_are words)

-- there are as many words as texts, whatever their columns
pub length_at : (c : List (List ℕ) → ℕ) (texts : List (List ℕ)) → length (at_columns c texts) ≡ length texts
length_at c [] = refl
length_at c (text ∷ texts) = ap suc (length_at c texts)
