-- Texts of outcomes: the rules so far, and which text stands for no rule.
use Rattle.std.proofs.Common.{◌≡◌, ℕ, ◌+◌, ◌<◌, List, [], ◌∷◌, ◌++◌, length, sym, ap, ◌∙◌, get_or, take, flat_map, append_assoc}
use Rattle.std.proofs.lemmas.List.{take_more, flat_map_more}

-- one more element of a text that is made of parts
pub part_more : {X : Type 0} (f : X → List ℕ) (xs : List X) (i : ℕ) (x d : X) (text news : List ℕ) → i < length xs → x ≡ get_or xs i d
    → text ≡ flat_map f (take i xs) → news ≡ text ++ f x → news ≡ flat_map f (take (i + 1) xs)
part_more f xs i x d text news within is so_far more =
    more ∙ ap (λ t. t ++ f x) so_far ∙ flat_map_more f [] (take i xs) x ∙ ap (λ y. flat_map f (take i xs ++ y ∷ [])) is
    ∙ ap (flat_map f) (sym (take_more xs i d within))

-- four parts, one behind the other
pub four_parts : (text one two three four a b c d : List ℕ) → one ≡ text ++ a → two ≡ one ++ b → three ≡ two ++ c → four ≡ three ++ d
    → four ≡ text ++ (a ++ (b ++ (c ++ d)))
four_parts text one two three four a b c d first second third last =
    last ∙ ap (λ t. t ++ d) (third ∙ ap (λ t. t ++ c) (second ∙ ap (λ t. t ++ b) first))
    ∙ append_assoc ((text ++ a) ++ b) c d ∙ append_assoc (text ++ a) b (c ++ d) ∙ append_assoc text a (b ++ (c ++ d))
