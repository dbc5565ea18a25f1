-- Words of captures, one after another.
use Rattle.std.proofs.Common.{◌≡◌, ℕ, ◌+◌, ◌<◌, List, [], ◌∷◌, ◌++◌, length, map, drop, get_or, Option, None, Some, refl, sym, ap, ◌∙◌, Bor}
use Rattle.std.specs.Option.{option_map}
use Rattle.std.proofs.lemmas.List.{drop_more, append_assoc, append-nil}
use Rattle.fw_base.specs.Chain.{◌>>=◌}
use Rattle.command_words.specs.Invocation.{word_texts}
use Rattle.command_words.specs.Words.{CaptureNames, capture_of, captures_of}

-- what is left to read, behind the captures so far
abbrev pub Left : List CaptureNames → List (Bor (List ℕ)) → Option (List CaptureNames)
Left done words = option_map (λ rest. done ++ rest) (captures_of (word_texts words))

behind_one : (done : List CaptureNames) (capture : CaptureNames) (o : Option (List CaptureNames))
    → option_map (λ rest. done ++ rest) (option_map (λ rest. capture ∷ rest) o) ≡ option_map (λ rest. (done ++ capture ∷ []) ++ rest) o
behind_one done capture None = refl
behind_one done capture (Some rest) = ap Some (sym (append_assoc done (capture ∷ []) rest))

-- one more capture
pub left_more : (done : List CaptureNames) (words : List (Bor (List ℕ))) (i : ℕ) (word : Bor (List ℕ)) (capture : CaptureNames) → i < length words → capture_of (get_or words i word).now ≡ Some capture
    → Left done (drop i words) ≡ Left (done ++ capture ∷ []) (drop (i + 1) words)
unfolding captures_of
left_more done words i word capture within is =
    ap (Left done) (drop_more words i word within)
    ∙ ap (λ o. option_map (λ rest. done ++ rest) (o >>= λ c. option_map (λ rest. c ∷ rest) (captures_of (word_texts (drop (i + 1) words))))) is
    ∙ behind_one done capture (captures_of (word_texts (drop (i + 1) words)))

-- a word that is none
pub left_none : (done : List CaptureNames) (words : List (Bor (List ℕ))) (i : ℕ) (word : Bor (List ℕ)) → i < length words → capture_of (get_or words i word).now ≡ None → Left done (drop i words) ≡ None
unfolding captures_of
left_none done words i word within is =
    ap (Left done) (drop_more words i word within)
    ∙ ap (λ o. option_map (λ rest. done ++ rest) (o >>= λ c. option_map (λ rest. c ∷ rest) (captures_of (word_texts (drop (i + 1) words))))) is

-- no more words
pub left_end : (done : List CaptureNames) → Left done [] ≡ Some done
unfolding captures_of
left_end done = ap Some (append-nil done)

-- what is at the end of a list under a view
pub map_push : {X Y : Type 0} (f : X → Y) (xs : List X) (x : X) → map f (xs ++ x ∷ []) ≡ map f xs ++ f x ∷ []
map_push f [] x = refl
map_push f (y ∷ ys) x = ap (λ l. f y ∷ l) (map_push f ys x)
