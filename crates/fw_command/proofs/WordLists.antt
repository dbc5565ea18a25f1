-- Words that are read one after another.
use Rattle.std.proofs.Common.{◌≡◌, ◌<◌, List, [], ◌∷◌, ◌++◌, Result, Ok, Err, Some, length, sym, ap, ◌∙◌, subst, arith}
use Rattle.std.proofs.lemmas.List.{append-nil}
use Rattle.ipfw_parser.specs.Reading.{Word, Fault, ◌>>=◌, some_words}
use Rattle.ipfw_parser.proofs.Steps.Lists.{with_front, with_front-nil, with_front-step}
use Rattle.ipfw_parser.proofs.Steps.Options.{some_words_is}
use Rattle.fw_command.specs.Ends.{each_word}

-- so far these were read, and those words are left
pub record IsRead {X : Type 0} (read : Word → Result X Fault) (all : List Word) (front : List X) (left : List Word) : Type 0 where
  pub same : with_front front (each_word read left) ≡ each_word read all

-- before the first word nothing was read
pub starts : {X : Type 0} (read : Word → Result X Fault) (all : List Word) → IsRead read all [] all
starts read all = record { same = with_front-nil (each_word read all) }

-- the next word, as the reader's step gives it
pub opened : {X : Type 0} (read : Word → Result X Fault) (all : List Word) (front : List X) (left : List Word) (word : Word) (words : List Word)
    → Some (word ∷ words) ≡ some_words left → IsRead read all front left → IsRead read all front (word ∷ words)
opened read all front left word words here so_far = subst (IsRead read all front) (some_words_is left (word ∷ words) here) so_far

-- a word that is read stands behind those that were read
pub goes : {X : Type 0} (read : Word → Result X Fault) (all : List Word) (front : List X) (word : Word) (left : List Word) (x : X)
    → IsRead read all front (word ∷ left) → read word ≡ Ok x → IsRead read all (front ++ x ∷ []) left
unfolding each_word
goes read all front word left x so_far ok =
    record { same = sym (ap (λ r. with_front front (r >>= λ y. each_word read left >>= λ ys. Ok (y ∷ ys))) ok ∙ with_front-step front x (each_word read left)) ∙ so_far.same }

-- the first word that can't be read gives the list's fault
pub breaks : {X : Type 0} (read : Word → Result X Fault) (all : List Word) (front : List X) (word : Word) (left : List Word) (e : Fault)
    → IsRead read all front (word ∷ left) → read word ≡ Err e → each_word read all ≡ Err e
unfolding each_word
breaks read all front word left e so_far failed =
    sym so_far.same ∙ ap (λ r. with_front front (r >>= λ y. each_word read left >>= λ ys. Ok (y ∷ ys))) failed

-- where no word is left, what was read is the whole list
pub ends : {X : Type 0} (read : Word → Result X Fault) (all : List Word) (front : List X) → IsRead read all front [] → each_word read all ≡ Ok front
unfolding each_word
ends read all front so_far = sym so_far.same ∙ ap Ok (append-nil front)

-- one word fewer is left
pub fewer : (left : List Word) (word : Word) (words : List Word) → Some (word ∷ words) ≡ some_words left → length words < length left
fewer left word words here = rw (some_words_is left (word ∷ words) here) (omega arith)
