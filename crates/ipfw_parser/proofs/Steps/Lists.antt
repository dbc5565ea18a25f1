-- Lists, element by element.
use Rattle.std.proofs.Common.{◌≡◌, ℕ, ◌+◌, ◌<◌, List, ◌∷◌, ◌++◌, false, Option, Some, None, Result, Ok, Err, length, refl, sym, ap, ◌∙◌, append_assoc, arith, []}
use Rattle.std.proofs.lemmas.List.{append-nil}
use Rattle.std.specs.Borrow.{Bor}
use Rattle.std.specs.Option.{option_copied}
use Rattle.std.specs.Prelude.{IfSome}
use Rattle.ipfw_parser.specs.declared.parse_fault.ParseFault.{ParseFault}
use Rattle.ipfw_parser.specs.declared.parse_fault.ParseFault.TheVariants.{At, OutOfMemory}
use Rattle.ipfw_parser.specs.Reading.{Word, Fault, Fails, ◌>>=◌}
use Rattle.ipfw_parser.specs.Lists.{each_element, elements, elements_left, elements_outside, elements_outside_left}

-- how much of a list is left
pub left_len : Option (Bor (List ℕ)) → ℕ
left_len None = 0
left_len (Some text) = 1 + length text.now

-- the elements that were read, before the others
abbrev pub with_front : {X : Type 0} → List X → Result (List X) Fault → Result (List X) Fault
with_front front reading = reading >>= λ xs. Ok (front ++ xs)

-- with no element before it a reading stays as it is
pub with_front-nil : {X : Type 0} (reading : Result (List X) Fault) → with_front [] reading ≡ reading
with_front-nil (Ok xs) = refl
with_front-nil (Err e) = refl

-- the element that is read next is the last of those before the others
pub with_front-step : {X : Type 0} (front : List X) (x : X) (reading : Result (List X) Fault) → with_front front (reading >>= λ xs. Ok (x ∷ xs)) ≡ with_front (front ++ x ∷ []) reading
with_front-step front x (Ok xs) = ap Ok (sym (append_assoc front (x ∷ []) xs))
with_front-step front x (Err e) = refl

-- so far these elements were read, and those texts are left
pub record IsListing {X : Type 0} (read : Word → Result X Fault) (column : ℕ) (all : List (List ℕ)) (front : List X) (left : List (List ℕ)) : Type 0 where
  pub same : with_front front (each_element read column left) ≡ each_element read column all

-- before the first element none is read, and every text is left
pub starts : {X : Type 0} (read : Word → Result X Fault) (column : ℕ) (all : List (List ℕ)) → IsListing read column all [] all
starts read column all = record { same = with_front-nil (each_element read column all) }

-- an element that is read stands behind those before it, and one text less is left
pub goes : {X : Type 0} (read : Word → Result X Fault) (column : ℕ) (all : List (List ℕ)) (front : List X) (text : List ℕ) (left : List (List ℕ)) (x : X)
    → IsListing read column all front (text ∷ left) → read (record { column = column; text = text }) ≡ Ok x → IsListing read column all (front ++ x ∷ []) left
unfolding each_element
goes read column all front text left x listing ok =
    record { same = sym (ap (λ r. with_front front (r >>= λ y. each_element read column left >>= λ ys. Ok (y ∷ ys))) ok ∙ with_front-step front x (each_element read column left)) ∙ listing.same }

-- the first element that can't be read is the fault of the whole list
pub breaks : {X : Type 0} (read : Word → Result X Fault) (column : ℕ) (all : List (List ℕ)) (front : List X) (text : List ℕ) (left : List (List ℕ)) (e : Fault)
    → IsListing read column all front (text ∷ left) → read (record { column = column; text = text }) ≡ Err e → each_element read column all ≡ Err e
unfolding each_element
breaks read column all front text left e listing failed =
    sym listing.same ∙ ap (λ r. with_front front (r >>= λ y. each_element read column left >>= λ ys. Ok (y ∷ ys))) failed

-- once no text is left the list is the elements that were read
pub ends : {X : Type 0} (read : Word → Result X Fault) (column : ℕ) (all : List (List ℕ)) (front : List X) → IsListing read column all front [] → each_element read column all ≡ Ok front
unfolding each_element
ends read column all front listing = sym listing.same ∙ ap Ok (append-nil front)

-- a fault of an element is a fault of the list
pub fails_on : {Y Z : Type 0} (e : ParseFault) (r : Result Y Fault) (q : Result Z Fault) → ((f : Fault) → r ≡ Err f → q ≡ Err f) → Fails e r → Fails e q
fails_on (At column kind) r q on failed = on (record { column = column; kind = kind }) failed
fails_on OutOfMemory r q on failed = tt

-- what is left begins with its next element, where a comma in parentheses parts none
pub opened_outside : {X : Type 0} (read : Word → Result X Fault) (column : ℕ) (all : List (List ℕ)) (front : List X) (rest : Option (Bor (List ℕ))) (text : Bor (List ℕ)) (element : List ℕ) (left : List (List ℕ))
    → rest ≡ Some text → elements_outside false text.now ≡ element ∷ left → IsListing read column all front (elements_outside_left (option_copied rest)) → IsListing read column all front (element ∷ left)
opened_outside read column all front rest text element left here split listing = rw (here, split) at listing

-- what is left begins with its next element, up to the first comma
pub opened : {X : Type 0} (read : Word → Result X Fault) (column : ℕ) (all : List (List ℕ)) (front : List X) (rest : Option (Bor (List ℕ))) (text : Bor (List ℕ)) (element : List ℕ) (left : List (List ℕ))
    → rest ≡ Some text → elements text.now ≡ element ∷ left → IsListing read column all front (elements_left (option_copied rest)) → IsListing read column all front (element ∷ left)
opened read column all front rest text element left here split listing = rw (here, split) at listing

-- with one element read less of the list is left
pub smaller : (rest more : Option (Bor (List ℕ))) (text : Bor (List ℕ)) → rest ≡ Some text → IfSome more (λ left. length left.now < length text.now) → left_len more < left_len rest
unfolding left_len
smaller rest None text here shorter = rw here (omega arith)
smaller rest (Some left) text here shorter = rw here (omega (arith, shorter))
