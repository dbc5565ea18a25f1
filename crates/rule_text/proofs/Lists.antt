-- Texts of lists, element by element.
use Rattle.std.proofs.Common.{◌≡◌, ℕ, ◌+◌, ◌-◌, ◌<◌, ◌≤◌, zero, suc, min, Option, Some, None, unwrap_or, slice_get, take, Bool, true, false, if◌then◌else◌, List, [], ◌∷◌, ◌++◌, length, drop, get_or, map, codes, refl, sym, ap, ◌∙◌, arith, drop-cons, add-one, append_assoc}
use Rattle.std.specs.List.{join_with_byte, flat_map}
use Rattle.std.specs.Fmt.{decimal}
use Rattle.std.proofs.lemmas.Option.{slice_get_past}
use Rattle.std.specs.Borrow.{Bor}
use Rattle.std.proofs.lemmas.List.{append-nil, take_min, drop_min, drop_all}
use Rattle.fw_base.specs.Texts.{SinkState}
use Rattle.fw_base.proofs.Texts.{IsUnderWay}
use Rattle.std.proofs.lemmas.Grind.{flat_map-append}
use Rattle.fw_rule.specs.Bits.{has_bit}
use Rattle.fw_rule.specs.Names.{unreach_names}
use Rattle.rule_text.specs.Canonical.{spaced_text, list_words, signed_names, signed_name, sign_of, code_word, numbers_where, option_words, test_words, negation_words}
use Rattle.fw_rule.specs.declared.opt.Opt.{Opt}

-- each text behind a byte
abbrev pub behind_bytes : ℕ → List (List ℕ) → List ℕ
behind_bytes byte texts = flat_map (λ text. byte ∷ text) texts

-- each text behind a comma
abbrev pub behind_commas : List (List ℕ) → List ℕ
behind_commas texts = behind_bytes 44 texts

-- a joined text is the first text, and each other behind the byte
join-cons : (byte : ℕ) (text : List ℕ) (texts : List (List ℕ)) → join_with_byte byte (text ∷ texts) ≡ text ++ behind_bytes byte texts
join-cons byte text [] = sym (append-nil text)
join-cons byte text (next ∷ texts) = ap (λ rest. text ++ (byte ∷ rest)) (join-cons byte next texts)

-- a joined text of elements is the first one's text, and each other's behind the byte
pub join-first : {T : Type 0} (byte : ℕ) (f : T → List ℕ) (items : List T) (first : T) (others : List T) → items ≡ first ∷ others
    → join_with_byte byte (map f items) ≡ f first ++ behind_bytes byte (map f others)
join-first byte f items first others e = ap (λ all. join_with_byte byte (map f all)) e ∙ join-cons byte (f first) (map f others)

-- the elements from a place on are written as the byte and the one there, and then the later ones
pub behind_bytes-drop : {T : Type 0} (byte : ℕ) (f : T → List ℕ) (items : List T) (i : ℕ) (d : T) → i < length items
    → behind_bytes byte (map f (drop i items)) ≡ (byte ∷ []) ++ (f (get_or items i d) ++ behind_bytes byte (map f (drop (i + 1) items)))
behind_bytes-drop byte f items i d inside = rw (add-one, drop-cons items i d) refl

-- a list is written as ` not ` or a space, and its elements with commas between them
pub spaced-list_words : (negated : Bool) (elements : List (List ℕ)) → spaced_text (list_words negated elements) ≡ (if negated then codes " not " else codes " ") ++ join_with_byte 44 elements
spaced-list_words true elements = ap (λ rest. codes " not " ++ rest) (append-nil (join_with_byte 44 elements))
spaced-list_words false elements = ap (λ rest. 32 ∷ rest) (append-nil (join_with_byte 44 elements))

-- the words of two lists are written one list after the other
pub spaced-append : (front rest : List (List ℕ)) → spaced_text (front ++ rest) ≡ spaced_text front ++ spaced_text rest
spaced-append front rest = flat_map-append (λ word. 32 ∷ word) front rest

-- texts with commas between them, the first behind another text, which is written only if there is one
pub parted : List ℕ → List (List ℕ) → List ℕ
parted before [] = []
parted before (text ∷ texts) = before ++ (text ++ behind_commas texts)

-- behind a comma each of the texts stands behind a comma
parted-comma : (texts : List (List ℕ)) → parted (codes ",") texts ≡ behind_commas texts
unfolding parted
parted-comma [] = refl
parted-comma (text ∷ texts) = refl

-- the first text stands behind the text before it, and each other behind a comma
parted-cons : (before text : List ℕ) (texts : List (List ℕ)) → parted before (text ∷ texts) ≡ (before ++ text) ++ parted (codes ",") texts
unfolding parted
parted-cons before text texts = sym (append_assoc before text (behind_commas texts)) ∙ ap (λ rest. (before ++ text) ++ rest) (sym (parted-comma texts))

-- behind nothing the texts are joined by commas
pub parted-nil : (texts : List (List ℕ)) → join_with_byte 44 texts ≡ parted [] texts
unfolding parted
parted-nil [] = refl
parted-nil (text ∷ texts) = join-cons 44 text texts

-- the options from a place on are written as the one there, and then those behind it
pub spaced-options : (options : List Opt) (i : ℕ) (item : Opt) → item ≡ get_or options i item → i < length options
    → spaced_text (flat_map option_words (drop i options)) ≡ spaced_text (option_words item) ++ spaced_text (flat_map option_words (drop (i + 1) options))
spaced-options options i item here inside =
    rw (add-one, drop-cons options i item, ← here) (spaced-append (option_words item) (flat_map option_words (drop (suc i) options)))

-- the names from bit i on
signed_names-drop : (names : List (Bor (List ℕ))) (i : ℕ) (d : Bor (List ℕ)) (set_bits clear_bits : ℕ) → i < length names
    → signed_names (map (λ name. name.now) (drop i names)) i set_bits clear_bits
    ≡ signed_name (sign_of (has_bit set_bits i) (has_bit clear_bits i)) (get_or names i d).now ++ signed_names (map (λ name. name.now) (drop (i + 1) names)) (i + 1) set_bits clear_bits
unfolding signed_names
signed_names-drop names i d set_bits clear_bits inside = rw (drop-cons names i d) (rw add-one refl)

-- a name with its sign stands behind the text before it, and those after it behind commas
parted-signed : (before sign name : List ℕ) (rest : List (List ℕ)) → parted before (signed_name (Some sign) name ++ rest) ≡ (before ++ (sign ++ (name ++ []))) ++ parted (codes ",") rest
parted-signed before sign name rest = parted-cons before (sign ++ name) rest ∙ ap (λ end. (before ++ (sign ++ end)) ++ parted (codes ",") rest) (sym (append-nil name))

-- with the state in its place
pub placed-split : (options front back : List Opt) (at : ℕ) (state : List (List ℕ)) → front ≡ take (min at (length options)) options → back ≡ drop (min at (length options)) options
    → spaced_text (flat_map option_words (take at options) ++ (state ++ flat_map option_words (drop at options)))
    ≡ spaced_text (flat_map option_words front) ++ (spaced_text state ++ spaced_text (flat_map option_words back))
placed-split options front back at state f b =
    rw (f, b, take_min at options, drop_min at options)
    (spaced-append (flat_map option_words (take at options)) (state ++ flat_map option_words (drop at options))
    ∙ ap (λ rest. spaced_text (flat_map option_words (take at options)) ++ rest) (spaced-append state (flat_map option_words (drop at options))))

-- a body is written as its protocol, source and destination with their ports, and options
pub body-split : (protocol from_word to_word a b c d e : List (List ℕ))
    → spaced_text (protocol ++ (from_word ++ (a ++ (b ++ (to_word ++ (c ++ (d ++ e)))))))
    ≡ spaced_text protocol ++ ((spaced_text from_word ++ spaced_text (a ++ b)) ++ ((spaced_text to_word ++ spaced_text (c ++ d)) ++ spaced_text e))
body-split protocol from_word to_word a b c d e = simp (spaced-append, append_assoc)

-- four lists of words are written one list after the other
pub words-split : (a b c d : List (List ℕ)) → spaced_text (a ++ (b ++ (c ++ d))) ≡ spaced_text a ++ (spaced_text b ++ (spaced_text c ++ spaced_text d))
words-split a b c d = simp spaced-append

-- words joined by spaces are the first word, and each other behind a space
pub join_spaces : (word : List ℕ) (words : List (List ℕ)) → join_with_byte 32 (word ∷ words) ≡ word ++ spaced_text words
join_spaces word [] = sym (append-nil word)
join_spaces word (next ∷ words) = ap (λ rest. word ++ (32 ∷ rest)) (join_spaces next words)

-- the name at a place of a table
pub name_at : (table : List (Bor (List ℕ))) (place : ℕ) (d : Bor (List ℕ)) → place < length table → slice_get (map (λ name. name.now) table) place ≡ Some (get_or table place d).now
name_at [] place d inside = absurd (omega (arith, inside))
name_at (name ∷ names) zero d inside = refl
name_at (name ∷ names) (suc place) d inside = name_at names place d (omega (arith, inside))

-- a code of `unreach` that has a name is written as this name
pub code_named : (code place : ℕ) (name : List ℕ) → place ≡ code → slice_get unreach_names place ≡ Some name → name ≡ code_word code
unfolding code_word
code_named code place name same here = ap (λ found. unwrap_or found (decimal code)) (sym here ∙ ap (λ k. slice_get unreach_names k) same)

-- a code of `unreach` from 16 on is written as its number
pub code_unnamed : (code : ℕ) → 16 ≤ code → code_word code ≡ decimal code
unfolding code_word unreach_names
code_unnamed code many = rw (slice_get_past unreach_names code many) refl

-- those of the numbers from k on of which the test holds
numbers_where-step : (test : ℕ → Bool) (most k : ℕ) → k < most → numbers_where test (most - k) k ≡ (if test k then decimal k ∷ [] else []) ++ numbers_where test (most - (k + 1)) (k + 1)
unfolding numbers_where
numbers_where-step test most k inside =
    let e : most - k ≡ suc (most - (k + 1)) = omega arith in rw e refl

-- from the end on no number is left
numbers_where-end : (test : ℕ → Bool) (most k : ℕ) → k ≡ most → numbers_where test (most - k) k ≡ []
unfolding numbers_where
numbers_where-end test most k done =
    let e : most - k ≡ 0 = omega arith in rw e refl

-- a number stands behind the text before it, and those after it behind commas
parted-number : (before text : List ℕ) (rest : List (List ℕ)) → parted before (text ∷ rest) ≡ (before ++ (text ++ [])) ++ parted (codes ",") rest
parted-number before text rest = parted-cons before text rest ∙ ap (λ end. (before ++ end) ++ parted (codes ",") rest) (sym (append-nil text))

-- the test holds of k, and its number was written
pub number_written : (test : ℕ → Bool) (most : ℕ) (before : List ℕ) (k : ℕ) (b : Bool) → k < most → b ≡ test k → b ≡ true
    → parted before (numbers_where test (most - k) k) ≡ (before ++ (decimal k ++ [])) ++ parted (codes ",") (numbers_where test (most - (k + 1)) (k + 1))
number_written test most before k b inside told there =
    ap (parted before) (numbers_where-step test most k inside) ∙ rw (← told, there) (parted-number before (decimal k) (numbers_where test (most - (k + 1)) (k + 1)))

-- it doesn't
pub number_skipped : (test : ℕ → Bool) (most : ℕ) (before : List ℕ) (k : ℕ) (b : Bool) → k < most → b ≡ test k → b ≡ false
    → parted before (numbers_where test (most - k) k) ≡ parted before (numbers_where test (most - (k + 1)) (k + 1))
number_skipped test most before k b inside told absent = ap (parted before) (numbers_where-step test most k inside) ∙ rw (← told, absent) refl

-- what the code found of a name's sign
pub record IsSign (set_bits clear_bits i : ℕ) (sign : Option (List ℕ)) : Type 0 where
  pub set_byte : ℕ
  pub clear_byte : ℕ
  pub is_set : Bool
  pub is_clear : Bool
  pub set_same : set_byte ≡ set_bits
  pub clear_same : clear_byte ≡ clear_bits
  pub set_told : is_set ≡ has_bit set_byte i
  pub clear_told : is_clear ≡ has_bit clear_byte i
  pub found : sign ≡ sign_of is_set is_clear

sign_is : (set_bits clear_bits i : ℕ) (sign : Option (List ℕ)) → IsSign set_bits clear_bits i sign → sign_of (has_bit set_bits i) (has_bit clear_bits i) ≡ sign
sign_is set_bits clear_bits i sign s =
    sym (s.found ∙ ap (λ b. sign_of b s.is_clear) (s.set_told ∙ ap (λ n. has_bit n i) s.set_same) ∙ ap (λ b. sign_of (has_bit set_bits i) b) (s.clear_told ∙ ap (λ n. has_bit n i) s.clear_same))

-- the name of bit i has a sign, and was written
pub name_written : (before sign : List ℕ) (names : List (Bor (List ℕ))) (i : ℕ) (d : Bor (List ℕ)) (set_bits clear_bits : ℕ) → i < length names → IsSign set_bits clear_bits i (Some sign)
    → parted before (signed_names (map (λ name. name.now) (drop i names)) i set_bits clear_bits)
    ≡ (before ++ (sign ++ ((get_or names i d).now ++ []))) ++ parted (codes ",") (signed_names (map (λ name. name.now) (drop (i + 1) names)) (i + 1) set_bits clear_bits)
name_written before sign names i d set_bits clear_bits inside s =
    ap (parted before) (signed_names-drop names i d set_bits clear_bits inside) ∙ rw (sign_is set_bits clear_bits i (Some sign) s) (parted-signed before sign (get_or names i d).now (signed_names (map (λ name. name.now) (drop (i + 1) names)) (i + 1) set_bits clear_bits))

-- it has none
pub name_skipped : (before : List ℕ) (names : List (Bor (List ℕ))) (i : ℕ) (d : Bor (List ℕ)) (set_bits clear_bits : ℕ) → i < length names → IsSign set_bits clear_bits i None
    → parted before (signed_names (map (λ name. name.now) (drop i names)) i set_bits clear_bits)
    ≡ parted before (signed_names (map (λ name. name.now) (drop (i + 1) names)) (i + 1) set_bits clear_bits)
name_skipped before names i d set_bits clear_bits inside s =
    ap (parted before) (signed_names-drop names i d set_bits clear_bits inside) ∙ rw (sign_is set_bits clear_bits i None s) refl

-- once no name is left nothing is written
pub parted-end : (before : List ℕ) (names : List (Bor (List ℕ))) (i set_bits clear_bits : ℕ) → length names ≤ i → parted before (signed_names (map (λ name. name.now) (drop i names)) i set_bits clear_bits) ≡ []
unfolding parted signed_names
parted-end before names i set_bits clear_bits done = rw (drop_all i names done) refl

-- once no number is left nothing is written
pub parted_numbers-end : (test : ℕ → Bool) (most : ℕ) (before : List ℕ) (k : ℕ) → k ≡ most → parted before (numbers_where test (most - k) k) ≡ []
unfolding parted
parted_numbers-end test most before k done = rw (numbers_where-end test most k done) refl

-- the rest is the same, in other words
pub same_rest : {a b : SinkState} {text was rest : List ℕ} → was ≡ rest → IsUnderWay a b text was → IsUnderWay a b text rest
same_rest e way = record { done = way.done; split = way.split ∙ ap (λ more. way.done ++ more) e; appended = way.appended; made = way.made; later = way.later }

-- an option is written as ` not ` or nothing, and its test
pub spaced-option : (option : Opt) → spaced_text (option_words option) ≡ (if option.negated then codes " not" else []) ++ spaced_text (test_words option.test)
spaced-option option = elim option.negated as (λ negated. spaced_text (negation_words negated ++ test_words option.test) ≡ (if negated then codes " not" else []) ++ spaced_text (test_words option.test)) [ true ↦ refl | false ↦ refl ]

-- a word with a list behind it
pub spaced-pair : (word text : List ℕ) → spaced_text (word ∷ text ∷ []) ≡ ((32 ∷ word) ++ (32 ∷ [])) ++ text
spaced-pair word text = simp (append_assoc, append-nil)
