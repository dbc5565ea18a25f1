-- Words with one space between them are read as these words.
use Rattle.std.proofs.Common.{◌≡◌, ℕ, ◌+◌, ◌-◌, ◌==◌, not, if◌then◌else◌, false, Some, None, unwrap_or, position, List, ◌∷◌, ◌++◌, length, take, drop, map, refl, sym, ap, ◌∙◌, arith, append_assoc, length-append, []}
use Rattle.std.specs.List.{AllByRecursion, join_with_byte, flat_map, position_or_len}
use Rattle.std.proofs.lemmas.List.{append-nil, take_all, take_at, drop_at}
use Rattle.std.proofs.lemmas.Bool.{le-ltb}
use Rattle.std.proofs.Math.Numerals.{one-add}
use Rattle.std.proofs.Math.Nat.{add-zero}
use Rattle.fw_lex.specs.declared.token.Token.{Token}
use Rattle.fw_lex.specs.Words.{tokens_from, tokens_in, tokens_of, before_comment}
use Rattle.ipfw_parser.specs.Reading.{word_at}
use Rattle.rule_round_trip.specs.Laws.{IsSolid, IsWordText}
use Rattle.rule_round_trip.proofs.Lists.Sums.{further}

-- the spans of texts with a space before each, and of such texts behind the first byte
spans : ℕ → List (List ℕ) → List Token
spans at [] = []
spans at (text ∷ texts) = record { start = at; end = at + length text } ∷ spans (at + length text + 1) texts

-- each text behind a space
behind_spaces : List (List ℕ) → List ℕ
behind_spaces texts = flat_map (λ text. 32 ∷ text) texts

join-cons : (text : List ℕ) (texts : List (List ℕ)) → join_with_byte 32 (text ∷ texts) ≡ text ++ behind_spaces texts
unfolding behind_spaces
join-cons text [] = sym (append-nil text)
join-cons text (next ∷ texts) = ap (λ rest. text ++ (32 ∷ rest)) (join-cons next texts)

-- through the rest of an open word
through : (start at : ℕ) (text rest : List ℕ) → AllByRecursion IsSolid text → tokens_from (Some start) at (text ++ rest) ≡ tokens_from (Some start) (at + length text) rest
unfolding tokens_from
through start at [] rest solid = ap (λ n. tokens_from (Some start) n rest) (sym (add-zero at))
through start at (byte ∷ text) rest solid =
    ap (λ b. if b then record { start = start; end = at } ∷ tokens_from None (at + 1) (text ++ rest) else tokens_from (Some start) (at + 1) (text ++ rest)) solid.0.solid
    ∙ through start (at + 1) text rest solid.1 ∙ ap (λ n. tokens_from (Some start) n rest) (further at (length text))

-- a whole word
whole : (at : ℕ) (text rest : List ℕ) → IsWordText text → tokens_from None at (text ++ rest) ≡ tokens_from (Some at) (at + length text) rest
unfolding tokens_from
whole at [] rest word = absurd (omega (arith, word.some))
whole at (byte ∷ text) rest word =
    ap (λ b. if b then tokens_from None (at + 1) (text ++ rest) else tokens_from (Some at) (at + 1) (text ++ rest)) word.bytes.0.solid
    ∙ through at (at + 1) text rest word.bytes.1 ∙ ap (λ n. tokens_from (Some at) n rest) (further at (length text))

spans_of : (at : ℕ) (text : List ℕ) (texts : List (List ℕ)) → IsWordText text → AllByRecursion IsWordText texts → tokens_from None at (text ++ behind_spaces texts) ≡ spans at (text ∷ texts)
unfolding tokens_from spans behind_spaces
spans_of at text [] word words = whole at text [] word
spans_of at text (next ∷ texts) word words =
    whole at text (32 ∷ (next ++ behind_spaces texts)) word
    ∙ ap (λ more. record { start = at; end = at + length text } ∷ more) (spans_of (at + length text + 1) next texts words.0 words.1)

-- no comment begins in the text
abbrev IsPlain : List ℕ → Type 0
IsPlain bytes = AllByRecursion (λ byte. byte == 35 ≡ false) bytes

plain_append : (front rest : List ℕ) → IsPlain front → IsPlain rest → IsPlain (front ++ rest)
plain_append [] rest p q = q
plain_append (byte ∷ front) rest p q = (p.0, plain_append front rest p.1 q)

plain_word : (text : List ℕ) → AllByRecursion IsSolid text → IsPlain text
plain_word [] solid = tt
plain_word (byte ∷ text) solid = (solid.0.plain, plain_word text solid.1)

plain_behind : (texts : List (List ℕ)) → AllByRecursion IsWordText texts → IsPlain (behind_spaces texts)
unfolding behind_spaces
plain_behind [] words = tt
plain_behind (text ∷ texts) words = (refl, plain_append text (behind_spaces texts) (plain_word text words.0.bytes) (plain_behind texts words.1))

no_place : (line : List ℕ) → IsPlain line → position_or_len (λ byte. byte == 35) line ≡ length line
no_place [] plain = refl
no_place (byte ∷ line) plain = ap (λ b. if not b then 1 + position_or_len (λ x. x == 35) line else 0) plain.0 ∙ ap (λ n. 1 + n) (no_place line plain.1) ∙ one-add (length line)

no_position : (line : List ℕ) → IsPlain line → position (λ byte. byte == 35) line ≡ None
no_position line plain =
    ap (λ b. if b then Some (position_or_len (λ (byte : ℕ). byte == 35) line) else None) (le-ltb (position_or_len (λ byte. byte == 35) line) (length line) (omega (arith, no_place line plain)))

no_comment : (line : List ℕ) → IsPlain line → before_comment line ≡ line
unfolding before_comment
no_comment line plain = ap (λ end. take (unwrap_or end (length line)) line) (no_position line plain) ∙ take_all (length line) line (omega arith)

span_text : (at : ℕ) (front text rest : List ℕ) → length front ≡ at → take (at + length text - at) (drop at (front ++ (text ++ rest))) ≡ text
span_text at front text rest long =
    ap (λ bytes. take (at + length text - at) bytes) (drop_at front (text ++ rest) at long) ∙ take_at text rest (at + length text - at) (omega arith)

longer : (front text : List ℕ) (at : ℕ) → length front ≡ at → length (front ++ (text ++ (32 ∷ []))) ≡ at + length text + 1
longer front text at long = omega (arith, long, length-append front (text ++ (32 ∷ [])), length-append text (32 ∷ []))

regrouped : (front text next : List ℕ) (texts : List (List ℕ)) → front ++ (text ++ behind_spaces (next ∷ texts)) ≡ (front ++ (text ++ (32 ∷ []))) ++ (next ++ behind_spaces texts)
unfolding behind_spaces
regrouped front text next texts = ap (λ rest. front ++ rest) (sym (append_assoc text (32 ∷ []) (next ++ behind_spaces texts))) ∙ sym (append_assoc front (text ++ (32 ∷ [])) (next ++ behind_spaces texts))

texts_of : (line : List ℕ) (at : ℕ) (front text : List ℕ) (texts : List (List ℕ)) → length front ≡ at → line ≡ front ++ (text ++ behind_spaces texts)
    → map (λ token. (word_at line token).text) (spans at (text ∷ texts)) ≡ text ∷ texts
unfolding spans behind_spaces
texts_of line at front text [] long e = ap (λ t. t ∷ []) (ap (λ l. take (at + length text - at) (drop at l)) e ∙ span_text at front text [] long)
texts_of line at front text (next ∷ texts) long e =
    ap (λ t. t ∷ map (λ token. (word_at line token).text) (spans (at + length text + 1) (next ∷ texts))) (ap (λ l. take (at + length text - at) (drop at l)) e ∙ span_text at front text (behind_spaces (next ∷ texts)) long)
    ∙ ap (λ more. text ∷ more) (texts_of line (at + length text + 1) (front ++ (text ++ (32 ∷ []))) next texts (longer front text at long) (e ∙ regrouped front text next texts))

none_again : map (λ token. (word_at [] token).text) (tokens_of []) ≡ []
unfolding tokens_of tokens_in tokens_from before_comment
none_again = refl

-- texts of words, written with one space between them, are read as these words
pub words_again : (texts : List (List ℕ)) → AllByRecursion IsWordText texts → map (λ token. (word_at (join_with_byte 32 texts) token).text) (tokens_of (join_with_byte 32 texts)) ≡ texts
unfolding tokens_of tokens_in tokens_from
words_again [] words = none_again
words_again (text ∷ texts) words =
    let line : List ℕ = text ++ behind_spaces texts in
    let plain : IsPlain line = plain_append text (behind_spaces texts) (plain_word text words.0.bytes) (plain_behind texts words.1) in
    rw (join-cons text texts)
    (ap (λ part. map (λ token. (word_at line token).text) (tokens_from None 0 part)) (no_comment line plain)
    ∙ ap (map (λ token. (word_at line token).text)) (spans_of 0 text texts words.0 words.1)
    ∙ texts_of line 0 [] text texts refl refl)
