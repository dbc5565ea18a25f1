-- Tokens within a line.
use Rattle.std.proofs.Common.{◌≡◌, ℕ, ◌+◌, ◌-◌, ◌<◌, ◌≤◌, ◌^◌, zero, suc, map, ap, ◌∙◌, List, ◌∷◌, length, take, drop, get_or, sym, subst, arith, []}
use Rattle.std.proofs.lemmas.List.{take_all, take_rest, length-take, length-drop, get_or-drop, drop-map}
use Rattle.std.specs.List.{AllByRecursion}
use Rattle.fw_lex.specs.Words.{tokens_of, tokens_in, before_comment, IsLongestRun}
use Rattle.fw_lex.proofs.Longest.{words_are_longest}
use Rattle.fw_lex.specs.declared.token.Token.{Token}
use Rattle.ipfw_parser.specs.Reading.{HoldsTokens, HoldsToken, word_at}

rest_of : (token : Token) (tokens : List Token) → take (length (token ∷ tokens) - 1) tokens ≡ tokens
rest_of token tokens = take_all (length (token ∷ tokens) - 1) tokens (omega arith)

shifted : (line : List ℕ) (token : Token) (tokens : List Token) → HoldsTokens line (token ∷ tokens) → HoldsTokens line tokens
shifted line token tokens within = λ k d inside. within (suc k) d (omega arith)

none_within : (line : List ℕ) → HoldsTokens line []
none_within line = λ k d inside. absurd (omega (arith, inside))

-- the tokens behind the first lie in the line
pub tail_within : (line : List ℕ) (tokens : List Token) → HoldsTokens line tokens → HoldsTokens line (take (length tokens - 1) (drop 1 tokens))
tail_within line tokens = elim tokens as (λ ts. HoldsTokens line ts → HoldsTokens line (take (length ts - 1) (drop 1 ts))) [
  | [] ↦ λ _. none_within line
  | token ∷ rest ↦ λ within. subst (HoldsTokens line) (sym (rest_of token rest)) (shifted line token rest within)
]

-- in a line of at most 1,048,576 bytes the first token's column fits in 32 bits
pub column_fits : (line : List ℕ) (tokens : List Token) (d : Token) → length line ≤ 1048576 → HoldsTokens line tokens → 1 ≤ length tokens → (get_or tokens 0 d).start + 1 < 2 ^ 32
column_fits line tokens d short within some = let w = within 0 d (omega arith) in omega (arith, w.some, w.inside)

by_index : (P : Token → Type 0) (tokens : List Token) → AllByRecursion P tokens → (k : ℕ) (d : Token) → k < length tokens → P (get_or tokens k d)
by_index P [] all k d inside = absurd (omega (arith, inside))
by_index P (token ∷ tokens) all zero d inside = all.0
by_index P (token ∷ tokens) all (suc k) d inside = by_index P tokens all.1 k d (omega (arith, inside))

part_short : (line : List ℕ) → length (before_comment line) ≤ length line
unfolding before_comment
part_short line = omega (arith, length-take {A = ℕ})

-- a line's words lie in it
pub words_within : (line : List ℕ) (tokens : List Token) → tokens ≡ tokens_of line → HoldsTokens line tokens
unfolding tokens_of
words_within line tokens e =
    rw e (λ k d inside.
    let run = by_index (IsLongestRun (before_comment line)) (tokens_in (before_comment line)) (words_are_longest (before_comment line)).each k d inside in
    record { some = run.some; inside = omega (arith, run.inside, part_short line) })

-- the tokens behind the first n lie in the line
pub skip_within : (n : ℕ) (line : List ℕ) (tokens : List Token) → HoldsTokens line tokens → HoldsTokens line (take (length tokens - n) (drop n tokens))
skip_within n line tokens within =
    subst (HoldsTokens line) (sym (take_rest tokens n)) (λ k d inside. subst (HoldsToken line) (sym (get_or-drop n tokens k d)) (within (n + k) d (omega (arith, inside, length-drop n tokens))))

-- the words of the tokens behind the first n are the words behind the first n
pub skip_list : (n : ℕ) (line : List ℕ) (tokens : List Token) → map (word_at line) (take (length tokens - n) (drop n tokens)) ≡ drop n (map (word_at line) tokens)
skip_list n line tokens = ap (map (word_at line)) (take_rest tokens n) ∙ sym (drop-map (word_at line) n tokens)
