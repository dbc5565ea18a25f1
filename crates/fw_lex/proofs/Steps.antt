-- One byte further along a line, in each state.
use Rattle.std.proofs.Common.{◌≡◌, ℕ, ◌+◌, ◌<◌, Option, Some, None, true, false, List, [], ◌∷◌, ◌++◌, sym, ◌∙◌, length, drop, get_or, refl, drop-cons, add-one}
use Rattle.std.proofs.lemmas.List.{append-nil}
use Rattle.std.proofs.Math.Seq.{drop-length}
use Rattle.fw_lex.specs.declared.token.Token.{Token}
use Rattle.fw_lex.specs.Words.{tokens_from, tokens_in, is_blank}

-- between two words a blank byte is passed over
pub closed-blank : (part : List ℕ) (i : ℕ) → i < length part → is_blank (get_or part i 0) ≡ true → tokens_from None i (drop i part) ≡ tokens_from None (i + 1) (drop (i + 1) part)
unfolding tokens_from
closed-blank part i inside blank = rw (add-one, drop-cons part i 0, blank, add-one) refl

-- between two words a byte that isn't blank begins a word
pub closed-solid : (part : List ℕ) (i : ℕ) → i < length part → is_blank (get_or part i 0) ≡ false → tokens_from None i (drop i part) ≡ tokens_from (Some i) (i + 1) (drop (i + 1) part)
unfolding tokens_from
closed-solid part i inside solid = rw (add-one, drop-cons part i 0, solid, add-one) refl

-- a blank byte behind a word ends it
pub open-blank : (part : List ℕ) (i start : ℕ) → i < length part → is_blank (get_or part i 0) ≡ true → tokens_from (Some start) i (drop i part) ≡ record { start = start; end = i } ∷ tokens_from None (i + 1) (drop (i + 1) part)
unfolding tokens_from
open-blank part i start inside blank = rw (add-one, drop-cons part i 0, blank, add-one) refl

-- a byte that isn't blank goes on with the word
pub open-solid : (part : List ℕ) (i start : ℕ) → i < length part → is_blank (get_or part i 0) ≡ false → tokens_from (Some start) i (drop i part) ≡ tokens_from (Some start) (i + 1) (drop (i + 1) part)
unfolding tokens_from
open-solid part i start inside solid = rw (add-one, drop-cons part i 0, solid, add-one) refl

-- past the last byte, the word that is open ends
pub end-open : (found : List Token) (begun : Option ℕ) (part : List ℕ) (i start : ℕ) → i ≡ length part → begun ≡ Some start → found ++ tokens_from begun i (drop i part) ≡ tokens_from None 0 part → found ++ record { start = start; end = length part } ∷ [] ≡ tokens_in part
unfolding tokens_from tokens_in
end-open found begun part i start done begins so_far = rw (done, begins, drop-length part) at so_far

-- past the last byte, where no word is open, the words found are all
pub end-closed : (found : List Token) (begun : Option ℕ) (part : List ℕ) (i : ℕ) → i ≡ length part → begun ≡ None → found ++ tokens_from begun i (drop i part) ≡ tokens_from None 0 part → found ≡ tokens_in part
unfolding tokens_from tokens_in
end-closed found begun part i done none so_far = sym (append-nil found) ∙ (rw (done, none, drop-length part) at so_far)
