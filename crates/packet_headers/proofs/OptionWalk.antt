-- The types of the options, one option at a time.
use Rattle.std.proofs.Common.{◌≡◌, ◌≢◌, ℕ, ◌+◌, ◌-◌, ◌<◌, ◌≤◌, List, [], ◌∷◌, length, drop, zero, suc, refl, arith, ap, sym, ◌∙◌, sub-one}
use Rattle.std.proofs.lemmas.Grind.{common_steps}
use Rattle.packet_headers.specs.Octets.{octet}
use Rattle.packet_headers.specs.Options.{types_behind, option_types}

-- the bytes that belong to an option before are passed over
pub types_behind-drop : (few : ℕ) (bytes : List ℕ) → types_behind few bytes ≡ types_behind 0 (drop few bytes)
unfolding types_behind
types_behind-drop zero bytes = refl
types_behind-drop (suc few) [] = refl
types_behind-drop (suc few) (_ ∷ bytes) = types_behind-drop few bytes

-- the end of the options
pub option_types-end : (options : List ℕ) → 0 < length options → octet options 0 ≡ 0 → option_types options ≡ 0 ∷ option_types []
unfolding types_behind
option_types-end [] some is = grind arith
option_types-end (type ∷ bytes) some is = grind (arith, common_steps)

-- a byte alone
pub option_types-alone : (options : List ℕ) → 0 < length options → octet options 0 ≡ 1 → option_types options ≡ 1 ∷ option_types (drop 1 options)
unfolding types_behind
option_types-alone [] some is = grind arith
option_types-alone (type ∷ bytes) some is = grind (arith, common_steps)

drop-front : (n x : ℕ) (xs : List ℕ) → 0 < n → drop n (x ∷ xs) ≡ drop (n - 1) xs
drop-front zero x xs some = grind arith
drop-front (suc n) x xs some = rw sub-one refl

long-passed : (type : ℕ) (bytes : List ℕ) → type ≢ 0 → type ≢ 1 → 2 ≤ octet bytes 0 → octet bytes 0 ≤ length bytes + 1 → types_behind 0 (type ∷ bytes) ≡ type ∷ types_behind (octet bytes 0 - 1) bytes
unfolding types_behind
long-passed type bytes a b c d = grind (arith, common_steps)

-- an option with a length byte
pub option_types-long : (options : List ℕ) → octet options 0 ≢ 0 → octet options 0 ≢ 1 → 2 ≤ octet options 1 → octet options 1 ≤ length options → option_types options ≡ octet options 0 ∷ option_types (drop (octet options 1) options)
option_types-long [] a b c d = absurd (a refl)
option_types-long (type ∷ bytes) a b c d =
    let front = drop-front (octet bytes 0) type bytes (omega (arith, c)) in
    long-passed type bytes a b c (omega (arith, d))
    ∙ ap (λ (xs : List ℕ). type ∷ xs) (types_behind-drop (octet bytes 0 - 1) bytes ∙ ap (λ (xs : List ℕ). types_behind 0 xs) (sym front))

-- no option, or one whose length byte isn't sound
pub option_types-unsound : (options : List ℕ) → (0 < length options → octet options 0 ≢ 0) → octet options 0 ≢ 1 → (2 ≤ octet options 1 → length options < octet options 1) → option_types options ≡ []
unfolding types_behind
option_types-unsound [] a b c = refl
option_types-unsound (type ∷ bytes) a b c = grind (arith, common_steps)
