-- Parts of lists of bytes, as reads and writes cut them.
use Rattle.std.proofs.Common.{◌≡◌, ℕ, ◌+◌, ◌-◌, ◌≤◌, List, [], ◌++◌, length, take, drop, sym, ap, ◌∙◌, arith, take-append-drop, length-drop, drop-drop}
use Rattle.std.proofs.lemmas.Grind.{common_steps}
use Rattle.std.proofs.lemmas.List.{take_rest}

pub take-take-append : (n : ℕ) (xs ys : List ℕ) → n ≤ length xs → take n (take n xs ++ ys) ≡ take n xs
take-take-append n xs ys fits = grind (arith, common_steps)

-- the read gave the front of what was left, and the rest is left
pub front_then_rest : (bytes left ys : List ℕ) (taken n : ℕ) → left ≡ drop taken bytes → n ≤ length left
    → left ≡ take n (take n left ++ ys) ++ drop (taken + n) bytes
front_then_rest bytes left ys taken n is fits =
    sym (take-append-drop n left)
    ∙ ap (λ l. l ++ drop n left) (sym (take-take-append n left ys fits))
    ∙ ap (λ l. take n (take n left ++ ys) ++ l) (ap (drop n) is ∙ drop-drop n taken bytes)

-- it gave nothing, so nothing is left
pub nothing_left : (bytes left : List ℕ) (taken n : ℕ) → left ≡ drop taken bytes → n ≡ 0 → left ≡ [] → drop (taken + n) bytes ≡ []
nothing_left bytes left taken n is none end = let same : taken + n ≡ taken = omega arith in rw same (sym is ∙ end)

-- the part behind start, cut n bytes further on
pub rest-cut : (bytes slice : List ℕ) (start n : ℕ) → slice ≡ bytes
    → drop start bytes ≡ take n (take (length slice - start) (drop start slice)) ++ drop (start + n) bytes
rest-cut bytes slice start n same =
    rw (take_rest slice start, same) (sym (take-append-drop n (drop start bytes)) ∙ ap (λ l. take n (drop start bytes) ++ l) (drop-drop n start bytes))

-- what was taken of the part behind start is within the whole
pub cut-within : (slice : List ℕ) (start n size : ℕ) → start ≤ size → length slice ≡ size → n ≤ length (take (length slice - start) (drop start slice)) → start + n ≤ size
cut-within slice start n size within is fits = omega (arith, length-drop start slice, simp take_rest at fits)

-- adding behind the part behind start
pub drop-append-within : (start : ℕ) (bytes more : List ℕ) → start ≤ length bytes → drop start (bytes ++ more) ≡ drop start bytes ++ more
drop-append-within start bytes more within = grind (arith, common_steps)
