-- Ranges of a list.
use Rattle.std.proofs.Common.{◌≡◌, ℕ, ◌+◌, ◌-◌, ◌≤◌, List, ◌++◌, length, take, drop, slice_range, sym, ap, ◌∙◌, arith, drop-drop, length-take, length-drop}
use Rattle.std.proofs.lemmas.List.{drop-take}
use lib.Seq.{take-add}

-- a range that begins later
pub slice_range-later : (xs : List ℕ) (a e n : ℕ) → a + n ≤ e → slice_range xs (a + n) e ≡ drop n (slice_range xs a e)
slice_range-later xs a e n h =
    let whole : n + (e - (a + n)) ≡ e - a = omega arith in
    ap (take (e - (a + n))) (sym (drop-drop n a xs))
    ∙ sym (drop-take n (e - (a + n)) (drop a xs))
    ∙ ap (λ k. drop n (take k (drop a xs))) whole

-- a range that ends later
pub slice_range-longer : (xs : List ℕ) (a e n : ℕ) → a ≤ e → slice_range xs a (e + n) ≡ slice_range xs a e ++ slice_range xs e (e + n)
slice_range-longer xs a e n h =
    let size : e + n - a ≡ (e - a) + n = omega arith in
    let last : e + n - e ≡ n = omega arith in
    let at : a + (e - a) ≡ e = omega arith in
    ap (λ k. take k (drop a xs)) size
    ∙ take-add (e - a) n (drop a xs)
    ∙ ap (λ l. take (e - a) (drop a xs) ++ take n l) (drop-drop (e - a) a xs ∙ ap (λ k. drop k xs) at)
    ∙ ap (λ k. take (e - a) (drop a xs) ++ take k (drop e xs)) (sym last)

-- lists that are the same up to the end of a range have the same range
pub slice_range-same : (xs ys : List ℕ) (a e : ℕ) → a ≤ e → take e xs ≡ take e ys → slice_range xs a e ≡ slice_range ys a e
slice_range-same xs ys a e h same =
    let whole : a + (e - a) ≡ e = omega arith in
    sym (drop-take a (e - a) xs) ∙ ap (λ k. drop a (take k xs)) whole ∙ ap (drop a) same
    ∙ ap (λ k. drop a (take k ys)) (sym whole) ∙ drop-take a (e - a) ys

-- a range within a list has as many elements as its ends are apart
pub length-slice_range : (xs : List ℕ) (a e : ℕ) → e ≤ length xs → length (slice_range xs a e) ≡ e - a
length-slice_range xs a e h = omega (arith, length-take (e - a) (drop a xs), length-drop a xs)
