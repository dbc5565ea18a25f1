-- Bins sum to the records.
use Rattle.std.proofs.Common.{◌≡◌, ℕ, ◌+◌, cond, List, [], ◌∷◌, ◌++◌, length, take, drop, refl, sym, ap, ◌∙◌, subst, arith, min}
use Rattle.std.specs.Prelude.{sum_by}
use Rattle.std.proofs.lemmas.List.{take_min, drop_min, append-nil, append_assoc, length-take, length-drop}
use Rattle.std.proofs.lemmas.List.Sums.{sum_by-cons}
use Rattle.report_page.specs.Bins.{is_allow, is_deny, is_answered, is_unread, bin_of, bin_total, IsCut}
use Rattle.report_page.specs.declared.bins.Bin.{Bin}
use Rattle.report_page.specs.declared.bins.Shade.{Shade}
use Rattle.report_page.specs.declared.bins.Shade.TheVariants.{Allow, Deny, Answered, Unread}

one_each : (shade : Shade) → cond (is_allow shade) 1 0 + (cond (is_deny shade) 1 0 + (cond (is_answered shade) 1 0 + cond (is_unread shade) 1 0)) ≡ 1
one_each Allow = refl
one_each Deny = refl
one_each Answered = refl
one_each Unread = refl

-- each record has one shade
pub total_is_length : (shades : List Shade) → bin_total (bin_of shades) ≡ length shades
total_is_length [] = refl
total_is_length (shade ∷ shades) =
    omega (
      arith,
      one_each shade,
      total_is_length shades,
      sum_by-cons (λ s. cond (is_allow s) 1 0) shade shades,
      sum_by-cons (λ s. cond (is_deny s) 1 0) shade shades,
      sum_by-cons (λ s. cond (is_answered s) 1 0) shade shades,
      sum_by-cons (λ s. cond (is_unread s) 1 0) shade shades,
    )

-- what the bins sum to
pub cut_sums : (size : ℕ) (shades : List Shade) (bins : List Bin) → IsCut size shades bins → sum_by bin_total bins ≡ length shades
unfolding IsCut
cut_sums size shades [] none = sym (ap length none)
cut_sums size shades (bin ∷ bins) (is, rest) =
    let here : bin_total bin ≡ length (take size shades) = ap bin_total is ∙ total_is_length (take size shades) in
    let others = cut_sums size (drop size shades) bins rest in
    sum_by-cons bin_total bin bins ∙ omega (arith, here, others, length-take size shades, length-drop size shades)

-- bins that cut what is left, behind these, cut it all
abbrev pub CutsSoFar : ℕ → List Shade → List Shade → List Bin → Type 0
CutsSoFar size shades rest bins = (more : List Bin) → IsCut size rest more → IsCut size shades (bins ++ more)

-- one bin more of what is left
pub cuts_more : (size : ℕ) (shades rest : List Shade) (bins : List Bin) → CutsSoFar size shades rest bins
    → CutsSoFar size shades (drop (min size (length rest)) rest) (bins ++ bin_of (take (min size (length rest)) rest) ∷ [])
unfolding IsCut
cuts_more size shades rest bins so_far more cut =
    let here = bin_of (take (min size (length rest)) rest) in
    let same : here ≡ bin_of (take size rest) = ap bin_of (take_min size rest) in
    let behind : IsCut size (drop size rest) more = subst (λ (left : List Shade). IsCut size left more) (drop_min size rest) cut in
    subst (IsCut size shades) (sym (append_assoc bins (here ∷ []) more)) (so_far (here ∷ more) (same, behind))

-- where nothing is left they cut it all
pub cuts_all : (size : ℕ) (shades rest : List Shade) (bins : List Bin) → rest ≡ [] → CutsSoFar size shades rest bins → IsCut size shades bins
unfolding IsCut
cuts_all size shades rest bins none so_far = subst (IsCut size shades) (append-nil bins) (so_far [] none)

-- one bin more, as it was made
pub cuts_step : (size n : ℕ) (shades rest front others : List Shade) (bins news : List Bin) (bin : Bin) → n ≡ min size (length rest)
    → front ≡ take n rest → others ≡ drop n rest → bin ≡ bin_of front → news ≡ bins ++ bin ∷ [] → CutsSoFar size shades rest bins
    → CutsSoFar size shades others news
cuts_step size n shades rest front others bins news bin n_is front_is others_is bin_is news_is so_far =
    let here : bin ≡ bin_of (take (min size (length rest)) rest) = bin_is ∙ ap bin_of (front_is ∙ ap (λ (k : ℕ). take k rest) n_is) in
    let left : others ≡ drop (min size (length rest)) rest = others_is ∙ ap (λ (k : ℕ). drop k rest) n_is in
    let all : news ≡ bins ++ bin_of (take (min size (length rest)) rest) ∷ [] = news_is ∙ ap (λ (b : Bin). bins ++ b ∷ []) here in
    subst (λ (o : List Shade). CutsSoFar size shades o news) (sym left)
    (subst (λ (ns : List Bin). CutsSoFar size shades (drop (min size (length rest)) rest) ns) (sym all) (cuts_more size shades rest bins so_far))
