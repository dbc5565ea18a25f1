-- Where the rules of a number in an edition stand, one rule after the other, and that no others are told.
use Rattle.std.proofs.Common.{◌≡◌, ℕ, suc, ◌+◌, ◌<◌, ◌≤◌, true, false, Option, None, Some, List, [], ◌∷◌, ◌++◌, length, get_or, take, drop, flat_map, refl, sym, ap, ◌∙◌, subst, arith, inl, inr, ◌⊎◌, nat_eq, append-nil, length-drop}
use Rattle.std.specs.HashMap.{HashMap, Updates, get}
use Rattle.std.specs.Prelude.{slice_range}
use Rattle.std.proofs.lemmas.Bool.{and_parts, cases_Bool, cases_lt, eqb-true, false≢true}
use Rattle.std.proofs.lemmas.Grind.{flat_map-append}
use Rattle.std.proofs.lemmas.List.{get_or-drop, get_or-take, get_or_default, length-take, take-append-drop}
use Rattle.std.proofs.lemmas.List.Folds.{drop_split}
use Rattle.report_values.specs.KnownPlaces.{IsStretchOf, pair_eq, stretch_to}
use Rattle.report_values.specs.Outcomes.{is_numbered, rule_part}
use Rattle.report_values.specs.declared.known_rules.Stretch.{Stretch}
use Rattle.report_values.specs.declared.rules.KnownRule.{KnownRule}

-- no rule, which stands past the end of a list of rules
abbrev pub no_rule : KnownRule
no_rule = record { edition = 0; number = 0; text = record { ref_ptr = (0, 0); now = [] } }

-- both numbers are the same
same_pair : (a b : ℕ × ℕ) → pair_eq a b ≡ true → a ≡ b
same_pair a b same =
    let (one, two) = and_parts (nat_eq a.0 b.0) (nat_eq a.1 b.1) same in
    let first = eqb-true _ _ one in let second = eqb-true _ _ two in
    ap (λ n. (n, a.1)) first ∙ ap (λ n. (b.0, n)) second

module _ (rules : List KnownRule) (place : ℕ) (pair : ℕ × ℕ) where
  -- one rule more, which isn't one of these
  stretch_stays : (found : Option Stretch) → ((none : KnownRule) → is_numbered pair.0 pair.1 (get_or rules place none) ≡ false)
      → IsStretchOf rules place pair found → IsStretchOf rules (place + 1) pair found
  stretch_stays None isn't before = λ other none within. elim (cases_lt other place) [
    | inl below ↦ before other none below
    | inr past ↦ let same : place ≡ other = omega (arith, within, past) in subst (λ n. is_numbered pair.0 pair.1 (get_or rules n none) ≡ false) same (isn't none)
  ]
  stretch_stays (Some stretch) isn't before = (
    before.0,
    omega (arith, before.1),
    λ other none within is. elim (cases_lt other place) [
      | inl below ↦ before.2 other none below is
      | inr past ↦
          let same : place ≡ other = omega (arith, within, past) in
          let no = subst (λ n. is_numbered pair.0 pair.1 (get_or rules n none) ≡ false) same (isn't none) in
          absurd (false≢true (sym no ∙ is))
    ],
  )

  -- one more of these
  stretch_grows : (found : Option Stretch) → IsStretchOf rules place pair found → IsStretchOf rules (place + 1) pair (Some (stretch_to found place))
  stretch_grows None before = (
    omega arith,
    omega arith,
    λ other none within is. elim (cases_lt other place) [
      | inl below ↦ absurd (false≢true (sym (before other none below) ∙ is))
      | inr past ↦ (past, omega (arith, within))
    ],
  )
  stretch_grows (Some stretch) before = (
    omega (arith, before.0, before.1),
    omega arith,
    λ other none within is. elim (cases_lt other place) [
      | inl below ↦ let there = before.2 other none below is in (there.0, omega (arith, below))
      | inr past ↦ (omega (arith, before.0, before.1, past), omega (arith, within))
    ],
  )

  -- the map with one rule more
  pub found_more : {S : Type 0} (old new : HashMap (ℕ × ℕ) Stretch S) (rule : KnownRule) → place < length rules → rule ≡ get_or rules place rule
      → Updates pair_eq old new (rule.edition, rule.number) (Some (stretch_to (get pair_eq old (rule.edition, rule.number)) place))
      → IsStretchOf rules place pair (get pair_eq old pair) → IsStretchOf rules (place + 1) pair (get pair_eq new pair)
  found_more old new rule within is updates before =
      subst (IsStretchOf rules (place + 1) pair) (sym (updates.0 pair)) (elim (cases_Bool (pair_eq (rule.edition, rule.number) pair)) [
        | inl same ↦
            let both : (rule.edition, rule.number) ≡ pair = same_pair (rule.edition, rule.number) pair same in
            rw same (subst (λ p. IsStretchOf rules (place + 1) pair (Some (stretch_to (get pair_eq old p) place))) (sym both)
            (stretch_grows (get pair_eq old pair) before))
        | inr other ↦
            rw other (stretch_stays (get pair_eq old pair)
            (λ none. ap (is_numbered pair.0 pair.1) (get_or_default rules place none rule within ∙ sym is) ∙ other) before)
      ])

-- elements of which nothing is told
nothing_told : {X : Type 0} (f : X → List ℕ) (xs : List X) → ((at : ℕ) (d : X) → at < length xs → f (get_or xs at d) ≡ []) → flat_map f xs ≡ []
nothing_told f [] none = refl
nothing_told f (x ∷ xs) none =
    ap (λ text. text ++ flat_map f xs) (none 0 x (omega arith)) ∙ nothing_told f xs (λ at d within. none (suc at) d (omega (arith, within)))

module _ (rules : List KnownRule) (pair : ℕ × ℕ) where
  -- of a rule of another number or edition nothing is told
  other_rule : (rule : KnownRule) → is_numbered pair.0 pair.1 rule ≡ false → rule_part pair.0 pair.1 rule ≡ []
  other_rule rule isn't = rw isn't refl

  -- where there are none of these nothing is told
  pub none_told : IsStretchOf rules (length rules) pair None → flat_map (rule_part pair.0 pair.1) rules ≡ []
  none_told none = nothing_told (rule_part pair.0 pair.1) rules (λ at d within. other_rule (get_or rules at d) (none at d within))

  -- else what is told stands in their stretch
  pub stretch_told : (stretch : Stretch) → IsStretchOf rules (length rules) pair (Some stretch)
      → flat_map (rule_part pair.0 pair.1) (slice_range rules stretch.first stretch.end) ≡ flat_map (rule_part pair.0 pair.1) rules
  stretch_told stretch found =
      let told = rule_part pair.0 pair.1 in
      let first = stretch.first in
      let end = stretch.end in
      let outside : (at : ℕ) (d : KnownRule) → at < length rules → (at < first) ⊎ (end ≤ at) → told (get_or rules at d) ≡ [] =
      λ at d within out. other_rule (get_or rules at d) (elim (cases_Bool (is_numbered pair.0 pair.1 (get_or rules at d))) [
        | inl is ↦ let there = found.2 at d within is in elim out [ inl below ↦ absurd (omega (arith, below, there.0)) | inr past ↦ absurd (omega (arith, past, there.1)) ]
        | inr isn't ↦ isn't
      ])
      in
      let front : flat_map told (take first rules) ≡ [] =
      nothing_told told (take first rules) (λ at d within.
      let below : at < first = omega (arith, within, length-take first rules) in
      ap told (get_or-take first rules at d below) ∙ outside at d (omega (arith, within, length-take first rules)) (inl below))
      in
      let rest : flat_map told (drop end rules) ≡ [] =
      nothing_told told (drop end rules) (λ at d within.
      ap told (get_or-drop end rules at d) ∙ outside (end + at) d (omega (arith, within, length-drop end rules)) (inr (omega arith)))
      in
      sym (
      ap (flat_map told) (sym (take-append-drop first rules))
      ∙ flat_map-append told (take first rules) (drop first rules)
      ∙ ap (λ text. text ++ flat_map told (drop first rules)) front
      ∙ ap (flat_map told) (drop_split rules first end found.0)
      ∙ flat_map-append told (slice_range rules first end) (drop end rules)
      ∙ ap (λ text. flat_map told (slice_range rules first end) ++ text) rest
      ∙ append-nil (flat_map told (slice_range rules first end)))
