-- The flow names of a configuration: their numbers stay, and a new one is unlike all others.
use Rattle.std.proofs.Common.{◌≡◌, ◌≢◌, ℕ, suc, ◌+◌, ◌<◌, ◌≤◌, Bool, true, false, cond, not, ◌||◌, nat_eq, nat_lt, nat_le, if◌then◌else◌, Option, Some, None, IfSome, Ok, Err, List, [], ◌∷◌, ◌++◌, length, get_or, refl, sym, ◌∙◌, inl, inr, arith, length-append}
use Rattle.std.specs.Bool.{Decides}
use Rattle.std.specs.Cmp.Lexicographic.{pointwise}
use Rattle.std.specs.List.{list_any, position_or_len}
use Rattle.std.proofs.Math.ListN.{get_or-append}
use Rattle.std.proofs.Math.Seq.{get_or-append_seam}
use Rattle.std.proofs.Math.Dec.{eqb}
use Rattle.std.proofs.lemmas.Bool.{cases_order}
use Rattle.std.proofs.lemmas.Bool.Decides.{Decides-eqb, nat_tests}
use Rattle.std.proofs.lemmas.List.Folds.{position_or_len_push}
use Rattle.std.proofs.lemmas.List.Sums.{fails_before_first, prefix_len-le-length}
use Rattle.std.proofs.lemmas.Slice.Eq.{slice_eq-Decides}
use Rattle.fw_rule.specs.declared.rule.Rule.{Rule}
use Rattle.rule_chain.specs.Names.{number_of_name, name_of, IsNamed, AreNames}
use Rattle.rule_edits.specs.NewNames.{is_listed, with_name, with_name_of}
use Rattle.rule_edits.specs.declared.apply_fault.ApplyFault.TheVariants.{TooManyNames}

-- equal names have equal bytes
pub name_same : (a b : List ℕ) → Decides (pointwise nat_eq a b) (a ≡ b)
name_same a b = slice_eq-Decides Decides-eqb a b (pointwise nat_eq a b) refl

any_position : {X : Type 0} (p : X → Bool) (xs : List X) → list_any p xs ≡ nat_lt (position_or_len p xs) (length xs)
any_position p [] = refl
any_position p (x ∷ xs) =
    let rest = any_position p xs in
    elim (p x) as (λ b. (b || list_any p xs) ≡ nat_lt (cond (not b) (1 + position_or_len p xs) 0) (suc (length xs))) [
      | true ↦ grind (arith, nat_tests)
      | false ↦ rest ∙ lt_suc (position_or_len p xs) (length xs)
    ]
  where
    lt_suc : (m n : ℕ) → nat_lt m n ≡ nat_lt (1 + m) (suc n)
    lt_suc m n = grind (arith, nat_tests)

-- a name that stands among them has a number
is_listed-number : (names : List (List ℕ)) (name : List ℕ) → is_listed names name ≡ nat_lt (number_of_name names name) (length names)
is_listed-number names name = any_position (λ other. pointwise nat_eq other name) names

-- a name that has a number keeps one where a name is put behind the others
pub number_stays : (names : List (List ℕ)) (new name : List ℕ) → number_of_name names name < length names → number_of_name (names ++ new ∷ []) name < length (names ++ new ∷ [])
number_stays names new name low =
    let longer = length-append names (new ∷ []) in
    let other : eqb (number_of_name names name) (length names) ≡ false = grind (arith, nat_tests) in
    let pushed : number_of_name (names ++ new ∷ []) name ≡ number_of_name names name = position_or_len_push (λ other. pointwise nat_eq other name) names new ∙ rw other refl in
    omega arith

-- the new one has the last number
pub number_is_last : (names : List (List ℕ)) (name : List ℕ) → number_of_name names name ≡ length names → number_of_name (names ++ name ∷ []) name ≡ length names
number_is_last names name none =
    let itself = (name_same name name).1 refl in
    position_or_len_push (λ other. pointwise nat_eq other name) names name ∙ rw (none, itself) (grind (arith, nat_tests))

-- a name without a number is unlike each that has one
unlike : (names : List (List ℕ)) (name : List ℕ) (i : ℕ) → length names ≤ number_of_name names name → i < length names → get_or names i [] ≢ name
unlike names name i none low same =
    let fails = fails_before_first (λ other. pointwise nat_eq other name) names i [] (omega arith) in
    let passes = (name_same (get_or names i []) name).1 same in
    cc

-- fewer than 64 names with a new one behind them are unlike each other still
pub names_pushed : (names : List (List ℕ)) (name : List ℕ) → length names ≤ number_of_name names name → length names < 64 → AreNames names → AreNames (names ++ name ∷ [])
names_pushed names name none room h =
    let longer = length-append names (name ∷ []) in
    record {
      some = omega (arith, h.some);
      first = get_or-append names (name ∷ []) [] 0 h.some ∙ h.first;
      distinct = λ i j less within same.
          let low : i < length names = omega arith in
          let at_i = get_or-append names (name ∷ []) [] i low in
          elim (cases_order j (length names)) [
            | inl last ↦
                let at_j : get_or (names ++ name ∷ []) j [] ≡ name = rw last (get_or-append_seam names name [] []) in
                unlike names name i none low (sym at_i ∙ same ∙ at_j)
            | inr (inl before) ↦
                let at_j = get_or-append names (name ∷ []) [] j before in
                h.distinct i j less before (sym at_i ∙ same ∙ at_j)
            | inr (inr behind) ↦ absurd (omega arith)
          ];
      few = omega arith;
    }

-- what an accepted `add` makes of the names
pub record Keeps (names made : List (List ℕ)) : Type 0 where
  pub lawful : AreNames made
  pub stay : (name : List ℕ) → number_of_name names name < length names → number_of_name made name < length made

named_so : (names made : List (List ℕ)) (name : List ℕ) → AreNames names → with_name names name ≡ Ok made → Keeps names made × (number_of_name made name < length made)
named_so names made name h is =
    let test = is_listed-number names name in
    elim (is_listed names name) as (λ b. is_listed names name ≡ b
    → (if b then Ok names else if nat_le 64 (length names) then Err TooManyNames else Ok (names ++ name ∷ [])) ≡ Ok made
    → Keeps names made × (number_of_name made name < length made)) [
      | true ↦ λ low same.
          let made_is : names ≡ made = cc in
          let within : number_of_name names name < length names = let is : nat_lt (number_of_name names name) (length names) ≡ true = sym test ∙ low in grind (arith, nat_tests) in
          rw (sym made_is) (record { lawful = h; stay = λ other has. has }, within)
      | false ↦ λ low. elim (nat_le 64 (length names)) as (λ b. nat_le 64 (length names) ≡ b
          → (if b then Err TooManyNames else Ok (names ++ name ∷ [])) ≡ Ok made
          → Keeps names made × (number_of_name made name < length made)) [
            | true ↦ λ full same. cc
            | false ↦ λ room same.
                let made_is : names ++ name ∷ [] ≡ made = cc in
                let none : length names ≤ number_of_name names name = let is : nat_lt (number_of_name names name) (length names) ≡ false = sym test ∙ low in grind (arith, nat_tests) in
                let few : length names < 64 = grind (arith, nat_tests) in
                let most = most_number names name in
                let last = number_is_last names name (omega arith) in
                let longer = length-append names (name ∷ []) in
                rw (sym made_is) (record { lawful = names_pushed names name none few h; stay = number_stays names name }, omega arith)
          ] refl
    ] refl is
  where
    most_number : (names : List (List ℕ)) (name : List ℕ) → number_of_name names name ≤ length names
    most_number names name = prefix_len-le-length (λ other. not (pointwise nat_eq other name)) names

-- what an accepted `add` makes of the names: those that were there keep a number, and that of the rule has one
pub names_made : (names made : List (List ℕ)) (name : Option (List ℕ)) → AreNames names → with_name_of names name ≡ Ok made
    → Keeps names made × IfSome name (λ n. number_of_name made n < length made)
unfolding with_name_of
names_made names made None h is =
    let made_is : names ≡ made = cc in
    rw (sym made_is) (record { lawful = h; stay = λ other has. has }, tt)
names_made names made (Some name) h is = named_so names made name h is

if_some-weaker : {X : Type 0} (P Q : X → Type 0) → ((x : X) → P x → Q x) → (o : Option X) → IfSome o P → IfSome o Q
if_some-weaker P Q f None h = tt
if_some-weaker P Q f (Some x) h = f x h

-- a rule's name keeps a number
pub stays_named : (names made : List (List ℕ)) → Keeps names made → (rule : Rule) → IsNamed names rule → IsNamed made rule
stays_named names made keeps rule h =
    if_some-weaker (λ name. number_of_name names name < length names) (λ name. number_of_name made name < length made) keeps.stay (name_of rule.action rule.body) h
