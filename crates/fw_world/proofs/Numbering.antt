-- What the numbers of editions tell.
use Rattle.std.proofs.Common.{◌≡◌, ◌≤◌, ℕ, zero, suc, ◌+◌, ◌-◌, List, [], ◌∷◌, ◌++◌, length, refl, ap, subst, arith}
use Rattle.std.proofs.lemmas.Option.{slice_get_within}
use Rattle.std.specs.List.{AllByRecursion}
use Rattle.std.specs.Prelude.{Option, Some, None, IfSome, slice_get}
use Rattle.state_asks.specs.RuleLists.{has_id}
use Rattle.generation_store.specs.Published.{Published, has_identity, IsEdition}
use Rattle.state_journal.specs.Journal.{last_rules}
use Rattle.fw_world.specs.Editions.{IsLastOf, AreNumbered, edition_numbered}
use Rattle.fw_world.specs.Publications.{facts_of}

-- the last of several is the last of all but the first
pub IsLastOf-tail : (first next : Published) (rest : List Published) (edition : Published) → IsLastOf (first ∷ next ∷ rest) edition → IsLastOf (next ∷ rest) edition
IsLastOf-tail first next rest edition is =
    let same : length (first ∷ next ∷ rest) - 1 ≡ suc (length (next ∷ rest) - 1) = omega arith in
    subst (λ (k : ℕ). slice_get (first ∷ next ∷ rest) k ≡ Some edition) same is

-- the one edition is the last
pub IsLastOf-one : (first edition : Published) → IsLastOf (first ∷ []) edition → first ≡ edition
IsLastOf-one first edition is = cc

-- the rules of the last facts are those of the last edition
pub last_rules_are : (number : ℕ) (editions : List Published) (edition : Published) → AreNumbered number editions → IsLastOf editions edition → (id : ℕ) → has_id (last_rules (facts_of editions)) id ≡ has_identity edition.config.rules id
last_rules_are number [] edition numbered last id = cc
last_rules_are number (first ∷ []) edition numbered last id = subst (λ (e : Published). has_id first.facts.rules id ≡ has_identity e.config.rules id) (IsLastOf-one first edition last) (numbered.1.identified id)
last_rules_are number (first ∷ next ∷ rest) edition numbered last id = last_rules_are (number + 1) (next ∷ rest) edition numbered.2 (IsLastOf-tail first next rest edition last) id

-- the last edition is numbered by their count
pub last_is_numbered : (number : ℕ) (editions : List Published) (edition : Published) → AreNumbered number editions → IsLastOf editions edition → edition.number + 1 ≡ number + length editions
last_is_numbered number [] edition numbered last = cc
last_is_numbered number (first ∷ []) edition numbered last = let same = ap (λ (e : Published). e.number) (IsLastOf-one first edition last) in omega (arith, numbered.0)
last_is_numbered number (first ∷ next ∷ rest) edition numbered last =
    omega (arith, last_is_numbered (number + 1) (next ∷ rest) edition numbered.2 (IsLastOf-tail first next rest edition last))

-- the next edition behind numbered ones
pub AreNumbered-append : (number : ℕ) (editions : List Published) (edition : Published) → AreNumbered number editions → edition.number ≡ number + length editions → IsEdition edition → AreNumbered number (editions ++ edition ∷ [])
AreNumbered-append number [] edition numbered next is = (omega (arith, next), is, tt)
AreNumbered-append number (first ∷ rest) edition numbered next is = (numbered.0, numbered.1, AreNumbered-append (number + 1) rest edition numbered.2 (omega (arith, next)) is)

-- the edition in a place has the number of its place
numbered_at : (first place : ℕ) (editions : List Published) (edition : Published) → AreNumbered first editions → slice_get editions place ≡ Some edition → edition.number ≡ first + place
numbered_at first place [] edition numbered is = cc
numbered_at first zero (one ∷ editions) edition numbered is =
    let same : one ≡ edition = cc in
    omega (arith, numbered.0, ap (λ (e : Published). e.number) same)
numbered_at first (suc place) (one ∷ editions) edition numbered is = omega (arith, numbered_at (first + 1) place editions edition numbered.2 is)

-- the last edition is found by its number
pub last_is_found : (editions : List Published) (edition : Published) → AreNumbered 1 editions → IsLastOf editions edition → edition_numbered editions edition.number ≡ Some edition
last_is_found editions edition numbered last =
    let same : length editions ≡ edition.number = omega (arith, last_is_numbered 1 editions edition numbered last) in
    subst (λ (n : ℕ). slice_get editions (n - 1) ≡ Some edition) same last

-- whatever is found by a number isn't above the last
pub found_below : (editions : List Published) (number : ℕ) → AreNumbered 1 editions → IfSome (edition_numbered editions number) (λ edition. edition.number ≤ length editions)
found_below editions number numbered = by_found (edition_numbered editions number) refl
  where
    by_found : (found : Option Published) → edition_numbered editions number ≡ found → IfSome found (λ edition. edition.number ≤ length editions)
    by_found None is = tt
    by_found (Some edition) is = omega (arith, numbered_at 1 (number - 1) editions edition numbered is, slice_get_within editions (number - 1) edition is)

-- so are all that a list names
pub all_found_below : (editions : List Published) (numbers : List ℕ) → AreNumbered 1 editions → AllByRecursion (λ number. IfSome (edition_numbered editions number) (λ edition. edition.number ≤ length editions)) numbers
all_found_below editions [] numbered = tt
all_found_below editions (number ∷ numbers) numbered = (found_below editions number numbered, all_found_below editions numbers numbered)
