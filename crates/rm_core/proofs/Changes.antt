-- One processor of the core, and what a change of it leaves as it was.
use Rattle.std.proofs.Common.{◌≡◌, ◌≢◌, ℕ, zero, suc, ◌+◌, ◌-◌, ◌<◌, ◌≤◌, inl, inr, true, Option, Some, None, List, [], ◌∷◌, ◌++◌, map, take, drop, length, length-set, refl, sym, ◌∙◌, ap, arith, subst}
use Rattle.std.specs.Prelude.{All, IsSomeAnd, slice_get, slice_set, slice_index_or, replicate}
use Rattle.std.specs.Option.{option_map_or}
use Rattle.std.proofs.lemmas.List.Elements.{All-set}
use Rattle.std.proofs.lemmas.Option.{slice_get_within, get_or_from_slice_get}
use Rattle.std.proofs.lemmas.Bool.Decides.{nat_tests, eqb_tells}
use Rattle.std.proofs.lemmas.List.{length-map, get_or_default}
use Rattle.std.proofs.lemmas.List.Edits.{map_over_more}
use Rattle.rm_core.specs.declared.processor_state.Phase.TheVariants.{Out, Raised}
use Rattle.rm_core.specs.declared.processor_state.Token.TheVariants.{Held, Revoked}
use Rattle.rm_core.specs.declared.event.Event.{Event}
use Rattle.rm_core.specs.declared.event.Event.TheVariants.{Raise, Check, Lower, TakeBack, GiveBack, Regain, Revoke, Drain, ReadNumber, Publish}
use Rattle.rm_core.specs.declared.processor_state.ProcessorState.{ProcessorState}
use Rattle.rm_core.specs.CoreState.{CoreState, processor_of, with_processor, IsProcessor, after, after_check, after_drain, with_flags_cleared, idle, opening}

-- what holds of the processor that there is
pub IsProcessor-some : (s : CoreState) (i : ℕ) (P : ProcessorState → Type 0) → IsProcessor s i P → (p : ProcessorState) × (processor_of s i ≡ Some p) × P p
IsProcessor-some s i P = some_of P (processor_of s i)
  where
    some_of : (P : ProcessorState → Type 0) (o : Option ProcessorState) → IsSomeAnd o P → (p : ProcessorState) × (o ≡ Some p) × P p
    some_of P (Some p) holds = (p, refl, holds)
    some_of P None holds = absurd holds

-- what holds of a processor's state holds of the processor of that number
pub IsProcessor-from : (s : CoreState) (i : ℕ) (P : ProcessorState → Type 0) (p : ProcessorState) → processor_of s i ≡ Some p → P p → IsProcessor s i P
IsProcessor-from s i P p is holds = subst (λ (o : Option ProcessorState). IsSomeAnd o P) (sym is) holds

-- a processor's number is not 0, and it stands one place before it
processor_of-some : (s : CoreState) (i : ℕ) (p : ProcessorState) → processor_of s i ≡ Some p → (0 < i) × (slice_get s.processors (i - 1) ≡ Some p)
processor_of-some s i p is = grind (arith, nat_tests)

-- a processor that there is has a number from 1 to the processors' count
pub processor_of-within : (s : CoreState) (i : ℕ) (p : ProcessorState) → processor_of s i ≡ Some p → (0 < i) × (i ≤ length s.processors)
processor_of-within s i p is =
    let at : (0 < i) × (slice_get s.processors (i - 1) ≡ Some p) = processor_of-some s i p is in
    (at.0, omega (arith, slice_get_within s.processors (i - 1) p at.1))

-- what holds of all holds of each
All-slice_get : {A : Type 0} (P : A → Type 0) (xs : List A) (k : ℕ) (x : A) → slice_get xs k ≡ Some x → All P xs → P x
All-slice_get {A} P xs k x is all = subst P (get_or_from_slice_get xs k x x is) (all k x (slice_get_within xs k x is))

-- what holds of all processors holds of each one, by its number
pub All-processor_of : (P : ProcessorState → Type 0) (s : CoreState) (i : ℕ) (p : ProcessorState) → All P s.processors → processor_of s i ≡ Some p → P p
All-processor_of P s i p all is = All-slice_get P s.processors (i - 1) p (processor_of-some s i p is).1 all

-- the state with that processor put in its place, where there is one
pub with_processor-some : (s : CoreState) (i : ℕ) (change : ProcessorState → ProcessorState) (p : ProcessorState) → processor_of s i ≡ Some p → with_processor s i change ≡ record s { processors = slice_set s.processors (i - 1) (change p) }
with_processor-some s i change p is = ap (λ (o : Option ProcessorState). option_map_or (λ p. record s { processors = slice_set s.processors (i - 1) (change p) }) o s) is

-- a change of one processor keeps what holds of each, if it keeps it of that one
pub All-with_processor : (P : ProcessorState → Type 0) (s : CoreState) (i : ℕ) (change : ProcessorState → ProcessorState) (p : ProcessorState) → processor_of s i ≡ Some p → P (change p) → All P s.processors → All P (with_processor s i change).processors
All-with_processor P s i change p is changed all =
    rw (with_processor-some s i change p is) (All-set P s.processors (i - 1) (change p) changed all)

-- a change of one processor leaves the published number
pub number-with_processor : (s : CoreState) (i : ℕ) (change : ProcessorState → ProcessorState) → (with_processor s i change).number ≡ s.number
number-with_processor s i change =
    elim (processor_of s i) as (λ o. (option_map_or (λ p. record s { processors = slice_set s.processors (i - 1) (change p) }) o s).number ≡ s.number) [ None ↦ refl | Some p ↦ refl ]

-- a change of one processor leaves the holder of the lock behind
pub holder-with_processor : (s : CoreState) (i : ℕ) (change : ProcessorState → ProcessorState) → (with_processor s i change).holder ≡ s.holder
holder-with_processor s i change =
    elim (processor_of s i) as (λ o. (option_map_or (λ p. record s { processors = slice_set s.processors (i - 1) (change p) }) o s).holder ≡ s.holder) [ None ↦ refl | Some p ↦ refl ]

-- a change of one processor leaves the processors' count
pub length-with_processor : (s : CoreState) (i : ℕ) (change : ProcessorState → ProcessorState) → length (with_processor s i change).processors ≡ length s.processors
length-with_processor s i change =
    elim (processor_of s i) as (λ o. length (option_map_or (λ p. record s { processors = slice_set s.processors (i - 1) (change p) }) o s).processors ≡ length s.processors) [ None ↦ refl | Some p ↦ length-set s.processors (i - 1) (change p) ]

-- each step keeps the processors' count
pub length-after : (s : CoreState) (event : Event) → length (after s event).processors ≡ length s.processors
length-after s (Raise i) = length-with_processor s i (λ p. record p { phase = Raised })
length-after s (Check i) = length-with_processor s i after_check
length-after s (Lower i) = length-with_processor s i (λ p. record p { phase = Out })
length-after s (TakeBack h) = refl
length-after s (GiveBack h) = refl
length-after s (Regain i) = length-with_processor s i (λ p. record p { token = Held })
length-after s (Revoke i) = length-with_processor s i (λ p. record p { token = Revoked (s.number + 1); revoked = true })
length-after s (Drain i) = length-with_processor s i after_drain
length-after s ReadNumber = refl
length-after s Publish = length-map s.processors with_flags_cleared

-- a loop that writes f of each element over it
pub map-more_read : {A : Type 0} (f : A → A) (xs ys : List A) (i : ℕ) (y d : A) → i < length xs → ys ≡ map f (take i xs) ++ drop i xs → length ys ≡ length xs → y ≡ f (slice_index_or ys i d) → slice_set ys i y ≡ map f (take (i + 1) xs) ++ drop (i + 1) xs
map-more_read {A} f xs ys i y d within so_far long is =
    let inside : i < length ys = omega arith in
    rw is (map_over_more f xs ys i (slice_index_or ys i d) within so_far (get_or_default ys i d (slice_index_or ys i d) inside))

-- an element that is set stands at its place
pub get_set_here : {A : Type 0} (xs : List A) (p : ℕ) (a : A) → p < length xs → slice_get (slice_set xs p a) p ≡ Some a
get_set_here [] p a h = absurd (omega arith)
get_set_here (x ∷ xs) zero a h = refl
get_set_here (x ∷ xs) (suc p) a h = get_set_here xs p a (omega arith)

-- what another place has, or lacks, stays where an element is set
pub get_set_else : {A : Type 0} (xs : List A) (p k : ℕ) (a : A) → k ≢ p → slice_get (slice_set xs p a) k ≡ slice_get xs k
get_set_else [] p k a other = refl
get_set_else (x ∷ xs) zero zero a other = absurd (other refl)
get_set_else (x ∷ xs) zero (suc k) a other = refl
get_set_else (x ∷ xs) (suc p) zero a other = refl
get_set_else (x ∷ xs) (suc p) (suc k) a other = get_set_else xs p k a (λ e. other (ap suc e))

-- each of many copies is the one that was copied
pub same_of-replicate : {A : Type 0} (a b : A) (n j : ℕ) → slice_get (replicate n a) j ≡ Some b → b ≡ a
same_of-replicate a b zero j is = absurd cc
same_of-replicate a b (suc n) zero is = cc
same_of-replicate a b (suc n) (suc j) is = same_of-replicate a b n j is

-- the processor that there is, by its place
pub processor_of-at : (s : CoreState) (i : ℕ) → 0 < i → processor_of s i ≡ slice_get s.processors (i - 1)
processor_of-at s i above = grind (arith, nat_tests)

-- after a change the processor is the changed one, and each other one is as it was
pub processor_of-changed : (s : CoreState) (i : ℕ) (change : ProcessorState → ProcessorState) (p : ProcessorState) → processor_of s i ≡ Some p → processor_of (with_processor s i change) i ≡ Some (change p)
processor_of-changed s i change p is =
    let at : (0 < i) × (slice_get s.processors (i - 1) ≡ Some p) = processor_of-some s i p is in
    rw (with_processor-some s i change p is)
    (processor_of-at (record s { processors = slice_set s.processors (i - 1) (change p) }) i at.0
    ∙ get_set_here s.processors (i - 1) (change p) (slice_get_within s.processors (i - 1) p at.1))

unchanged_below : (s : CoreState) (i j : ℕ) (y : ProcessorState) → i ≢ j → 0 < j → processor_of (record s { processors = slice_set s.processors (j - 1) y }) i ≡ processor_of s i
unchanged_below s zero j y apart above = refl
unchanged_below s (suc k) j y apart above =
    let places : suc k - 1 ≢ j - 1 = λ same. apart (omega arith) in
    processor_of-at (record s { processors = slice_set s.processors (j - 1) y }) (suc k) (omega arith)
    ∙ get_set_else s.processors (j - 1) (suc k - 1) y places
    ∙ sym (processor_of-at s (suc k) (omega arith))

unchanged_at : (s : CoreState) (i j : ℕ) (change : ProcessorState → ProcessorState) (o : Option ProcessorState) → processor_of s j ≡ o → i ≢ j → processor_of (with_processor s j change) i ≡ processor_of s i
unchanged_at s i j change None is apart =
    let same : with_processor s j change ≡ s = ap (λ (o : Option ProcessorState). option_map_or (λ p. record s { processors = slice_set s.processors (j - 1) (change p) }) o s) is in
    ap (λ (t : CoreState). processor_of t i) same
unchanged_at s i j change (Some p) is apart =
    ap (λ (t : CoreState). processor_of t i) (with_processor-some s j change p is)
    ∙ unchanged_below s i j (change p) apart (processor_of-some s j p is).0

processor_of-unchanged : (s : CoreState) (i j : ℕ) (change : ProcessorState → ProcessorState) → i ≢ j → processor_of (with_processor s j change) i ≡ processor_of s i
processor_of-unchanged s i j change apart = unchanged_at s i j change (processor_of s j) refl apart

-- what holds of a processor, if there is one
abbrev pub Holds : (ProcessorState → Type 0) → CoreState → ℕ → Type 0
Holds P s i = (p : ProcessorState) → processor_of s i ≡ Some p → P p

-- it still holds after a change of a processor, if the change keeps it where it is this one
pub Holds-with_processor : (P : ProcessorState → Type 0) (s : CoreState) (i j : ℕ) (change : ProcessorState → ProcessorState) (q : ProcessorState) → processor_of s j ≡ Some q → (i ≡ j → P q → P (change q)) → Holds P s i → Holds P (with_processor s j change) i
Holds-with_processor P s i j change q there keeps holds p is =
    elim (eqb_tells i j) as (λ _. P p) [
      | inl same ↦
          let here : processor_of s i ≡ Some q = subst (λ (n : ℕ). processor_of s n ≡ Some q) (sym same.1) there in
          let now : processor_of (with_processor s j change) i ≡ Some (change q) = subst (λ (n : ℕ). processor_of (with_processor s j change) n ≡ Some (change q)) (sym same.1) (processor_of-changed s j change q there) in
          let this : change q ≡ p = cc in
          subst P this (keeps same.1 (holds q here))
      | inr other ↦ holds p (sym (processor_of-unchanged s i j change other.1) ∙ is)
    ]

slice_get-map_back : {A : Type 0} (f : A → A) (xs : List A) (k : ℕ) (y : A) → slice_get (map f xs) k ≡ Some y → (x : A) × (slice_get xs k ≡ Some x) × (f x ≡ y)
slice_get-map_back f [] k y is = absurd cc
slice_get-map_back f (x ∷ xs) zero y is = (x, refl, cc)
slice_get-map_back f (x ∷ xs) (suc k) y is = slice_get-map_back f xs k y is

-- a processor after a change of all is the one before it, changed
pub processor_of-map : (s : CoreState) (number : ℕ) (holder : Option ℕ) (i : ℕ) (f : ProcessorState → ProcessorState) (p : ProcessorState) → processor_of (record { number = number; holder = holder; processors = map f s.processors }) i ≡ Some p → (q : ProcessorState) × (processor_of s i ≡ Some q) × (f q ≡ p)
processor_of-map s number holder i f p is =
    let t : CoreState = record { number = number; holder = holder; processors = map f s.processors } in
    let at : (0 < i) × (slice_get (map f s.processors) (i - 1) ≡ Some p) = processor_of-some t i p is in
    let back : (q : ProcessorState) × (slice_get s.processors (i - 1) ≡ Some q) × (f q ≡ p) = slice_get-map_back f s.processors (i - 1) p at.1 in
    (back.0, processor_of-at s i at.0 ∙ back.1, back.2)

-- at the opening each processor is out and holds its token
pub processor_of-opening : (n number i : ℕ) (p : ProcessorState) → processor_of (opening n number) i ≡ Some p → idle ≡ p
processor_of-opening n number i p is = sym (same_of-replicate idle p n (i - 1) (processor_of-some (opening n number) i p is).1)

-- the same, where there is that processor
pub IsProcessor-with_processor : (P : ProcessorState → Type 0) (s : CoreState) (i j : ℕ) (change : ProcessorState → ProcessorState) (q : ProcessorState) → processor_of s j ≡ Some q → (i ≡ j → P q → P (change q)) → IsProcessor s i P → IsProcessor (with_processor s j change) i P
IsProcessor-with_processor P s i j change q there keeps holds =
    let found : (p : ProcessorState) × (processor_of s i ≡ Some p) × P p = IsProcessor-some s i P holds in
    elim (eqb_tells i j) as (λ _. IsProcessor (with_processor s j change) i P) [
      | inl same ↦
          let here : processor_of s i ≡ Some q = subst (λ (n : ℕ). processor_of s n ≡ Some q) (sym same.1) there in
          let now : processor_of (with_processor s j change) i ≡ Some (change q) = subst (λ (n : ℕ). processor_of (with_processor s j change) n ≡ Some (change q)) (sym same.1) (processor_of-changed s j change q there) in
          let this : found.0 ≡ q = cc in
          IsProcessor-from (with_processor s j change) i P (change q) now (keeps same.1 (subst P this found.2))
      | inr other ↦ IsProcessor-from (with_processor s j change) i P found.0 (processor_of-unchanged s i j change other.1 ∙ found.1) found.2
    ]
