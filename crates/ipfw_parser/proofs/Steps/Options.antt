-- Options, one after another, and the state among them.
use Rattle.std.proofs.Common.{◌≡◌, ℕ, ◌+◌, zero, suc, Bool, true, false, if◌then◌else◌, Option, Some, None, is_some, ◌⊎◌, inl, inr, List, ◌∷◌, ◌++◌, Result, Ok, Err, length, refl, sym, ap, ◌∙◌, arith, append_assoc, length-append, []}
use Rattle.std.proofs.lemmas.List.{append-nil}
use Rattle.std.proofs.Math.Nat.{zero-add, add-zero}
use Rattle.fw_rule.specs.declared.opt.Opt.{Opt}
use Rattle.fw_rule.specs.declared.state_opt.StateOpt.{StateOpt}
use Rattle.ipfw_parser.specs.declared.kind.Kind.TheVariants.{SecondState}
use Rattle.ipfw_parser.specs.Reading.{Word, Fault, fault_at, ◌>>=◌, some_words}
use Rattle.ipfw_parser.specs.Options.{Placed, options, option, state, is_state, with_option, with_state}

-- the state that was read first, or else another
abbrev pub state_or : Option StateOpt → Option StateOpt → Option StateOpt
state_or (Some s) other = Some s
state_or None other = other

-- what was read before the others
abbrev pub before : List Opt → Option StateOpt → ℕ → Placed → Placed
before front made at p = record {
  options = front ++ p.options;
  state = state_or made p.state;
  state_at = if is_some made then at else if is_some p.state then length front + p.state_at else p.state_at;
}

-- a reading's options and state behind those that were read before
abbrev pub merged : List Opt → Option StateOpt → ℕ → Result Placed Fault → Result Placed Fault
merged front made at reading = reading >>= λ p. Ok (before front made at p)

-- so far these options and this state were read; so many are still read at most, in those words
pub record IsPlacing (end : ℕ) (all : List Word) (front : List Opt) (made : Option StateOpt) (at left : ℕ) (words : List Word) : Type 0 where
  pub same : merged front made at (options left end (is_some made) words) ≡ options (length all) end false all
  pub nowhere : made ≡ None → at ≡ 0

some_at : (made : Option StateOpt) (n : ℕ) → (if is_some made then 0 + n else n) ≡ n
some_at None n = refl
some_at (Some s) n = zero-add n

before-nil : (p : Placed) → before [] None 0 p ≡ p
before-nil p = ap (λ n. let q : Placed = record { options = p.options; state = p.state; state_at = n } in q) (some_at p.state p.state_at)

merged-nil : (reading : Result Placed Fault) → merged [] None 0 reading ≡ reading
merged-nil (Ok p) = ap (λ q. let r : Result Placed Fault = Ok q in r) (before-nil p)
merged-nil (Err e) = refl

-- before the first option none is read, no state either, and every word is left
pub starts : (end left : ℕ) (all : List Word) → left ≡ length all → IsPlacing end all [] None 0 left all
starts end left all here = record { same = merged-nil (options left end false all) ∙ ap (λ n. options n end false all) here; nowhere = λ _. refl }

place : (front : List Opt) (o : Opt) (n : ℕ) → length front + (n + 1) ≡ length (front ++ o ∷ []) + n
place front o n = omega (arith, length-append front (o ∷ []))

at_option : (front : List Opt) (o : Opt) (made st : Option StateOpt) (at n : ℕ)
    → (if is_some made then at else if is_some st then length front + (if is_some st then n + 1 else n) else if is_some st then n + 1 else n)
    ≡ (if is_some made then at else if is_some st then length (front ++ o ∷ []) + n else n)
at_option front o (Some s) st at n = refl
at_option front o None (Some s) at n = place front o n
at_option front o None None at n = refl

abbrev placed_as : Option StateOpt → List Opt → ℕ → Placed
placed_as st found n = record { options = found; state = st; state_at = n }

before-option : (front : List Opt) (made : Option StateOpt) (at : ℕ) (o : Opt) (p : Placed) → before front made at (with_option o p) ≡ before (front ++ o ∷ []) made at p
before-option front made at o p =
    ap (λ found. placed_as (state_or made p.state) found (if is_some made then at else if is_some p.state then length front + (if is_some p.state then p.state_at + 1 else p.state_at) else if is_some p.state then p.state_at + 1 else p.state_at)) (sym (append_assoc front (o ∷ []) p.options))
    ∙ ap (placed_as (state_or made p.state) ((front ++ o ∷ []) ++ p.options)) (at_option front o made p.state at p.state_at)

merged-option : (front : List Opt) (made : Option StateOpt) (at : ℕ) (o : Opt) (reading : Result Placed Fault)
    → merged front made at (reading >>= λ p. Ok (with_option o p)) ≡ merged (front ++ o ∷ []) made at reading
merged-option front made at o (Ok p) = ap (λ q. let r : Result Placed Fault = Ok q in r) (before-option front made at o p)
merged-option front made at o (Err e) = refl

merged-state : (front : List Opt) (s : StateOpt) (at : ℕ) (reading : Result Placed Fault) → merged front None at (reading >>= λ p. Ok (with_state s p)) ≡ merged front (Some s) (length front) reading
merged-state front s at (Ok p) = ap (λ n. let r : Result Placed Fault = Ok (placed_as (Some s) (front ++ p.options) n) in r) (add-zero (length front))
merged-state front s at (Err e) = refl

some_none : (s : StateOpt) (n : ℕ) → Some s ≡ None → n ≡ 0
some_none s n e = cc

-- reading an option, and then the others
option_first : (end left : ℕ) (seen : Bool) (word : Word) (words : List Word) → is_state word.text ≡ false
    → options (suc left) end seen (word ∷ words) ≡ (option end word words >>= λ made. options left end seen made.1 >>= λ rest. Ok (with_option made.0 rest))
unfolding options
option_first end left seen word words told = rw told refl

state_first : (end left : ℕ) (word : Word) (words : List Word) → is_state word.text ≡ true
    → options (suc left) end false (word ∷ words) ≡ (state end word words >>= λ made. options left end true made.1 >>= λ rest. Ok (with_state made.0 rest))
unfolding options
state_first end left word words told = rw told refl

state_twice : (end left : ℕ) (word : Word) (words : List Word) → is_state word.text ≡ true → options (suc left) end true (word ∷ words) ≡ fault_at word.column SecondState
unfolding options
state_twice end left word words told = rw told refl

-- an option that is read stands behind those before it
pub option_goes : (end : ℕ) (all : List Word) (front : List Opt) (made : Option StateOpt) (at more left : ℕ) (words : List Word) (word : Word) (behind : List Word) (o : Opt) (rest : List Word)
    → IsPlacing end all front made at more words → more ≡ suc left → words ≡ word ∷ behind → is_state word.text ≡ false → option end word behind ≡ Ok (o, rest) → IsPlacing end all (front ++ o ∷ []) made at left rest
option_goes end all front made at more left words word behind o rest placing count split told ok = record {
  same =
      sym (merged-option front made at o (options left end (is_some made) rest))
      ∙ sym (ap (λ r. merged front made at (r >>= λ m. options left end (is_some made) m.1 >>= λ p. Ok (with_option m.0 p))) ok)
      ∙ sym (ap (merged front made at) (option_first end left (is_some made) word behind told))
      ∙ sym (ap (λ ws. merged front made at (options (suc left) end (is_some made) ws)) split)
      ∙ sym (ap (λ n. merged front made at (options n end (is_some made) words)) count)
      ∙ placing.same;
  nowhere = placing.nowhere;
}

-- an option that can't be read is the fault of all options
pub option_breaks : (end : ℕ) (all : List Word) (front : List Opt) (made : Option StateOpt) (at more left : ℕ) (words : List Word) (word : Word) (behind : List Word) (e : Fault)
    → IsPlacing end all front made at more words → more ≡ suc left → words ≡ word ∷ behind → is_state word.text ≡ false → option end word behind ≡ Err e → options (length all) end false all ≡ Err e
option_breaks end all front made at more left words word behind e placing count split told failed =
    sym placing.same
    ∙ ap (λ n. merged front made at (options n end (is_some made) words)) count
    ∙ ap (λ ws. merged front made at (options (suc left) end (is_some made) ws)) split
    ∙ ap (merged front made at) (option_first end left (is_some made) word behind told)
    ∙ ap (λ r. merged front made at (r >>= λ m. options left end (is_some made) m.1 >>= λ p. Ok (with_option m.0 p))) failed

-- the first state that is read has its place behind the options before it
pub state_goes : (end : ℕ) (all : List Word) (front : List Opt) (made : Option StateOpt) (at more left : ℕ) (words : List Word) (word : Word) (behind : List Word) (s : StateOpt) (rest : List Word)
    → IsPlacing end all front made at more words → more ≡ suc left → words ≡ word ∷ behind → is_state word.text ≡ true → made ≡ None → state end word behind ≡ Ok (s, rest)
    → IsPlacing end all front (Some s) (length front) left rest
state_goes end all front (Some t) at more left words word behind s rest placing count split told none ok = cc
state_goes end all front None at more left words word behind s rest placing count split told none ok = record {
  same =
      sym (merged-state front s at (options left end true rest))
      ∙ sym (ap (λ r. merged front None at (r >>= λ m. options left end true m.1 >>= λ p. Ok (with_state m.0 p))) ok)
      ∙ sym (ap (merged front None at) (state_first end left word behind told))
      ∙ sym (ap (λ ws. merged front None at (options (suc left) end false ws)) split)
      ∙ sym (ap (λ n. merged front None at (options n end false words)) count)
      ∙ placing.same;
  nowhere = λ e. some_none s (length front) e;
}

-- a state that can't be read is the fault of all options
pub state_breaks : (end : ℕ) (all : List Word) (front : List Opt) (made : Option StateOpt) (at more left : ℕ) (words : List Word) (word : Word) (behind : List Word) (e : Fault)
    → IsPlacing end all front made at more words → more ≡ suc left → words ≡ word ∷ behind → is_state word.text ≡ true → made ≡ None → state end word behind ≡ Err e → options (length all) end false all ≡ Err e
state_breaks end all front (Some t) at more left words word behind e placing count split told none failed = cc
state_breaks end all front None at more left words word behind e placing count split told none failed =
    sym placing.same
    ∙ ap (λ n. merged front None at (options n end false words)) count
    ∙ ap (λ ws. merged front None at (options (suc left) end false ws)) split
    ∙ ap (merged front None at) (state_first end left word behind told)
    ∙ ap (λ r. merged front None at (r >>= λ m. options left end true m.1 >>= λ p. Ok (with_state m.0 p))) failed

-- a second state is a fault where its word begins
pub second_state : (end : ℕ) (all : List Word) (front : List Opt) (made : Option StateOpt) (at more left : ℕ) (words : List Word) (word : Word) (behind : List Word)
    → IsPlacing end all front made at more words → more ≡ suc left → words ≡ word ∷ behind → is_state word.text ≡ true → is_some made ≡ true → options (length all) end false all ≡ fault_at word.column SecondState
second_state end all front made at more left words word behind placing count split told some =
    sym placing.same
    ∙ ap (λ n. merged front made at (options n end (is_some made) words)) count
    ∙ ap (λ ws. merged front made at (options (suc left) end (is_some made) ws)) split
    ∙ ap (λ b. merged front made at (options (suc left) end b (word ∷ behind))) some
    ∙ ap (merged front made at) (state_twice end left word behind told)

-- no words are left, or no more may be read
none_left : (end left : ℕ) (seen : Bool) (words : List Word) → (left ≡ 0) ⊎ (words ≡ []) → options left end seen words ≡ Ok (record { options = []; state = None; state_at = 0 })
unfolding options
none_left end left seen [] _ = refl
none_left end zero seen (word ∷ words) _ = refl
none_left end (suc left) seen (word ∷ words) (inl e) = absurd (omega (arith, e))
none_left end (suc left) seen (word ∷ words) (inr e) = cc

before-end : (front : List Opt) (made : Option StateOpt) (at : ℕ) → (made ≡ None → at ≡ 0) → before front made at (record { options = []; state = None; state_at = 0 }) ≡ placed_as made front at
before-end front (Some s) at nowhere = ap (λ found. placed_as (Some s) found at) (append-nil front)
before-end front None at nowhere = ap (λ found. placed_as None found 0) (append-nil front) ∙ ap (placed_as None front) (sym (nowhere refl))

-- at the end the options are those that were read, with the state in its place
pub ends : (end : ℕ) (all : List Word) (front : List Opt) (made : Option StateOpt) (at left : ℕ) (words : List Word)
    → IsPlacing end all front made at left words → (left ≡ 0) ⊎ (words ≡ []) → options (length all) end false all ≡ Ok (record { options = front; state = made; state_at = at })
ends end all front made at left words placing done =
    sym placing.same ∙ ap (merged front made at) (none_left end left (is_some made) words done) ∙ ap (λ q. let r : Result Placed Fault = Ok q in r) (before-end front made at placing.nowhere)

-- words that are found are the words that there are
pub some_words_is : (words found : List Word) → Some found ≡ some_words words → words ≡ found
some_words_is [] found e = cc
some_words_is (word ∷ words) found e = cc

-- where no words are found there are none
pub no_words_is : (words : List Word) → None ≡ some_words words → words ≡ []
no_words_is [] e = refl
no_words_is (word ∷ words) e = cc

-- where no state was seen there is none
pub is_some_false : (made : Option StateOpt) → is_some made ≡ false → made ≡ None
is_some_false None e = refl
is_some_false (Some s) e = cc
