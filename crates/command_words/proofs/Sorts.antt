-- What a word is to the library that reads the words.
use Rattle.std.proofs.Common.{◌≡◌, ℕ, ◌+◌, Bool, true, false, not, ◌&&◌, ◌||◌, ◌==◌, cond, if◌then◌else◌, Some, None, Option, suc, List, [], ◌∷◌, ◌++◌, take, drop, refl, sym, ap, ◌∙◌, subst, inl, inr, codes, nat_eq, option_and_then, arith}
use Rattle.std.specs.List.{before_first, after_first, position_or_len}
use Rattle.std.specs.Option.{option_map}
use Rattle.std.specs.Cmp.Lexicographic.{pointwise}
use Rattle.std.specs.Str.{bytes_eq}
use Rattle.std.proofs.lemmas.Bool.Decides.{eqb_tells}
use Rattle.std.proofs.lemmas.Slice.Eq.{bytes_eq-Decides}
use Rattle.std.proofs.lemmas.Bool.{cases_Bool}
use Rattle.clap.specs.Lexer.{long_of, long_of_rest, name_and_value, has_byte, short_of, short_of_rest, strip_byte}
use Rattle.clap.specs.Walk.{Held, Rule, Text, arg_by_long}
use Rattle.clap.specs.Simple.{Shape, built, filled, with_index}
use Rattle.clap.specs.Kinds.{Kinds, or_else}
use Rattle.clap.specs.Faults.{long_fault}
use Rattle.clap.specs.declared.error.kind.ErrorKind.{ErrorKind}
use Rattle.clap.specs.declared.error.kind.ErrorKind.TheVariants.{UnknownArgument, TooManyValues}
use Rattle.command_words.specs.CommandLine.{command_app, journal_rule, cache_rule, positional_rule}
use Rattle.command_words.specs.Bytes.{is_same}
use Rattle.fw_base.specs.Chain.{◌>>=◌}
use Rattle.command_words.specs.Words.{is_option, stripped, Given, with_journal, with_value, by_option}

-- the command as the library builds it
abbrev pub shape : Shape
shape = (built command_app).top

-- the arguments of the command, as the library builds them
abbrev pub rules : List Rule
rules = shape.rules

-- the argument `--journal`, as the library builds it
abbrev pub journal : Rule
journal = with_index 1 (filled journal_rule)

-- the argument `--cache`
abbrev pub cache : Rule
cache = with_index 1 (filled cache_rule)

-- the positional words
abbrev pub operand_rule : Rule
operand_rule = with_index 1 (filled positional_rule)

-- there are faults
abbrev pub IsFaulty : Kinds → Type 0
IsFaulty kinds = (k : ErrorKind) × (ks : Kinds) × (kinds ≡ k ∷ ks)

-- a fault in front is a fault of both together
pub faulty_front : (front back : Kinds) → IsFaulty front → IsFaulty (or_else front back)
faulty_front front back (k, ks, e) = (k, ks, ap (λ f. or_else f back) e)

-- a fault behind is a fault of both together
pub faulty_back : (front back : Kinds) → IsFaulty back → IsFaulty (or_else front back)
faulty_back [] back fault = fault
faulty_back (k ∷ ks) back fault = (k, ks, refl)

-- texts that are the same byte by byte are equal
pub same_text : (x y : Text) → is_same x y ≡ true → x ≡ y
same_text x y e = (bytes_eq-Decides x y).0 e

-- equal texts are the same byte by byte
pub same_itself : (x y : Text) → x ≡ y → is_same x y ≡ true
same_itself x y e = (bytes_eq-Decides x y).1 e

-- bytes without a `=` are all before the first one
all_before : (text : Text) → has_byte 61 text ≡ false → before_first (λ x. x == 61) text ≡ text
all_before [] none = refl
all_before (x ∷ xs) none = step (x == 61) x xs (all_before xs) none
  where
    step : (b : Bool) (x : ℕ) (xs : Text) → (has_byte 61 xs ≡ false → before_first (λ x. x == 61) xs ≡ xs) → (b || has_byte 61 xs) ≡ false
        → take (cond (not b) (1 + position_or_len (λ x. x == 61) xs) 0) (x ∷ xs) ≡ x ∷ xs
    step true x xs later none = absurd (cc)
    step false x xs later none =
        let one : 1 + position_or_len (λ x. x == 61) xs ≡ suc (position_or_len (λ x. x == 61) xs) = omega arith in
        ap (λ n. take n (x ∷ xs)) one ∙ ap (λ l. x ∷ l) (later none)

-- what begins so is that beginning, and what stands behind it
stripped_is : (beginning word value : Text) → stripped beginning word ≡ Some value → word ≡ beginning ++ value
stripped_is [] word value is = let same : word ≡ value = cc in same
stripped_is (first ∷ beginning) [] value is = absurd (cc)
stripped_is (first ∷ beginning) (byte ∷ word) value is = elim (eqb_tells byte first) [
  | inl h ↦ (λ i. h.1 i ∷ stripped_is beginning word value (ap (λ t. let o : Option Text = if t then stripped beginning word else None in o) (sym h.0) ∙ is) i)
  | inr h ↦ absurd (let none : None ≡ Some value = ap (λ t. let o : Option Text = if t then stripped beginning word else None in o) (sym h.0) ∙ is in cc)
]

-- bytes with a `=` have it between what stands before and behind
split_there : (text : Text) → has_byte 61 text ≡ true → text ≡ before_first (λ x. x == 61) text ++ 61 ∷ after_first (λ x. x == 61) text
split_there [] has = absurd (cc)
split_there (x ∷ xs) has = elim (eqb_tells x 61) [
  | inl h ↦ subst (λ b. x ∷ xs ≡ take (cond (not b) (1 + position_or_len (λ x. x == 61) xs) 0) (x ∷ xs) ++ 61 ∷ drop (cond (not b) (1 + position_or_len (λ x. x == 61) xs) 0 + 1) (x ∷ xs)) (sym h.0) (ap (λ b. b ∷ xs) h.1)
  | inr h ↦
      let later : has_byte 61 xs ≡ true = ap (λ b. b || has_byte 61 xs) (sym h.0) ∙ has in
      let one : 1 + position_or_len (λ x. x == 61) xs ≡ suc (position_or_len (λ x. x == 61) xs) = omega arith in
      let next : suc (position_or_len (λ x. x == 61) xs) + 1 ≡ suc (position_or_len (λ x. x == 61) xs + 1) = omega arith in
      subst (λ b. x ∷ xs ≡ take (cond (not b) (1 + position_or_len (λ x. x == 61) xs) 0) (x ∷ xs) ++ 61 ∷ drop (cond (not b) (1 + position_or_len (λ x. x == 61) xs) 0 + 1) (x ∷ xs)) (sym h.0)
      (subst (λ n. x ∷ xs ≡ take n (x ∷ xs) ++ 61 ∷ drop (n + 1) (x ∷ xs)) (sym one)
      (subst (λ n. x ∷ xs ≡ take (suc (position_or_len (λ x. x == 61) xs)) (x ∷ xs) ++ 61 ∷ drop n (x ∷ xs)) (sym next) (ap (λ l. x ∷ l) (split_there xs later))))
]

-- what the library finds under a name
found_under : Bool → Bool → Option Rule
found_under as_journal as_cache = cond (as_journal || false) (Some journal) (cond (as_cache || false) (Some cache) None)

-- A long option that is none of these is unknown, or has a value that it can't have.
strange : (text : Text) → is_same text (codes "journal") ≡ false → is_same text (codes "cache") ≡ false → stripped (codes "cache=") text ≡ None
    → (h : Held) → IsFaulty (long_fault rules shape.args_override_self (arg_by_long rules (name_and_value text).0) (name_and_value text).1 h)
unfolding found_under
strange text no_journal no_cache no_value h = elim (cases_Bool (bytes_eq (codes "journal") (name_and_value text).0)) [
  | inl alike ↦ elim (cases_Bool (has_byte 61 text)) [
    | inl has ↦ (
      TooManyValues,
      [],
      ap (λ b. long_fault rules false (found_under b (bytes_eq (codes "cache") (name_and_value text).0)) (name_and_value text).1 h) alike
          ∙ ap (λ t. let o : Option Text = if t then Some (after_first (λ x. x == 61) text) else None in long_fault rules false (Some journal) o h) has,
    )
    | inr none ↦
        let name : codes "journal" ≡ (name_and_value text).0 = same_text (codes "journal") (name_and_value text).0 alike in
        let same = same_itself text (codes "journal") (sym (name ∙ all_before text none)) in
        absurd (cc)
  ]
  | inr different ↦ elim (cases_Bool (bytes_eq (codes "cache") (name_and_value text).0)) [
    | inl alike ↦ elim (cases_Bool (has_byte 61 text)) [
      | inl has ↦
          let name : codes "cache" ≡ before_first (λ x. x == 61) text = same_text (codes "cache") (name_and_value text).0 alike in
          let whole : text ≡ codes "cache" ++ 61 ∷ after_first (λ x. x == 61) text = split_there text has ∙ ap (λ l. l ++ 61 ∷ after_first (λ x. x == 61) text) (sym name) in
          let begins : stripped (codes "cache=") text ≡ Some (after_first (λ x. x == 61) text) = ap (stripped (codes "cache=")) whole in
          absurd (let never : None ≡ Some (after_first (λ x. x == 61) text) = sym no_value ∙ begins in cc)
      | inr none ↦
          let name : codes "cache" ≡ (name_and_value text).0 = same_text (codes "cache") (name_and_value text).0 alike in
          let same = same_itself text (codes "cache") (sym (name ∙ all_before text none)) in
          absurd (cc)
    ]
    | inr other ↦ (
      UnknownArgument,
      [],
      ap (λ b. long_fault rules false (found_under b (bytes_eq (codes "cache") (name_and_value text).0)) (name_and_value text).1 h) different
          ∙ ap (λ b. long_fault rules false (found_under false b) (name_and_value text).1 h) other,
    )
  ]
]

-- A word is `--`, `--journal`, `--cache`, `--cache=` with a value, another option, or an operand.
pub data Sort (word : Text) : Type 0 where
  divider : is_same word (codes "--") ≡ true → Sort word
  journal_word : word ≡ codes "--journal" → Sort word
  cache_word : word ≡ codes "--cache" → Sort word
  cache_value : (value : Text) → word ≡ codes "--cache=" ++ value → Sort word
  long : (p : Text × Option Text) → is_same word (codes "--") ≡ false → is_option word ≡ true → ((given awaiting : Option Given) → by_option word given awaiting ≡ None) → long_of word ≡ Some p
      → ((h : Held) → IsFaulty (long_fault rules shape.args_override_self (arg_by_long rules p.0) p.1 h)) → Sort word
  short : (f : ℕ) (flags : Text) → is_same word (codes "--") ≡ false → is_option word ≡ true → ((given awaiting : Option Given) → by_option word given awaiting ≡ None) → long_of word ≡ None
      → short_of word ≡ Some (f ∷ flags) → word ≡ 45 ∷ f ∷ flags → Sort word
  operand : is_same word (codes "--") ≡ false → is_option word ≡ false → long_of word ≡ None → short_of word ≡ None → Sort word

-- what a word gives that is none of the options
by_tests : Bool → Bool → Option Text → Option Given → Option Given → Option Given
by_tests as_journal as_cache value given awaiting =
    if as_journal then given >>= with_journal
    else if as_cache then awaiting
    else value >>= λ value. option_map (with_value value) given

dashes : (more : Text) → Sort (45 ∷ 45 ∷ more)
unfolding is_option by_tests
dashes [] = divider refl
dashes (x ∷ xs) = elim (cases_Bool (is_same (x ∷ xs) (codes "journal"))) [
  | inl alike ↦ journal_word (ap (λ (l : Text). 45 ∷ 45 ∷ l) (same_text (x ∷ xs) (codes "journal") alike))
  | inr no_journal ↦ elim (cases_Bool (is_same (x ∷ xs) (codes "cache"))) [
    | inl alike ↦ cache_word (ap (λ (l : Text). 45 ∷ 45 ∷ l) (same_text (x ∷ xs) (codes "cache") alike))
    | inr no_cache ↦ by_value no_journal no_cache (stripped (codes "cache=") (x ∷ xs)) refl
  ]
]
  where
    by_value : is_same (x ∷ xs) (codes "journal") ≡ false → is_same (x ∷ xs) (codes "cache") ≡ false → (value : Option Text) → stripped (codes "cache=") (x ∷ xs) ≡ value → Sort (45 ∷ 45 ∷ x ∷ xs)
    by_value no_journal no_cache (Some value) is = cache_value value (ap (λ (l : Text). 45 ∷ 45 ∷ l) (stripped_is (codes "cache=") (x ∷ xs) value is))
    by_value no_journal no_cache None is = long (name_and_value (x ∷ xs)) refl refl
        (λ given awaiting. (λ i. by_tests (no_journal i) (no_cache i) (is i) given awaiting)) refl (strange (x ∷ xs) no_journal no_cache is)

dash : (rest : Text) → Sort (45 ∷ rest)
unfolding is_option by_tests
dash [] = operand refl refl refl refl
dash (d ∷ more) = elim (eqb_tells d 45) [
  | inl h ↦ subst (λ c. Sort (45 ∷ c ∷ more)) (sym h.1) (dashes more)
  | inr h ↦ short d more
      (ap (λ t. t && pointwise nat_eq more []) h.0)
      refl
      (λ given awaiting. ap (λ t. by_tests (t && pointwise nat_eq more (codes "journal")) (t && pointwise nat_eq more (codes "cache")) (let o : Option Text = if t then stripped (codes "cache=") more else None in o) given awaiting) h.0)
      (ap (λ t. option_and_then long_of_rest (if t then Some more else None)) h.0)
      (ap (λ t. let o : Option Text = if t then None else Some (d ∷ more) in o) h.0)
      refl
]

no_option : (byte : ℕ) (rest : Text) → (byte == 45) ≡ false → is_option (byte ∷ rest) ≡ false
unfolding is_option
no_option byte [] e = refl
no_option byte (other ∷ rest) e = e

-- each word is of one of the sorts
pub sort_of : (word : Text) → Sort word
unfolding is_option
sort_of [] = operand refl refl refl refl
sort_of (b ∷ rest) = elim (eqb_tells b 45) [
  | inl h ↦ subst (λ c. Sort (c ∷ rest)) (sym h.1) (dash rest)
  | inr h ↦ operand
      (ap (λ t. t && pointwise nat_eq rest (45 ∷ [])) h.0)
      (no_option b rest h.0)
      (ap (λ t. option_and_then long_of_rest (option_and_then (strip_byte 45) (if t then Some rest else None))) h.0)
      (ap (λ t. option_and_then short_of_rest (if t then Some rest else None)) h.0)
]
