-- What the library makes of the words, one after the other.
use Rattle.std.proofs.Common.{◌≡◌, ℕ, ◌≤◌, Bool, true, false, ◌&&◌, if◌then◌else◌, Some, None, Option, suc, List, [], ◌∷◌, ◌++◌, length, refl, sym, ap, ap₂, ◌∙◌, subst, arith, codes, slice_get, nat_lt, unwrap_or, option_map}
use Rattle.std.specs.Prelude.{IsSomeAnd}
use Rattle.std.specs.Option.{option_map_or}
use Rattle.std.specs.Str.{IsUtf8, chars, encode_utf8_all}
use Rattle.std.specs.Char.{encode_utf8}
use Rattle.std.proofs.lemmas.Str.{IsUtf8-past_char, chars_past_char}
use Rattle.std.proofs.lemmas.Bool.{le-ltb}
use Rattle.std.proofs.lemmas.List.{append-nil}
use Rattle.clap.specs.Lexer.{usize_max, long_of, short_of}
use Rattle.clap.specs.Walk.{Held, Row, Text, Waiting, Walk, idle, option, positional, trailing, walked, word_met, long_or_other, short_or_plain, plain_word, after_step, used, settled_rows, all_of, has_row, row_text}
use Rattle.clap.specs.Kinds.{Kinds, or_else, range_kinds, values_kinds}
use Rattle.clap.specs.Faults.{walk_fault, turn_fault, word_fault, step_fault, settle_fault, flag_word_fault, bundle_fault, flags_fault, bundle_step_fault}
use Rattle.clap.specs.declared.builder.value_parser.ValueParser.TheVariants.{String as String_parser}
use Rattle.clap.specs.declared.error.kind.ErrorKind.TheVariants.{UnknownArgument, ArgumentConflict, TooFewValues, TooManyValues}
use Rattle.command_words.specs.Words.{Given, is_divider}
use Rattle.command_words.proofs.Rows.{row_of_name, other_row, own_values, new_row, without_none}
use Rattle.command_words.proofs.Sorts.{IsFaulty, faulty_front, journal, cache, rules, shape}

-- what is pending behind the words so far: operands, if there were any, a `--cache` that awaits its value, or one
-- that has it
pub data Pending : Type 0 where
  words : List Text → Pending
  wants : Pending
  has : Text → Pending

-- a value is awaited
abbrev pub awaits : Pending → Bool
awaits (words vs) = false
awaits wants = true
awaits (has value) = false

-- what is pending, as the walk holds it: the argument and its values so far
abbrev pub pending_at : Pending → Option (Text × List Text)
pending_at (words []) = None
pending_at (words (v ∷ vs)) = Some (codes "positional", v ∷ vs)
pending_at wants = Some (codes "cache", [])
pending_at (has value) = Some (codes "cache", value ∷ [])

-- what the walk waits for, where that is pending
abbrev pub waiting_at : Pending → Waiting
waiting_at (words []) = idle
waiting_at (words (v ∷ vs)) = positional
waiting_at wants = option (codes "cache")
waiting_at (has value) = idle

-- where the walk stands with these rows
abbrev pub held_at : List Row → Pending → Held
held_at rows pending = record { rows = rows; pending = pending_at pending; skip = 0 }

-- the whole walk, in front of `--` or behind it
abbrev pub walk_at : Bool → List Row → Pending → Walk
walk_at behind rows pending = record { held = held_at rows pending; waiting = waiting_at pending; position = 1; is_trailing = behind; stopped = None }

-- the rows where what is pending was used
abbrev pub settled_at : List Row → Pending → List Row
settled_at rows pending = settled_rows rules (pending_at pending) rows

-- ---- what the rows tell

-- the values as the matches have them: no use, where there are none
abbrev pub shown : List Text → Option (List Text)
shown [] = None
shown (v ∷ vs) = Some (v ∷ vs)

-- what the matches show is what there was
pub shown_is : (vs : List Text) → unwrap_or (shown vs) [] ≡ vs
shown_is [] = refl
shown_is (v ∷ vs) = refl

shown_more : (us : List Text) (v : Text) (vs : List Text) → Some (us ++ v ∷ vs) ≡ shown (us ++ v ∷ vs)
shown_more [] v vs = refl
shown_more (u ∷ us) v vs = refl

-- whether `--journal` was seen
abbrev pub IsFlag : Bool → List Row → Type 0
IsFlag false rows = row_of_name (codes "journal") rows ≡ None
IsFlag true rows = IsSomeAnd (row_of_name (codes "journal") rows) (λ row. row_text row ≡ Some (codes "true"))

-- The rows are those of these options and operands.
pub record Tells (rows : List Row) (given : Given) : Type 0 where
  pub positional : all_of (codes "positional") rows ≡ shown given.positional
  pub caches : all_of (codes "cache") rows ≡ shown given.caches
  pub journal : IsFlag given.journal rows

flag_same : (seen : Bool) (rows more : List Row) → row_of_name (codes "journal") more ≡ row_of_name (codes "journal") rows → IsFlag seen rows → IsFlag seen more
flag_same false rows more same flag = same ∙ flag
flag_same true rows more same flag = subst (λ o. IsSomeAnd o (λ row. row_text row ≡ Some (codes "true"))) (sym same) flag

-- what was given, with more operands
abbrev pub more_operands : Given → List Text → Given
more_operands given vs = record given { positional = given.positional ++ vs }

-- what was given, with more values of `--cache`
abbrev pub more_values : Given → List Text → Given
more_values given vs = record given { caches = given.caches ++ vs }

-- what was given, where what is pending was used
abbrev pub closed : Given → Pending → Given
closed given (words vs) = more_operands given vs
closed given wants = more_values given ([] ∷ [])
closed given (has value) = more_values given (value ∷ [])

-- a use of `--cache` tells one value more
pub value_tells : (rows : List Row) (given : Given) (value : Text) → Tells rows given → Tells (used cache (value ∷ []) rows) (more_values given (value ∷ []))
value_tells rows given value tells = record {
  positional = ap (option_map (λ (row : Row). row.values)) (other_row (codes "cache") _ _ (value ∷ []) (codes "positional") refl rows) ∙ tells.positional;
  caches =
      own_values (codes "cache") _ _ (value ∷ []) rows
      ∙ ap (λ (o : Option (List Text)). Some (unwrap_or o [] ++ value ∷ [])) tells.caches
      ∙ ap (λ (vs : List Text). Some (vs ++ value ∷ [])) (shown_is given.caches)
      ∙ shown_more given.caches value [];
  journal = flag_same given.journal rows _ (other_row (codes "cache") _ _ (value ∷ []) (codes "journal") refl rows) tells.journal;
}

-- rows tell what was given also once what is pending is used, which is then given too
pub settled_tells : (rows : List Row) (given : Given) (pending : Pending) → Tells rows given → Tells (settled_at rows pending) (closed given pending)
settled_tells rows given (words []) tells = record { positional = tells.positional ∙ ap shown (sym (append-nil given.positional)); caches = tells.caches; journal = tells.journal }
settled_tells rows given (words (v ∷ vs)) tells = record {
  positional =
      own_values (codes "positional") _ _ (v ∷ vs) rows
      ∙ ap (λ (o : Option (List Text)). Some (unwrap_or o [] ++ v ∷ vs)) tells.positional
      ∙ ap (λ (us : List Text). Some (us ++ v ∷ vs)) (shown_is given.positional)
      ∙ shown_more given.positional v vs;
  caches = ap (option_map (λ (row : Row). row.values)) (other_row (codes "positional") _ _ (v ∷ vs) (codes "cache") refl rows) ∙ tells.caches;
  journal = flag_same given.journal rows _ (other_row (codes "positional") _ _ (v ∷ vs) (codes "journal") refl rows) tells.journal;
}
settled_tells rows given wants tells = value_tells rows given [] tells
settled_tells rows given (has value) tells = value_tells rows given value tells

-- behind the first `--journal`
pub journal_tells : (rows : List Row) (given : Given) → given.journal ≡ false → Tells rows given → Tells (used journal [] rows) (record given { journal = true })
journal_tells rows given unseen tells =
    let none : row_of_name (codes "journal") rows ≡ None = subst (λ seen. IsFlag seen rows) unseen tells.journal in
    let same = without_none (codes "journal") rows none in
    rw same (record {
      positional = ap (option_map (λ (row : Row). row.values)) (other_row (codes "journal") _ _ (codes "true" ∷ []) (codes "positional") refl rows) ∙ tells.positional;
      caches = ap (option_map (λ (row : Row). row.values)) (other_row (codes "journal") _ _ (codes "true" ∷ []) (codes "cache") refl rows) ∙ tells.caches;
      journal = subst (λ o. IsSomeAnd o (λ row. row_text row ≡ Some (codes "true"))) (sym (new_row (codes "journal") _ _ (codes "true" ∷ []) rows none)) refl;
    })

-- ---- behind `--` each word is an operand

-- the rows behind a word: what is pending is used, unless it is operands, which the word joins
abbrev pub rows_behind : List Row → Pending → List Row
rows_behind rows (words vs) = rows
rows_behind rows wants = settled_at rows wants
rows_behind rows (has value) = settled_at rows (has value)

-- what is pending behind a word, which is an operand
abbrev pub pending_behind : Pending → Text → Pending
pending_behind (words vs) word = words (vs ++ word ∷ [])
pending_behind wants word = words (word ∷ [])
pending_behind (has value) word = words (word ∷ [])

-- the walk takes a word behind `--` as an operand
pub walked_behind : (rows : List Row) (pending : Pending) (word : Text) → walked rules [] (walk_at true rows pending) word ≡ walk_at true (rows_behind rows pending) (pending_behind pending word)
unfolding walked
walked_behind rows (words []) word = refl
walked_behind rows (words (v ∷ vs)) word = refl
walked_behind rows wants word = refl
walked_behind rows (has value) word = refl

no_turn_fault_behind : (rows : List Row) (pending : Pending) (word : Text) → turn_fault shape [] (walk_at true rows pending) word ≡ []
no_turn_fault_behind rows (words []) word = refl
no_turn_fault_behind rows (words (v ∷ vs)) word = refl
no_turn_fault_behind rows wants word = refl
no_turn_fault_behind rows (has value) word = refl

-- words behind `--` have no fault
pub fault_behind : (rows : List Row) (pending : Pending) (ws : List Text) → walk_fault shape [] (walk_at true rows pending) ws ≡ []
unfolding walk_fault
fault_behind rows pending [] = refl
fault_behind rows pending (word ∷ ws) =
    ap₂ or_else (no_turn_fault_behind rows pending word) (ap (λ w. walk_fault shape [] w ws) (walked_behind rows pending word) ∙ fault_behind (rows_behind rows pending) (pending_behind pending word) ws)

-- ---- the faults where what is pending is used

-- the positional words are one use of the argument, which takes any number of any texts
range_ok : (n : ℕ) → n ≤ usize_max → range_kinds 0 usize_max n ≡ []
range_ok n small =
    ap (λ t. let k : Kinds = if t then TooFewValues ∷ [] else (if nat_lt usize_max n then TooManyValues ∷ [] else []) in k) (le-ltb n 0 (omega arith))
    ∙ ap (λ t. let k : Kinds = if t then TooManyValues ∷ [] else [] in k) (le-ltb usize_max n small)

values_ok : (vs : List Text) → values_kinds false String_parser vs ≡ []
values_ok [] = refl
values_ok (v ∷ vs) = values_ok vs

-- how many operands are pending
abbrev pub count_at : Pending → ℕ
count_at (words vs) = length vs
count_at wants = 0
count_at (has value) = 0

-- what is pending is used without a fault, where its operands can be counted
pub no_settle_fault : (rows : List Row) (pending : Pending) → count_at pending ≤ usize_max → settle_fault rules shape.args_override_self (held_at rows pending) ≡ []
no_settle_fault rows (words []) few = refl
no_settle_fault rows (words (v ∷ vs)) few = ap (λ k. or_else k (values_kinds false String_parser (v ∷ vs))) (range_ok (length (v ∷ vs)) few) ∙ values_ok (v ∷ vs)
no_settle_fault rows wants few = refl
no_settle_fault rows (has value) few = refl

-- ---- what a word is in front of `--`

met_is : (rows : List Row) (pending : Pending) (word : Text)
    → word_met rules [] false (waiting_at pending) 1 word (held_at rows pending) ≡ (if is_divider word then (held_at rows pending, trailing 1) else long_or_other rules (waiting_at pending) word (long_of word) (held_at rows pending))
met_is rows (words []) word = refl
met_is rows (words (v ∷ vs)) word = refl
met_is rows wants word = refl
met_is rows (has value) word = refl

fault_is : (rows : List Row) (pending : Pending) (word : Text)
    → word_fault shape [] false (waiting_at pending) word (held_at rows pending) ≡ (if is_divider word then [] else flag_word_fault rules shape.args_override_self (long_of word) word (held_at rows pending))
fault_is rows (words []) word = refl
fault_is rows (words (v ∷ vs)) word = refl
fault_is rows wants word = refl
fault_is rows (has value) word = refl

met_divider : (rows : List Row) (pending : Pending) (word : Text) → is_divider word ≡ true → word_met rules [] false (waiting_at pending) 1 word (held_at rows pending) ≡ (held_at rows pending, trailing 1)
met_divider rows pending word same =
    met_is rows pending word ∙ ap (λ t. if t then (held_at rows pending, trailing 1) else long_or_other rules (waiting_at pending) word (long_of word) (held_at rows pending)) same

-- behind the first `--` the walk stands as before it, with operands alone to come
pub walked_divider : (rows : List Row) (pending : Pending) (word : Text) → is_divider word ≡ true → walked rules [] (walk_at false rows pending) word ≡ walk_at true rows pending
unfolding walked
walked_divider rows pending word same = ap (λ met. after_step rules word (walk_at false rows pending) met.0 met.1) (met_divider rows pending word same)

-- the first `--` has no fault
pub fault_divider : (rows : List Row) (pending : Pending) (word : Text) → is_divider word ≡ true → turn_fault shape [] (walk_at false rows pending) word ≡ []
fault_divider rows pending word same =
    ap₂ or_else (fault_is rows pending word ∙ ap (λ t. let k : Kinds = if t then [] else flag_word_fault rules shape.args_override_self (long_of word) word (held_at rows pending) in k) same)
    (ap (λ met. step_fault shape 1 met.0 met.1) (met_divider rows pending word same))

-- ---- an operand in front of `--`

-- the rows behind a word that is no option: a `--cache` that has its value is used
abbrev pub rows_plain : List Row → Pending → List Row
rows_plain rows (words vs) = rows
rows_plain rows wants = rows
rows_plain rows (has value) = settled_at rows (has value)

-- what is pending behind such a word: the value that was awaited, or else an operand
abbrev pub pending_plain : Pending → Text → Pending
pending_plain (words vs) word = words (vs ++ word ∷ [])
pending_plain wants word = has word
pending_plain (has value) word = words (word ∷ [])

met_plain : (rows : List Row) (pending : Pending) (word : Text) → is_divider word ≡ false → long_of word ≡ None → short_of word ≡ None
    → word_met rules [] false (waiting_at pending) 1 word (held_at rows pending) ≡ plain_word rules (waiting_at pending) word (held_at rows pending)
met_plain rows pending word other no_long no_short =
    met_is rows pending word
    ∙ ap (λ t. if t then (held_at rows pending, trailing 1) else long_or_other rules (waiting_at pending) word (long_of word) (held_at rows pending)) other
    ∙ ap (λ o. long_or_other rules (waiting_at pending) word o (held_at rows pending)) no_long
    ∙ ap (λ o. short_or_plain rules (waiting_at pending) word o (held_at rows pending)) no_short

after_plain : (rows : List Row) (pending : Pending) (word : Text)
    → after_step rules word (walk_at false rows pending) (plain_word rules (waiting_at pending) word (held_at rows pending)).0 (plain_word rules (waiting_at pending) word (held_at rows pending)).1
    ≡ walk_at false (rows_plain rows pending) (pending_plain pending word)
after_plain rows (words []) word = refl
after_plain rows (words (v ∷ vs)) word = refl
after_plain rows wants word = refl
after_plain rows (has value) word = refl

-- the walk takes a word that is no option as the awaited value, or else as an operand
pub walked_plain : (rows : List Row) (pending : Pending) (word : Text) → is_divider word ≡ false → long_of word ≡ None → short_of word ≡ None
    → walked rules [] (walk_at false rows pending) word ≡ walk_at false (rows_plain rows pending) (pending_plain pending word)
unfolding walked
walked_plain rows pending word other no_long no_short =
    ap (λ met. after_step rules word (walk_at false rows pending) met.0 met.1) (met_plain rows pending word other no_long no_short) ∙ after_plain rows pending word

step_plain : (rows : List Row) (pending : Pending) (word : Text)
    → step_fault shape 1 (plain_word rules (waiting_at pending) word (held_at rows pending)).0 (plain_word rules (waiting_at pending) word (held_at rows pending)).1 ≡ []
step_plain rows (words []) word = refl
step_plain rows (words (v ∷ vs)) word = refl
step_plain rows wants word = refl
step_plain rows (has value) word = refl

-- a word that is no option has no fault
pub fault_plain : (rows : List Row) (pending : Pending) (word : Text) → is_divider word ≡ false → long_of word ≡ None → short_of word ≡ None → turn_fault shape [] (walk_at false rows pending) word ≡ []
fault_plain rows pending word other no_long no_short =
    ap₂ or_else
    (fault_is rows pending word
    ∙ ap (λ t. let k : Kinds = if t then [] else flag_word_fault rules shape.args_override_self (long_of word) word (held_at rows pending) in k) other
    ∙ ap (λ o. flag_word_fault rules shape.args_override_self o word (held_at rows pending)) no_long
    ∙ ap (λ o. option_map_or (λ flags. bundle_fault rules shape.args_override_self flags (held_at rows pending)) o []) no_short)
    (ap (λ met. step_fault shape 1 met.0 met.1) (met_plain rows pending word other no_long no_short) ∙ step_plain rows pending word)

-- ---- an option in front of `--`

-- `--journal` uses what is pending, and then itself
pub walked_journal : (rows : List Row) (pending : Pending) → walked rules [] (walk_at false rows pending) (codes "--journal") ≡ walk_at false (used journal [] (settled_at rows pending)) (words [])
unfolding walked
walked_journal rows (words []) = refl
walked_journal rows (words (v ∷ vs)) = refl
walked_journal rows wants = refl
walked_journal rows (has value) = refl

-- the faults of `--journal`: those of what is pending, and that it was there before
journal_kinds : Kinds → Bool → Kinds
journal_kinds before again = or_else (or_else before (or_else (if again && true then ArgumentConflict ∷ [] else []) [])) []

fault_journal_is : (rows : List Row) (pending : Pending)
    → turn_fault shape [] (walk_at false rows pending) (codes "--journal") ≡ journal_kinds (settle_fault rules shape.args_override_self (held_at rows pending)) (has_row (codes "journal") (settled_at rows pending))
unfolding journal_kinds
fault_journal_is rows (words []) = refl
fault_journal_is rows (words (v ∷ vs)) = refl
fault_journal_is rows wants = refl
fault_journal_is rows (has value) = refl

-- the first `--journal` has no fault
pub fault_journal : (rows : List Row) (pending : Pending) → count_at pending ≤ usize_max → has_row (codes "journal") (settled_at rows pending) ≡ false → turn_fault shape [] (walk_at false rows pending) (codes "--journal") ≡ []
unfolding journal_kinds
fault_journal rows pending few unseen = fault_journal_is rows pending ∙ ap₂ journal_kinds (no_settle_fault rows pending few) unseen

-- a second `--journal` is a fault
pub fault_second : (rows : List Row) (pending : Pending) → count_at pending ≤ usize_max → has_row (codes "journal") (settled_at rows pending) ≡ true → IsFaulty (turn_fault shape [] (walk_at false rows pending) (codes "--journal"))
unfolding journal_kinds
fault_second rows pending few seen = (ArgumentConflict, [], fault_journal_is rows pending ∙ ap₂ journal_kinds (no_settle_fault rows pending few) seen)

-- behind `--cache` what was pending is used, and a value is awaited
pub walked_cache : (rows : List Row) (pending : Pending) → walked rules [] (walk_at false rows pending) (codes "--cache") ≡ walk_at false (settled_at rows pending) wants
unfolding walked
walked_cache rows (words []) = refl
walked_cache rows (words (v ∷ vs)) = refl
walked_cache rows wants = refl
walked_cache rows (has value) = refl

-- a `--cache` has no fault, whatever was pending
pub fault_cache : (rows : List Row) (pending : Pending) → count_at pending ≤ usize_max → turn_fault shape [] (walk_at false rows pending) (codes "--cache") ≡ []
fault_cache rows pending few = is rows pending ∙ ap (λ k. or_else k []) (no_settle_fault rows pending few)
  where
    is : (rows : List Row) (pending : Pending) → turn_fault shape [] (walk_at false rows pending) (codes "--cache") ≡ or_else (settle_fault rules shape.args_override_self (held_at rows pending)) []
    is rows (words []) = refl
    is rows (words (v ∷ vs)) = refl
    is rows wants = refl
    is rows (has value) = refl

-- `--cache=` with a value uses what is pending, and then itself
pub walked_value : (rows : List Row) (pending : Pending) (value : Text) → walked rules [] (walk_at false rows pending) (codes "--cache=" ++ value) ≡ walk_at false (used cache (value ∷ []) (settled_at rows pending)) (words [])
unfolding walked
walked_value rows (words []) value = refl
walked_value rows (words (v ∷ vs)) value = refl
walked_value rows wants value = refl
walked_value rows (has other) value = refl

-- a `--cache=` with a value has no fault, whatever was pending
pub fault_value : (rows : List Row) (pending : Pending) (value : Text) → count_at pending ≤ usize_max → turn_fault shape [] (walk_at false rows pending) (codes "--cache=" ++ value) ≡ []
fault_value rows pending value few = is rows pending ∙ ap (λ k. or_else (or_else k []) []) (no_settle_fault rows pending few)
  where
    is : (rows : List Row) (pending : Pending) → turn_fault shape [] (walk_at false rows pending) (codes "--cache=" ++ value) ≡ or_else (or_else (settle_fault rules shape.args_override_self (held_at rows pending)) []) []
    is rows (words []) = refl
    is rows (words (v ∷ vs)) = refl
    is rows wants = refl
    is rows (has other) = refl

-- any other option is a fault
pub fault_long : (rows : List Row) (pending : Pending) (word : Text) (p : Text × Option Text) → is_divider word ≡ false → long_of word ≡ Some p
    → IsFaulty (flag_word_fault rules shape.args_override_self (Some p) word (held_at rows pending)) → IsFaulty (turn_fault shape [] (walk_at false rows pending) word)
fault_long rows pending word p other is (k, ks, e) = faulty_front _ _ (
  k,
  ks,
  fault_is rows pending word
      ∙ ap (λ t. let kinds : Kinds = if t then [] else flag_word_fault rules shape.args_override_self (long_of word) word (held_at rows pending) in kinds) other
      ∙ ap (λ o. flag_word_fault rules shape.args_override_self o word (held_at rows pending)) is ∙ e,
)

first_char : (text : Text) (f : ℕ) (rest : Text) → text ≡ f ∷ rest → IsUtf8 text → (x : ℕ) × (slice_get (chars text) 0 ≡ Some x)
first_char text f rest is ([], encoded) = let e : length text ≡ 0 = ap length (sym encoded.1) in let l : length text ≡ suc (length rest) = ap length is in absurd (omega arith)
first_char text f rest is (c ∷ cs, encoded) = (c, ap (λ (xs : Text). slice_get xs 0) (chars_past_char text (encode_utf8_all cs) c (c ∷ cs, encoded) (sym encoded.1)))

bundle_is_faulty : (rows : List Row) (pending : Pending) (f : ℕ) (flags : Text) (x : ℕ) → slice_get (chars (f ∷ flags)) 0 ≡ Some x
    → bundle_fault rules shape.args_override_self (f ∷ flags) (held_at rows pending) ≡ UnknownArgument ∷ []
unfolding flags_fault
bundle_is_faulty rows pending f flags x e = ap (λ o. bundle_step_fault rules shape.args_override_self o (f ∷ flags) 0 (held_at rows pending) (flags_fault rules shape.args_override_self (length flags))) e

-- a word with one `-` and more behind it is a fault
pub fault_short : (rows : List Row) (pending : Pending) (word : Text) (f : ℕ) (flags : Text) → IsUtf8 word → is_divider word ≡ false → long_of word ≡ None → short_of word ≡ Some (f ∷ flags)
    → word ≡ 45 ∷ f ∷ flags → IsFaulty (turn_fault shape [] (walk_at false rows pending) word)
unfolding encode_utf8
fault_short rows pending word f flags utf8 other no_long is word_is =
    let (x, first) = first_char (f ∷ flags) f flags refl (IsUtf8-past_char word (f ∷ flags) 45 utf8 word_is) in
    faulty_front _ _ (
      UnknownArgument,
      [],
      fault_is rows pending word
          ∙ ap (λ t. let kinds : Kinds = if t then [] else flag_word_fault rules shape.args_override_self (long_of word) word (held_at rows pending) in kinds) other
          ∙ ap (λ o. flag_word_fault rules shape.args_override_self o word (held_at rows pending)) no_long
          ∙ ap (λ o. option_map_or (λ fs. bundle_fault rules shape.args_override_self fs (held_at rows pending)) o []) is
          ∙ bundle_is_faulty rows pending f flags x first,
    )
