-- Flags and IP options in their canonical text are read again.
use Rattle.std.proofs.Common.{◌≡◌, ℕ, ◌+◌, ◌%◌, ◌^◌, ◌<◌, Bool, true, false, ◌==◌, if◌then◌else◌, Some, Result, Ok, List, ◌∷◌, ◌++◌, length, drop, refl, sym, ap, ◌∙◌, arith, []}
use Rattle.std.specs.Prelude.{bit_or, bit_and, ⊤}
use Rattle.std.specs.List.{AllByRecursion, join_with_byte}
use Rattle.std.proofs.Math.Nat.{mod-eq_of_lt, zero-add, add-zero}
use Rattle.fw_rule.specs.Bits.{has_bit}
use Rattle.fw_rule.specs.Names.{flag_names, option_names}
use Rattle.rule_text.specs.Canonical.{signed_names, sign_of, signed_name, WordTexts}
use Rattle.ipfw_parser.specs.declared.kind.Kind.TheVariants.{BadFlag}
use Rattle.ipfw_parser.specs.Reading.{Fault, fault_at, ◌>>=◌, same}
use Rattle.ipfw_parser.specs.Names.{place}
use Rattle.ipfw_parser.specs.Lists.{Masks, sign_masks, signs, bare_name, is_negated, with_sign, found_flag}
use Rattle.rule_round_trip.proofs.Numbers.Digits.{elements_again}
use Rattle.ipfw_parser.proofs.Steps.Masks.{tested_ok}
use Rattle.rule_round_trip.proofs.Masks.Bits.{low_set, low_clear, bits_apart}
use Rattle.ipfw_parser.specs.Forms.{AreSigns}
use Rattle.ipfw_parser.proofs.Forms.Masks.{masks_of, six, four}
use Rattle.rule_round_trip.proofs.Lists.Sums.{further}
use Rattle.rule_round_trip.proofs.Lists.Each.{all_append}

low : ℕ → ℕ → ℕ → Masks
low set clear k = record { set = set % 2 ^ k; clear = clear % 2 ^ k }

-- names from place k on: found there, and not negated
abbrev AreNames : List (List ℕ) → ℕ → List (List ℕ) → Type 0
AreNames all k [] = ⊤
AreNames all k (name ∷ names) = (place all name ≡ Some k) × (is_negated name ≡ false) × AreNames all (k + 1) names

bare_plain : (name : List ℕ) → is_negated name ≡ false → bare_name name ≡ name
unfolding bare_name
bare_plain name plain = ap (λ b. if b then drop 1 name else name) plain

one_name : (all : List (List ℕ)) (masks next : Masks) (column k : ℕ) (name text : List ℕ) (negated : Bool) (more : WordTexts) → bare_name text ≡ name → is_negated text ≡ negated → place all name ≡ Some k
    → with_sign masks negated k ≡ next → sign_masks all masks column (text ∷ more) ≡ sign_masks all next column more
unfolding sign_masks
one_name all masks next column k name text negated more is_bare is_sign here goes =
    ap (λ t. found_flag column (place all t) >>= λ n. sign_masks all (with_sign masks (is_negated text) n) column more) is_bare
    ∙ ap (λ f. found_flag column f >>= λ n. sign_masks all (with_sign masks (is_negated text) n) column more) here
    ∙ ap (λ b. sign_masks all (with_sign masks b k) column more) is_sign
    ∙ ap (λ m. sign_masks all m column more) goes

bare_signed : (name : List ℕ) → bare_name (33 ∷ name) ≡ name
unfolding bare_name is_negated
bare_signed name = refl

signed_is : (name : List ℕ) → is_negated (33 ∷ name) ≡ true
unfolding is_negated
signed_is name = refl

sign_step : (all : List (List ℕ)) (set clear k column : ℕ) (name : List ℕ) (more : WordTexts) (x y : Bool) → has_bit set k ≡ x → has_bit clear k ≡ y → (x ≡ true → y ≡ false)
    → place all name ≡ Some k → is_negated name ≡ false
    → sign_masks all (low set clear k) column (signed_name (sign_of x y) name ++ more) ≡ sign_masks all (low set clear (k + 1)) column more
unfolding low
sign_step all set clear k column name more true true hx hy apart here plain = cc (apart refl)
sign_step all set clear k column name more true false hx hy apart here plain =
    one_name all (low set clear k) (low set clear (k + 1)) column k name name false more (bare_plain name plain) plain here
    (ap (λ s. masks_of s (clear % 2 ^ k)) (low_set set k hx) ∙ ap (λ c. masks_of (set % 2 ^ (k + 1)) c) (low_clear clear k hy))
sign_step all set clear k column name more false true hx hy apart here plain =
    one_name all (low set clear k) (low set clear (k + 1)) column k name (33 ∷ name) true more (bare_signed name) (signed_is name) here
    (ap (λ s. masks_of s (bit_or (clear % 2 ^ k) (2 ^ k))) (low_clear set k hx) ∙ ap (λ c. masks_of (set % 2 ^ (k + 1)) c) (low_set clear k hy))
sign_step all set clear k column name more false false hx hy apart here plain =
    ap (λ m. sign_masks all m column more)
    (ap (λ s. masks_of s (clear % 2 ^ k)) (low_clear set k hx) ∙ ap (λ c. masks_of (set % 2 ^ (k + 1)) c) (low_clear clear k hy))

names_read : (all : List (List ℕ)) (set clear column k : ℕ) (names : List (List ℕ)) → bit_and set clear ≡ 0 → AreNames all k names
    → sign_masks all (low set clear k) column (signed_names names k set clear) ≡ Ok (low set clear (k + length names))
unfolding signed_names sign_masks
names_read all set clear column k [] apart are = ap (λ n. let r : Result Masks Fault = Ok (low set clear n) in r) (sym (add-zero k))
names_read all set clear column k (name ∷ names) apart are =
    sign_step all set clear k column name (signed_names names (k + 1) set clear) (has_bit set k) (has_bit clear k) refl refl (bits_apart set clear k apart) are.0 are.1
    ∙ names_read all set clear column (k + 1) names apart are.2
    ∙ ap (λ n. let r : Result Masks Fault = Ok (low set clear n) in r) (further k (length names))

-- a property of each byte of each text
abbrev pub AllOver : (ℕ → Type 0) → List (List ℕ) → Type 0
AllOver P texts = AllByRecursion (AllByRecursion P) texts

-- what holds of commas and of each byte of the texts holds of each byte of the texts joined by commas
pub all_joined : (P : ℕ → Type 0) (texts : List (List ℕ)) → P 44 → AllOver P texts → AllByRecursion P (join_with_byte 44 texts)
all_joined P [] comma all = tt
all_joined P (text ∷ []) comma all = all.0
all_joined P (text ∷ next ∷ texts) comma all = all_append P text (44 ∷ join_with_byte 44 (next ∷ texts)) all.0 (comma, all_joined P (next ∷ texts) comma all.1)

signed_all : (P : ℕ → Type 0) (x y : Bool) (name : List ℕ) (more : WordTexts) → P 33 → AllByRecursion P name → AllOver P more → AllOver P (signed_name (sign_of x y) name ++ more)
signed_all P true y name more mark p q = (p, q)
signed_all P false true name more mark p q = ((mark, p), q)
signed_all P false false name more mark p q = q

-- what holds of ! and of each byte of the names holds of each byte of signed names
pub names_all : (P : ℕ → Type 0) (names : List (List ℕ)) (k set clear : ℕ) → P 33 → AllOver P names → AllOver P (signed_names names k set clear)
unfolding signed_names
names_all P [] k set clear mark all = tt
names_all P (name ∷ names) k set clear mark all = signed_all P (has_bit set k) (has_bit clear k) name (signed_names names (k + 1) set clear) mark all.0 (names_all P names (k + 1) set clear mark all.1)

-- what was read from texts is read from them with commas between
signs_joined : (names texts : List (List ℕ)) (set clear column : ℕ) → sign_masks names (masks_of 0 0) column texts ≡ Ok (masks_of set clear) → 0 < set + clear → bit_and set clear ≡ 0
    → AllOver (λ b. b == 44 ≡ false) texts → signs names (record { column = column; text = join_with_byte 44 texts }) ≡ Ok (masks_of set clear)
unfolding sign_masks signs
signs_joined names [] set clear column ok some apart free =
    let same : masks_of 0 0 ≡ masks_of set clear = cc in let s = ap (λ (m : Masks). m.set) same in let c = ap (λ (m : Masks). m.clear) same in absurd (omega (arith, some, s, c))
signs_joined names (text ∷ texts) set clear column ok some apart free =
    ap (λ ts. sign_masks names (masks_of 0 0) column ts >>= λ masks. if bit_and masks.set masks.clear == 0 then Ok masks else fault_at column BadFlag) (elements_again text texts free)
    ∙ ap (λ r. r >>= λ masks. if bit_and masks.set masks.clear == 0 then Ok masks else fault_at column BadFlag) ok
    ∙ tested_ok column (masks_of set clear) apart

low_whole : (set clear n : ℕ) → set < 2 ^ n → clear < 2 ^ n → low set clear n ≡ masks_of set clear
unfolding low
low_whole set clear n s c = ap (λ x. masks_of x (clear % 2 ^ n)) (mod-eq_of_lt s) ∙ ap (λ x. masks_of set x) (mod-eq_of_lt c)

low_none : (set clear : ℕ) → low set clear 0 ≡ masks_of 0 0
unfolding low
low_none set clear = let s : set % 1 ≡ 0 = omega arith in let c : clear % 1 ≡ 0 = omega arith in cc

signs_again : (names : List (List ℕ)) (n set clear column : ℕ) → length names ≡ n → AreSigns n set clear → AreNames names 0 names → AllOver (λ b. b == 44 ≡ false) names
    → signs names (record { column = column; text = join_with_byte 44 (signed_names names 0 set clear) }) ≡ Ok (masks_of set clear)
signs_again names n set clear column count form are free =
    signs_joined names (signed_names names 0 set clear) set clear column
    (ap (λ m. sign_masks names m column (signed_names names 0 set clear)) (sym (low_none set clear))
    ∙ names_read names set clear column 0 names form.apart are
    ∙ ap (λ k. let r : Result Masks Fault = Ok (low set clear k) in r) (zero-add (length names) ∙ count)
    ∙ ap (λ m. let r : Result Masks Fault = Ok m in r) (low_whole set clear n form.set_below form.clear_below))
    form.some form.apart (names_all (λ b. b == 44 ≡ false) names 0 set clear refl free)

are_flags : AreNames flag_names 0 flag_names
unfolding flag_names place same is_negated
are_flags = (refl, refl, (refl, refl, (refl, refl, (refl, refl, (refl, refl, (refl, refl, tt))))))

are_options : AreNames option_names 0 option_names
unfolding option_names place same is_negated
are_options = (refl, refl, (refl, refl, (refl, refl, (refl, refl, tt))))

free_flags : AllOver (λ b. b == 44 ≡ false) flag_names
unfolding flag_names
free_flags = search

free_options : AllOver (λ b. b == 44 ≡ false) option_names
unfolding option_names
free_options = search

-- TCP flags in their canonical text are read as the same masks
pub flags_again : (set clear column : ℕ) → AreSigns 6 set clear → signs flag_names (record { column = column; text = join_with_byte 44 (signed_names flag_names 0 set clear) }) ≡ Ok (record { set = set; clear = clear })
flags_again set clear column form = signs_again flag_names 6 set clear column six form are_flags free_flags

-- IP options in their canonical text are read as the same masks
pub ip_options_again : (set clear column : ℕ) → AreSigns 4 set clear → signs option_names (record { column = column; text = join_with_byte 44 (signed_names option_names 0 set clear) }) ≡ Ok (record { set = set; clear = clear })
ip_options_again set clear column form = signs_again option_names 4 set clear column four form are_options free_options
