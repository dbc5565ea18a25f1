-- IPv6 addresses and prefixes in their canonical text are read again.
use Rattle.std.proofs.Common.{◌≡◌, ℕ, ◌+◌, ◌-◌, ◌*◌, ◌/◌, ◌%◌, ◌^◌, ◌<◌, ◌≤◌, zero, suc, Bool, true, false, ◌||◌, ◌==◌, nat_lt, nat_eq, if◌then◌else◌, Some, None, Option, Result, Ok, List, ◌∷◌, ◌++◌, length, map, take, drop, refl, sym, ap, ◌∙◌, subst, arith, inl, inr, append_assoc, length-append, length-drop, eq-eqb, []}
use Rattle.std.specs.Prelude.{replicate}
use Rattle.std.specs.List.{list_any, AllByRecursion}
use Rattle.std.specs.Option.{option_map}
use Rattle.std.specs.Fmt.{decimal}
use Rattle.std.proofs.lemmas.List.{append-nil, take-append-drop, take_at, drop_at, length-take-le, drop-drop}
use Rattle.std.proofs.lemmas.Bool.{le-leb, lt-ltb, le-ltb}
use Rattle.std.proofs.lemmas.Bool.Decides.{eqb_tells, leb_tells}
use Rattle.std.proofs.Math.Nat.{add-zero}
use Rattle.std.specs.Char.{is_ascii_digit}
use Rattle.fw_base.specs.Prefix6.{Network6, network6, IsNetwork6}
use Rattle.fw_base.proofs.Logic.{clash}
use Rattle.rule_text.specs.Address6Text.{groups_of, hexadecimal, groups_joined, leading_zeros, longest_run, place_of_run, shortened_text, groups_text, address6_text, network6_text}
use Rattle.rule_text.proofs.ZeroRuns.{run_fits, run_there}
use Rattle.ipfw_parser.specs.declared.kind.Kind.TheVariants.{BadAddress, BadPrefix}
use Rattle.ipfw_parser.specs.Reading.{Fault, ◌>>=◌}
use Rattle.ipfw_parser.specs.Numbers.{up_to}
use Rattle.ipfw_parser.specs.Parts.{part_before, part_behind, then_some, found_or}
use Rattle.ipfw_parser.specs.Addresses6.{is_hex, each_group, colon_parts, side, gap_in, whole_groups, filled_groups, groups_by, eight_groups, address6_after, address6_in, address6, prefix6_length, prefix6, has_colon}
use Rattle.rule_round_trip.proofs.Numbers.Decimal.{decimal_again, all_digits}
use Rattle.rule_round_trip.proofs.Numbers.Digits.{IsFree, before_free, behind_free, before_there, behind_there, parts_again}
use Rattle.rule_round_trip.proofs.Numbers.Hex.{hex_text, group_again}
use Rattle.rule_round_trip.proofs.Lists.Each.{all_append, all_take, all_drop, all_passed, apart}

-- numbers of sixteen bits
abbrev pub AreGroups : List ℕ → Type 0
AreGroups groups = AllByRecursion (λ g. g < 2 ^ 16) groups

-- a group's digits hold no other byte
free_group : (byte g : ℕ) → is_hex byte ≡ false → g < 2 ^ 16 → IsFree byte (hexadecimal g)
free_group byte g other small = all_passed (λ b. b == byte ≡ false) is_hex (hexadecimal g) (λ b told. apart is_hex b byte told other) (hex_text g small).hex

free_groups : (byte : ℕ) (groups : List ℕ) → is_hex byte ≡ false → AreGroups groups → AllByRecursion (IsFree byte) (map hexadecimal groups)
free_groups byte [] other all = tt
free_groups byte (g ∷ groups) other all = (free_group byte g other all.0, free_groups byte groups other all.1)

each_again : (groups : List ℕ) → AreGroups groups → each_group (map hexadecimal groups) ≡ Some groups
unfolding each_group
each_again [] all = refl
each_again (g ∷ groups) all = rw (group_again g all.0, each_again groups all.1) refl

side_some : (text : List ℕ) → 0 < length text → side text ≡ each_group (colon_parts text)
unfolding side
side_some [] some = absurd (omega (arith, some))
side_some (b ∷ text) some = refl

joined_some : (g : ℕ) (groups : List ℕ) → g < 2 ^ 16 → 0 < length (groups_joined (g ∷ groups))
joined_some g [] small = omega (arith, (hex_text g small).some)
joined_some g (next ∷ groups) small = omega (arith, (hex_text g small).some, length-append (hexadecimal g) (58 ∷ groups_joined (next ∷ groups)))

-- one side of a `::` is read again
side_again : (groups : List ℕ) → AreGroups groups → side (groups_joined groups) ≡ Some groups
unfolding side colon_parts
side_again [] all = refl
side_again (g ∷ groups) all =
    side_some (groups_joined (g ∷ groups)) (joined_some g groups all.0)
    ∙ ap each_group (parts_again 58 (hexadecimal g) (map hexadecimal groups) (free_groups 58 (g ∷ groups) refl all))
    ∙ each_again (g ∷ groups) all

-- how far a place is moved
abbrev moved : ℕ → Option ℕ → Option ℕ
moved n found = option_map (λ k. n + k) found

moved_on : (n : ℕ) (found : Option ℕ) → option_map suc (moved n found) ≡ moved (suc n) found
moved_on n None = refl
moved_on n (Some k) = ap (λ m. Some m) (omega arith)

moved_none : (found : Option ℕ) → found ≡ moved 0 found
moved_none None = refl
moved_none (Some k) = ap (λ m. Some m) (omega arith)

-- the text begins with a colon
abbrev begins_with_colon : List ℕ → Bool
begins_with_colon [] = false
begins_with_colon (b ∷ text) = 58 == b

turned : (n : ℕ) → n == 58 ≡ false → 58 == n ≡ false
turned n other = elim (eqb_tells 58 n) [ inl h ↦ clash (n == 58) (eq-eqb n 58 (sym h.1)) other | inr h ↦ h.0 ]

-- no `::` begins at another byte
gap_later : (b : ℕ) (rest : List ℕ) → b == 58 ≡ false → gap_in (b ∷ rest) ≡ option_map suc (gap_in rest)
unfolding gap_in
gap_later b rest other = rw (turned b other) refl

-- no `::` begins in a text without a colon
gap_past : (text rest : List ℕ) → IsFree 58 text → gap_in (text ++ rest) ≡ moved (length text) (gap_in rest)
gap_past [] rest free = moved_none (gap_in rest)
gap_past (b ∷ text) rest free =
    gap_later b (text ++ rest) free.0 ∙ ap (option_map suc) (gap_past text rest free.1) ∙ moved_on (length text) (gap_in rest)

no_colon : (text rest : List ℕ) → 0 < length text → IsFree 58 text → begins_with_colon (text ++ rest) ≡ false
no_colon [] rest some free = absurd (omega (arith, some))
no_colon (b ∷ text) rest some free = turned b free.0

joined_plain : (g : ℕ) (groups rest : List ℕ) → AreGroups (g ∷ groups) → begins_with_colon (groups_joined (g ∷ groups) ++ rest) ≡ false
joined_plain g [] rest all = no_colon (hexadecimal g) rest (hex_text g all.0).some (free_group 58 g refl all.0)
joined_plain g (next ∷ groups) rest all =
    ap begins_with_colon (append_assoc (hexadecimal g) (58 ∷ groups_joined (next ∷ groups)) rest)
    ∙ no_colon (hexadecimal g) ((58 ∷ groups_joined (next ∷ groups)) ++ rest) (hex_text g all.0).some (free_group 58 g refl all.0)

-- a single colon is no `::`
gap_colon : (rest : List ℕ) → begins_with_colon rest ≡ false → gap_in (58 ∷ rest) ≡ option_map suc (gap_in rest)
unfolding gap_in
gap_colon [] plain = refl
gap_colon (b ∷ rest) plain = rw plain refl

moved_colon : (n : ℕ) (text : List ℕ) (found : Option ℕ) → n ≡ length text → moved n (option_map suc found) ≡ moved (n + 1) found
moved_colon n text None e = refl
moved_colon n text (Some k) e = ap (λ m. Some m) (omega arith)

moved_twice : (n m : ℕ) (found : Option ℕ) → moved n (moved m found) ≡ moved (n + m) found
moved_twice n m None = refl
moved_twice n m (Some k) = ap (λ j. Some j) (omega arith)

-- a gap behind joined groups is found there
gap_behind : (groups rest : List ℕ) → AreGroups groups → gap_in (groups_joined groups ++ rest) ≡ moved (length (groups_joined groups)) (gap_in rest)
gap_behind [] rest all = moved_none (gap_in rest)
gap_behind (g ∷ []) rest all = gap_past (hexadecimal g) rest (free_group 58 g refl all.0)
gap_behind (g ∷ next ∷ groups) rest all =
    let others : List ℕ = groups_joined (next ∷ groups) in
    ap gap_in (append_assoc (hexadecimal g) (58 ∷ others) rest)
    ∙ gap_past (hexadecimal g) (58 ∷ (others ++ rest)) (free_group 58 g refl all.0)
    ∙ ap (moved (length (hexadecimal g))) (gap_colon (others ++ rest) (joined_plain next groups rest all.1) ∙ ap (option_map suc) (gap_behind (next ∷ groups) rest all.1))
    ∙ moved_colon (length (hexadecimal g)) (hexadecimal g) (moved (length others) (gap_in rest)) refl
    ∙ moved_twice (length (hexadecimal g) + 1) (length others) (gap_in rest)
    ∙ ap (λ n. moved n (gap_in rest)) (total (hexadecimal g) others)
  where
    total : (front back : List ℕ) → length front + 1 + length back ≡ length (front ++ 58 ∷ back)
    total front back = omega (arith, length-append front (58 ∷ back))

none_gap : gap_in [] ≡ None
unfolding gap_in
none_gap = refl

gap_here : (rest : List ℕ) → gap_in (58 ∷ 58 ∷ rest) ≡ Some 0
unfolding gap_in
gap_here rest = refl

no_gap : (groups : List ℕ) → AreGroups groups → gap_in (groups_joined groups) ≡ None
no_gap groups all =
    ap gap_in (sym (append-nil (groups_joined groups))) ∙ gap_behind groups [] all ∙ ap (moved (length (groups_joined groups))) none_gap

the_gap : (groups rest : List ℕ) → AreGroups groups → gap_in (groups_joined groups ++ (58 ∷ 58 ∷ rest)) ≡ Some (length (groups_joined groups))
the_gap groups rest all =
    gap_behind groups (58 ∷ 58 ∷ rest) all ∙ ap (moved (length (groups_joined groups))) (gap_here rest) ∙ ap (λ n. let o : Option ℕ = Some n in o) (add-zero (length (groups_joined groups)))

-- eight groups that none is left out of
joined_again : (groups : List ℕ) → AreGroups groups → length groups ≡ 8 → eight_groups (groups_joined groups) ≡ Some groups
unfolding eight_groups whole_groups
joined_again groups all long =
    ap (groups_by (groups_joined groups)) (no_gap groups all) ∙ ap (λ s. then_some s whole_groups) (side_again groups all)
    ∙ ap (λ n. if nat_eq n 8 then Some groups else None) long

after_gap : (text rest : List ℕ) (n : ℕ) → n ≡ length text → drop (n + 2) (text ++ (58 ∷ 58 ∷ rest)) ≡ rest
after_gap text rest n e =
    ap (λ all. drop (n + 2) all) (sym (append_assoc text (58 ∷ 58 ∷ []) rest)) ∙ drop_at (text ++ 58 ∷ 58 ∷ []) rest (n + 2) (omega (arith, e, length-append text (58 ∷ 58 ∷ [])))

-- groups on both sides of a `::`, fewer than eight
gap_again : (front back : List ℕ) → AreGroups front → AreGroups back → length front + length back ≤ 7
    → eight_groups (groups_joined front ++ (58 ∷ 58 ∷ groups_joined back)) ≡ Some (front ++ (replicate (8 - (length front + length back)) 0 ++ back))
unfolding eight_groups filled_groups
gap_again front back f b few =
    let text : List ℕ = groups_joined front ++ (58 ∷ 58 ∷ groups_joined back) in
    ap (groups_by text) (the_gap front (groups_joined back) f)
    ∙ ap (λ t. then_some (side t) (λ one. then_some (side (drop (length (groups_joined front) + 2) text)) (λ other. filled_groups one other))) (take_at (groups_joined front) (58 ∷ 58 ∷ groups_joined back) (length (groups_joined front)) refl)
    ∙ ap (λ s. then_some s (λ one. then_some (side (drop (length (groups_joined front) + 2) text)) (λ other. filled_groups one other))) (side_again front f)
    ∙ ap (λ t. then_some (side t) (λ other. filled_groups front other)) (after_gap (groups_joined front) (groups_joined back) (length (groups_joined front)) refl)
    ∙ ap (λ s. then_some s (λ other. filled_groups front other)) (side_again back b)
    ∙ ap (λ t. if t then Some (front ++ (replicate (8 - (length front + length back)) 0 ++ back)) else None) (le-leb (length front + length back) 7 few)

-- the zero groups that a list begins with
zeros_first : (n : ℕ) (groups : List ℕ) → n ≤ leading_zeros groups → groups ≡ replicate n 0 ++ drop n groups
unfolding leading_zeros
zeros_first zero groups enough = refl
zeros_first (suc n) [] enough = absurd (omega (arith, enough))
zeros_first (suc n) (g ∷ groups) enough = elim (eqb_tells g 0) [
  | inl h ↦ ap (λ m. m ∷ groups) h.1 ∙ ap (λ more. 0 ∷ more) (zeros_first n groups (omega (arith, rw h.0 at enough)))
  | inr h ↦ absurd (omega (arith, rw h.0 at enough))
]

-- the groups around a run
around_run : (groups : List ℕ) (place count : ℕ) → place ≡ place_of_run count groups → count ≡ longest_run groups → groups ≡ take place groups ++ (replicate count 0 ++ drop (place + count) groups)
around_run groups place count p c =
    let there : count ≤ leading_zeros (drop place groups) = subst (λ n. count ≤ leading_zeros (drop n groups)) (sym p) (run_there count groups (omega (arith, c))) in
    sym (take-append-drop place groups)
    ∙ ap (λ rest. take place groups ++ rest) (zeros_first count (drop place groups) there ∙ ap (λ rest. replicate count 0 ++ rest) (drop-drop count place groups))

-- a run of groups that is left out is filled in again
shortened_again : (groups : List ℕ) (place count : ℕ) → AreGroups groups → length groups ≡ 8 → place ≡ place_of_run count groups → count ≡ longest_run groups → 1 ≤ count → eight_groups (shortened_text groups place count) ≡ Some groups
shortened_again groups place count all long p c some =
    let room : place + count ≤ length groups = omega (arith, p, c, ap (λ n. place_of_run n groups) c, run_fits groups) in
    let front : length (take place groups) ≡ place = length-take-le place groups (omega arith) in
    let back : length (drop (place + count) groups) ≡ length groups - (place + count) = length-drop (place + count) groups in
    let left : 8 - (length (take place groups) + length (drop (place + count) groups)) ≡ count = omega (arith, front, back, long, room) in
    gap_again (take place groups) (drop (place + count) groups) (all_take (λ g. g < 2 ^ 16) place groups all) (all_drop (λ g. g < 2 ^ 16) (place + count) groups all) (omega (arith, front, back, long, room, some))
    ∙ ap (λ n. let o : Option (List ℕ) = Some (take place groups ++ (replicate n 0 ++ drop (place + count) groups)) in o) left
    ∙ ap (λ gs. let o : Option (List ℕ) = Some gs in o) (sym (around_run groups place count p c))

-- the text of eight groups is read as these groups
pub groups_again : (groups : List ℕ) → AreGroups groups → length groups ≡ 8 → eight_groups (groups_text groups) ≡ Some groups
unfolding groups_text
groups_again groups all long = elim (leb_tells 2 (longest_run groups)) [
  | inl h ↦ rw (le-ltb (longest_run groups) 2 h.1) (shortened_again groups (place_of_run (longest_run groups) groups) (longest_run groups) all long refl refl (omega (arith, h.1)))
  | inr h ↦ rw (lt-ltb (longest_run groups) 2 h.1) (joined_again groups all long)
]

-- an address without its last groups, one group more each
top_group : (a : ℕ) → a < 2 ^ 128 → 65536 * 0 + a / 2 ^ 112 % 2 ^ 16 ≡ a / 2 ^ 112
top_group a small = omega arith

second : (a : ℕ) → 65536 * (a / 2 ^ 112) + a / 2 ^ 96 % 2 ^ 16 ≡ a / 2 ^ 96
second a = omega arith

third : (a : ℕ) → 65536 * (a / 2 ^ 96) + a / 2 ^ 80 % 2 ^ 16 ≡ a / 2 ^ 80
third a = omega arith

fourth : (a : ℕ) → 65536 * (a / 2 ^ 80) + a / 2 ^ 64 % 2 ^ 16 ≡ a / 2 ^ 64
fourth a = omega arith

fifth : (a : ℕ) → 65536 * (a / 2 ^ 64) + a / 2 ^ 48 % 2 ^ 16 ≡ a / 2 ^ 48
fifth a = omega arith

sixth : (a : ℕ) → 65536 * (a / 2 ^ 48) + a / 2 ^ 32 % 2 ^ 16 ≡ a / 2 ^ 32
sixth a = omega arith

seventh : (a : ℕ) → 65536 * (a / 2 ^ 32) + a / 2 ^ 16 % 2 ^ 16 ≡ a / 2 ^ 16
seventh a = omega arith

last : (a : ℕ) → 65536 * (a / 2 ^ 16) + a / 2 ^ 0 % 2 ^ 16 ≡ a
last a = omega arith

-- the groups of an address make the address
address_of_groups : (a : ℕ) → a < 2 ^ 128 → address6_after 0 (groups_of a) ≡ a
unfolding groups_of
address_of_groups a small = rw (top_group a small, second a, third a, fourth a, fifth a, sixth a, seventh a) (last a)

are_groups : (a : ℕ) → AreGroups (groups_of a)
unfolding groups_of
are_groups a = (
  omega arith,
  (omega arith, (omega arith, (omega arith, (omega arith, (omega arith, (omega arith, (omega arith, tt))))))),
)

eight : (a : ℕ) → length (groups_of a) ≡ 8
unfolding groups_of
eight a = refl

-- an IPv6 address in its canonical text is read again
address6_again : (a : ℕ) → a < 2 ^ 128 → address6_in (address6_text a) ≡ Some a
unfolding address6_in address6_text
address6_again a small =
    ap (option_map (address6_after 0)) (groups_again (groups_of a) (are_groups a) (eight a)) ∙ ap (λ n. let o : Option ℕ = Some n in o) (address_of_groups a small)

joined_all : (P : ℕ → Type 0) (groups : List ℕ) → ((b : ℕ) → is_hex b ≡ true → P b) → P 58 → AreGroups groups → AllByRecursion P (groups_joined groups)
joined_all P [] each colon all = tt
joined_all P (g ∷ []) each colon all = all_passed P is_hex (hexadecimal g) each (hex_text g all.0).hex
joined_all P (g ∷ next ∷ groups) each colon all =
    all_append P (hexadecimal g) (58 ∷ groups_joined (next ∷ groups)) (all_passed P is_hex (hexadecimal g) each (hex_text g all.0).hex) (colon, joined_all P (next ∷ groups) each colon all.1)

groups_all : (P : ℕ → Type 0) (groups : List ℕ) → ((b : ℕ) → is_hex b ≡ true → P b) → P 58 → AreGroups groups → AllByRecursion P (groups_text groups)
unfolding groups_text
groups_all P groups each colon all = elim (nat_lt (longest_run groups) 2) as (λ t. AllByRecursion P (if t then groups_joined groups else shortened_text groups (place_of_run (longest_run groups) groups) (longest_run groups))) [
  | true ↦ joined_all P groups each colon all
  | false ↦
      let place : ℕ = place_of_run (longest_run groups) groups in
      let back : List ℕ = drop (place + longest_run groups) groups in
      all_append P (groups_joined (take place groups)) (58 ∷ 58 ∷ groups_joined back) (joined_all P (take place groups) each colon (all_take (λ g. g < 2 ^ 16) place groups all))
      (colon, (colon, joined_all P back each colon (all_drop (λ g. g < 2 ^ 16) (place + longest_run groups) groups all)))
]

-- what holds of hexadecimal digits and of colons holds of each byte of an IPv6 address
address6_all : (P : ℕ → Type 0) (a : ℕ) → ((b : ℕ) → is_hex b ≡ true → P b) → P 58 → AllByRecursion P (address6_text a)
unfolding address6_text
address6_all P a each colon = groups_all P (groups_of a) each colon (are_groups a)

free_text : (a : ℕ) → IsFree 47 (address6_text a)
free_text a = address6_all (λ b. b == 47 ≡ false) a (λ b told. apart is_hex b 47 told refl) refl

-- reading the prefix whose parts around the / these are
prefix6_by : (column : ℕ) (text front : List ℕ) (rest : Option (List ℕ)) (a : ℕ) → part_before 47 text ≡ front → part_behind 47 text ≡ rest → address6_in front ≡ Some a
    → prefix6 (record { column = column; text = text }) ≡ (prefix6_length column rest >>= λ bits. Ok (network6 a bits))
unfolding prefix6 address6
prefix6_by column text front rest a is_front is_rest found =
    ap (λ t. found_or BadAddress column (address6_in t) >>= λ n. prefix6_length column (part_behind 47 text) >>= λ bits. Ok (network6 n bits)) is_front
    ∙ ap (λ r. found_or BadAddress column (address6_in front) >>= λ n. prefix6_length column r >>= λ bits. Ok (network6 n bits)) is_rest
    ∙ ap (λ f. found_or BadAddress column f >>= λ n. prefix6_length column rest >>= λ bits. Ok (network6 n bits)) found

length6_again : (column bits : ℕ) → bits ≤ 128 → prefix6_length column (Some (decimal bits)) ≡ Ok bits
length6_again column bits small =
    ap (λ f. found_or BadPrefix column (up_to 128 f)) (decimal_again bits (omega arith)) ∙ ap (λ b. found_or BadPrefix column (if b then Some bits else None)) (le-leb bits 128 small)

-- an IPv6 prefix in its canonical text is read as this prefix
pub prefix6_again : (n : Network6) (column : ℕ) → IsNetwork6 n → n.address < 2 ^ 128 → prefix6 (record { column = column; text = network6_text n }) ≡ Ok n
unfolding network6_text
prefix6_again n column good small = elim (eqb_tells n.bits 128) [
  | inl h ↦
      ap (λ b. prefix6 (record { column = column; text = address6_text n.address ++ (if b then [] else 47 ∷ decimal n.bits) })) h.0
      ∙ ap (λ t. prefix6 (record { column = column; text = t })) (append-nil (address6_text n.address))
      ∙ prefix6_by column (address6_text n.address) (address6_text n.address) None n.address (before_free 47 (address6_text n.address) (free_text n.address)) (behind_free 47 (address6_text n.address) (free_text n.address)) (address6_again n.address small)
      ∙ ap (λ bits. let r : Result Network6 Fault = Ok (network6 n.address bits) in r) (sym h.1)
      ∙ ap (λ m. let r : Result Network6 Fault = Ok m in r) good.cleared
  | inr h ↦
      ap (λ b. prefix6 (record { column = column; text = address6_text n.address ++ (if b then [] else 47 ∷ decimal n.bits) })) h.0
      ∙ prefix6_by column (address6_text n.address ++ 47 ∷ decimal n.bits) (address6_text n.address) (Some (decimal n.bits)) n.address (before_there 47 (address6_text n.address) (decimal n.bits) (free_text n.address))
      (behind_there 47 (address6_text n.address) (decimal n.bits) (free_text n.address)) (address6_again n.address small)
      ∙ ap (λ r. r >>= λ bits. let q : Result Network6 Fault = Ok (network6 n.address bits) in q) (length6_again column n.bits good.within)
      ∙ ap (λ m. let r : Result Network6 Fault = Ok m in r) good.cleared
]

-- what holds of hexadecimal digits, of colons and of / holds of each byte of a prefix
pub network6_all : (P : ℕ → Type 0) (n : Network6) → ((b : ℕ) → is_hex b ≡ true → P b) → P 58 → P 47 → n.bits ≤ 128 → AllByRecursion P (network6_text n)
unfolding network6_text
network6_all P n each colon slash small =
    all_append P (address6_text n.address) (if n.bits == 128 then [] else 47 ∷ decimal n.bits) (address6_all P n.address each colon)
    (elim (n.bits == 128) as (λ t. AllByRecursion P (if t then [] else 47 ∷ decimal n.bits)) [ true ↦ tt | false ↦ (slash, all_passed P is_ascii_digit (decimal n.bits) (λ b told. each b (rw told refl)) (all_digits n.bits (omega arith))) ])

-- a byte that is no hexadecimal digit, no colon and no / stands in no IPv6 prefix
pub free_network6 : (byte : ℕ) (n : Network6) → is_hex byte ≡ false → 58 == byte ≡ false → 47 == byte ≡ false → n.bits ≤ 128 → IsFree byte (network6_text n)
free_network6 byte n other colon slash small = network6_all (λ b. b == byte ≡ false) n (λ b told. apart is_hex b byte told other) colon slash small

-- a colon stands in the text of each IPv6 prefix, and in no text without one
colon_there : (front rest : List ℕ) → has_colon (front ++ 58 ∷ rest) ≡ true
unfolding has_colon
colon_there [] rest = refl
colon_there (b ∷ front) rest = elim (b == 58) as (λ t. (t || list_any (λ byte. byte == 58) (front ++ 58 ∷ rest)) ≡ true) [ true ↦ refl | false ↦ colon_there front rest ]

-- a text has a colon where its front has one
pub colon_append : (front rest : List ℕ) → has_colon front ≡ true → has_colon (front ++ rest) ≡ true
unfolding has_colon
colon_append [] rest told = clash false told refl
colon_append (b ∷ front) rest told =
    (elim (b == 58) as (λ t. (t || list_any (λ byte. byte == 58) front) ≡ true → (t || list_any (λ byte. byte == 58) (front ++ rest)) ≡ true) [ true ↦ λ _. refl | false ↦ λ e. colon_append front rest e ]) told

-- a text without a colon isn't taken for an IPv6 prefix
pub no_colon_in : (text : List ℕ) → IsFree 58 text → has_colon text ≡ false
unfolding has_colon
no_colon_in [] free = refl
no_colon_in (b ∷ text) free = ap (λ t. t || list_any (λ byte. byte == 58) text) free.0 ∙ no_colon_in text free.1

joined_colon : (groups : List ℕ) → 2 ≤ length groups → has_colon (groups_joined groups) ≡ true
joined_colon [] many = absurd (omega (arith, many))
joined_colon (g ∷ []) many = absurd (omega (arith, many))
joined_colon (g ∷ next ∷ groups) many = colon_there (hexadecimal g) (groups_joined (next ∷ groups))

groups_colon : (groups : List ℕ) → 2 ≤ length groups → has_colon (groups_text groups) ≡ true
unfolding groups_text
groups_colon groups many = elim (nat_lt (longest_run groups) 2) as (λ t. has_colon (if t then groups_joined groups else shortened_text groups (place_of_run (longest_run groups) groups) (longest_run groups)) ≡ true) [
  | true ↦ joined_colon groups many
  | false ↦ colon_there (groups_joined (take (place_of_run (longest_run groups) groups) groups)) (58 ∷ groups_joined (drop (place_of_run (longest_run groups) groups + longest_run groups) groups))
]

-- the text of each IPv6 prefix has a colon
pub network6_colon : (n : Network6) → has_colon (network6_text n) ≡ true
unfolding network6_text address6_text
network6_colon n =
    colon_append (groups_text (groups_of n.address)) (if n.bits == 128 then [] else 47 ∷ decimal n.bits) (groups_colon (groups_of n.address) (omega (arith, eight n.address)))
