-- The groups of one side of a `::`, one after another, and the address that two sides make.
use Rattle.std.proofs.Common.{◌≡◌, ℕ, ◌+◌, ◌-◌, ◌*◌, ◌^◌, ◌<◌, ◌≤◌, zero, suc, if◌then◌else◌, Option, Some, None, List, [], ◌∷◌, ◌++◌, length, take, drop, replicate, refl, sym, ap, ◌∙◌, arith, append_assoc, length-append, eq-eqb, inl, inr}
use Rattle.std.specs.Borrow.{Bor}
use Rattle.std.specs.Option.{option_map, option_copied}
use Rattle.std.proofs.lemmas.Bool.{le-leb, lt-leb, cases_lt, ne_eqb, cases_eq}
use Rattle.std.proofs.lemmas.List.{append-nil}
use Rattle.std.proofs.Math.Pow.{pow_mono}
use Rattle.std.proofs.lemmas.Nat.{pow-add, pow_pos, mul-le}
use Rattle.ipfw_parser.specs.Parts.{then_some}
use Rattle.ipfw_parser.specs.Addresses6.{group, each_group, colon_parts, colon_parts_left, whole_groups, filled_groups, side, gap_in, groups_by, eight_groups, address6_after, address6_in}
use Rattle.ipfw_parser.specs.SideViews.{side_of, whole_value, filled_value, value_by, address6_value}
use Rattle.ipfw_parser.specs.declared.addresses6.Side.{Side}

-- so far groups of this value and number were read, and those texts are left
pub record IsGrouping (all : List (List ℕ)) (value count : ℕ) (left : List (List ℕ)) : Type 0 where
  pub front : List ℕ
  pub value_is : address6_after 0 front ≡ value
  pub count_is : length front ≡ count
  pub same : option_map (λ others. front ++ others) (each_group left) ≡ each_group all
  pub few : count ≤ 8
  pub room : value < 2 ^ (16 * count)

same_found : (found : Option (List ℕ)) → option_map (λ others. [] ++ others) found ≡ found
same_found None = refl
same_found (Some groups) = refl

-- before the first group the number is 0, and every text is left
pub starts : (all : List (List ℕ)) → IsGrouping all 0 0 all
starts all = record { front = []; value_is = refl; count_is = refl; same = same_found (each_group all); few = omega arith; room = omega arith }

after-append : (n one : ℕ) (front : List ℕ) → address6_after n (front ++ one ∷ []) ≡ 65536 * address6_after n front + one
after-append n one [] = refl
after-append n one (other ∷ front) = after-append (65536 * n + other) one front

with_one : (front : List ℕ) (one : ℕ) (others : Option (List ℕ)) → option_map (λ more. front ++ more) (then_some others (λ more. Some (one ∷ more))) ≡ option_map (λ more. (front ++ one ∷ []) ++ more) others
with_one front one None = refl
with_one front one (Some more) = ap (λ all. Some all) (sym (append_assoc front (one ∷ []) more))

-- with one group more the number is 65536 times as great and the group
pub goes : (all : List (List ℕ)) (value count one next more : ℕ) (text : List ℕ) (left : List (List ℕ)) → IsGrouping all value count (text ∷ left) → Some one ≡ group text
    → count < 8 → next ≡ 65536 * value + one → more ≡ count + 1 → next < 2 ^ (16 * more) → IsGrouping all next more left
unfolding each_group
goes all value count one next more text left grouping read few next_is more_is room = record {
  front = grouping.front ++ one ∷ [];
  value_is = after-append 0 one grouping.front ∙ ap (λ v. 65536 * v + one) grouping.value_is ∙ sym next_is;
  count_is = omega (arith, length-append grouping.front (one ∷ []), grouping.count_is, more_is);
  same = sym (with_one grouping.front one (each_group left))
      ∙ ap (λ found. option_map (λ others. grouping.front ++ others) (then_some found (λ g. then_some (each_group left) (λ others. Some (g ∷ others))))) read ∙ grouping.same;
  few = omega (arith, few, more_is);
  room = room;
}

-- a text that is no group
pub breaks : (all : List (List ℕ)) (value count : ℕ) (text : List ℕ) (left : List (List ℕ)) → IsGrouping all value count (text ∷ left) → None ≡ group text → None ≡ side_of (each_group all)
unfolding each_group
breaks all value count text left grouping failed =
    ap side_of (ap (λ found. option_map (λ others. grouping.front ++ others) (then_some found (λ g. then_some (each_group left) (λ others. Some (g ∷ others))))) failed ∙ grouping.same)

too_many : (front : List ℕ) (one : Option ℕ) (others : Option (List ℕ)) → length front ≡ 8
    → None ≡ side_of (option_map (λ more. front ++ more) (then_some one (λ g. then_some others (λ more. Some (g ∷ more)))))
too_many front None others eight = refl
too_many front (Some g) None eight = refl
too_many front (Some g) (Some more) eight =
    sym (ap (λ b. if b then Some (let s : Side = record { value = address6_after 0 (front ++ g ∷ more); count = length (front ++ g ∷ more) } in s) else None)
    (lt-leb (length (front ++ g ∷ more)) 8 (omega (arith, length-append front (g ∷ more), eight))))

-- a ninth group
pub many : (all : List (List ℕ)) (value count : ℕ) (text : List ℕ) (left : List (List ℕ)) → IsGrouping all value count (text ∷ left) → count ≡ 8 → None ≡ side_of (each_group all)
unfolding each_group
many all value count text left grouping eight = too_many grouping.front (group text) (each_group left) (grouping.count_is ∙ eight) ∙ ap side_of grouping.same

-- once no text is left the side is the number and the count that were read
pub ends : (all : List (List ℕ)) (found : Side) → IsGrouping all found.value found.count [] → Some found ≡ side_of (each_group all)
unfolding each_group
ends all found grouping =
    let made : Side = record { value = address6_after 0 grouping.front; count = length grouping.front } in
    let same : found ≡ made = sym (ap (λ v. let s : Side = record { value = v; count = length grouping.front } in s) grouping.value_is ∙ ap (λ n. let s : Side = record { value = found.value; count = n } in s) grouping.count_is) in
    ap (λ s. Some s) same
    ∙ sym (ap (λ b. if b then Some made else None) (le-leb (length grouping.front) 8 (omega (arith, grouping.count_is, grouping.few))))
    ∙ ap side_of (ap (λ groups. Some groups) (sym (append-nil grouping.front)) ∙ grouping.same)

-- what is left of a side begins with its next group, up to the first colon
pub opened : (all : List (List ℕ)) (value count : ℕ) (rest : Option (Bor (List ℕ))) (text : Bor (List ℕ)) (part : List ℕ) (left : List (List ℕ))
    → rest ≡ Some text → colon_parts text.now ≡ part ∷ left → IsGrouping all value count (colon_parts_left (option_copied rest)) → IsGrouping all value count (part ∷ left)
opened all value count rest text part left here split grouping = rw (here, split) at grouping

-- a side of which nothing is left is the number and the count that were read
pub closed : (all : List (List ℕ)) (found : Side) (rest : Option (Bor (List ℕ))) → rest ≡ None → IsGrouping all found.value found.count (colon_parts_left (option_copied rest)) → Some found ≡ side_of (each_group all)
closed all found rest none grouping = ends all found (rw none at grouping)

-- one group more has its room
pub grown : (value count one : ℕ) → value < 2 ^ (16 * count) → one < 65536 → 65536 * value + one < 2 ^ (16 * (count + 1))
grown value count one less small =
    let e : 2 ^ (16 * (count + 1)) ≡ 65536 * 2 ^ (16 * count) = let f : 16 * (count + 1) ≡ 16 + 16 * count = omega arith in ap (λ k. 2 ^ k) f ∙ pow-add 2 16 (16 * count) in
    omega (arith, e)

-- a number of at most eight groups fits in 128 bits
pub grown_fits : (value count one : ℕ) → count < 8 → value < 2 ^ (16 * count) → one < 65536 → 65536 * value + one < 2 ^ 128
grown_fits value count one few less small = omega (arith, grown value count one less small, pow_mono {i = 16 * (count + 1)} {j = 128} (omega (arith, few)))

below_product : (v w p q : ℕ) → v < q → w < p → v * p + w < q * p
below_product v w p q less small =
    let e : (v + 1) * p ≤ q * p = mul-le (v + 1) p q p (omega (arith, less)) (omega arith) in
    let f : (v + 1) * p ≡ v * p + p = omega arith in
    omega (arith, e, f, small)

-- the number of a side with zero groups behind it
pub shifted_fits : (v count : ℕ) → count ≤ 8 → v < 2 ^ (16 * count) → v * 2 ^ (16 * (8 - count)) < 2 ^ 128
shifted_fits v count few less =
    let whole_is : 2 ^ (16 * count) * 2 ^ (16 * (8 - count)) ≡ 2 ^ 128 = let e : 16 * count + 16 * (8 - count) ≡ 128 = omega (arith, few) in sym (pow-add 2 (16 * count) (16 * (8 - count))) ∙ ap (λ n. 2 ^ n) e in
    omega (arith, below_product v 0 (2 ^ (16 * (8 - count))) (2 ^ (16 * count)) less (pow_pos (16 * (8 - count))), whole_is)

-- the sum that two sides make
pub joined_fits : (v w count back : ℕ) → count + back ≤ 7 → v < 2 ^ (16 * count) → w < 2 ^ (16 * back) → v * 2 ^ (16 * (8 - count)) + w < 2 ^ 128
joined_fits v w count back few less small =
    let whole_is : 2 ^ (16 * count) * 2 ^ (16 * (8 - count)) ≡ 2 ^ 128 = let e : 16 * count + 16 * (8 - count) ≡ 128 = omega (arith, few) in sym (pow-add 2 (16 * count) (16 * (8 - count))) ∙ ap (λ n. 2 ^ n) e in
    let fits : w < 2 ^ (16 * (8 - count)) = omega (arith, small, pow_mono {i = 16 * back} {j = 16 * (8 - count)} (omega (arith, few))) in
    omega (arith, below_product v w (2 ^ (16 * (8 - count))) (2 ^ (16 * count)) less fits, whole_is)

-- what a side of at most eight groups comes to
value_few : (groups : List ℕ) → length groups ≤ 8 → side_of (Some groups) ≡ Some (record { value = address6_after 0 groups; count = length groups })
value_few groups few = ap (λ b. if b then Some (let s : Side = record { value = address6_after 0 groups; count = length groups } in s) else None) (le-leb (length groups) 8 few)

value_many : (groups : List ℕ) → 8 < length groups → side_of (Some groups) ≡ None
value_many groups many = ap (λ b. if b then Some (let s : Side = record { value = address6_after 0 groups; count = length groups } in s) else None) (lt-leb (length groups) 8 many)

no_whole : (groups : List ℕ) → 8 < length groups → whole_groups groups ≡ None
unfolding whole_groups
no_whole groups many = ap (λ b. if b then Some groups else None) (ne_eqb (length groups) 8 (λ e. omega (arith, e, many)))

whole_few : (groups : List ℕ) → option_map (address6_after 0) (whole_groups groups) ≡ whole_value (record { value = address6_after 0 groups; count = length groups })
unfolding whole_groups whole_value
whole_few groups = elim (cases_eq (length groups) 8) [
  | inl h ↦ ap (λ b. option_map (address6_after 0) (if b then Some groups else None)) (eq-eqb (length groups) 8 h) ∙ sym (ap (λ b. if b then Some (address6_after 0 groups) else None) (eq-eqb (length groups) 8 h))
  | inr h ↦ ap (λ b. option_map (address6_after 0) (if b then Some groups else None)) (ne_eqb (length groups) 8 h) ∙ sym (ap (λ b. if b then Some (address6_after 0 groups) else None) (ne_eqb (length groups) 8 h))
]

whole_is : (found : Option (List ℕ)) → option_map (address6_after 0) (then_some found whole_groups) ≡ then_some (side_of found) whole_value
whole_is None = refl
whole_is (Some groups) = elim (cases_lt 8 (length groups)) [
  | inl h ↦ ap (option_map (address6_after 0)) (no_whole groups h) ∙ sym (ap (λ s. then_some s whole_value) (value_many groups h))
  | inr h ↦ whole_few groups ∙ sym (ap (λ s. then_some s whole_value) (value_few groups h))
]

after_joined : (n : ℕ) (front back : List ℕ) → address6_after n (front ++ back) ≡ address6_after (address6_after n front) back
after_joined n [] back = refl
after_joined n (one ∷ front) back = after_joined (65536 * n + one) front back

power : (count : ℕ) → 65536 * 2 ^ (16 * count) ≡ 2 ^ (16 * suc count)
power count = let f : 16 * suc count ≡ 16 + 16 * count = omega arith in sym (ap (λ k. 2 ^ k) f ∙ pow-add 2 16 (16 * count))

zero_group : (n p : ℕ) → (65536 * n + 0) * p ≡ n * (65536 * p)
zero_group n p = omega arith

-- zero groups behind a number
zeros_after : (k n : ℕ) → address6_after n (replicate k 0) ≡ n * 2 ^ (16 * k)
zeros_after zero n = omega arith
zeros_after (suc k) n = zeros_after k (65536 * n + 0) ∙ zero_group n (2 ^ (16 * k)) ∙ ap (λ p. n * p) (power k)

one_group : (n one p rest : ℕ) → (65536 * n + one) * p + rest ≡ n * (65536 * p) + ((65536 * 0 + one) * p + rest)
one_group n one p rest = omega arith

-- groups behind a number
groups_after : (n : ℕ) (groups : List ℕ) → address6_after n groups ≡ n * 2 ^ (16 * length groups) + address6_after 0 groups
groups_after n [] = omega arith
groups_after n (one ∷ groups) =
    groups_after (65536 * n + one) groups ∙ one_group n one (2 ^ (16 * length groups)) (address6_after 0 groups)
    ∙ ap (λ x. n * (65536 * 2 ^ (16 * length groups)) + x) (sym (groups_after (65536 * 0 + one) groups))
    ∙ ap (λ p. n * p + address6_after (65536 * 0 + one) groups) (power (length groups))

power_joined : (v k l m : ℕ) → k + l ≡ m → v * 2 ^ (16 * k) * 2 ^ (16 * l) ≡ v * 2 ^ (16 * m)
power_joined v k l m whole_is =
    let e : 16 * m ≡ 16 * k + 16 * l = omega (arith, whole_is) in
    let assoc : v * 2 ^ (16 * k) * 2 ^ (16 * l) ≡ v * (2 ^ (16 * k) * 2 ^ (16 * l)) = omega arith in
    assoc ∙ ap (λ p. v * p) (sym (ap (λ n. 2 ^ n) e ∙ pow-add 2 (16 * k) (16 * l)))

-- two sides with zero groups between them
joined_value : (front back : List ℕ) → length front + length back ≤ 7
    → address6_after 0 (front ++ (replicate (8 - (length front + length back)) 0 ++ back)) ≡ address6_after 0 front * 2 ^ (16 * (8 - length front)) + address6_after 0 back
joined_value front back few =
    let k = 8 - (length front + length back) in
    let v = address6_after 0 front in
    after_joined 0 front (replicate k 0 ++ back) ∙ after_joined v (replicate k 0) back ∙ groups_after (address6_after v (replicate k 0)) back
    ∙ ap (λ n. n * 2 ^ (16 * length back) + address6_after 0 back) (zeros_after k v)
    ∙ ap (λ n. n + address6_after 0 back) (power_joined v k (length back) (8 - length front) (omega (arith, few)))

side_made : List ℕ → Side
side_made groups = record { value = address6_after 0 groups; count = length groups }

filled_few : (front back : List ℕ) → option_map (address6_after 0) (filled_groups front back) ≡ filled_value (side_made front) (side_made back)
unfolding filled_groups filled_value side_made
filled_few front back = elim (cases_lt 7 (length front + length back)) [
  | inl h ↦
      ap (λ b. option_map (address6_after 0) (if b then Some (front ++ (replicate (8 - (length front + length back)) 0 ++ back)) else None)) (lt-leb (length front + length back) 7 h)
      ∙ sym (ap (λ b. if b then Some (address6_after 0 front * 2 ^ (16 * (8 - length front)) + address6_after 0 back) else None) (lt-leb (length front + length back) 7 h))
  | inr h ↦
      ap (λ b. option_map (address6_after 0) (if b then Some (front ++ (replicate (8 - (length front + length back)) 0 ++ back)) else None)) (le-leb (length front + length back) 7 h)
      ∙ ap (λ n. Some n) (joined_value front back h)
      ∙ sym (ap (λ b. if b then Some (address6_after 0 front * 2 ^ (16 * (8 - length front)) + address6_after 0 back) else None) (le-leb (length front + length back) 7 h))
]

no_filled : (front back : List ℕ) → 7 < length front + length back → filled_groups front back ≡ None
unfolding filled_groups
no_filled front back many = ap (λ b. if b then Some (front ++ (replicate (8 - (length front + length back)) 0 ++ back)) else None) (lt-leb (length front + length back) 7 many)

none_behind : (front : Side) (back : Option Side) → back ≡ None → then_some back (λ s. filled_value front s) ≡ None
none_behind front back none = ap (λ o. then_some o (λ s. filled_value front s)) none

sides_few : (front back : List ℕ) → length front ≤ 8 → option_map (address6_after 0) (filled_groups front back) ≡ then_some (side_of (Some front)) (λ s. then_some (side_of (Some back)) (λ t. filled_value s t))
unfolding side_made
sides_few front back few = elim (cases_lt 8 (length back)) [
  | inl h ↦
      ap (option_map (address6_after 0)) (no_filled front back (omega (arith, h)))
      ∙ sym (ap (λ o. then_some o (λ s. then_some (side_of (Some back)) (λ t. filled_value s t))) (value_few front few) ∙ none_behind (side_made front) (side_of (Some back)) (value_many back h))
  | inr h ↦
      filled_few front back
      ∙ sym (ap (λ o. then_some o (λ s. then_some (side_of (Some back)) (λ t. filled_value s t))) (value_few front few) ∙ ap (λ o. then_some o (λ t. filled_value (side_made front) t)) (value_few back h))
]

filled_is : (front back : Option (List ℕ)) → option_map (address6_after 0) (then_some front (λ f. then_some back (λ b. filled_groups f b))) ≡ then_some (side_of front) (λ s. then_some (side_of back) (λ t. filled_value s t))
filled_is None back = refl
filled_is (Some front) None = elim (cases_lt 8 (length front)) [
  | inl h ↦ sym (ap (λ o. then_some o (λ s. then_some (side_of None) (λ t. filled_value s t))) (value_many front h))
  | inr h ↦ sym (ap (λ o. then_some o (λ s. then_some (side_of None) (λ t. filled_value s t))) (value_few front h))
]
filled_is (Some front) (Some back) = elim (cases_lt 8 (length front)) [
  | inl h ↦ ap (option_map (address6_after 0)) (no_filled front back (omega (arith, h))) ∙ sym (ap (λ o. then_some o (λ s. then_some (side_of (Some back)) (λ t. filled_value s t))) (value_many front h))
  | inr h ↦ sides_few front back h
]

by_gap : (text : List ℕ) (gap : Option ℕ) → option_map (address6_after 0) (groups_by text gap) ≡ value_by text gap
by_gap text None = whole_is (side text)
by_gap text (Some at) = filled_is (side (take at text)) (side (drop (at + 2) text))

-- the numbers of the sides make the address
pub value_is_address : (text : List ℕ) → address6_value text ≡ address6_in text
unfolding address6_in address6_value eight_groups
value_is_address text = sym (by_gap text (gap_in text))
