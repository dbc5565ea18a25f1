-- Lists of addresses in their canonical text are read again.
use Rattle.std.proofs.Common.{◌≡◌, ℕ, ◌+◌, ◌/◌, ◌%◌, ◌^◌, ◌≤◌, Bool, true, false, not, ◌&&◌, ◌||◌, ◌==◌, nat_le, nat_eq, if◌then◌else◌, Some, None, unwrap_or, Result, Ok, List, ◌∷◌, ◌++◌, length, take, drop, map, codes, refl, sym, ap, ◌∙◌, arith, inl, inr, subst, length-append, eq-eqb, []}
use Rattle.std.specs.List.{list_all, AllByRecursion, join_with_byte, onto_first, starts_with, position_or_len}
use Rattle.std.specs.Fmt.{decimal}
use Rattle.std.proofs.lemmas.Bool.{lt-ltb, and_parts}
use Rattle.std.proofs.lemmas.Bool.Decides.{eqb_tells}
use Rattle.std.proofs.lemmas.List.{take_at, drop_at}
use Rattle.std.proofs.Math.Bool.{and-false}
use Rattle.std.proofs.Math.Numerals.{one-add}
use Rattle.std.specs.Char.{is_ascii_digit}
use Rattle.fw_base.specs.Prefix.{Network}
use Rattle.fw_base.specs.Addr.{address_text}
use Rattle.fw_base.proofs.Logic.{clash}
use Rattle.fw_base.specs.Name.{is_name_byte}
use Rattle.rule_text.specs.Address6Text.{network6_text}
use Rattle.rule_text.specs.Canonical.{network_text, item_text}
use Rattle.fw_rule.specs.declared.addr_item.AddrItem.{AddrItem}
use Rattle.fw_rule.specs.declared.addr_item.AddrItem.TheVariants.{Any, Me, Net, Net6, InTable, TableValue}
use Rattle.ipfw_parser.specs.declared.kind.Kind.TheVariants.{BadName, BadAddress}
use Rattle.ipfw_parser.specs.Reading.{Fault, fault_at, ◌>>=◌, same}
use Rattle.ipfw_parser.specs.Numbers.{starts_with_digit, number}
use Rattle.ipfw_parser.specs.Names.{is_name, table_name}
use Rattle.ipfw_parser.specs.Lists.{elements_outside, inside_after, each_element}
use Rattle.ipfw_parser.specs.Addresses.{part_len, closes, starts_with_comma, table_value, table_end, table_item, net_item, net6_item, item, items, prefix}
use Rattle.ipfw_parser.specs.Addresses6.{prefix6, has_colon}
use Rattle.rule_round_trip.proofs.Numbers.Decimal.{number_again}
use Rattle.rule_round_trip.proofs.Numbers.FiveDigits.{decimal_starts}
use Rattle.rule_round_trip.proofs.Numbers.Digits.{IsFree, free_append, not_same, starts_append}
use Rattle.rule_round_trip.proofs.Addresses.Four.{dots, text_is, free_dots, free_decimal, prefix_again}
use Rattle.rule_round_trip.proofs.Addresses.Six.{free_network6, no_colon_in, network6_colon, prefix6_again}
use Rattle.rule_round_trip.proofs.Rules.Flows.{not_same_texts}
use Rattle.ipfw_parser.specs.Forms.{IsItemForm}
use Rattle.rule_round_trip.proofs.Lists.Each.{all_passed, apart}

-- one element: no comma parts it, and behind it one is outside parentheses
abbrev IsElement : Bool → List ℕ → Type 0
IsElement inside [] = inside ≡ false
IsElement inside (byte ∷ bytes) = ((byte == 44 && not inside) ≡ false) × IsElement (inside_after inside byte) bytes

element_last : (inside : Bool) (text : List ℕ) → IsElement inside text → elements_outside inside text ≡ text ∷ []
unfolding elements_outside
element_last inside [] e = refl
element_last inside (byte ∷ bytes) e =
    ap (λ b. if b then [] ∷ elements_outside false bytes else onto_first byte (elements_outside (inside_after inside byte) bytes)) e.0 ∙ ap (onto_first byte) (element_last (inside_after inside byte) bytes e.1)

element_first : (inside : Bool) (text rest : List ℕ) → IsElement inside text → elements_outside inside (text ++ 44 ∷ rest) ≡ text ∷ elements_outside false rest
unfolding elements_outside
element_first inside [] rest e =
    ap (λ b. if not b then [] ∷ elements_outside false rest else onto_first 44 (elements_outside b rest)) e
element_first inside (byte ∷ bytes) rest e =
    ap (λ b. if b then [] ∷ elements_outside false (bytes ++ 44 ∷ rest) else onto_first byte (elements_outside (inside_after inside byte) (bytes ++ 44 ∷ rest))) e.0
    ∙ ap (onto_first byte) (element_first (inside_after inside byte) bytes rest e.1)

-- elements with commas between them are found again
outside_again : (text : List ℕ) (texts : List (List ℕ)) → AllByRecursion (IsElement false) (text ∷ texts) → elements_outside false (join_with_byte 44 (text ∷ texts)) ≡ text ∷ texts
outside_again text [] e = element_last false text e.0
outside_again text (next ∷ texts) e = element_first false text (join_with_byte 44 (next ∷ texts)) e.0 ∙ ap (λ more. text ∷ more) (outside_again next texts e.1)

plain_byte : (inside : Bool) (byte : ℕ) → byte == 40 ≡ false → byte == 41 ≡ false → inside_after inside byte ≡ inside
plain_byte inside byte begin close = ap (λ b. if b then true else if byte == 41 then false else inside) begin ∙ ap (λ b. if b then false else inside) close

-- through bytes that are no parentheses, inside, and also no commas, outside
through_inside : (text rest : List ℕ) → IsFree 40 text → IsFree 41 text → IsElement true rest → IsElement true (text ++ rest)
through_inside [] rest begin close e = e
through_inside (byte ∷ text) rest begin close e =
    (and-false (byte == 44), subst (λ b. IsElement b (text ++ rest)) (sym (plain_byte true byte begin.0 close.0)) (through_inside text rest begin.1 close.1 e))

through_outside : (text : List ℕ) → IsFree 40 text → IsFree 41 text → IsFree 44 text → IsElement false text
through_outside [] begin close comma = refl
through_outside (byte ∷ text) begin close comma =
    (ap (λ b. b && true) comma.0, subst (λ b. IsElement b text) (sym (plain_byte false byte begin.0 close.0)) (through_outside text begin.1 close.1 comma.1))

free_network : (byte : ℕ) (n : Network) → is_ascii_digit byte ≡ false → 46 == byte ≡ false → 47 == byte ≡ false → n.bits ≤ 32 → IsFree byte (network_text n)
unfolding network_text
free_network byte n other dot slash small =
    free_append byte (address_text n.address) (if n.bits == 32 then [] else 47 ∷ decimal n.bits)
    (subst (IsFree byte) (sym (text_is n.address)) (free_dots byte (n.address / 2 ^ 24 % 256) (n.address / 2 ^ 16 % 256) (n.address / 2 ^ 8 % 256) (n.address % 256) other dot (omega arith) (omega arith) (omega arith) (omega arith)))
    (elim (n.bits == 32) as (λ b. IsFree byte (if b then [] else 47 ∷ decimal n.bits)) [ true ↦ tt | false ↦ (slash, free_decimal byte n.bits other (omega arith)) ])

-- names hold no other byte
free_name : (byte : ℕ) (name : List ℕ) → is_name_byte byte ≡ false → list_all is_name_byte name ≡ true → IsFree byte name
free_name byte name other all = all_passed (λ b. b == byte ≡ false) is_name_byte name (λ b told. apart is_name_byte b byte told other) all

-- a name has no byte but those that names may have
pub name_bytes : (most : ℕ) (name : List ℕ) → is_name most name ≡ true → list_all is_name_byte name ≡ true
unfolding is_name
name_bytes most name told = (and_parts (list_all is_name_byte name) (nat_le 1 (length name) && nat_le (length name) most) told).0

no_open : is_name_byte 40 ≡ false
unfolding is_name_byte
no_open = refl

no_close : is_name_byte 41 ≡ false
unfolding is_name_byte
no_close = refl

no_comma : is_name_byte 44 ≡ false
unfolding is_name_byte
no_comma = refl

close_element : IsElement true (41 ∷ [])
close_element = (refl, refl)

element_of : (x : AddrItem) → IsItemForm x → IsElement false (item_text x)
element_of Any form = search
element_of Me form = search
element_of (Net n) form = through_outside (network_text n) (free_network 40 n refl refl refl form.0.within) (free_network 41 n refl refl refl form.0.within) (free_network 44 n refl refl refl form.0.within)
element_of (Net6 n) form = through_outside (network6_text n) (free_network6 40 n refl refl refl form.0.within) (free_network6 41 n refl refl refl form.0.within) (free_network6 44 n refl refl refl form.0.within)
element_of (InTable name) form =
    let inner = through_inside name (41 ∷ []) (free_name 40 name no_open (name_bytes 63 name form)) (free_name 41 name no_close (name_bytes 63 name form)) close_element in
    (refl, (refl, (refl, (refl, (refl, (refl, inner))))))
element_of (TableValue name value) form =
    let last = through_inside (decimal value) (41 ∷ []) (free_decimal 40 value refl (omega (arith, form.1))) (free_decimal 41 value refl (omega (arith, form.1))) close_element in
    let inner = through_inside name (44 ∷ (decimal value ++ (41 ∷ []))) (free_name 40 name no_open (name_bytes 63 name form.0)) (free_name 41 name no_close (name_bytes 63 name form.0)) (refl, last) in
    (refl, (refl, (refl, (refl, (refl, (refl, inner))))))

elements_of : (xs : List AddrItem) → AllByRecursion IsItemForm xs → AllByRecursion (IsElement false) (map item_text xs)
elements_of [] form = tt
elements_of (x ∷ xs) form = (element_of x form.0, elements_of xs form.1)

-- a part ends at the first comma or parenthesis
part_place : (front : List ℕ) (next : ℕ) (rest : List ℕ) → IsFree 44 front → IsFree 41 front → (next == 44 || next == 41) ≡ true → position_or_len (λ b. b == 44 || b == 41) (front ++ next ∷ rest) ≡ length front
part_place [] next rest comma close here = ap (λ t. if not t then 1 + position_or_len (λ b. b == 44 || b == 41) rest else 0) here
part_place (byte ∷ front) next rest comma close here =
    ap (λ t. if not (t || byte == 41) then 1 + position_or_len (λ b. b == 44 || b == 41) (front ++ next ∷ rest) else 0) comma.0
    ∙ ap (λ t. if not t then 1 + position_or_len (λ b. b == 44 || b == 41) (front ++ next ∷ rest) else 0) close.0
    ∙ ap (λ n. 1 + n) (part_place front next rest comma.1 close.1 here) ∙ one-add (length front)

part_at : (front : List ℕ) (next : ℕ) (rest : List ℕ) → IsFree 44 front → IsFree 41 front → (next == 44 || next == 41) ≡ true → part_len (front ++ next ∷ rest) ≡ length front
unfolding part_len
part_at front next rest comma close here =
    let place = part_place front next rest comma close here in
    ap (λ t. unwrap_or (if t then Some (position_or_len (λ (b : ℕ). b == 44 || b == 41) (front ++ next ∷ rest)) else None) (length (front ++ next ∷ rest)))
    (lt-ltb (position_or_len (λ b. b == 44 || b == 41) (front ++ next ∷ rest)) (length (front ++ next ∷ rest)) (omega (arith, place, length-append front (next ∷ rest))))
    ∙ place

part_front : (front : List ℕ) (next : ℕ) (rest : List ℕ) → IsFree 44 front → IsFree 41 front → (next == 44 || next == 41) ≡ true → take (part_len (front ++ next ∷ rest)) (front ++ next ∷ rest) ≡ front
part_front front next rest comma close here = take_at front (next ∷ rest) (part_len (front ++ next ∷ rest)) (sym (part_at front next rest comma close here))

part_rest : (front : List ℕ) (next : ℕ) (rest : List ℕ) → IsFree 44 front → IsFree 41 front → (next == 44 || next == 41) ≡ true → drop (part_len (front ++ next ∷ rest)) (front ++ next ∷ rest) ≡ next ∷ rest
part_rest front next rest comma close here = drop_at front (next ∷ rest) (part_len (front ++ next ∷ rest)) (sym (part_at front next rest comma close here))

-- a table's name is read as this name
pub name_again : (name : List ℕ) (column : ℕ) → is_name 63 name ≡ true → table_name (record { column = column; text = name }) ≡ Ok name
unfolding table_name
name_again name column told = ap (λ b. if b then Ok name else fault_at column BadName) told

-- behind `table(`
table_by : (column : ℕ) (text name rest : List ℕ) → take (part_len text) text ≡ name → drop (part_len text) text ≡ rest → is_name 63 name ≡ true
    → table_item (record { column = column; text = text }) ≡ table_end name (record { column = column; text = rest })
unfolding table_item
table_by column text name rest front back told =
    ap (λ t. table_name (record { column = column; text = t }) >>= λ n. table_end n (record { column = column; text = drop (part_len text) text })) front
    ∙ ap (λ r. table_name (record { column = column; text = name }) >>= λ n. table_end n (record { column = column; text = r })) back
    ∙ ap (λ r. r >>= λ n. table_end n (record { column = column; text = rest })) (name_again name column told)

value_by : (column value : ℕ) (name text : List ℕ) → take (part_len text) text ≡ decimal value → drop (part_len text) text ≡ 41 ∷ [] → value ≤ 4294967295
    → table_value name (record { column = column; text = text }) ≡ Ok (TableValue name value)
unfolding table_value closes same
value_by column value name text front back small =
    ap (λ t. number 0 4294967295 (record { column = column; text = t }) >>= λ v. if closes (drop (part_len text) text) then Ok (TableValue name v) else fault_at column BadAddress) front
    ∙ ap (λ r. number 0 4294967295 (record { column = column; text = decimal value }) >>= λ v. if closes r then Ok (TableValue name v) else fault_at column BadAddress) back
    ∙ ap (λ r. r >>= λ v. let q : Result AddrItem Fault = Ok (TableValue name v) in q) (number_again 0 4294967295 value column (omega arith) small (omega arith))

end_close : (column : ℕ) (name : List ℕ) → table_end name (record { column = column; text = 41 ∷ [] }) ≡ Ok (InTable name)
unfolding table_end closes same
end_close column name = refl

end_comma : (column : ℕ) (name rest : List ℕ) → table_end name (record { column = column; text = 44 ∷ rest }) ≡ table_value name (record { column = column; text = rest })
unfolding table_end closes same starts_with_comma
end_comma column name rest = refl

in_table : (column : ℕ) (text : List ℕ) → item (record { column = column; text = codes "table(" ++ text }) ≡ table_item (record { column = column; text = text })
unfolding item same
in_table column text = refl

digit_apart : (digit byte : ℕ) → is_ascii_digit digit ≡ true → is_ascii_digit byte ≡ false → byte == digit ≡ false
digit_apart digit byte told other = elim (eqb_tells byte digit) [
  | inl h ↦ clash (is_ascii_digit digit) told (ap is_ascii_digit (sym h.1) ∙ other)
  | inr h ↦ h.0
]

no_start : (text name : List ℕ) → starts_with_digit text ≡ true → starts_with nat_eq text (116 ∷ name) ≡ false
unfolding starts_with_digit
no_start [] name digit = clash false digit refl
no_start (d ∷ text) name digit = ap (λ b. b && starts_with nat_eq text name) (digit_apart d 116 digit refl)

item_any : (column : ℕ) → item (record { column = column; text = codes "any" }) ≡ Ok Any
unfolding item same
item_any column = refl

item_me : (column : ℕ) → item (record { column = column; text = codes "me" }) ≡ Ok Me
unfolding item same
item_me column = refl

address_starts : (a : ℕ) (rest : List ℕ) → starts_with_digit (address_text a ++ rest) ≡ true
unfolding dots
address_starts a rest =
    let first : List ℕ = decimal (a / 2 ^ 24 % 256) in
    let others : List ℕ = 46 ∷ (decimal (a / 2 ^ 16 % 256) ++ (46 ∷ (decimal (a / 2 ^ 8 % 256) ++ (46 ∷ decimal (a % 256))))) in
    ap (λ t. starts_with_digit (t ++ rest)) (text_is a) ∙ starts_append (first ++ others) rest (starts_append first others (decimal_starts (a / 2 ^ 24 % 256) (omega arith)))

-- the text of an IPv4 prefix begins with a digit
pub network_starts : (n : Network) → starts_with_digit (network_text n) ≡ true
unfolding network_text
network_starts n = address_starts n.address (if n.bits == 32 then [] else 47 ∷ decimal n.bits)

item_net : (column : ℕ) (text : List ℕ) → starts_with_digit text ≡ true → has_colon text ≡ false → item (record { column = column; text = text }) ≡ net_item (prefix (record { column = column; text = text }))
unfolding item
item_net column text digit plain =
    rw (not_same text (codes "any") digit refl, not_same text (codes "me") digit refl, no_start text (codes "able(") digit, plain) refl

-- a text with a colon is no name without one
pub colon_differs : (text name : List ℕ) → has_colon text ≡ true → has_colon name ≡ false → same text name ≡ false
colon_differs text name told other = not_same_texts text name (λ e. clash (has_colon text) told (ap has_colon e ∙ other))

no_table : (text name : List ℕ) → IsFree 116 text → starts_with nat_eq text (116 ∷ name) ≡ false
no_table [] name free = refl
no_table (b ∷ text) name free = elim (eqb_tells 116 b) [
  | inl h ↦ clash (b == 116) (eq-eqb b 116 (sym h.1)) free.0
  | inr h ↦ ap (λ t. t && starts_with nat_eq text name) h.0
]

any_plain : has_colon (codes "any") ≡ false
unfolding has_colon
any_plain = refl

me_plain : has_colon (codes "me") ≡ false
unfolding has_colon
me_plain = refl

item_net6 : (column : ℕ) (text : List ℕ) → has_colon text ≡ true → IsFree 116 text → item (record { column = column; text = text }) ≡ net6_item (prefix6 (record { column = column; text = text }))
unfolding item
item_net6 column text told free =
    rw (colon_differs text (codes "any") told any_plain, colon_differs text (codes "me") told me_plain, no_table text (codes "able(") free, told) refl

-- an element of a list of addresses in its canonical text is read as this element
item_again : (x : AddrItem) (column : ℕ) → IsItemForm x → item (record { column = column; text = item_text x }) ≡ Ok x
item_again Any column form = item_any column
item_again Me column form = item_me column
item_again (Net n) column form =
    item_net column (network_text n) (network_starts n) (no_colon_in (network_text n) (free_network 58 n refl refl refl form.0.within)) ∙ ap net_item (prefix_again n column form.0 form.1)
item_again (Net6 n) column form =
    item_net6 column (network6_text n) (network6_colon n) (free_network6 116 n refl refl refl form.0.within) ∙ ap net6_item (prefix6_again n column form.0 form.1)
item_again (InTable name) column form =
    let comma = free_name 44 name no_comma (name_bytes 63 name form) in let close = free_name 41 name no_close (name_bytes 63 name form) in
    in_table column (name ++ codes ")")
    ∙ table_by column (name ++ codes ")") name (41 ∷ []) (part_front name 41 [] comma close refl) (part_rest name 41 [] comma close refl) form
    ∙ end_close column name
item_again (TableValue name value) column form =
    let comma = free_name 44 name no_comma (name_bytes 63 name form.0) in let close = free_name 41 name no_close (name_bytes 63 name form.0) in
    let digits_comma = free_decimal 44 value refl (omega (arith, form.1)) in let digits_close = free_decimal 41 value refl (omega (arith, form.1)) in
    let rest : List ℕ = decimal value ++ (41 ∷ []) in
    in_table column (name ++ (44 ∷ rest))
    ∙ table_by column (name ++ (44 ∷ rest)) name (44 ∷ rest) (part_front name 44 rest comma close refl) (part_rest name 44 rest comma close refl) form.0
    ∙ end_comma column name rest
    ∙ value_by column value name rest (part_front (decimal value) 41 [] digits_comma digits_close refl) (part_rest (decimal value) 41 [] digits_comma digits_close refl) form.1

each_again : (xs : List AddrItem) (column : ℕ) → AllByRecursion IsItemForm xs → each_element item column (map item_text xs) ≡ Ok xs
unfolding each_element
each_again [] column form = refl
each_again (x ∷ xs) column form =
    ap (λ p. p >>= λ y. each_element item column (map item_text xs) >>= λ ys. Ok (y ∷ ys)) (item_again x column form.0)
    ∙ ap (λ p. p >>= λ ys. let a : Result (List AddrItem) Fault = Ok (x ∷ ys) in a) (each_again xs column form.1)

-- a list of addresses in its canonical text is read as this list
pub items_again : (first : AddrItem) (others : List AddrItem) (column : ℕ) → AllByRecursion IsItemForm (first ∷ others) → items (record { column = column; text = join_with_byte 44 (map item_text (first ∷ others)) }) ≡ Ok (first ∷ others)
unfolding items
items_again first others column form =
    ap (each_element item column) (outside_again (item_text first) (map item_text others) (elements_of (first ∷ others) form)) ∙ each_again (first ∷ others) column form
