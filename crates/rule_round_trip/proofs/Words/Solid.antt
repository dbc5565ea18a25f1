-- The canonical words of a rule are words of a line: no blank and no comment in them, none empty.
use Rattle.std.proofs.Common.{◌≡◌, ℕ, ◌/◌, ◌%◌, ◌^◌, ◌<◌, ◌≤◌, zero, suc, Bool, true, false, not, ◌&&◌, ◌||◌, ◌==◌, nat_le, nat_eq, if◌then◌else◌, Some, None, Option, unwrap_or, Result, Ok, Err, List, ◌∷◌, ◌++◌, length, map, take, drop, codes, refl, sym, arith, subst, length-append, []}
use Rattle.std.specs.Prelude.{IfSome, slice_get}
use Rattle.std.specs.List.{AllByRecursion, join_with_byte, list_all, flat_map}
use Rattle.std.specs.Fmt.{decimal}
use Rattle.std.specs.Cmp.Lexicographic.{pointwise}
use Rattle.std.proofs.lemmas.Bool.Decides.{nat_tests}
use Rattle.std.proofs.lemmas.Bool.{le-leb, and_parts, leb-true}
use Rattle.std.proofs.lemmas.Fmt.{decimal_nonempty}
use Rattle.std.specs.Char.{is_ascii_digit}
use Rattle.fw_lex.specs.Words.{is_blank, is_readable}
use Rattle.fw_base.specs.Prefix.{Network}
use Rattle.fw_base.specs.Addr.{address_text}
use Rattle.fw_base.specs.PortRange.{Ports}
use Rattle.fw_rule.specs.Names.{unreach_names, flag_names, option_names}
use Rattle.rule_text.specs.Canonical.{WordTexts, five_digits, code_word, action_words, flow_words, looked_up_words, log_words, set_words, protocol_word, family_word, network_text, item_text, list_words, addr_words, range_text, port_words, negation_words as negation_words, test_words, option_words, iface_text, field_word, mask_word, state_words, options_words, placed_words, body_words, optional_body, rule_words, signed_names, numbers_where}
use Rattle.fw_rule.specs.WellFormed.{IsAction, IsValue, IsRange}
use Rattle.fw_rule.specs.Bits.{has_bit}
use Rattle.fw_rule.specs.TypeSet.{has_type}
use Rattle.fw_rule.specs.FlowName.{default_flow}
use Rattle.fw_rule.specs.declared.type_set.TypeSet.{TypeSet}
use Rattle.fw_rule.specs.declared.body.Family.{Family}
use Rattle.fw_rule.specs.declared.body.Family.TheVariants.{AnyIp, Four, Six}
use Rattle.fw_base.specs.Prefix6.{Network6}
use Rattle.fw_base.proofs.Logic.{clash}
use Rattle.fw_base.specs.Name.{is_name_byte}
use Rattle.rule_text.specs.Address6Text.{network6_text}
use Rattle.fw_rule.specs.declared.action.Action.{Action}
use Rattle.fw_rule.specs.declared.action.Action.TheVariants.{Allow, Deny, Reset, Unreach, Count, SkipTo, Call, Return, CheckState}
use Rattle.fw_rule.specs.declared.addr_item.AddrItem.{AddrItem}
use Rattle.fw_rule.specs.declared.addr_item.AddrItem.TheVariants.{Any, Me, Net, Net6, InTable, TableValue}
use Rattle.fw_rule.specs.declared.port_list.PortList.{PortList}
use Rattle.fw_rule.specs.declared.iface.Iface.{Iface}
use Rattle.fw_rule.specs.declared.iface.Iface.TheVariants.{AnyIface, Exact, Begins}
use Rattle.fw_rule.specs.declared.test.Field.{Field}
use Rattle.fw_rule.specs.declared.test.Field.TheVariants.{SrcIp, DstIp, SrcPort as SrcPortField, DstPort as DstPortField}
use Rattle.fw_rule.specs.declared.test.Test.{Test}
use Rattle.fw_rule.specs.declared.test.Test.TheVariants.{Inward, Outward, Established, Setup, Frag, Recv, Xmit, Via, TcpFlags, IcmpTypes, Icmp6Types, IpOptions, Lookup}
use Rattle.fw_rule.specs.declared.opt.Opt.{Opt}
use Rattle.fw_rule.specs.declared.state_opt.LimitMask.{LimitMask}
use Rattle.fw_rule.specs.declared.state_opt.LimitMask.TheVariants.{SrcAddr, SrcPort, DstAddr, DstPort}
use Rattle.fw_rule.specs.declared.state_opt.StateOpt.{StateOpt}
use Rattle.fw_rule.specs.declared.state_opt.StateOpt.TheVariants.{Keep, Limit}
use Rattle.fw_rule.specs.declared.body.Body.{Body}
use Rattle.fw_rule.specs.declared.rule.Rule.{Rule}
use Rattle.ipfw_parser.specs.declared.kind.Kind.TheVariants.{BadFlag, BadNumber, BadAddress, BadPort}
use Rattle.ipfw_parser.specs.Reading.{Word, Fault, same}
use Rattle.ipfw_parser.specs.Numbers.{number, decimal as decimal_of}
use Rattle.ipfw_parser.specs.Names.{is_name, place, service, service_names}
use Rattle.ipfw_parser.specs.Lists.{elements, elements_outside, each_element, signs, sign_masks, bare_name, is_negated, types, type_mask, types6, type_set}
use Rattle.ipfw_parser.specs.Addresses6.{is_hex, has_colon}
use Rattle.ipfw_parser.specs.Addresses.{octet_in, octet_and_dot, address_in, address, prefix, item, items}
use Rattle.ipfw_parser.specs.Parts.{part_before, part_behind}
use Rattle.ipfw_parser.specs.Ports.{ranges, range, port}
use Rattle.ipfw_parser.specs.Forms.{IsItemForm, IsListForm, IsIfaceForm, IsTestForm, AreSigns, IsTypesForm, IsFlowForm, IsStateForm, IsPlacedForm, IsBodyForm, HasBehind, HasForm}
use Rattle.rule_round_trip.specs.Laws.{IsSolid, IsWordText}
use Rattle.rule_round_trip.proofs.Numbers.Decimal.{all_digits}
use Rattle.rule_round_trip.proofs.Numbers.FiveDigits.{five_all, five_some}
use Rattle.rule_round_trip.proofs.Addresses.Four.{dots, text_is}
use Rattle.rule_round_trip.proofs.Addresses.Items.{name_bytes, items_again}
use Rattle.rule_round_trip.proofs.Addresses.Ports.{ranges_again}
use Rattle.rule_round_trip.proofs.Masks.Signs.{AllOver, all_joined, names_all, flags_again, ip_options_again}
use Rattle.rule_round_trip.proofs.Masks.Types.{numbers_all, types_again}
use Rattle.rule_round_trip.proofs.Masks.TypeSets.{types6_again}
use Rattle.rule_round_trip.proofs.Addresses.Six.{network6_all}
use Rattle.ipfw_parser.proofs.Forms.Items.{ArePorts}
use Rattle.rule_round_trip.proofs.Rules.Options.{name_some}
use Rattle.rule_round_trip.proofs.Lists.Each.{all_append, all_take, all_drop, all_passed, apart}

-- a byte of a word that may stand in a script
pub record IsGood (byte : ℕ) : Type 0 where
  pub solid : IsSolid byte
  pub readable : is_readable byte ≡ true

-- a good word: a text that isn't empty, of bytes that may stand in words and in scripts
pub record IsGoodWord (text : List ℕ) : Type 0 where
  pub some : 0 < length text
  pub bytes : AllByRecursion IsGood text

solid_all : (text : List ℕ) → AllByRecursion IsGood text → AllByRecursion IsSolid text
solid_all [] good = tt
solid_all (b ∷ text) good = (good.0.solid, solid_all text good.1)

readable_all : (text : List ℕ) → AllByRecursion IsGood text → AllByRecursion (λ b. is_readable b ≡ true) text
readable_all [] good = tt
readable_all (b ∷ text) good = (good.0.readable, readable_all text good.1)

-- good words are words of a line: not empty, with no blank, and no comment begins in them
pub words_of_good : (texts : WordTexts) → AllByRecursion IsGoodWord texts → AllByRecursion IsWordText texts
words_of_good [] good = tt
words_of_good (text ∷ texts) good = (record { some = good.0.some; bytes = solid_all text good.0.bytes }, words_of_good texts good.1)

-- good words with spaces between them have no byte that may not stand in a script
pub readable_joined : (texts : WordTexts) → AllByRecursion IsGoodWord texts → AllByRecursion (λ b. is_readable b ≡ true) (join_with_byte 32 texts)
readable_joined [] good = tt
readable_joined (text ∷ []) good = readable_all text good.0.bytes
readable_joined (text ∷ next ∷ texts) good = all_append (λ b. is_readable b ≡ true) text (32 ∷ join_with_byte 32 (next ∷ texts)) (readable_all text good.0.bytes) (refl, readable_joined (next ∷ texts) good.1)

abbrev IsSolidText : List ℕ → Type 0
IsSolidText text = AllByRecursion IsGood text

abbrev AreWords : WordTexts → Type 0
AreWords words = AllByRecursion IsGoodWord words

is_solid : ℕ → Bool
is_solid b = not (is_blank b || b == 35) && is_readable b

neither : (x y : Bool) → not (x || y) ≡ true → (x ≡ false) × (y ≡ false)
neither true y e = clash false e refl
neither false true e = clash false e refl
neither false false e = (refl, refl)

solid_byte : (b : ℕ) → is_solid b ≡ true → IsGood b
unfolding is_solid
solid_byte b told =
    let both = and_parts (not (is_blank b || b == 35)) (is_readable b) told in let parts = neither (is_blank b) (b == 35) both.0 in
    record { solid = record { solid = parts.0; plain = parts.1 }; readable = both.1 }

solid_text : (text : List ℕ) → list_all is_solid text ≡ true → IsSolidText text
solid_text text told = all_passed IsGood is_solid text solid_byte told

-- a fixed word
fixed : (b : ℕ) (text : List ℕ) → list_all is_solid (b ∷ text) ≡ true → IsGoodWord (b ∷ text)
fixed b text told = record { some = omega arith; bytes = solid_text (b ∷ text) told }

solid_by : (test : ℕ → Bool) (b : ℕ) → test b ≡ true → ((n : ℕ) → test n ≡ true → is_readable n ≡ true) → test 32 ≡ false → test 9 ≡ false → test 13 ≡ false → test 35 ≡ false → IsGood b
solid_by test b told readable space tab return hash = record {
  solid = record {
    solid = rw (apart test b 32 told space, apart test b 9 told tab, apart test b 13 told return) refl;
    plain = apart test b 35 told hash;
  };
  readable = readable b told;
}

all_by : (test : ℕ → Bool) (text : List ℕ) → list_all test text ≡ true → ((n : ℕ) → test n ≡ true → is_readable n ≡ true) → test 32 ≡ false → test 9 ≡ false → test 13 ≡ false → test 35 ≡ false → IsSolidText text
all_by test text told readable space tab return hash = all_passed IsGood test text (λ b passed. solid_by test b passed readable space tab return hash) told

readable_of : (b : ℕ) → 32 ≤ b → b ≤ 126 → is_readable b ≡ true
readable_of b low high = rw (le-leb 32 b low, le-leb b 126 high) refl

digit_readable : (b : ℕ) → is_ascii_digit b ≡ true → is_readable b ≡ true
digit_readable b told = let both = and_parts (nat_le 48 b) (nat_le b 57) told in readable_of b (omega (arith, leb-true 48 b both.0)) (omega (arith, leb-true b 57 both.1))

name_readable : (b : ℕ) → is_name_byte b ≡ true → is_readable b ≡ true
unfolding is_name_byte
name_readable b told = let low : 32 ≤ b = grind (arith, nat_tests) in let high : b ≤ 126 = grind (arith, nat_tests) in readable_of b low high

hex_readable : (b : ℕ) → is_hex b ≡ true → is_readable b ≡ true
hex_readable b told = let low : 32 ≤ b = grind (arith, nat_tests) in let high : b ≤ 126 = grind (arith, nat_tests) in readable_of b low high

solid_digits : (text : List ℕ) → list_all is_ascii_digit text ≡ true → IsSolidText text
solid_digits text told = all_by is_ascii_digit text told digit_readable refl refl refl refl

solid_decimal : (n : ℕ) → n < 2 ^ 32 → IsSolidText (decimal n)
solid_decimal n small = solid_digits (decimal n) (all_digits n small)

-- a decimal number is a good word
pub decimal_word : (n : ℕ) → n < 2 ^ 32 → IsGoodWord (decimal n)
decimal_word n small = record { some = decimal_nonempty n (omega arith); bytes = solid_decimal n small }

solid_name : (most : ℕ) (name : List ℕ) → is_name most name ≡ true → IsSolidText name
unfolding is_name_byte
solid_name most name told = all_by is_name_byte name (name_bytes most name told) name_readable refl refl refl refl

name_word : (most : ℕ) (name : List ℕ) → is_name most name ≡ true → IsGoodWord name
name_word most name told = record { some = name_some most name told; bytes = solid_name most name told }

five_word : (n : ℕ) → n ≤ 65535 → IsGoodWord (five_digits n)
five_word n small = record { some = five_some n small; bytes = solid_digits (five_digits n) (five_all n small) }

comma : IsGood 44
unfolding is_solid
comma = solid_byte 44 refl

dot : IsGood 46
unfolding is_solid
dot = solid_byte 46 refl

slash : IsGood 47
unfolding is_solid
slash = solid_byte 47 refl

colon : IsGood 58
unfolding is_solid
colon = solid_byte 58 refl

dash : IsGood 45
unfolding is_solid
dash = solid_byte 45 refl

close : IsGood 41
unfolding is_solid
close = solid_byte 41 refl

mark : IsGood 33
unfolding is_solid
mark = solid_byte 33 refl

star : IsGood 42
unfolding is_solid
star = solid_byte 42 refl

apart_results : {X A : Type 0} (r : Result X Fault) (x : X) (e : Fault) → r ≡ Err e → r ≡ Ok x → A
apart_results r x e failed ok = cc

-- a text whose reading, were it empty, would fail
some_text : {X : Type 0} (read : Word → Result X Fault) (column : ℕ) (text : List ℕ) (x : X) (e : Fault) → read (record { column = column; text = [] }) ≡ Err e → read (record { column = column; text = text }) ≡ Ok x → 0 < length text
some_text read column [] x e failed ok = apart_results (read (record { column = column; text = [] })) x e failed ok
some_text read column (b ∷ text) x e failed ok = omega arith

four : (a b c d : ℕ) → a < 256 → b < 256 → c < 256 → d < 256 → IsSolidText (dots a b c d)
unfolding dots
four a b c d sa sb sc sd =
    all_append IsGood (decimal a) (46 ∷ (decimal b ++ (46 ∷ (decimal c ++ (46 ∷ decimal d))))) (solid_decimal a (omega arith)) (
      dot,
      all_append IsGood (decimal b) (46 ∷ (decimal c ++ (46 ∷ decimal d))) (solid_decimal b (omega arith)) (dot, all_append IsGood (decimal c) (46 ∷ decimal d) (solid_decimal c (omega arith)) (dot, solid_decimal d (omega arith))),
    )

network_solid : (n : Network) → n.bits ≤ 32 → IsSolidText (network_text n)
unfolding network_text
network_solid n small =
    all_append IsGood (address_text n.address) (if n.bits == 32 then [] else 47 ∷ decimal n.bits)
    (subst IsSolidText (sym (text_is n.address)) (four (n.address / 2 ^ 24 % 256) (n.address / 2 ^ 16 % 256) (n.address / 2 ^ 8 % 256) (n.address % 256) (omega arith) (omega arith) (omega arith) (omega arith)))
    (elim (n.bits == 32) as (λ b. IsSolidText (if b then [] else 47 ∷ decimal n.bits)) [ true ↦ tt | false ↦ (slash, solid_decimal n.bits (omega arith)) ])

-- hexadecimal digits
hex_good : (b : ℕ) → is_hex b ≡ true → IsGood b
hex_good b told = solid_by is_hex b told hex_readable refl refl refl refl

network6_solid : (n : Network6) → n.bits ≤ 128 → IsSolidText (network6_text n)
network6_solid n small = network6_all IsGood n hex_good colon slash small

item_solid : (x : AddrItem) → IsItemForm x → IsSolidText (item_text x)
unfolding is_solid
item_solid Any form = solid_text (codes "any") refl
item_solid Me form = solid_text (codes "me") refl
item_solid (Net n) form = network_solid n form.0.within
item_solid (Net6 n) form = network6_solid n form.0.within
item_solid (InTable name) form = all_append IsGood (codes "table(") (name ++ codes ")") (solid_text (codes "table(") refl) (all_append IsGood name (codes ")") (solid_name 63 name form) (close, tt))
item_solid (TableValue name value) form =
    all_append IsGood (codes "table(") (name ++ (codes "," ++ (decimal value ++ codes ")"))) (solid_text (codes "table(") refl)
    (all_append IsGood name (codes "," ++ (decimal value ++ codes ")")) (solid_name 63 name form.0) (comma, all_append IsGood (decimal value) (codes ")") (solid_decimal value (omega (arith, form.1))) (close, tt)))

items_solid : (xs : List AddrItem) → AllByRecursion IsItemForm xs → AllOver IsGood (map item_text xs)
items_solid [] form = tt
items_solid (x ∷ xs) form = (item_solid x form.0, items_solid xs form.1)

no_items : (column : ℕ) → items (record { column = column; text = [] }) ≡ Err (record { column = column; kind = BadAddress })
unfolding items each_element item same has_colon prefix address address_in octet_and_dot octet_in part_before part_behind decimal_of elements_outside
no_items column = refl

no_ranges : (column : ℕ) → ranges (record { column = column; text = [] }) ≡ Err (record { column = column; kind = BadPort })
unfolding ranges each_element range port service place same part_before decimal_of elements service_names
no_ranges column = refl

no_flags : (column : ℕ) → signs flag_names (record { column = column; text = [] }) ≡ Err (record { column = column; kind = BadFlag })
unfolding signs sign_masks elements place flag_names same bare_name is_negated
no_flags column = refl

no_options : (column : ℕ) → signs option_names (record { column = column; text = [] }) ≡ Err (record { column = column; kind = BadFlag })
unfolding signs sign_masks elements place option_names same bare_name is_negated
no_options column = refl

no_types : (column : ℕ) → types (record { column = column; text = [] }) ≡ Err (record { column = column; kind = BadNumber })
unfolding types type_mask elements number decimal_of
no_types column = refl

no_types6 : (column : ℕ) → types6 (record { column = column; text = [] }) ≡ Err (record { column = column; kind = BadNumber })
unfolding types6 type_set elements number decimal_of
no_types6 column = refl

items_word : (x : AddrItem) (xs : List AddrItem) → AllByRecursion IsItemForm (x ∷ xs) → IsGoodWord (join_with_byte 44 (map item_text (x ∷ xs)))
items_word x xs form = record {
  some = some_text items 0 (join_with_byte 44 (map item_text (x ∷ xs))) (x ∷ xs) _ (no_items 0) (items_again x xs 0 form);
  bytes = all_joined IsGood (map item_text (x ∷ xs)) comma (items_solid (x ∷ xs) form);
}

range_solid : (r : Ports) → IsRange r → IsSolidText (range_text r)
unfolding range_text
range_solid r form =
    all_append IsGood (decimal r.low) (if r.low == r.high then [] else 45 ∷ decimal r.high) (solid_decimal r.low (omega (arith, form.0, form.1)))
    (elim (r.low == r.high) as (λ b. IsSolidText (if b then [] else 45 ∷ decimal r.high)) [ true ↦ tt | false ↦ (dash, solid_decimal r.high (omega (arith, form.1))) ])

ranges_solid : (rs : List Ports) → AllByRecursion IsRange rs → AllOver IsGood (map range_text rs)
ranges_solid [] form = tt
ranges_solid (r ∷ rs) form = (range_solid r form.0, ranges_solid rs form.1)

ranges_word : (r : Ports) (rs : List Ports) → AllByRecursion IsRange (r ∷ rs) → IsGoodWord (join_with_byte 44 (map range_text (r ∷ rs)))
ranges_word r rs form = record {
  some = some_text ranges 0 (join_with_byte 44 (map range_text (r ∷ rs))) (r ∷ rs) _ (no_ranges 0) (ranges_again r rs 0 form);
  bytes = all_joined IsGood (map range_text (r ∷ rs)) comma (ranges_solid (r ∷ rs) form);
}

negation_are : (negated : Bool) → AreWords (negation_words negated)
unfolding is_solid
negation_are true = (fixed _ _ refl, tt)
negation_are false = tt

items_are : (negated : Bool) (xs : List AddrItem) → IsListForm IsItemForm xs → AreWords (list_words negated (map item_text xs))
items_are negated [] form = absurd (omega (arith, form.some))
items_are negated (x ∷ xs) form = all_append IsGoodWord (negation_words negated) (join_with_byte 44 (map item_text (x ∷ xs)) ∷ []) (negation_are negated) (items_word x xs form.each, tt)

ranges_are : (negated : Bool) (rs : List Ports) → IsListForm IsRange rs → AreWords (list_words negated (map range_text rs))
ranges_are negated [] form = absurd (omega (arith, form.some))
ranges_are negated (r ∷ rs) form = all_append IsGoodWord (negation_words negated) (join_with_byte 44 (map range_text (r ∷ rs)) ∷ []) (negation_are negated) (ranges_word r rs form.each, tt)

ports_are : (ports : Option PortList) → ArePorts ports → AreWords (port_words ports)
ports_are None form = tt
ports_are (Some ports) form = ranges_are ports.negated ports.ranges form

flags_solid : AllOver IsGood flag_names
unfolding flag_names is_solid
flags_solid = (solid_text (codes "fin") refl, (solid_text (codes "syn") refl, (solid_text (codes "rst") refl, (solid_text (codes "psh") refl, (solid_text (codes "ack") refl, (solid_text (codes "urg") refl, tt))))))

options_solid : AllOver IsGood option_names
unfolding option_names is_solid
options_solid = (solid_text (codes "ssrr") refl, (solid_text (codes "lsrr") refl, (solid_text (codes "rr") refl, (solid_text (codes "ts") refl, tt))))

flags_word : (set clear : ℕ) → AreSigns 6 set clear → IsGoodWord (join_with_byte 44 (signed_names flag_names 0 set clear))
flags_word set clear form = record {
  some = some_text (signs flag_names) 0 (join_with_byte 44 (signed_names flag_names 0 set clear)) (record { set = set; clear = clear }) _ (no_flags 0) (flags_again set clear 0 form);
  bytes = all_joined IsGood (signed_names flag_names 0 set clear) comma (names_all IsGood flag_names 0 set clear mark flags_solid);
}

ip_options_word : (set clear : ℕ) → AreSigns 4 set clear → IsGoodWord (join_with_byte 44 (signed_names option_names 0 set clear))
ip_options_word set clear form = record {
  some = some_text (signs option_names) 0 (join_with_byte 44 (signed_names option_names 0 set clear)) (record { set = set; clear = clear }) _ (no_options 0) (ip_options_again set clear 0 form);
  bytes = all_joined IsGood (signed_names option_names 0 set clear) comma (names_all IsGood option_names 0 set clear mark options_solid);
}

types_word : (mask : ℕ) → 0 < mask → mask < 2 ^ 32 → IsGoodWord (join_with_byte 44 (numbers_where (has_bit mask) 32 0))
types_word mask some small = record {
  some = some_text types 0 (join_with_byte 44 (numbers_where (has_bit mask) 32 0)) mask _ (no_types 0) (types_again mask 0 some small);
  bytes = all_joined IsGood (numbers_where (has_bit mask) 32 0) comma (numbers_all IsGood (has_bit mask) 32 0 (λ i less. solid_decimal i (omega (arith, less))));
}

types6_word : (set : TypeSet) → IsTypesForm set → IsGoodWord (join_with_byte 44 (numbers_where (has_type set) 256 0))
types6_word set form = record {
  some = some_text types6 0 (join_with_byte 44 (numbers_where (has_type set) 256 0)) set _ (no_types6 0) (types6_again set 0 form);
  bytes = all_joined IsGood (numbers_where (has_type set) 256 0) comma (numbers_all IsGood (has_type set) 256 0 (λ i less. solid_decimal i (omega (arith, less))));
}

iface_word : (i : Iface) → IsIfaceForm i → IsGoodWord (iface_text i)
unfolding is_solid
iface_word AnyIface form = fixed _ _ refl
iface_word (Exact name) form = name_word 15 name form.0
iface_word (Begins name) form = record { some = omega (arith, length-append name (42 ∷ [])); bytes = all_append IsGood name (codes "*") (solid_name 15 name form) (star, tt) }

field_is : (f : Field) → IsGoodWord (field_word f)
unfolding is_solid
field_is SrcIp = fixed _ _ refl
field_is DstIp = fixed _ _ refl
field_is SrcPortField = fixed _ _ refl
field_is DstPortField = fixed _ _ refl

mask_is : (m : LimitMask) → IsGoodWord (mask_word m)
unfolding is_solid
mask_is SrcAddr = fixed _ _ refl
mask_is SrcPort = fixed _ _ refl
mask_is DstAddr = fixed _ _ refl
mask_is DstPort = fixed _ _ refl

test_are : (t : Test) → IsTestForm t → AreWords (test_words t)
unfolding is_solid
test_are Inward form = (fixed _ _ refl, tt)
test_are Outward form = (fixed _ _ refl, tt)
test_are Established form = (fixed _ _ refl, tt)
test_are Setup form = (fixed _ _ refl, tt)
test_are Frag form = (fixed _ _ refl, tt)
test_are (Recv i) form = (fixed _ _ refl, (iface_word i form, tt))
test_are (Xmit i) form = (fixed _ _ refl, (iface_word i form, tt))
test_are (Via i) form = (fixed _ _ refl, (iface_word i form, tt))
test_are (TcpFlags set clear) form = (fixed _ _ refl, (flags_word set clear form, tt))
test_are (IcmpTypes mask) form = (fixed _ _ refl, (types_word mask form.0 form.1, tt))
test_are (Icmp6Types set) form = (fixed _ _ refl, (types6_word set form, tt))
test_are (IpOptions present absent) form = (fixed _ _ refl, (ip_options_word present absent form, tt))
test_are (Lookup f name) form = (fixed _ _ refl, (field_is f, (name_word 63 name form, tt)))

options_are : (os : List Opt) → AllByRecursion (λ o. IsTestForm o.test) os → AreWords (flat_map option_words os)
options_are [] form = tt
options_are (o ∷ os) form =
    all_append IsGoodWord (option_words o) (flat_map option_words os) (all_append IsGoodWord (negation_words o.negated) (test_words o.test) (negation_are o.negated) (test_are o.test form.0)) (options_are os form.1)

-- the name of a flow, behind a colon
flow_word : (name : List ℕ) → IsFlowForm name → IsGoodWord (58 ∷ name)
flow_word name form = record { some = omega arith; bytes = (colon, solid_name 63 name form.bytes) }

flow_are : (name : List ℕ) → IsFlowForm name → AreWords (flow_words name)
flow_are name form = elim (pointwise nat_eq name default_flow) as (λ b. AreWords (if b then [] else (58 ∷ name) ∷ [])) [ true ↦ tt | false ↦ (flow_word name form, tt) ]

state_are : (made : Option StateOpt) → IfSome made IsStateForm → AreWords (state_words made)
unfolding is_solid
state_are None form = tt
state_are (Some (Keep name)) form = (fixed _ _ refl, flow_are name form)
state_are (Some (Limit m n name)) form = (fixed _ _ refl, (mask_is m, (decimal_word n (omega (arith, form.0.most_ge)), flow_are name form.1)))

placed_are : (os : List Opt) (made : Option StateOpt) (at : ℕ) → IsPlacedForm os made at → AreWords (placed_words os made at)
placed_are os made at form =
    all_append IsGoodWord (flat_map option_words (take at os)) (state_words made ++ flat_map option_words (drop at os)) (options_are (take at os) (all_take (λ o. IsTestForm o.test) at os form.each))
    (all_append IsGoodWord (state_words made) (flat_map option_words (drop at os)) (state_are made form.state) (options_are (drop at os) (all_drop (λ o. IsTestForm o.test) at os form.each)))

choose : (b : Bool) (text other : List ℕ) → IsGoodWord text → IsGoodWord other → IsGoodWord (if b then text else other)
choose true text other p q = p
choose false text other p q = q

protocol_is : (n : ℕ) → n ≤ 255 → IsGoodWord (protocol_word n)
unfolding protocol_word is_solid
protocol_is n small =
    choose (n == 0) (codes "ip") _ (fixed _ _ refl) (choose (n == 1) (codes "icmp") _ (fixed _ _ refl) (choose (n == 6) (codes "tcp") _ (fixed _ _ refl) (choose (n == 17) (codes "udp") (decimal n) (fixed _ _ refl) (decimal_word n (omega arith)))))

family_is : (f : Family) (n : ℕ) → n ≤ 255 → IsGoodWord (family_word f n)
unfolding is_solid
family_is AnyIp n small = protocol_is n small
family_is Four n small = fixed _ _ refl
family_is Six n small = fixed _ _ refl

from_word : IsGoodWord (codes "from")
unfolding is_solid
from_word = fixed _ _ refl

to_word : IsGoodWord (codes "to")
unfolding is_solid
to_word = fixed _ _ refl

body_are : (b : Body) → IsBodyForm b → AreWords (body_words b)
body_are b form =
    let end : AreWords (port_words b.destination_ports ++ options_words b) = all_append IsGoodWord (port_words b.destination_ports) (options_words b) (ports_are b.destination_ports form.destination_ports) (placed_are b.options b.state b.state_at form.placed) in
    let target : AreWords (addr_words b.destination ++ (port_words b.destination_ports ++ options_words b)) = all_append IsGoodWord (addr_words b.destination) (port_words b.destination_ports ++ options_words b) (items_are b.destination.negated b.destination.items form.destination) end in
    let ports : AreWords (port_words b.source_ports ++ (codes "to" ∷ (addr_words b.destination ++ (port_words b.destination_ports ++ options_words b)))) =
    all_append IsGoodWord (port_words b.source_ports) (codes "to" ∷ (addr_words b.destination ++ (port_words b.destination_ports ++ options_words b))) (ports_are b.source_ports form.source_ports) (to_word, target) in (
      family_is b.family b.protocol form.protocol,
      (from_word, all_append IsGoodWord (addr_words b.source) (port_words b.source_ports ++ (codes "to" ∷ (addr_words b.destination ++ (port_words b.destination_ports ++ options_words b)))) (items_are b.source.negated b.source.items form.source) ports),
    )

names_are : AreWords unreach_names
unfolding unreach_names is_solid
names_are = (
  fixed _ _ refl,
  (fixed _ _ refl, (fixed _ _ refl, (fixed _ _ refl, (fixed _ _ refl, (fixed _ _ refl, (fixed _ _ refl, (fixed _ _ refl, (fixed _ _ refl, (fixed _ _ refl, (fixed _ _ refl, (fixed _ _ refl, (fixed _ _ refl, (fixed _ _ refl, (fixed _ _ refl, (fixed _ _ refl, tt))))))))))))))),
)

entry_is : (names : WordTexts) (k : ℕ) (other : List ℕ) → AreWords names → IsGoodWord other → IsGoodWord (unwrap_or (slice_get names k) other)
entry_is [] k other all last = last
entry_is (name ∷ names) zero other all last = all.0
entry_is (name ∷ names) (suc k) other all last = entry_is names k other all.1 last

code_is : (n : ℕ) → n ≤ 255 → IsGoodWord (code_word n)
unfolding code_word
code_is n small = entry_is unreach_names n (decimal n) names_are (decimal_word n (omega arith))

looked_up_are : (flow : Option (List ℕ)) → IfSome flow IsFlowForm → AreWords (looked_up_words flow)
unfolding is_solid
looked_up_are None form = (fixed _ _ refl, tt)
looked_up_are (Some name) form = flow_are name form

set_are : (n : ℕ) → n ≤ 31 → AreWords (set_words n)
unfolding is_solid
set_are n small = elim (n == 0) as (λ b. AreWords (if b then [] else codes "set" ∷ decimal n ∷ [])) [ true ↦ tt | false ↦ (fixed _ _ refl, (decimal_word n (omega arith), tt)) ]

log_are : (logged : Option ℕ) → IfSome logged IsValue → AreWords (log_words logged)
unfolding is_solid
log_are None form = tt
log_are (Some n) form = elim (n == 0) as (λ b. AreWords (if b then codes "log" ∷ [] else codes "log" ∷ codes "logamount" ∷ decimal n ∷ [])) [
  | true ↦ (fixed _ _ refl, tt)
  | false ↦ (fixed _ _ refl, (fixed _ _ refl, (decimal_word n (omega (arith, form)), tt)))
]

behind_are : (logged : Option ℕ) (asked : Option Body) → HasBehind logged asked → AreWords (log_words logged ++ optional_body asked)
behind_are logged None form = absurd form.asked
behind_are logged (Some b) form = all_append IsGoodWord (log_words logged) (body_words b) (log_are logged form.amount) (body_are b form.asked)

-- an action's words and those behind them
check_are : (flow : Option (List ℕ)) (logged : Option ℕ) (asked : Option Body) → HasForm (CheckState flow) logged asked → AreWords (action_words (CheckState flow) ++ (log_words logged ++ optional_body asked))
unfolding is_solid
check_are flow None None form = (fixed _ _ refl, all_append IsGoodWord (looked_up_words flow) [] (looked_up_are flow form.0) tt)
check_are flow None (Some b) form = absurd form.2
check_are flow (Some n) asked form = absurd form.1

rest_are : (a : Action) (logged : Option ℕ) (asked : Option Body) → IsAction a → HasForm a logged asked → AreWords (action_words a ++ (log_words logged ++ optional_body asked))
unfolding is_solid
rest_are Allow logged asked good form = (fixed _ _ refl, behind_are logged asked form)
rest_are Deny logged asked good form = (fixed _ _ refl, behind_are logged asked form)
rest_are Reset logged asked good form = (fixed _ _ refl, behind_are logged asked form)
rest_are (Unreach n) logged asked good form = (fixed _ _ refl, (code_is n good, behind_are logged asked form))
rest_are Count logged asked good form = (fixed _ _ refl, behind_are logged asked form)
rest_are (SkipTo n) logged asked good form = (fixed _ _ refl, (decimal_word n (omega (arith, good.most_ge)), behind_are logged asked form))
rest_are (Call n) logged asked good form = (fixed _ _ refl, (decimal_word n (omega (arith, good.most_ge)), behind_are logged asked form))
rest_are Return logged asked good form = (fixed _ _ refl, behind_are logged asked form)
rest_are (CheckState flow) logged asked good form = check_are flow logged asked form

-- the words of a rule are words
pub rule_are : (r : Rule) → r.number ≤ 65535 → r.set ≤ 31 → IsAction r.action → HasForm r.action r.log r.body → AllByRecursion IsGoodWord (rule_words r)
rule_are r small in_set good form = (
  five_word r.number small,
  all_append IsGoodWord (set_words r.set) (action_words r.action ++ (log_words r.log ++ optional_body r.body)) (set_are r.set in_set)
      (rest_are r.action r.log r.body good form),
)

-- `add` is a good word
pub add_word : IsGoodWord (codes "add")
unfolding is_solid
add_word = fixed _ _ refl
