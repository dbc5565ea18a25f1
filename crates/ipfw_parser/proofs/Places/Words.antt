-- Each fault of a reading stands where a word begins, or at the end: what is read of one word.
use Rattle.std.proofs.Common.{◌≡◌, ℕ, ◌-◌, ◌^◌, Bool, true, false, ◌&&◌, ◌||◌, ◌==◌, nat_le, nat_eq, if◌then◌else◌, Option, Some, None, Result, Ok, Err, List, [], ◌∷◌, length, take, drop, codes, refl, sym, inl, inr, subst}
use Rattle.std.specs.Prelude.{bit_and, bit_or, ⊤}
use Rattle.std.specs.List.{starts_with}
use Rattle.fw_rule.specs.Names.{unreach_names, flag_names, option_names}
use Rattle.fw_rule.specs.TypeSet.{no_types, with_type}
use Rattle.fw_rule.specs.declared.type_set.TypeSet.{TypeSet}
use Rattle.ipfw_parser.specs.declared.kind.Kind.{Kind}
use Rattle.ipfw_parser.specs.declared.kind.Kind.TheVariants.{BadAddress, BadPrefix}
use Rattle.ipfw_parser.specs.Reading.{Word, Fault, WordReading, ◌>>=◌, same, first}
use Rattle.ipfw_parser.specs.Numbers.{number, number_by, set_number, starts_with_digit, decimal, up_to}
use Rattle.ipfw_parser.specs.Names.{is_name, table_name, named_flow, ends_with_star, iface, place, service, found_word, word_in, code}
use Rattle.ipfw_parser.specs.Lists.{elements, elements_outside, each_element, type_mask, types, type_set, types6, Masks, with_sign, found_flag, bare_name, is_negated, sign_masks, signs}
use Rattle.ipfw_parser.specs.Parts.{part_before, part_behind, found_or}
use Rattle.ipfw_parser.specs.Addresses6.{address6_in, address6, prefix6_length, prefix6, has_colon}
use Rattle.ipfw_parser.specs.Addresses.{address_in, found_address, address, found_length, prefix_length, prefix, part_len, closes, starts_with_comma, table_value, table_end, table_item, item, items}
use Rattle.ipfw_parser.specs.Ports.{found_port, port_by, port, range_to, range, ranges}
use Rattle.ipfw_parser.specs.Options.{field, limit_mask, test_of}
use Rattle.ipfw_parser.specs.Rules.{names_version, protocol}
use Rattle.ipfw_parser.specs.Places.{IsColumn}

-- a value, or a fault at this column
abbrev pub At : {X : Type 0} → ℕ → Result X Fault → Type 0
At column (Ok x) = ⊤
At column (Err fault) = fault.column ≡ column

-- a value of which this holds, or a fault at a word or at the end
abbrev pub Told : {X : Type 0} → ℕ → List Word → (X → Type 0) → Result X Fault → Type 0
Told end words Q (Ok x) = Q x
Told end words Q (Err fault) = IsColumn end words fault.column

-- the words of the one list begin where words of the other do
abbrev pub Within : ℕ → List Word → List Word → Type 0
Within end rest words = (column : ℕ) → IsColumn end rest column → IsColumn end words column

-- any value
abbrev pub Any : {X : Type 0} → X → Type 0
Any x = ⊤

-- a reading's value, before words of the list
abbrev pub Rest : {X : Type 0} → ℕ → List Word → X × List Word → Type 0
Rest end words read = Within end read.1 words

-- two readings at one column, one after the other, have their fault at that column
pub bind_at : {X Y : Type 0} (column : ℕ) (r : Result X Fault) (f : X → Result Y Fault) → At column r → ((x : X) → At column (f x)) → At column (r >>= f)
bind_at column (Ok x) f p q = q x
bind_at column (Err e) f p q = p

-- a reading on either of two branches has its fault at the column of both
pub if_at : {X : Type 0} (column : ℕ) (b : Bool) (r s : Result X Fault) → At column r → At column s → At column (if b then r else s)
if_at column true r s p q = p
if_at column false r s p q = q

-- a reading in two steps has its fault at a word or at the end, where each step has
pub bind_told : {X Y : Type 0} (end : ℕ) (words : List Word) (r : Result X Fault) (f : X → Result Y Fault) (P : X → Type 0) (Q : Y → Type 0) → Told end words P r → ((x : X) → P x → Told end words Q (f x)) → Told end words Q (r >>= f)
bind_told end words (Ok x) f P Q p q = q x p
bind_told end words (Err e) f P Q p q = p

-- a reading on either of two branches has its fault at a word or at the end, where both have
pub if_told : {X : Type 0} (end : ℕ) (words : List Word) (b : Bool) (r s : Result X Fault) (Q : X → Type 0) → Told end words Q r → Told end words Q s → Told end words Q (if b then r else s)
if_told end words true r s Q p q = p
if_told end words false r s Q p q = q

-- a fault at a word's column
at_word : {X : Type 0} (end : ℕ) (words : List Word) (column : ℕ) (r : Result X Fault) → IsColumn end words column → At column r → Told end words Any r
at_word end words column (Ok x) here p = tt
at_word end words column (Err fault) here p = let e : column ≡ fault.column = sym p in subst (IsColumn end words) e here

-- a reading of one word, and then of others, has its fault at a word or at the end
pub bind_word : {X Y : Type 0} (end : ℕ) (words : List Word) (column : ℕ) (r : Result X Fault) (f : X → Result Y Fault) (Q : Y → Type 0) → IsColumn end words column → At column r → ((x : X) → Told end words Q (f x)) → Told end words Q (r >>= f)
bind_word end words column r f Q here p q = bind_told end words r f Any Q (at_word end words column r here p) (λ x u. q x)

-- what is told of fewer words
pub told_more : {X : Type 0} (end : ℕ) (rest words : List Word) (r : Result X Fault) → Within end rest words → Told end rest Any r → Told end words Any r
told_more end rest words (Ok x) more p = tt
told_more end rest words (Err fault) more p = more fault.column p

-- what is read of fewer words leaves words of the whole list, or has its fault at one of them
pub rest_more : {X : Type 0} (end : ℕ) (rest words : List Word) (r : WordReading X) → Within end rest words → Told end rest (Rest end rest) r → Told end words (Rest end words) r
rest_more end rest words (Ok read) more p = λ column here. more column (p column here)
rest_more end rest words (Err fault) more p = more fault.column p

-- the words of a list begin where words of this list do
pub all_words : (end : ℕ) (words : List Word) → Within end words words
all_words end words column here = here

-- the words behind the first begin where words of the whole list do
pub one_less : (end : ℕ) (word : Word) (words : List Word) → Within end words (word ∷ words)
one_less end word words column here = inr here

-- the next word, and what is read behind it
pub after_first : {Y : Type 0} (end : ℕ) (words : List Word) (f : Word × List Word → Result Y Fault) (Q : Y → Type 0)
    → ((next : Word × List Word) → IsColumn end words next.0.column → Within end next.1 words → Told end words Q (f next)) → Told end words Q (first end words >>= f)
unfolding first
after_first end [] f Q step = refl
after_first end (word ∷ words) f Q step = step (word, words) (inl refl) (one_less end word words)

-- the same, where the words are the next word and the rest
pub first_told : {Y : Type 0} (end : ℕ) (words : List Word) (f : Word × List Word → Result Y Fault) (Q : Y → Type 0)
    → ((word : Word) (rest : List Word) → Told end (word ∷ rest) Q (f (word, rest))) → Told end words Q (first end words >>= f)
unfolding first
first_told end [] f Q each_word = refl
first_told end (word ∷ words) f Q each_word = each_word word words

-- the same, with one word in front of the words
pub bind_first : {Y : Type 0} (end : ℕ) (front : Word) (words : List Word) (f : Word × List Word → Result Y Fault) (Q : Y → Type 0)
    → ((next : Word × List Word) → IsColumn end (front ∷ words) next.0.column → Within end next.1 (front ∷ words) → Told end (front ∷ words) Q (f next)) → Told end (front ∷ words) Q (first end words >>= f)
unfolding first
bind_first end front [] f Q each_next = inr refl
bind_first end front (word ∷ words) f Q each_next = each_next (word, words) (inr (inl refl)) (λ column here. inr (inr here))

-- readings of a word
pub number_at : (least most : ℕ) (word : Word) → At word.column (number least most word)
unfolding number
number_at least most word = by (decimal 10 word.text)
  where
    by : (o : Option ℕ) → At word.column (number_by least most word.column o)
    by None = refl
    by (Some n) = if_at word.column (nat_le least n && nat_le n most) _ _ tt refl

-- the fault of a set's number stands where its word begins
pub set_at : (word : Word) → At word.column (set_number word)
unfolding set_number
set_at word = if_at word.column (starts_with_digit word.text) _ _ (number_at 0 31 word) refl

-- the fault of a table's name stands where its word begins
pub name_at : (word : Word) → At word.column (table_name word)
unfolding table_name
name_at word = if_at word.column (is_name 63 word.text) _ _ tt refl

-- the fault of a flow's name stands where its word begins
pub flow_at : (word : Word) → At word.column (named_flow word)
unfolding named_flow
flow_at word = if_at word.column (is_name 63 (drop 1 word.text)) _ _ tt refl

iface_at : (word : Word) → At word.column (iface word)
unfolding iface
iface_at word =
    if_at word.column (same word.text (codes "any")) _ _ tt
    (if_at word.column (ends_with_star word.text) _ _
    (if_at word.column (is_name 15 (take (length word.text - 1) word.text)) _ _ tt refl)
    (if_at word.column (is_name 15 word.text) _ _ tt refl))

-- the fault of a code of `unreach` stands where its word begins
pub code_at : (word : Word) → At word.column (code word)
unfolding code word_in
code_at word = if_at word.column (starts_with_digit word.text) _ _ (number_at 0 255 word) (by (place unreach_names word.text))
  where
    by : (o : Option ℕ) → At word.column (found_word word o)
    by None = refl
    by (Some k) = tt

each_at : {X : Type 0} (read : Word → Result X Fault) → ((word : Word) → At word.column (read word)) → (column : ℕ) (texts : List (List ℕ)) → At column (each_element read column texts)
unfolding each_element
each_at read on column [] = tt
each_at read on column (text ∷ texts) =
    bind_at column (read (record { column = column; text = text })) _ (on (record { column = column; text = text })) (λ x.
    bind_at column (each_element read column texts) _ (each_at read on column texts) (λ xs. tt))

mask_at : (mask column : ℕ) (texts : List (List ℕ)) → At column (type_mask mask column texts)
unfolding type_mask
mask_at mask column [] = tt
mask_at mask column (text ∷ texts) = bind_at column (number 0 31 (record { column = column; text = text })) _ (number_at 0 31 (record { column = column; text = text })) (λ n. mask_at (bit_or mask (2 ^ n)) column texts)

types_at : (word : Word) → At word.column (types word)
unfolding types
types_at word = mask_at 0 word.column (elements word.text)

type_set_at : (set : TypeSet) (column : ℕ) (texts : List (List ℕ)) → At column (type_set set column texts)
unfolding type_set
type_set_at set column [] = tt
type_set_at set column (text ∷ texts) = bind_at column (number 0 255 (record { column = column; text = text })) _ (number_at 0 255 (record { column = column; text = text })) (λ n. type_set_at (with_type set n) column texts)

types6_at : (word : Word) → At word.column (types6 word)
unfolding types6
types6_at word = type_set_at no_types word.column (elements word.text)

flag_at : (column : ℕ) (o : Option ℕ) → At column (found_flag column o)
flag_at column None = refl
flag_at column (Some k) = tt

sign_masks_at : (names : List (List ℕ)) (masks : Masks) (column : ℕ) (texts : List (List ℕ)) → At column (sign_masks names masks column texts)
unfolding sign_masks
sign_masks_at names masks column [] = tt
sign_masks_at names masks column (text ∷ texts) = bind_at column (found_flag column (place names (bare_name text))) _ (flag_at column (place names (bare_name text))) (λ k. sign_masks_at names (with_sign masks (is_negated text) k) column texts)

signs_at : (names : List (List ℕ)) (word : Word) → At word.column (signs names word)
unfolding signs
signs_at names word =
    bind_at word.column (sign_masks names (record { set = 0; clear = 0 }) word.column (elements word.text)) _ (sign_masks_at names (record { set = 0; clear = 0 }) word.column (elements word.text)) (λ masks.
    if_at word.column (bit_and masks.set masks.clear == 0) _ _ tt refl)

-- the fault of an address stands where its word begins
pub address_at : (word : Word) → At word.column (address word)
unfolding address
address_at word = by (address_in word.text)
  where
    by : (o : Option ℕ) → At word.column (found_address word.column o)
    by None = refl
    by (Some a) = tt

length_at : (column : ℕ) (rest : Option (List ℕ)) → At column (prefix_length column rest)
length_at column None = tt
length_at column (Some text) = by (up_to 32 (decimal 10 text))
  where
    by : (o : Option ℕ) → At column (found_length column o)
    by None = refl
    by (Some n) = tt

-- the fault of a prefix stands where its word begins
pub prefix_at : (word : Word) → At word.column (prefix word)
unfolding prefix
prefix_at word =
    bind_at word.column (address (record { column = word.column; text = part_before 47 word.text })) _ (address_at (record { column = word.column; text = part_before 47 word.text })) (λ a.
    bind_at word.column (prefix_length word.column (part_behind 47 word.text)) _ (length_at word.column (part_behind 47 word.text)) (λ bits. tt))

or_at : {X : Type 0} (kind : Kind) (column : ℕ) (o : Option X) → At column (found_or kind column o)
or_at kind column None = refl
or_at kind column (Some x) = tt

address6_at : (word : Word) → At word.column (address6 word)
unfolding address6
address6_at word = or_at BadAddress word.column (address6_in word.text)

length6_at : (column : ℕ) (rest : Option (List ℕ)) → At column (prefix6_length column rest)
length6_at column None = tt
length6_at column (Some text) = or_at BadPrefix column (up_to 128 (decimal 10 text))

prefix6_at : (word : Word) → At word.column (prefix6 word)
unfolding prefix6
prefix6_at word =
    bind_at word.column (address6 (record { column = word.column; text = part_before 47 word.text })) _ (address6_at (record { column = word.column; text = part_before 47 word.text })) (λ a.
    bind_at word.column (prefix6_length word.column (part_behind 47 word.text)) _ (length6_at word.column (part_behind 47 word.text)) (λ bits. tt))

value_at : (name : List ℕ) (word : Word) → At word.column (table_value name word)
unfolding table_value
value_at name word =
    bind_at word.column (number 0 4294967295 (record { column = word.column; text = take (part_len word.text) word.text })) _ (number_at 0 4294967295 (record { column = word.column; text = take (part_len word.text) word.text })) (λ v.
    if_at word.column (closes (drop (part_len word.text) word.text)) _ _ tt refl)

end_at : (name : List ℕ) (word : Word) → At word.column (table_end name word)
unfolding table_end
end_at name word =
    if_at word.column (closes word.text) _ _ tt
    (if_at word.column (starts_with_comma word.text) _ _ (value_at name (record { column = word.column; text = drop 1 word.text })) refl)

table_at : (word : Word) → At word.column (table_item word)
unfolding table_item
table_at word =
    bind_at word.column (table_name (record { column = word.column; text = take (part_len word.text) word.text })) _ (name_at (record { column = word.column; text = take (part_len word.text) word.text })) (λ name.
    end_at name (record { column = word.column; text = drop (part_len word.text) word.text }))

item_at : (word : Word) → At word.column (item word)
unfolding item
item_at word =
    if_at word.column (same word.text (codes "any")) _ _ tt
    (if_at word.column (same word.text (codes "me")) _ _ tt
    (if_at word.column (starts_with nat_eq word.text (codes "table(")) _ _ (table_at (record { column = word.column; text = drop 6 word.text }))
    (if_at word.column (has_colon word.text) _ _
    (bind_at word.column (prefix6 word) _ (prefix6_at word) (λ n. tt))
    (bind_at word.column (prefix word) _ (prefix_at word) (λ n. tt)))))

-- the fault of a list of addresses stands where its word begins
pub items_at : (word : Word) → At word.column (items word)
unfolding items
items_at word = each_at item item_at word.column (elements_outside false word.text)

found_port_at : (column : ℕ) (o : Option ℕ) → At column (found_port column o)
found_port_at column None = refl
found_port_at column (Some p) = tt

port_by_at : (word : Word) (o : Option ℕ) → At word.column (port_by word o)
port_by_at word None = found_port_at word.column (up_to 65535 (decimal 10 word.text))
port_by_at word (Some p) = tt

port_at : (word : Word) → At word.column (port word)
unfolding port
port_at word = port_by_at word (service word.text)

range_to_at : (column low : ℕ) (rest : Option (List ℕ)) → At column (range_to column low rest)
range_to_at column low None = tt
range_to_at column low (Some text) =
    bind_at column (port (record { column = column; text = text })) _ (port_at (record { column = column; text = text })) (λ high. if_at column (nat_le low high) _ _ tt refl)

range_at : (word : Word) → At word.column (range word)
unfolding range
range_at word =
    bind_at word.column (port (record { column = word.column; text = part_before 45 word.text })) _ (port_at (record { column = word.column; text = part_before 45 word.text })) (λ low. range_to_at word.column low (part_behind 45 word.text))

-- the fault of a list of port ranges stands where its word begins
pub ranges_at : (word : Word) → At word.column (ranges word)
unfolding ranges
ranges_at word = each_at range range_at word.column (elements word.text)

-- the fault of a field that a table is asked for stands where its word begins
pub field_at : (word : Word) → At word.column (field word)
unfolding field
field_at word =
    if_at word.column (same word.text (codes "src-ip")) _ _ tt
    (if_at word.column (same word.text (codes "dst-ip")) _ _ tt
    (if_at word.column (same word.text (codes "src-port")) _ _ tt
    (if_at word.column (same word.text (codes "dst-port")) _ _ tt refl)))

-- the fault of what a limit counts by stands where its word begins
pub limit_mask_at : (word : Word) → At word.column (limit_mask word)
unfolding limit_mask
limit_mask_at word =
    if_at word.column (same word.text (codes "src-addr")) _ _ tt
    (if_at word.column (same word.text (codes "src-port")) _ _ tt
    (if_at word.column (same word.text (codes "dst-addr")) _ _ tt
    (if_at word.column (same word.text (codes "dst-port")) _ _ tt refl)))

-- the fault of a test stands where its name or its argument begins
pub test_of_in : (end : ℕ) (words : List Word) (name word : Word) → IsColumn end words name.column → IsColumn end words word.column → Told end words Any (test_of name word)
unfolding test_of
test_of_in end words name word named here =
    if_told end words (same name.text (codes "recv")) _ _ Any (bind_word end words word.column (iface word) _ Any here (iface_at word) (λ i. tt))
    (if_told end words (same name.text (codes "xmit")) _ _ Any (bind_word end words word.column (iface word) _ Any here (iface_at word) (λ i. tt))
    (if_told end words (same name.text (codes "via")) _ _ Any (bind_word end words word.column (iface word) _ Any here (iface_at word) (λ i. tt))
    (if_told end words (same name.text (codes "tcpflags")) _ _ Any (bind_word end words word.column (signs flag_names word) _ Any here (signs_at flag_names word) (λ m. tt))
    (if_told end words (same name.text (codes "icmptypes")) _ _ Any (bind_word end words word.column (types word) _ Any here (types_at word) (λ m. tt))
    (if_told end words (same name.text (codes "icmp6types")) _ _ Any (bind_word end words word.column (types6 word) _ Any here (types6_at word) (λ s. tt))
    (if_told end words (same name.text (codes "ipoptions")) _ _ Any (bind_word end words word.column (signs option_names word) _ Any here (signs_at option_names word) (λ m. tt)) named))))))

-- the fault of a protocol stands where its word begins
pub protocol_at : (word : Word) → At word.column (protocol word)
unfolding protocol
protocol_at word =
    if_at word.column (names_version word.text) _ _ tt
    (if_at word.column (starts_with_digit word.text) _ _ (number_at 0 255 word)
    (if_at word.column (same word.text (codes "ip") || same word.text (codes "all")) _ _ tt
    (if_at word.column (same word.text (codes "icmp")) _ _ tt
    (if_at word.column (same word.text (codes "tcp")) _ _ tt
    (if_at word.column (same word.text (codes "udp")) _ _ tt
    (if_at word.column (same word.text (codes "ipv6-icmp")) _ _ tt refl))))))
