-- The addresses, tables and ports that are read.
use Rattle.std.proofs.Common.{◌≡◌, ℕ, ◌-◌, ◌^◌, ◌<◌, ◌≤◌, zero, suc, true, false, nat_le, nat_eq, Some, None, Option, Result, Ok, Err, List, ◌∷◌, length, take, drop, codes, refl, sym, ap, arith, subst, []}
use Rattle.std.specs.Prelude.{IfOk, IfSome, ⊤, slice_get, option_and_then}
use Rattle.std.specs.List.{AllByRecursion, starts_with}
use Rattle.std.specs.Int.{w32, from_be_bytes}
use Rattle.std.proofs.Math.Nat.{div-mul-le_self}
use Rattle.std.proofs.lemmas.Bool.{leb-true}
use Rattle.fw_base.specs.Prefix.{network, size_of, IsNetwork}
use Rattle.fw_base.specs.Prefix6.{IsNetwork6}
use Rattle.ipfw_parser.specs.Addresses6.{has_colon, prefix6}
use Rattle.fw_base.proofs.Networks.{IsNetwork-network}
use Rattle.fw_rule.specs.WellFormed.{IsFromTo, IsRange}
use Rattle.fw_rule.specs.declared.addr_item.AddrItem.TheVariants.{Any, Me, Net, Net6, InTable, TableValue}
use Rattle.fw_rule.specs.declared.port_list.PortList.{PortList}
use Rattle.fw_rule.specs.declared.iface.Iface.TheVariants.{AnyIface, Exact, Begins}
use Rattle.ipfw_parser.specs.declared.kind.Kind.TheVariants.{BadName, BadAddress, BadRange}
use Rattle.ipfw_parser.specs.Reading.{Word, Fault, WordReading, fault_at, same, first, negation}
use Rattle.ipfw_parser.specs.Numbers.{number, up_to, decimal}
use Rattle.ipfw_parser.specs.Names.{is_name, table_name, ends_with_star, iface, place, service, service_names, service_ports}
use Rattle.ipfw_parser.specs.Lists.{each_element}
use Rattle.ipfw_parser.specs.Addresses.{part_before, part_behind, octet_in, with_rest, octet_and_dot, address_in, found_address, address, found_length, prefix_length, prefix, part_len, closes, starts_with_comma, table_value, table_end, table_item, net_item, net6_item, item, items, addr_spec}
use Rattle.ipfw_parser.specs.Ports.{found_port, port_by, port, range_to, range, ranges, port_list, some_ports, source_ports, destination_ports, begin_with_ports}
use Rattle.ipfw_parser.specs.Forms.{IsItemForm, IsListForm, IsIfaceForm}
use Rattle.ipfw_parser.proofs.Steps.Cuts.{elements_first, outside_first}
use Rattle.ipfw_parser.proofs.Forms.Numbers.{number_on, up_to_on}
use Rattle.ipfw_parser.proofs.Forms.Items6.{prefix6_on}
use Rattle.ipfw_parser.proofs.Forms.Following.{some_bind, on_bind, on_if, weaker, any_on}

octet_on : (text : List ℕ) → IfSome (octet_in text) (λ n. n ≤ 255)
unfolding octet_in
octet_on text = up_to_on 255 (decimal 3 text)

rest_on : (o : Option ℕ) (rest : Option (List ℕ)) → IfSome o (λ n. n ≤ 255) → IfSome (with_rest o rest) (λ p. p.0 ≤ 255)
rest_on None rest p = tt
rest_on (Some n) None p = tt
rest_on (Some n) (Some rest) p = p

dot_on : (text : List ℕ) → IfSome (octet_and_dot text) (λ p. p.0 ≤ 255)
unfolding octet_and_dot
dot_on text = rest_on (octet_in (part_before 46 text)) (part_behind 46 text) (octet_on (part_before 46 text))

worth : (a b c d : ℕ) → a ≤ 255 → b ≤ 255 → c ≤ 255 → d ≤ 255 → from_be_bytes w32 (a ∷ b ∷ c ∷ d ∷ []) < 2 ^ 32
worth a b c d sa sb sc sd = omega arith

address_in_on : (text : List ℕ) → IfSome (address_in text) (λ a. a < 2 ^ 32)
unfolding address_in
address_in_on text =
    some_bind (octet_and_dot text) _ (λ p. p.0 ≤ 255) (λ n. n < 2 ^ 32) (dot_on text) (λ a sa.
    some_bind (octet_and_dot a.1) _ (λ p. p.0 ≤ 255) (λ n. n < 2 ^ 32) (dot_on a.1) (λ b sb.
    some_bind (octet_and_dot b.1) _ (λ p. p.0 ≤ 255) (λ n. n < 2 ^ 32) (dot_on b.1) (λ c sc.
    some_bind (octet_in c.1) _ (λ n. n ≤ 255) (λ n. n < 2 ^ 32) (octet_on c.1) (λ d sd. worth a.0 b.0 c.0 d sa sb sc sd))))

found_on : (column : ℕ) (o : Option ℕ) (P : ℕ → Type 0) → IfSome o P → IfOk (found_address column o) P
found_on column None P p = tt
found_on column (Some a) P p = p

address_on : (word : Word) → IfOk (address word) (λ a. a < 2 ^ 32)
unfolding address
address_on word = found_on word.column (address_in word.text) (λ a. a < 2 ^ 32) (address_in_on word.text)

found_length_on : (column : ℕ) (o : Option ℕ) → IfSome o (λ n. n ≤ 32) → IfOk (found_length column o) (λ n. n ≤ 32)
found_length_on column None p = tt
found_length_on column (Some n) p = p

length_on : (column : ℕ) (rest : Option (List ℕ)) → IfOk (prefix_length column rest) (λ n. n ≤ 32)
length_on column None = omega arith
length_on column (Some text) = found_length_on column (up_to 32 (decimal 10 text)) (up_to_on 32 (decimal 10 text))

-- a prefix that is read has no host bits
pub prefix_on : (word : Word) → IfOk (prefix word) (λ n. IsNetwork n × (n.address < 2 ^ 32))
unfolding prefix
prefix_on word =
    on_bind (address (record { column = word.column; text = part_before 47 word.text })) _ (λ a. a < 2 ^ 32) (λ n. IsNetwork n × (n.address < 2 ^ 32)) (address_on (record { column = word.column; text = part_before 47 word.text })) (λ a small.
    on_bind (prefix_length word.column (part_behind 47 word.text)) (λ bits. Ok (network a bits)) (λ n. n ≤ 32) (λ n. IsNetwork n × (n.address < 2 ^ 32)) (length_on word.column (part_behind 47 word.text)) (λ bits within.
    (IsNetwork-network a bits within, omega (arith, small, div-mul-le_self a (size_of bits)))))

-- a table's name that is read has 1 to 63 bytes, each one that names may have
pub table_name_on : (word : Word) → IfOk (table_name word) (λ name. is_name 63 name ≡ true)
unfolding table_name
table_name_on word = on_if (is_name 63 word.text) (Ok word.text) (fault_at word.column BadName) (λ name. is_name 63 name ≡ true) (λ told. told) (λ _. tt)

value_on : (name : List ℕ) (word : Word) → is_name 63 name ≡ true → IfOk (table_value name word) IsItemForm
unfolding table_value
value_on name word told =
    on_bind (number 0 4294967295 (record { column = word.column; text = take (part_len word.text) word.text })) _ (λ n. IsFromTo 0 4294967295 n) IsItemForm (number_on 0 4294967295 (record { column = word.column; text = take (part_len word.text) word.text })) (λ v small.
    on_if (closes (drop (part_len word.text) word.text)) (Ok (TableValue name v)) (fault_at word.column BadAddress) IsItemForm (λ _. (told, small.most_ge)) (λ _. tt))

end_on : (name : List ℕ) (word : Word) → is_name 63 name ≡ true → IfOk (table_end name word) IsItemForm
unfolding table_end
end_on name word told =
    on_if (closes word.text) (Ok (InTable name)) _ IsItemForm (λ _. told) (λ _.
    on_if (starts_with_comma word.text) (table_value name (record { column = word.column; text = drop 1 word.text })) (fault_at word.column BadAddress) IsItemForm
    (λ _. value_on name (record { column = word.column; text = drop 1 word.text }) told) (λ _. tt))

table_on : (word : Word) → IfOk (table_item word) IsItemForm
unfolding table_item
table_on word =
    on_bind (table_name (record { column = word.column; text = take (part_len word.text) word.text })) _ (λ name. is_name 63 name ≡ true) IsItemForm (table_name_on (record { column = word.column; text = take (part_len word.text) word.text })) (λ name told.
    end_on name (record { column = word.column; text = drop (part_len word.text) word.text }) told)

item_on : (word : Word) → IfOk (item word) IsItemForm
unfolding item
item_on word =
    on_if (same word.text (codes "any")) (Ok Any) _ IsItemForm (λ _. tt) (λ _.
    on_if (same word.text (codes "me")) (Ok Me) _ IsItemForm (λ _. tt) (λ _.
    on_if (starts_with nat_eq word.text (codes "table(")) (table_item (record { column = word.column; text = drop 6 word.text })) _ IsItemForm
    (λ _. table_on (record { column = word.column; text = drop 6 word.text })) (λ _.
    on_if (has_colon word.text) (net6_item (prefix6 word)) (net_item (prefix word)) IsItemForm
    (λ _. on_bind (prefix6 word) (λ n. Ok (Net6 n)) (λ n. IsNetwork6 n × (n.address < 2 ^ 128)) IsItemForm (prefix6_on word) (λ n good. good))
    (λ _. on_bind (prefix word) (λ n. Ok (Net n)) (λ n. IsNetwork n × (n.address < 2 ^ 32)) IsItemForm (prefix_on word) (λ n good. good)))))

-- each element, and as many as there are texts
each_on : {X : Type 0} (read : Word → Result X Fault) (P : X → Type 0) → ((word : Word) → IfOk (read word) P) → (column : ℕ) (texts : List (List ℕ)) → IfOk (each_element read column texts) (λ xs. AllByRecursion P xs × (length xs ≡ length texts))
unfolding each_element
each_on read P on column [] = (tt, refl)
each_on read P on column (text ∷ texts) =
    on_bind (read (record { column = column; text = text })) _ P (λ xs. AllByRecursion P xs × (length xs ≡ length (text ∷ texts))) (on (record { column = column; text = text })) (λ x p.
    on_bind (each_element read column texts) (λ xs. Ok (x ∷ xs)) (λ xs. AllByRecursion P xs × (length xs ≡ length texts)) (λ xs. AllByRecursion P xs × (length xs ≡ length (text ∷ texts))) (each_on read P on column texts)
    (λ xs q. ((p, q.0), ap suc q.1)))

listed : {X : Type 0} (P : X → Type 0) (xs : List X) (text : List ℕ) (texts : List (List ℕ)) → AllByRecursion P xs × (length xs ≡ length (text ∷ texts)) → IsListForm P xs
listed P xs text texts q = record { some = omega (arith, q.1); each = q.0 }

some_items : (column : ℕ) (text : List ℕ) (texts : List (List ℕ)) → IfOk (each_element item column (text ∷ texts)) (λ xs. IsListForm IsItemForm xs)
some_items column text texts =
    weaker (each_element item column (text ∷ texts)) (λ xs. AllByRecursion IsItemForm xs × (length xs ≡ length (text ∷ texts))) (λ xs. IsListForm IsItemForm xs)
    (each_on item IsItemForm item_on column (text ∷ texts)) (λ xs q. listed IsItemForm xs text texts q)

items_on : (word : Word) → IfOk (items word) (λ xs. IsListForm IsItemForm xs)
unfolding items
items_on word = subst (λ texts. IfOk (each_element item word.column texts) (λ xs. IsListForm IsItemForm xs)) (sym (outside_first false word.text)) (some_items word.column _ _)

-- a list of addresses that is read has some element, and each of them in its form
pub addr_spec_on : (end : ℕ) (words : List Word) → IfOk (addr_spec end words) (λ r. IsListForm IsItemForm r.0.items)
unfolding addr_spec
addr_spec_on end words =
    on_bind (negation end words) _ (λ _. ⊤) (λ r. IsListForm IsItemForm r.0.items) (any_on (negation end words)) (λ negated _.
    on_bind (first end negated.1) _ (λ _. ⊤) (λ r. IsListForm IsItemForm r.0.items) (any_on (first end negated.1)) (λ list _.
    on_bind (items list.0) _ (λ xs. IsListForm IsItemForm xs) (λ r. IsListForm IsItemForm r.0.items) (items_on list.0) (λ xs form. form)))

get_on : (P : ℕ → Type 0) (xs : List ℕ) (k : ℕ) → AllByRecursion P xs → IfSome (slice_get xs k) P
get_on P [] k all = tt
get_on P (x ∷ xs) zero all = all.0
get_on P (x ∷ xs) (suc k) all = get_on P xs k all.1

and_then_on : (f : ℕ → Option ℕ) (o : Option ℕ) (P : ℕ → Type 0) → ((k : ℕ) → IfSome (f k) P) → IfSome (option_and_then f o) P
and_then_on f None P on = tt
and_then_on f (Some k) P on = on k

small_ports : AllByRecursion (λ p. p ≤ 65535) service_ports
unfolding service_ports
small_ports = (omega arith, (omega arith, (omega arith, (omega arith, (omega arith, (omega arith, (omega arith, (omega arith, (omega arith, (omega arith, (omega arith, (omega arith, (omega arith, (omega arith, (omega arith, (omega arith, tt))))))))))))))))

service_on : (text : List ℕ) → IfSome (service text) (λ p. p ≤ 65535)
unfolding service
service_on text = and_then_on (λ k. slice_get service_ports k) (place service_names text) (λ p. p ≤ 65535) (λ k. get_on (λ p. p ≤ 65535) service_ports k small_ports)

found_port_on : (column : ℕ) (o : Option ℕ) → IfSome o (λ p. p ≤ 65535) → IfOk (found_port column o) (λ p. p ≤ 65535)
found_port_on column None p = tt
found_port_on column (Some n) p = p

by_on : (word : Word) (o : Option ℕ) → IfSome o (λ p. p ≤ 65535) → IfOk (port_by word o) (λ p. p ≤ 65535)
by_on word None p = found_port_on word.column (up_to 65535 (decimal 10 word.text)) (up_to_on 65535 (decimal 10 word.text))
by_on word (Some n) p = p

port_on : (word : Word) → IfOk (port word) (λ p. p ≤ 65535)
unfolding port
port_on word = by_on word (service word.text) (service_on word.text)

to_on : (column low : ℕ) (rest : Option (List ℕ)) → low ≤ 65535 → IfOk (range_to column low rest) IsRange
to_on column low None small = (omega arith, small)
to_on column low (Some text) small =
    on_bind (port (record { column = column; text = text })) _ (λ p. p ≤ 65535) IsRange (port_on (record { column = column; text = text })) (λ high most.
    on_if (nat_le low high) (Ok (record { low = low; high = high })) (fault_at column BadRange) IsRange (λ told. (leb-true low high told, most)) (λ _. tt))

range_on : (word : Word) → IfOk (range word) IsRange
unfolding range
range_on word =
    on_bind (port (record { column = word.column; text = part_before 45 word.text })) _ (λ p. p ≤ 65535) IsRange (port_on (record { column = word.column; text = part_before 45 word.text })) (λ low small.
    to_on word.column low (part_behind 45 word.text) small)

some_ranges : (column : ℕ) (text : List ℕ) (texts : List (List ℕ)) → IfOk (each_element range column (text ∷ texts)) (λ xs. IsListForm IsRange xs)
some_ranges column text texts =
    weaker (each_element range column (text ∷ texts)) (λ xs. AllByRecursion IsRange xs × (length xs ≡ length (text ∷ texts))) (λ xs. IsListForm IsRange xs)
    (each_on range IsRange range_on column (text ∷ texts)) (λ xs q. listed IsRange xs text texts q)

ranges_on : (word : Word) → IfOk (ranges word) (λ xs. IsListForm IsRange xs)
unfolding ranges
ranges_on word = subst (λ texts. IfOk (each_element range word.column texts) (λ xs. IsListForm IsRange xs)) (sym (elements_first word.text)) (some_ranges word.column _ _)

-- a list of ports that is read has some range, and each of them in its form
port_list_on : (end : ℕ) (words : List Word) → IfOk (port_list end words) (λ r. IsListForm IsRange r.0.ranges)
unfolding port_list
port_list_on end words =
    on_bind (negation end words) _ (λ _. ⊤) (λ r. IsListForm IsRange r.0.ranges) (any_on (negation end words)) (λ negated _.
    on_bind (first end negated.1) _ (λ _. ⊤) (λ r. IsListForm IsRange r.0.ranges) (any_on (first end negated.1)) (λ list _.
    on_bind (ranges list.0) _ (λ xs. IsListForm IsRange xs) (λ r. IsListForm IsRange r.0.ranges) (ranges_on list.0) (λ xs form. form)))

-- ports that may be left out: where they are there, they are some ranges in their form
abbrev pub ArePorts : Option PortList → Type 0
ArePorts found = IfSome found (λ ports. IsListForm IsRange ports.ranges)

some_on : (reading : WordReading PortList) → IfOk reading (λ r. IsListForm IsRange r.0.ranges) → IfOk (some_ports reading) (λ r. ArePorts r.0)
some_on (Ok r) p = p
some_on (Err e) p = tt

-- behind source addresses no ports are read, or some ranges in their form
pub source_ports_on : (end : ℕ) (words : List Word) → IfOk (source_ports end words) (λ r. ArePorts r.0)
unfolding source_ports
source_ports_on end words =
    on_bind (first end words) _ (λ _. ⊤) (λ r. ArePorts r.0) (any_on (first end words)) (λ next _.
    on_if (same next.0.text (codes "to")) (Ok (None, words)) (some_ports (port_list end words)) (λ r. ArePorts r.0) (λ _. tt) (λ _. some_on (port_list end words) (port_list_on end words)))

-- behind destination addresses no ports are read, or some ranges in their form
pub destination_ports_on : (end : ℕ) (words : List Word) → IfOk (destination_ports end words) (λ r. ArePorts r.0)
unfolding destination_ports
destination_ports_on end words =
    on_if (begin_with_ports words) (some_ports (port_list end words)) (Ok (None, words)) (λ r. ArePorts r.0) (λ _. some_on (port_list end words) (port_list_on end words)) (λ _. tt)

-- an interface that is read is every one, or has a name, or a start of names, of 1 to 15 bytes
pub iface_on : (word : Word) → IfOk (iface word) IsIfaceForm
unfolding iface
iface_on word =
    on_if (same word.text (codes "any")) (Ok AnyIface) _ IsIfaceForm (λ _. tt) (λ other.
    on_if (ends_with_star word.text) _ _ IsIfaceForm
    (λ _. on_if (is_name 15 (take (length word.text - 1) word.text)) (Ok (Begins (take (length word.text - 1) word.text))) (fault_at word.column BadName) IsIfaceForm (λ told. told) (λ _. tt))
    (λ _. on_if (is_name 15 word.text) (Ok (Exact word.text)) (fault_at word.column BadName) IsIfaceForm (λ told. (told, other)) (λ _. tt)))
