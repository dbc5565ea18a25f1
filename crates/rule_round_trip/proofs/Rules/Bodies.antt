-- A rule in its canonical words is read again.
use Rattle.std.proofs.Common.{◌≡◌, ℕ, ◌+◌, ◌≤◌, zero, suc, Bool, true, false, ◌==◌, if◌then◌else◌, Some, None, Option, unwrap_or, Result, Ok, List, ◌∷◌, ◌++◌, map, codes, refl, sym, ap, ◌∙◌, arith, inl, inr, []}
use Rattle.std.specs.Prelude.{IfSome, ⊤, slice_get}
use Rattle.std.specs.List.{AllByRecursion, join_with_byte}
use Rattle.std.specs.Fmt.{decimal}
use Rattle.std.proofs.lemmas.Bool.Decides.{eqb_tells}
use Rattle.std.proofs.lemmas.List.{append-nil}
use Rattle.std.proofs.Math.Nat.{zero-add, add-zero}
use Rattle.fw_base.specs.PortRange.{Ports}
use Rattle.fw_rule.specs.Names.{unreach_names}
use Rattle.rule_text.specs.Canonical.{WordTexts, five_digits, code_word, action_words, looked_up_words, amount_words, log_words, set_words, protocol_word, family_word, item_text, list_words, addr_words, range_text, port_words, options_words, body_words, optional_body, rule_words}
use Rattle.fw_rule.specs.WellFormed.{IsAction, IsValue, IsRange}
use Rattle.fw_rule.specs.declared.action.Action.{Action}
use Rattle.fw_rule.specs.declared.action.Action.TheVariants.{Allow, Deny, Reset, Unreach, Count, SkipTo, Call, Return, CheckState}
use Rattle.fw_rule.specs.declared.addr_item.AddrItem.{AddrItem}
use Rattle.fw_rule.specs.declared.addr_item.AddrItem.TheVariants.{Any, Me, Net, Net6, InTable, TableValue}
use Rattle.rule_text.specs.Address6Text.{network6_text}
use Rattle.fw_rule.specs.declared.body.Family.{Family}
use Rattle.fw_rule.specs.declared.body.Family.TheVariants.{AnyIp, Four, Six}
use Rattle.fw_rule.specs.declared.addr_spec.AddrSpec.{AddrSpec}
use Rattle.fw_rule.specs.declared.port_list.PortList.{PortList}
use Rattle.fw_rule.specs.declared.body.Body.{Body}
use Rattle.fw_rule.specs.declared.rule.Rule.{Rule}
use Rattle.fw_rule.specs.declared.rule_draft.RuleDraft.{RuleDraft}
use Rattle.ipfw_parser.specs.Reading.{Word, Fault, WordReading, same, first, words_behind_word, negation}
use Rattle.ipfw_parser.specs.Numbers.{starts_with_digit}
use Rattle.ipfw_parser.specs.Names.{place, word_in, code}
use Rattle.ipfw_parser.specs.Addresses.{addr_spec}
use Rattle.ipfw_parser.specs.Ports.{port_list, some_ports, source_ports, looks_like_ports, begin_with_ports, destination_ports}
use Rattle.ipfw_parser.specs.Rules.{rule_number, set_behind, rule_set, plain_action, action, amount_behind, amount, log, family, names_version, protocol, body, check_end, check_state, matching_rule, rule}
use Rattle.ipfw_parser.specs.Addresses6.{has_colon}
use Rattle.ipfw_parser.specs.Forms.{IsItemForm, IsListForm, IsFamilyForm, IsFlowForm, IsBodyForm, HasBehind, HasForm}
use Rattle.rule_round_trip.proofs.Numbers.Decimal.{number_again}
use Rattle.rule_round_trip.proofs.Numbers.FiveDigits.{decimal_starts, set_again, five_again, five_starts}
use Rattle.rule_round_trip.proofs.Numbers.Digits.{not_same, starts_plain, starts_append}
use Rattle.rule_round_trip.proofs.Addresses.Items.{items_again, network_starts, colon_differs}
use Rattle.rule_round_trip.proofs.Addresses.Six.{network6_colon, colon_append}
use Rattle.rule_round_trip.proofs.Rules.Flows.{looked_up_again}
use Rattle.rule_round_trip.proofs.Addresses.Ports.{ranges_again}
use Rattle.ipfw_parser.proofs.Forms.Items.{ArePorts}
use Rattle.ipfw_parser.proofs.Forms.Rules.{IsBodied}
use Rattle.rule_round_trip.proofs.Rules.Options.{placed_again, placed_begin, not_not}
use Rattle.rule_round_trip.proofs.Words.Columns.{at_columns}
use Rattle.rule_round_trip.proofs.Lists.Sums.{further}

not_same_digit : (text : List ℕ) → starts_with_digit text ≡ true → same text (codes "not") ≡ false
not_same_digit text digit = not_same text (codes "not") digit refl

not_plain : has_colon (codes "not") ≡ false
unfolding has_colon
not_plain = refl

item_not : (x : AddrItem) (rest : List ℕ) → same (item_text x ++ rest) (codes "not") ≡ false
unfolding same
item_not Any rest = refl
item_not Me rest = refl
item_not (Net n) rest = not_same_digit (item_text (Net n) ++ rest) (starts_append (item_text (Net n)) rest (network_starts n))
item_not (Net6 n) rest = colon_differs (network6_text n ++ rest) (codes "not") (colon_append (network6_text n) rest (network6_colon n)) not_plain
item_not (InTable name) rest = refl
item_not (TableValue name value) rest = refl

items_not : (x : AddrItem) (xs : List AddrItem) → same (join_with_byte 44 (map item_text (x ∷ xs))) (codes "not") ≡ false
items_not x [] = ap (λ t. same t (codes "not")) (sym (append-nil (item_text x))) ∙ item_not x []
items_not x (y ∷ xs) = item_not x (44 ∷ join_with_byte 44 (map item_text (y ∷ xs)))

addrs_again : (negated : Bool) (x : AddrItem) (xs : List AddrItem) (c : List (List ℕ) → ℕ) (end : ℕ) (rest : WordTexts) → AllByRecursion IsItemForm (x ∷ xs)
    → addr_spec end (at_columns c (list_words negated (map item_text (x ∷ xs)) ++ rest)) ≡ Ok (record { negated = negated; items = x ∷ xs }, at_columns c rest)
unfolding addr_spec negation first
addrs_again true x xs c end rest form = rw (not_not, items_again x xs (c (join_with_byte 44 (map item_text (x ∷ xs)) ∷ rest)) form) refl
addrs_again false x xs c end rest form = rw (items_not x xs, items_again x xs (c (join_with_byte 44 (map item_text (x ∷ xs)) ∷ rest)) form) refl

listed_again : (negated : Bool) (xs : List AddrItem) (c : List (List ℕ) → ℕ) (end : ℕ) (rest : WordTexts) → IsListForm IsItemForm xs
    → addr_spec end (at_columns c (list_words negated (map item_text xs) ++ rest)) ≡ Ok (record { negated = negated; items = xs }, at_columns c rest)
listed_again negated [] c end rest form = absurd (omega (arith, form.some))
listed_again negated (x ∷ xs) c end rest form = addrs_again negated x xs c end rest form.each

addr_again : (spec : AddrSpec) (c : List (List ℕ) → ℕ) (end : ℕ) (rest : WordTexts) → IsListForm IsItemForm spec.items → addr_spec end (at_columns c (addr_words spec ++ rest)) ≡ Ok (spec, at_columns c rest)
addr_again spec c end rest form = listed_again spec.negated spec.items c end rest form

range_starts : (r : Ports) (rest : List ℕ) → IsRange r → starts_with_digit (range_text r ++ rest) ≡ true
unfolding range_text
range_starts r rest form =
    starts_append (decimal r.low ++ (if r.low == r.high then [] else 45 ∷ decimal r.high)) rest (starts_append (decimal r.low) (if r.low == r.high then [] else 45 ∷ decimal r.high) (decimal_starts r.low (omega (arith, form.0, form.1))))

ports_text : List Ports → List ℕ
ports_text rs = join_with_byte 44 (map range_text rs)

ranges_start : (r : Ports) (rs : List Ports) → IsRange r → starts_with_digit (ports_text (r ∷ rs)) ≡ true
unfolding ports_text
ranges_start r [] form = ap starts_with_digit (sym (append-nil (range_text r))) ∙ range_starts r [] form
ranges_start r (q ∷ rs) form = range_starts r (44 ∷ join_with_byte 44 (map range_text (q ∷ rs))) form

ports_read : (negated : Bool) (r : Ports) (rs : List Ports) (c : List (List ℕ) → ℕ) (end : ℕ) (rest : WordTexts) → AllByRecursion IsRange (r ∷ rs)
    → port_list end (at_columns c (list_words negated (map range_text (r ∷ rs)) ++ rest)) ≡ Ok (record { negated = negated; ranges = r ∷ rs }, at_columns c rest)
unfolding port_list negation first ports_text
ports_read true r rs c end rest form = rw (not_not, ranges_again r rs (c (join_with_byte 44 (map range_text (r ∷ rs)) ∷ rest)) form) refl
ports_read false r rs c end rest form =
    rw (not_same_digit (ports_text (r ∷ rs)) (ranges_start r rs form.0), ranges_again r rs (c (join_with_byte 44 (map range_text (r ∷ rs)) ∷ rest)) form) refl

not_to : same (codes "not") (codes "to") ≡ false
unfolding same
not_to = refl

source_some : (negated : Bool) (r : Ports) (rs : List Ports) (c : List (List ℕ) → ℕ) (end : ℕ) (rest : WordTexts) → AllByRecursion IsRange (r ∷ rs)
    → source_ports end (at_columns c (list_words negated (map range_text (r ∷ rs)) ++ rest)) ≡ Ok (Some (record { negated = negated; ranges = r ∷ rs }), at_columns c rest)
unfolding source_ports first ports_text
source_some true r rs c end rest form = rw not_to (ap some_ports (ports_read true r rs c end rest form))
source_some false r rs c end rest form =
    rw (not_same (ports_text (r ∷ rs)) (codes "to") (ranges_start r rs form.0) refl) (ap some_ports (ports_read false r rs c end rest form))

to_to : same (codes "to") (codes "to") ≡ true
unfolding same
to_to = refl

source_list : (negated : Bool) (rs : List Ports) (c : List (List ℕ) → ℕ) (end : ℕ) (rest : WordTexts) → IsListForm IsRange rs
    → source_ports end (at_columns c (list_words negated (map range_text rs) ++ rest)) ≡ Ok (Some (record { negated = negated; ranges = rs }), at_columns c rest)
source_list negated [] c end rest form = absurd (omega (arith, form.some))
source_list negated (r ∷ rs) c end rest form = source_some negated r rs c end rest form.each

source_again : (ports : Option PortList) (c : List (List ℕ) → ℕ) (end : ℕ) (rest : WordTexts) → ArePorts ports
    → source_ports end (at_columns c (port_words ports ++ (codes "to" ∷ rest))) ≡ Ok (ports, at_columns c (codes "to" ∷ rest))
unfolding source_ports first
source_again None c end rest form = rw to_to refl
source_again (Some ports) c end rest form = source_list ports.negated ports.ranges c end (codes "to" ∷ rest) form

looks : (text : List ℕ) → starts_with_digit text ≡ true → looks_like_ports text ≡ true
unfolding looks_like_ports
looks text digit = rw digit refl

begin_some : (negated : Bool) (r : Ports) (rs : List Ports) (c : List (List ℕ) → ℕ) (rest : WordTexts) → IsRange r → begin_with_ports (at_columns c (list_words negated (map range_text (r ∷ rs)) ++ rest)) ≡ true
unfolding begin_with_ports ports_text
begin_some true r rs c rest form = rw not_not (looks (ports_text (r ∷ rs)) (ranges_start r rs form))
begin_some false r rs c [] form = looks (ports_text (r ∷ rs)) (ranges_start r rs form)
begin_some false r rs c (word ∷ rest) form =
    rw (not_same_digit (ports_text (r ∷ rs)) (ranges_start r rs form)) (looks (ports_text (r ∷ rs)) (ranges_start r rs form))

target_list : (negated : Bool) (rs : List Ports) (c : List (List ℕ) → ℕ) (end : ℕ) (rest : WordTexts) → IsListForm IsRange rs
    → destination_ports end (at_columns c (list_words negated (map range_text rs) ++ rest)) ≡ Ok (Some (record { negated = negated; ranges = rs }), at_columns c rest)
unfolding destination_ports
target_list negated [] c end rest form = absurd (omega (arith, form.some))
target_list negated (r ∷ rs) c end rest form = rw (begin_some negated r rs c rest form.each.0) (ap some_ports (ports_read negated r rs c end rest form.each))

target_again : (ports : Option PortList) (c : List (List ℕ) → ℕ) (end : ℕ) (rest : WordTexts) → ArePorts ports → begin_with_ports (at_columns c rest) ≡ false
    → destination_ports end (at_columns c (port_words ports ++ rest)) ≡ Ok (ports, at_columns c rest)
unfolding destination_ports
target_again None c end rest form other = rw other refl
target_again (Some ports) c end rest form other = target_list ports.negated ports.ranges c end rest form

named : (column n k : ℕ) (name other : List ℕ) → protocol (record { column = column; text = name }) ≡ Ok k → protocol (record { column = column; text = other }) ≡ Ok n
    → protocol (record { column = column; text = if n == k then name else other }) ≡ Ok n
named column n k name other by_name by_other = elim (eqb_tells n k) [
  | inl h ↦ ap (λ b. protocol (record { column = column; text = if b then name else other })) h.0 ∙ by_name ∙ ap (λ m. let r : Result ℕ Fault = Ok m in r) (sym h.1)
  | inr h ↦ ap (λ b. protocol (record { column = column; text = if b then name else other })) h.0 ∙ by_other
]

ip_read : (column : ℕ) → protocol (record { column = column; text = codes "ip" }) ≡ Ok 0
unfolding protocol names_version family same starts_with_digit
ip_read column = refl

icmp_read : (column : ℕ) → protocol (record { column = column; text = codes "icmp" }) ≡ Ok 1
unfolding protocol names_version family same starts_with_digit
icmp_read column = refl

tcp_read : (column : ℕ) → protocol (record { column = column; text = codes "tcp" }) ≡ Ok 6
unfolding protocol names_version family same starts_with_digit
tcp_read column = refl

udp_read : (column : ℕ) → protocol (record { column = column; text = codes "udp" }) ≡ Ok 17
unfolding protocol names_version family same starts_with_digit
udp_read column = refl

no_version : (text : List ℕ) → starts_with_digit text ≡ true → names_version text ≡ false
unfolding names_version family
no_version text digit =
    rw (not_same text (codes "ip4") digit refl, not_same text (codes "ipv4") digit refl, not_same text (codes "ip6") digit refl, not_same text (codes "ipv6") digit refl) refl

number_read : (column n : ℕ) → n ≤ 255 → protocol (record { column = column; text = decimal n }) ≡ Ok n
unfolding protocol
number_read column n small = rw (no_version (decimal n) (decimal_starts n (omega arith)), decimal_starts n (omega arith)) (number_again 0 255 n column (omega arith) small (omega arith))

protocol_again : (n column : ℕ) → n ≤ 255 → protocol (record { column = column; text = protocol_word n }) ≡ Ok n
unfolding protocol_word
protocol_again n column small =
    named column n 0 (codes "ip") _ (ip_read column) (
    named column n 1 (codes "icmp") _ (icmp_read column) (
    named column n 6 (codes "tcp") _ (tcp_read column) (
    named column n 17 (codes "udp") (decimal n) (udp_read column) (number_read column n small))))

either : (b : Bool) (text other name : List ℕ) → same text name ≡ false → same other name ≡ false → same (if b then text else other) name ≡ false
either true text other name p q = p
either false text other name p q = q

-- a protocol's word is none that begins a log
protocol_other : (n : ℕ) (name : List ℕ) → n ≤ 255 → same (codes "ip") name ≡ false → same (codes "icmp") name ≡ false → same (codes "tcp") name ≡ false → same (codes "udp") name ≡ false → starts_plain name ≡ true
    → same (protocol_word n) name ≡ false
unfolding protocol_word
protocol_other n name small ip icmp tcp udp plain =
    either (n == 0) (codes "ip") _ name ip (
    either (n == 1) (codes "icmp") _ name icmp (
    either (n == 6) (codes "tcp") _ name tcp (
    either (n == 17) (codes "udp") (decimal n) name udp (not_same (decimal n) name (decimal_starts n (omega arith)) plain))))

four_read : (column : ℕ) → protocol (record { column = column; text = codes "ip4" }) ≡ Ok 0
unfolding protocol names_version family same
four_read column = refl

six_read : (column : ℕ) → protocol (record { column = column; text = codes "ip6" }) ≡ Ok 0
unfolding protocol names_version family same
six_read column = refl

-- the protocol of a version of IP
version_again : (f : Family) (n column : ℕ) → IsFamilyForm f n → n ≤ 255 → protocol (record { column = column; text = family_word f n }) ≡ Ok n
version_again AnyIp n column form small = protocol_again n column small
version_again Four n column form small = four_read column ∙ ap (λ m. let r : Result ℕ Fault = Ok m in r) (sym form)
version_again Six n column form small = six_read column ∙ ap (λ m. let r : Result ℕ Fault = Ok m in r) (sym form)

any_version : (n : ℕ) → n ≤ 255 → family (protocol_word n) ≡ AnyIp
unfolding family same
any_version n small = rw (
  protocol_other n (codes "ip4") small refl refl refl refl refl,
  protocol_other n (codes "ipv4") small refl refl refl refl refl,
  protocol_other n (codes "ip6") small refl refl refl refl refl,
  protocol_other n (codes "ipv6") small refl refl refl refl refl,
) refl

family_again : (f : Family) (n : ℕ) → n ≤ 255 → family (family_word f n) ≡ f
unfolding family same
family_again AnyIp n small = any_version n small
family_again Four n small = refl
family_again Six n small = refl

from_from : same (codes "from") (codes "from") ≡ true
unfolding same
from_from = refl

body_again : (b : Body) (c : List (List ℕ) → ℕ) (end : ℕ) → IsBodyForm b → body end (at_columns c (body_words b)) ≡ Ok b
unfolding body first words_behind_word
body_again b c end form =
    rw (
      version_again b.family b.protocol (c (body_words b)) form.family form.protocol,
      family_again b.family b.protocol form.protocol,
      from_from,
      addr_again b.source c end (port_words b.source_ports ++ (codes "to" ∷ (addr_words b.destination ++ (port_words b.destination_ports ++ options_words b)))) form.source,
      source_again b.source_ports c end (addr_words b.destination ++ (port_words b.destination_ports ++ options_words b)) form.source_ports,
      to_to,
      addr_again b.destination c end (port_words b.destination_ports ++ options_words b) form.destination,
      target_again b.destination_ports c end (options_words b) form.destination_ports (placed_begin c b.options b.state b.state_at),
      placed_again b.options b.state b.state_at end c form.placed,
    ) refl

-- names of codes from code k on
AreCodes : ℕ → List (List ℕ) → Type 0
AreCodes k [] = ⊤
AreCodes k (name ∷ names) = (place unreach_names name ≡ Some k) × (starts_with_digit name ≡ false) × AreCodes (k + 1) names

code_number : (column n : ℕ) → n ≤ 255 → code (record { column = column; text = decimal n }) ≡ Ok n
unfolding code
code_number column n small = rw (decimal_starts n (omega arith)) (number_again 0 255 n column (omega arith) small (omega arith))

code_name : (column k : ℕ) (name : List ℕ) → place unreach_names name ≡ Some k → starts_with_digit name ≡ false → code (record { column = column; text = name }) ≡ Ok k
unfolding code word_in
code_name column k name here plain = rw (plain, here) refl

codes_read : (column k i : ℕ) (names : List (List ℕ)) → AreCodes k names → k + i ≤ 255 → code (record { column = column; text = unwrap_or (slice_get names i) (decimal (k + i)) }) ≡ Ok (k + i)
unfolding AreCodes
codes_read column k i [] are small = code_number column (k + i) small
codes_read column k zero (name ∷ names) are small = code_name column k name are.0 are.1 ∙ ap (λ n. let r : Result ℕ Fault = Ok n in r) (sym (add-zero k))
codes_read column k (suc i) (name ∷ names) are small =
    ap (λ n. code (record { column = column; text = unwrap_or (slice_get names i) (decimal n) })) (sym (further k i))
    ∙ codes_read column (k + 1) i names are.2 (omega (arith, small))
    ∙ ap (λ n. let r : Result ℕ Fault = Ok n in r) (further k i)

are_codes : AreCodes 0 unreach_names
unfolding AreCodes unreach_names place same starts_with_digit
are_codes = (
  refl,
  refl,
  (
    refl,
    refl,
    (
      refl,
      refl,
      (
        refl,
        refl,
        (
          refl,
          refl,
          (
            refl,
            refl,
            (
              refl,
              refl,
              (
                refl,
                refl,
                (refl, refl, (refl, refl, (refl, refl, (refl, refl, (refl, refl, (refl, refl, (refl, refl, (refl, refl, tt)))))))),
              ),
            ),
          ),
        ),
      ),
    ),
  ),
)

code_again : (n column : ℕ) → n ≤ 255 → code (record { column = column; text = code_word n }) ≡ Ok n
unfolding code_word
code_again n column small =
    ap (λ m. code (record { column = column; text = unwrap_or (slice_get unreach_names n) (decimal m) })) (sym (zero-add n))
    ∙ codes_read column 0 n unreach_names are_codes (omega (arith, small))
    ∙ ap (λ m. let r : Result ℕ Fault = Ok m in r) (zero-add n)

-- an action's first word, and the others
abbrev pub action_head : Action → List ℕ
action_head Allow = codes "allow"
action_head Deny = codes "deny"
action_head Reset = codes "reset"
action_head (Unreach n) = codes "unreach"
action_head Count = codes "count"
action_head (SkipTo n) = codes "skipto"
action_head (Call n) = codes "call"
action_head Return = codes "return"
action_head (CheckState flow) = codes "check-state"

-- the words of an action behind its first
abbrev pub action_tail : Action → WordTexts
action_tail Allow = []
action_tail Deny = []
action_tail Reset = []
action_tail (Unreach n) = code_word n ∷ []
action_tail Count = []
action_tail (SkipTo n) = decimal n ∷ []
action_tail (Call n) = decimal n ∷ []
action_tail Return = []
action_tail (CheckState flow) = looked_up_words flow

-- the words of an action are its first word and the others
action_words_are : (a : Action) → action_words a ≡ action_head a ∷ action_tail a
action_words_are Allow = refl
action_words_are Deny = refl
action_words_are Reset = refl
action_words_are (Unreach n) = refl
action_words_are Count = refl
action_words_are (SkipTo n) = refl
action_words_are (Call n) = refl
action_words_are Return = refl
action_words_are (CheckState flow) = refl

head_set : (a : Action) → same (action_head a) (codes "set") ≡ false
unfolding same
head_set Allow = refl
head_set Deny = refl
head_set Reset = refl
head_set (Unreach n) = refl
head_set Count = refl
head_set (SkipTo n) = refl
head_set (Call n) = refl
head_set Return = refl
head_set (CheckState flow) = refl

action_again : (a : Action) (c : List (List ℕ) → ℕ) (end column : ℕ) (rest : WordTexts) → IsAction a → IsBodied a
    → action end (record { column = column; text = action_head a }) (at_columns c (action_tail a ++ rest)) ≡ Ok (a, at_columns c rest)
unfolding action plain_action same first
action_again Allow c end column rest form behind = refl
action_again Deny c end column rest form behind = refl
action_again Reset c end column rest form behind = refl
action_again (Unreach n) c end column rest form behind = rw (code_again n (c (code_word n ∷ rest)) form) refl
action_again Count c end column rest form behind = refl
action_again (SkipTo n) c end column rest form behind = rw (number_again 1 65535 n (c (decimal n ∷ rest)) form.least_le form.most_ge (omega (arith, form.most_ge))) refl
action_again (Call n) c end column rest form behind = rw (number_again 1 65535 n (c (decimal n ∷ rest)) form.least_le form.most_ge (omega (arith, form.most_ge))) refl
action_again Return c end column rest form behind = refl
action_again (CheckState flow) c end column rest form behind = absurd behind

log_log : same (codes "log") (codes "log") ≡ true
unfolding same
log_log = refl

amount_amount : same (codes "logamount") (codes "logamount") ≡ true
unfolding same
amount_amount = refl

log_some : (n : ℕ) (c : List (List ℕ) → ℕ) (end : ℕ) (word : List ℕ) (rest : WordTexts) → n ≤ 4294967295 → same word (codes "logamount") ≡ false
    → log end (at_columns c (amount_words n ++ (word ∷ rest))) ≡ Ok (Some n, at_columns c (word ∷ rest))
unfolding log amount amount_behind first
log_some n c end word rest small other = elim (eqb_tells n 0) [
  | inl h ↦
      ap (λ b. log end (at_columns c ((if b then codes "log" ∷ [] else codes "log" ∷ codes "logamount" ∷ decimal n ∷ []) ++ (word ∷ rest)))) h.0
      ∙ rw (log_log, other) (ap (λ m. let r : WordReading (Option ℕ) = Ok (Some m, at_columns c (word ∷ rest)) in r) (sym h.1))
  | inr h ↦
      ap (λ b. log end (at_columns c ((if b then codes "log" ∷ [] else codes "log" ∷ codes "logamount" ∷ decimal n ∷ []) ++ (word ∷ rest)))) h.0
      ∙ rw (log_log, amount_amount, number_again 0 4294967295 n (c (decimal n ∷ word ∷ rest)) (omega arith) small (omega arith)) refl
]

log_again : (logged : Option ℕ) (c : List (List ℕ) → ℕ) (end : ℕ) (word : List ℕ) (rest : WordTexts) → IfSome logged IsValue → same word (codes "log") ≡ false → same word (codes "logamount") ≡ false
    → log end (at_columns c (log_words logged ++ (word ∷ rest))) ≡ Ok (logged, at_columns c (word ∷ rest))
unfolding log first
log_again None c end word rest form no_log no_amount = rw no_log refl
log_again (Some n) c end word rest form no_log no_amount = log_some n c end word rest form no_amount

set_set : same (codes "set") (codes "set") ≡ true
unfolding same
set_set = refl

rule_set_again : (n : ℕ) (c : List (List ℕ) → ℕ) (end : ℕ) (word : List ℕ) (rest : WordTexts) → n ≤ 31 → same word (codes "set") ≡ false
    → rule_set end (at_columns c (set_words n ++ (word ∷ rest))) ≡ Ok (n, at_columns c (word ∷ rest))
unfolding rule_set set_behind first
rule_set_again n c end word rest small other = elim (eqb_tells n 0) [
  | inl h ↦
      ap (λ b. rule_set end (at_columns c ((if b then [] else codes "set" ∷ decimal n ∷ []) ++ (word ∷ rest)))) h.0
      ∙ rw other (ap (λ m. let r : WordReading ℕ = Ok (m, at_columns c (word ∷ rest)) in r) (sym h.1))
  | inr h ↦
      ap (λ b. rule_set end (at_columns c ((if b then [] else codes "set" ∷ decimal n ∷ []) ++ (word ∷ rest)))) h.0
      ∙ rw (set_set, set_again n (c (decimal n ∷ word ∷ rest)) small) refl
]

protocol_log : (n : ℕ) → n ≤ 255 → same (protocol_word n) (codes "log") ≡ false
unfolding same
protocol_log n small = protocol_other n (codes "log") small refl refl refl refl refl

protocol_amount : (n : ℕ) → n ≤ 255 → same (protocol_word n) (codes "logamount") ≡ false
unfolding same
protocol_amount n small = protocol_other n (codes "logamount") small refl refl refl refl refl

family_log : (f : Family) (n : ℕ) → n ≤ 255 → same (family_word f n) (codes "log") ≡ false
unfolding same
family_log AnyIp n small = protocol_log n small
family_log Four n small = refl
family_log Six n small = refl

family_amount : (f : Family) (n : ℕ) → n ≤ 255 → same (family_word f n) (codes "logamount") ≡ false
unfolding same
family_amount AnyIp n small = protocol_amount n small
family_amount Four n small = refl
family_amount Six n small = refl

matching_again : (numbered : Option ℕ) (set : ℕ) (a : Action) (logged : Option ℕ) (b : Body) (c : List (List ℕ) → ℕ) (end column : ℕ) → IsAction a → IsBodied a → IfSome logged IsValue → IsBodyForm b
    → matching_rule numbered set end (record { column = column; text = action_head a }) (at_columns c (action_tail a ++ (log_words logged ++ body_words b)))
    ≡ Ok (record { number = numbered; set = set; action = a; log = logged; body = Some b })
unfolding matching_rule
matching_again numbered set a logged b c end column good behind value form =
    rw (
      action_again a c end column (log_words logged ++ body_words b) good behind,
      log_again logged c end (family_word b.family b.protocol) (codes "from" ∷ (addr_words b.source ++ (port_words b.source_ports ++ (codes "to" ∷ (addr_words b.destination ++ (port_words b.destination_ports ++ options_words b)))))) value (family_log b.family b.protocol form.protocol) (family_amount b.family b.protocol form.protocol),
      body_again b c end form,
    ) refl

-- what stands behind the number and the set
rest_read : Option ℕ → ℕ → ℕ → Word → List Word → Result RuleDraft Fault
rest_read numbered set end word words = if same word.text (codes "check-state") then check_state numbered set words else matching_rule numbered set end word words

check_again : (numbered : Option ℕ) (set : ℕ) (flow : Option (List ℕ)) (c : List (List ℕ) → ℕ) → IfSome flow IsFlowForm
    → check_state numbered set (at_columns c (looked_up_words flow)) ≡ Ok (record { number = numbered; set = set; action = CheckState flow; log = None; body = None })
unfolding check_state check_end
check_again numbered set flow c form = rw (looked_up_again c flow form) refl

check_read : (numbered : Option ℕ) (set : ℕ) (flow : Option (List ℕ)) (logged : Option ℕ) (asked : Option Body) (c : List (List ℕ) → ℕ) (end column : ℕ) → HasForm (CheckState flow) logged asked
    → rest_read numbered set end (record { column = column; text = codes "check-state" }) (at_columns c (looked_up_words flow ++ (log_words logged ++ optional_body asked)))
    ≡ Ok (record { number = numbered; set = set; action = CheckState flow; log = logged; body = asked })
unfolding rest_read same
check_read numbered set flow None None c end column form = ap (λ ws. check_state numbered set (at_columns c ws)) (append-nil (looked_up_words flow)) ∙ check_again numbered set flow c form.0
check_read numbered set flow None (Some b) c end column form = absurd form.2
check_read numbered set flow (Some n) asked c end column form = absurd form.1

bodied_read : (numbered : Option ℕ) (set : ℕ) (a : Action) (logged : Option ℕ) (asked : Option Body) (c : List (List ℕ) → ℕ) (end column : ℕ) → IsAction a → IsBodied a → HasBehind logged asked
    → matching_rule numbered set end (record { column = column; text = action_head a }) (at_columns c (action_tail a ++ (log_words logged ++ optional_body asked)))
    ≡ Ok (record { number = numbered; set = set; action = a; log = logged; body = asked })
bodied_read numbered set a logged None c end column good bodied form = absurd form.asked
bodied_read numbered set a logged (Some b) c end column good bodied form = matching_again numbered set a logged b c end column good bodied form.amount form.asked

rest_again : (numbered : Option ℕ) (set : ℕ) (a : Action) (logged : Option ℕ) (asked : Option Body) (c : List (List ℕ) → ℕ) (end column : ℕ) → IsAction a → HasForm a logged asked
    → rest_read numbered set end (record { column = column; text = action_head a }) (at_columns c (action_tail a ++ (log_words logged ++ optional_body asked)))
    ≡ Ok (record { number = numbered; set = set; action = a; log = logged; body = asked })
unfolding rest_read same
rest_again numbered set Allow logged asked c end column good form = bodied_read numbered set Allow logged asked c end column good tt form
rest_again numbered set Deny logged asked c end column good form = bodied_read numbered set Deny logged asked c end column good tt form
rest_again numbered set Reset logged asked c end column good form = bodied_read numbered set Reset logged asked c end column good tt form
rest_again numbered set (Unreach n) logged asked c end column good form = bodied_read numbered set (Unreach n) logged asked c end column good tt form
rest_again numbered set Count logged asked c end column good form = bodied_read numbered set Count logged asked c end column good tt form
rest_again numbered set (SkipTo n) logged asked c end column good form = bodied_read numbered set (SkipTo n) logged asked c end column good tt form
rest_again numbered set (Call n) logged asked c end column good form = bodied_read numbered set (Call n) logged asked c end column good tt form
rest_again numbered set Return logged asked c end column good form = bodied_read numbered set Return logged asked c end column good tt form
rest_again numbered set (CheckState flow) logged asked c end column good form = check_read numbered set flow logged asked c end column form

number_first : (n : ℕ) (c : List (List ℕ) → ℕ) (end : ℕ) (rest : WordTexts) → n ≤ 65535 → rule_number end (at_columns c (five_digits n ∷ rest)) ≡ Ok (Some n, at_columns c rest)
unfolding rule_number first
number_first n c end rest small = rw (five_starts n small, five_again n (c (five_digits n ∷ rest)) small) refl

words_read : (n set : ℕ) (a : Action) (logged : Option ℕ) (asked : Option Body) (c : List (List ℕ) → ℕ) (end : ℕ) → n ≤ 65535 → set ≤ 31 → IsAction a → HasForm a logged asked
    → rule end (at_columns c (five_digits n ∷ (set_words set ++ (action_head a ∷ (action_tail a ++ (log_words logged ++ optional_body asked))))))
    ≡ Ok (record { number = Some n; set = set; action = a; log = logged; body = asked })
unfolding rule first rest_read
words_read n set a logged asked c end small in_set good form =
    let rest : WordTexts = action_tail a ++ (log_words logged ++ optional_body asked) in
    rw (
      number_first n c end (set_words set ++ (action_head a ∷ rest)) small,
      rule_set_again set c end (action_head a) rest in_set (head_set a),
    ) (rest_again (Some n) set a logged asked c end (c (action_head a ∷ rest)) good form)

-- a rule's canonical words are read as the rule
pub rule_again : (r : Rule) (c : List (List ℕ) → ℕ) (end : ℕ) → r.number ≤ 65535 → r.set ≤ 31 → IsAction r.action → HasForm r.action r.log r.body
    → rule end (at_columns c (rule_words r)) ≡ Ok (record { number = Some r.number; set = r.set; action = r.action; log = r.log; body = r.body })
rule_again r c end small in_set good form =
    ap (λ ws. rule end (at_columns c (five_digits r.number ∷ (set_words r.set ++ (ws ++ (log_words r.log ++ optional_body r.body)))))) (action_words_are r.action)
    ∙ words_read r.number r.set r.action r.log r.body c end small in_set good form
