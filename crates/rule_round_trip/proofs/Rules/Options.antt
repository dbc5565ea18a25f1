-- Options in their canonical words are read again.
use Rattle.std.proofs.Common.{◌≡◌, ℕ, ◌+◌, ◌-◌, ◌<◌, ◌≤◌, zero, suc, Bool, true, false, ◌&&◌, ◌==◌, nat_le, if◌then◌else◌, Some, None, Option, Result, Ok, List, ◌∷◌, ◌++◌, length, take, drop, codes, refl, sym, ap, ◌∙◌, arith, subst, inl, inr, length-append, append_assoc, []}
use Rattle.std.specs.Prelude.{slice_index}
use Rattle.std.specs.List.{AllByRecursion, join_with_byte, flat_map, list_all}
use Rattle.std.specs.Fmt.{decimal}
use Rattle.std.proofs.lemmas.Bool.Decides.{eqb_tells}
use Rattle.std.proofs.lemmas.Bool.{le-leb, and_parts, leb-true}
use Rattle.std.proofs.lemmas.List.{take_at, take-append-drop, length-take-le}
use Rattle.std.proofs.Math.Bool.{and-false}
use Rattle.fw_base.proofs.Logic.{clash}
use Rattle.fw_base.specs.Name.{is_name_byte}
use Rattle.fw_rule.specs.Names.{flag_names, option_names}
use Rattle.rule_text.specs.Canonical.{WordTexts, negation_words as negation_words, test_words, option_words, state_words, placed_words, iface_text, field_word, mask_word, flow_words, signed_names, numbers_where}
use Rattle.fw_rule.specs.Bits.{has_bit}
use Rattle.fw_rule.specs.TypeSet.{has_type}
use Rattle.fw_rule.specs.declared.iface.Iface.{Iface}
use Rattle.fw_rule.specs.declared.iface.Iface.TheVariants.{AnyIface, Exact, Begins}
use Rattle.fw_rule.specs.declared.test.Field.{Field}
use Rattle.fw_rule.specs.declared.test.Field.TheVariants.{SrcIp, DstIp, SrcPort as SrcPortField, DstPort as DstPortField}
use Rattle.fw_rule.specs.declared.test.Test.{Test}
use Rattle.fw_rule.specs.declared.test.Test.TheVariants.{Inward, Outward, Established, Setup, Frag, Recv, Xmit, Via, TcpFlags, IcmpTypes, Icmp6Types, IpOptions, Lookup}
use Rattle.fw_rule.specs.declared.opt.Opt.{Opt}
use Rattle.fw_rule.specs.declared.state_opt.LimitMask.{LimitMask}
use Rattle.fw_rule.specs.declared.state_opt.LimitMask.TheVariants.{SrcAddr, SrcPort, DstAddr, DstPort}
use Rattle.fw_rule.specs.declared.state_opt.StateOpt.{StateOpt}
use Rattle.fw_rule.specs.declared.state_opt.StateOpt.TheVariants.{Keep, Limit}
use Rattle.ipfw_parser.specs.Reading.{Fault, ◌>>=◌, same, first}
use Rattle.ipfw_parser.specs.Numbers.{starts_with_digit}
use Rattle.ipfw_parser.specs.Names.{is_name, starts_with_colon, ends_with_star, iface, service, place, service_names}
use Rattle.ipfw_parser.specs.Parts.{part_before}
use Rattle.ipfw_parser.specs.Ports.{looks_like_ports, begin_with_ports}
use Rattle.ipfw_parser.specs.Options.{field, limit_mask, plain_test, lookup, test_of, has_argument, test_from, is_state, option, limit_behind, state, Placed, with_option, with_state, options}
use Rattle.ipfw_parser.specs.Forms.{IsIfaceForm, IsTestForm, IsStateForm, IsPlacedForm}
use Rattle.rule_round_trip.proofs.Numbers.Decimal.{number_again}
use Rattle.rule_round_trip.proofs.Addresses.Items.{name_again, name_bytes}
use Rattle.rule_round_trip.proofs.Masks.Signs.{flags_again, ip_options_again}
use Rattle.rule_round_trip.proofs.Masks.Types.{types_again}
use Rattle.rule_round_trip.proofs.Masks.TypeSets.{types6_again}
use Rattle.rule_round_trip.proofs.Rules.Flows.{BeginPlain, flow_again}
use Rattle.rule_round_trip.proofs.Words.Columns.{at_columns, length_at}
use Rattle.rule_round_trip.proofs.Lists.Each.{all_take, all_drop}

field_again : (f : Field) (column : ℕ) → field (record { column = column; text = field_word f }) ≡ Ok f
unfolding field same
field_again SrcIp column = refl
field_again DstIp column = refl
field_again SrcPortField column = refl
field_again DstPortField column = refl

mask_again : (m : LimitMask) (column : ℕ) → limit_mask (record { column = column; text = mask_word m }) ≡ Ok m
unfolding limit_mask same
mask_again SrcAddr column = refl
mask_again SrcPort column = refl
mask_again DstAddr column = refl
mask_again DstPort column = refl

no_star : (b : ℕ) → is_name_byte b ≡ true → b == 42 ≡ false
unfolding is_name_byte
no_star b told = elim (eqb_tells b 42) [
  | inl h ↦ clash (is_name_byte b) told (ap is_name_byte h.1)
  | inr h ↦ h.0
]

one_less : (n : ℕ) → suc (suc n) - 1 ≡ suc n
one_less n = omega arith

suc_less : (n : ℕ) → n ≡ suc n - 1
suc_less n = omega arith

one_less_at : (b : ℕ) (next : ℕ) (text : List ℕ) → slice_index (b ∷ next ∷ text) (suc (length text)) ≡ slice_index (next ∷ text) (suc (length text) - 1)
one_less_at b next text = ap (λ k. slice_index (next ∷ text) k) (suc_less (length text))

-- the last byte of a name is no star
last_byte : (text : List ℕ) → list_all is_name_byte text ≡ true → 0 < length text → slice_index text (length text - 1) == 42 ≡ false
last_byte [] all some = absurd (omega (arith, some))
last_byte (b ∷ []) all some = no_star b (and_parts (is_name_byte b) true all).0
last_byte (b ∷ next ∷ text) all some = ap (λ k. slice_index (b ∷ next ∷ text) k == 42) (one_less (length text)) ∙ ap (λ n. n == 42) (one_less_at b next text) ∙ last_byte (next ∷ text) (and_parts (is_name_byte b) (list_all is_name_byte (next ∷ text)) all).1 (omega arith)

and_two : (x y : Bool) → (x && (y && false)) ≡ false
and_two true y = and-false y
and_two false y = refl

and_three : (x y z : Bool) → (x && (y && (z && false))) ≡ false
and_three true y z = and_two y z
and_three false y z = refl

-- a name isn't empty
pub name_some : (most : ℕ) (name : List ℕ) → is_name most name ≡ true → 0 < length name
unfolding is_name
name_some most name told = leb-true 1 (length name) (and_parts (nat_le 1 (length name)) (nat_le (length name) most) (and_parts (list_all is_name_byte name) (nat_le 1 (length name) && nat_le (length name) most) told).1).0

minus : (name : List ℕ) → length (name ++ 42 ∷ []) - 1 ≡ length name
minus name = omega (arith, length-append name (42 ∷ []))

at_end : (name : List ℕ) → slice_index (name ++ 42 ∷ []) (length name) ≡ 42
at_end [] = refl
at_end (b ∷ name) = at_end name

no_any : (name : List ℕ) → same (name ++ 42 ∷ []) (codes "any") ≡ false
unfolding same
no_any [] = refl
no_any (a ∷ []) = and-false (a == 97)
no_any (a ∷ b ∷ []) = and_two (a == 97) (b == 110)
no_any (a ∷ b ∷ c ∷ []) = and_three (a == 97) (b == 110) (c == 121)
no_any (a ∷ b ∷ c ∷ d ∷ name) = and_three (a == 97) (b == 110) (c == 121)

no_star_end : (name : List ℕ) → is_name 15 name ≡ true → ends_with_star name ≡ false
unfolding ends_with_star
no_star_end name told = let some = name_some 15 name told in
    ap (λ b. b && slice_index name (length name - 1) == 42) (le-leb 1 (length name) some) ∙ last_byte name (name_bytes 15 name told) some

star_place : (name : List ℕ) → slice_index (name ++ 42 ∷ []) (length (name ++ 42 ∷ []) - 1) ≡ 42
star_place name = ap (λ k. slice_index (name ++ 42 ∷ []) k) (minus name) ∙ at_end name

star_end : (name : List ℕ) → ends_with_star (name ++ 42 ∷ []) ≡ true
unfolding ends_with_star
star_end name =
    ap (λ b. b && slice_index (name ++ 42 ∷ []) (length (name ++ 42 ∷ []) - 1) == 42) (le-leb 1 (length (name ++ 42 ∷ [])) (omega (arith, length-append name (42 ∷ []))))
    ∙ ap (λ n. n == 42) (star_place name)

front_of : (name : List ℕ) → take (length (name ++ 42 ∷ []) - 1) (name ++ 42 ∷ []) ≡ name
front_of name = take_at name (42 ∷ []) (length (name ++ 42 ∷ []) - 1) (sym (minus name))

iface_any : (column : ℕ) → iface (record { column = column; text = codes "any" }) ≡ Ok AnyIface
unfolding iface same
iface_any column = refl

iface_again : (i : Iface) (column : ℕ) → IsIfaceForm i → iface (record { column = column; text = iface_text i }) ≡ Ok i
unfolding iface
iface_again AnyIface column form = iface_any column
iface_again (Exact name) column form = rw (form.1, no_star_end name form.0, form.0) refl
iface_again (Begins name) column form = rw (no_any name, star_end name, front_of name, form) refl

-- a test's first word, and the others
abbrev pub test_head : Test → List ℕ
test_head Inward = codes "in"
test_head Outward = codes "out"
test_head Established = codes "established"
test_head Setup = codes "setup"
test_head Frag = codes "frag"
test_head (Recv i) = codes "recv"
test_head (Xmit i) = codes "xmit"
test_head (Via i) = codes "via"
test_head (TcpFlags set clear) = codes "tcpflags"
test_head (IcmpTypes mask) = codes "icmptypes"
test_head (Icmp6Types set) = codes "icmp6types"
test_head (IpOptions present absent) = codes "ipoptions"
test_head (Lookup f name) = codes "lookup"

-- the words of a test behind its first
abbrev pub test_tail : Test → WordTexts
test_tail Inward = []
test_tail Outward = []
test_tail Established = []
test_tail Setup = []
test_tail Frag = []
test_tail (Recv i) = iface_text i ∷ []
test_tail (Xmit i) = iface_text i ∷ []
test_tail (Via i) = iface_text i ∷ []
test_tail (TcpFlags set clear) = join_with_byte 44 (signed_names flag_names 0 set clear) ∷ []
test_tail (IcmpTypes mask) = join_with_byte 44 (numbers_where (has_bit mask) 32 0) ∷ []
test_tail (Icmp6Types set) = join_with_byte 44 (numbers_where (has_type set) 256 0) ∷ []
test_tail (IpOptions present absent) = join_with_byte 44 (signed_names option_names 0 present absent) ∷ []
test_tail (Lookup f name) = field_word f ∷ name ∷ []

-- the words of a test are its first word and the others
test_words_are : (t : Test) → test_words t ≡ test_head t ∷ test_tail t
test_words_are Inward = refl
test_words_are Outward = refl
test_words_are Established = refl
test_words_are Setup = refl
test_words_are Frag = refl
test_words_are (Recv i) = refl
test_words_are (Xmit i) = refl
test_words_are (Via i) = refl
test_words_are (TcpFlags set clear) = refl
test_words_are (IcmpTypes mask) = refl
test_words_are (Icmp6Types set) = refl
test_words_are (IpOptions present absent) = refl
test_words_are (Lookup f name) = refl

test_again : (t : Test) (c : List (List ℕ) → ℕ) (end column : ℕ) (rest : WordTexts) → IsTestForm t
    → test_from end (record { column = column; text = test_head t }) (at_columns c (test_tail t ++ rest)) ≡ Ok (t, at_columns c rest)
unfolding test_from plain_test same has_argument test_of first lookup
test_again Inward c end column rest form = refl
test_again Outward c end column rest form = refl
test_again Established c end column rest form = refl
test_again Setup c end column rest form = refl
test_again Frag c end column rest form = refl
test_again (Recv i) c end column rest form = rw (iface_again i (c (iface_text i ∷ rest)) form) refl
test_again (Xmit i) c end column rest form = rw (iface_again i (c (iface_text i ∷ rest)) form) refl
test_again (Via i) c end column rest form = rw (iface_again i (c (iface_text i ∷ rest)) form) refl
test_again (TcpFlags set clear) c end column rest form = rw (flags_again set clear (c (join_with_byte 44 (signed_names flag_names 0 set clear) ∷ rest)) form) refl
test_again (IcmpTypes mask) c end column rest form = rw (types_again mask (c (join_with_byte 44 (numbers_where (has_bit mask) 32 0) ∷ rest)) form.0 form.1) refl
test_again (Icmp6Types set) c end column rest form = rw (types6_again set (c (join_with_byte 44 (numbers_where (has_type set) 256 0) ∷ rest)) form) refl
test_again (IpOptions present absent) c end column rest form = rw (ip_options_again present absent (c (join_with_byte 44 (signed_names option_names 0 present absent) ∷ rest)) form) refl
test_again (Lookup f name) c end column rest form = rw (field_again f (c (field_word f ∷ name ∷ rest)), name_again name (c (name ∷ rest)) form) refl

head_state : (t : Test) → is_state (test_head t) ≡ false
unfolding is_state same
head_state Inward = refl
head_state Outward = refl
head_state Established = refl
head_state Setup = refl
head_state Frag = refl
head_state (Recv i) = refl
head_state (Xmit i) = refl
head_state (Via i) = refl
head_state (TcpFlags set clear) = refl
head_state (IcmpTypes mask) = refl
head_state (Icmp6Types set) = refl
head_state (IpOptions present absent) = refl
head_state (Lookup f name) = refl

head_not : (t : Test) → same (test_head t) (codes "not") ≡ false
unfolding same
head_not Inward = refl
head_not Outward = refl
head_not Established = refl
head_not Setup = refl
head_not Frag = refl
head_not (Recv i) = refl
head_not (Xmit i) = refl
head_not (Via i) = refl
head_not (TcpFlags set clear) = refl
head_not (IcmpTypes mask) = refl
head_not (Icmp6Types set) = refl
head_not (IpOptions present absent) = refl
head_not (Lookup f name) = refl

head_ports : (t : Test) → looks_like_ports (test_head t) ≡ false
unfolding looks_like_ports starts_with_digit service place service_names part_before same
head_ports Inward = refl
head_ports Outward = refl
head_ports Established = refl
head_ports Setup = refl
head_ports Frag = refl
head_ports (Recv i) = refl
head_ports (Xmit i) = refl
head_ports (Via i) = refl
head_ports (TcpFlags set clear) = refl
head_ports (IcmpTypes mask) = refl
head_ports (Icmp6Types set) = refl
head_ports (IpOptions present absent) = refl
head_ports (Lookup f name) = refl

-- an option, and then the others
plain_step : (limit end : ℕ) (seen : Bool) (c : List (List ℕ) → ℕ) (t : Test) (rest : WordTexts) → IsTestForm t
    → options (suc limit) end seen (at_columns c (test_head t ∷ (test_tail t ++ rest))) ≡ (options limit end seen (at_columns c rest) >>= λ p. Ok (with_option (record { negated = false; test = t }) p))
unfolding options option
plain_step limit end seen c t rest form =
    rw (head_state t, head_not t, test_again t c end (c (test_head t ∷ (test_tail t ++ rest))) rest form) refl

not_state : is_state (codes "not") ≡ false
unfolding is_state same
not_state = refl

-- the word `not` is told as itself
pub not_not : same (codes "not") (codes "not") ≡ true
unfolding same
not_not = refl

negated_step : (limit end : ℕ) (seen : Bool) (c : List (List ℕ) → ℕ) (t : Test) (rest : WordTexts) → IsTestForm t
    → options (suc limit) end seen (at_columns c (codes "not" ∷ test_head t ∷ (test_tail t ++ rest))) ≡ (options limit end seen (at_columns c rest) >>= λ p. Ok (with_option (record { negated = true; test = t }) p))
unfolding options option first
negated_step limit end seen c t rest form =
    rw (not_state, not_not, head_state t, test_again t c end (c (test_head t ∷ (test_tail t ++ rest))) rest form) refl

option_step : (limit end : ℕ) (seen : Bool) (c : List (List ℕ) → ℕ) (negated : Bool) (t : Test) (rest : WordTexts) → IsTestForm t
    → options (suc limit) end seen (at_columns c ((negation_words negated ++ test_words t) ++ rest)) ≡ (options limit end seen (at_columns c rest) >>= λ p. Ok (with_option (record { negated = negated; test = t }) p))
option_step limit end seen c true t rest form =
    ap (λ ws. options (suc limit) end seen (at_columns c ((codes "not" ∷ ws) ++ rest))) (test_words_are t) ∙ negated_step limit end seen c t rest form
option_step limit end seen c false t rest form =
    ap (λ ws. options (suc limit) end seen (at_columns c (ws ++ rest))) (test_words_are t) ∙ plain_step limit end seen c t rest form

-- options begin with no colon
head_plain : (t : Test) → starts_with_colon (test_head t) ≡ false
unfolding starts_with_colon
head_plain Inward = refl
head_plain Outward = refl
head_plain Established = refl
head_plain Setup = refl
head_plain Frag = refl
head_plain (Recv i) = refl
head_plain (Xmit i) = refl
head_plain (Via i) = refl
head_plain (TcpFlags set clear) = refl
head_plain (IcmpTypes mask) = refl
head_plain (Icmp6Types set) = refl
head_plain (IpOptions present absent) = refl
head_plain (Lookup f name) = refl

not_plain : starts_with_colon (codes "not") ≡ false
unfolding starts_with_colon
not_plain = refl

option_plain : (negated : Bool) (t : Test) (rest : WordTexts) → BeginPlain ((negation_words negated ++ test_words t) ++ rest)
option_plain true t rest = not_plain
option_plain false t rest = subst (λ ws. BeginPlain (ws ++ rest)) (sym (test_words_are t)) (head_plain t)

options_plain : (os : List Opt) → BeginPlain (flat_map option_words os)
options_plain [] = tt
options_plain (o ∷ os) = option_plain o.negated o.test (flat_map option_words os)

state_step : (limit end : ℕ) (c : List (List ℕ) → ℕ) (s : StateOpt) (rest : WordTexts) → IsStateForm s → BeginPlain rest
    → options (suc limit) end false (at_columns c (state_words (Some s) ++ rest)) ≡ (options limit end true (at_columns c rest) >>= λ p. Ok (with_state s p))
unfolding options state limit_behind is_state same first
state_step limit end c (Keep name) rest form plain = rw (flow_again c name rest form plain) refl
state_step limit end c (Limit m n name) rest form plain =
    let more : WordTexts = flow_words name ++ rest in
    rw (mask_again m (c (mask_word m ∷ decimal n ∷ more)), number_again 1 65535 n (c (decimal n ∷ more)) form.0.least_le form.0.most_ge (omega (arith, form.0.most_ge)), flow_again c name rest form.1 plain) refl

abbrev placed_of : List Opt → Option StateOpt → ℕ → Placed
placed_of os made at = record { options = os; state = made; state_at = at }

abbrev AreTests : List Opt → Type 0
AreTests os = AllByRecursion (λ o. IsTestForm o.test) os

alone : (os : List Opt) (limit end : ℕ) (seen : Bool) (c : List (List ℕ) → ℕ) → length os ≤ limit → AreTests os → options limit end seen (at_columns c (flat_map option_words os)) ≡ Ok (placed_of os None 0)
unfolding options
alone [] limit end seen c enough form = refl
alone (o ∷ os) zero end seen c enough form = absurd (omega (arith, enough))
alone (o ∷ os) (suc limit) end seen c enough form =
    option_step limit end seen c o.negated o.test (flat_map option_words os) form.0
    ∙ ap (λ r. r >>= λ p. let q : Result Placed Fault = Ok (with_option o p) in q) (alone os limit end seen c (omega (arith, enough)) form.1)

plus_one : (n : ℕ) → n + 1 ≡ suc n
plus_one n = omega arith

around : (front back : List Opt) (s : StateOpt) (limit end : ℕ) (c : List (List ℕ) → ℕ) → length front + suc (length back) ≤ limit → AreTests front → AreTests back → IsStateForm s
    → options limit end false (at_columns c (flat_map option_words front ++ (state_words (Some s) ++ flat_map option_words back))) ≡ Ok (placed_of (front ++ back) (Some s) (length front))
around front back s zero end c enough f b form = absurd (omega (arith, enough))
around [] back s (suc limit) end c enough f b form =
    state_step limit end c s (flat_map option_words back) form (options_plain back)
    ∙ ap (λ r. r >>= λ p. let q : Result Placed Fault = Ok (with_state s p) in q) (alone back limit end true c (omega (arith, enough)) b)
around (o ∷ front) back s (suc limit) end c enough f b form =
    let rest : WordTexts = state_words (Some s) ++ flat_map option_words back in
    ap (λ ws. options (suc limit) end false (at_columns c ws)) (append_assoc (option_words o) (flat_map option_words front) rest)
    ∙ option_step limit end false c o.negated o.test (flat_map option_words front ++ rest) f.0
    ∙ ap (λ r. r >>= λ p. let q : Result Placed Fault = Ok (with_option o p) in q) (around front back s limit end c (omega (arith, enough)) f.1 b form)
    ∙ ap (λ n. let q : Result Placed Fault = Ok (placed_of (o ∷ (front ++ back)) (Some s) n) in q) (plus_one (length front))

long_option : (negated : Bool) (t : Test) → 1 ≤ length (negation_words negated ++ test_words t)
long_option true t = omega arith
long_option false t = subst (λ ws. 1 ≤ length ws) (sym (test_words_are t)) (omega arith)

flat_long : (os : List Opt) → length os ≤ length (flat_map option_words os)
flat_long [] = omega arith
flat_long (o ∷ os) = omega (arith, long_option o.negated o.test, flat_long os, length-append (option_words o) (flat_map option_words os))

state_long : (s : StateOpt) → 1 ≤ length (state_words (Some s))
state_long (Keep name) = omega arith
state_long (Limit m n name) = omega arith

taken_long : (os : List Opt) (at : ℕ) → length (take at os) + length (drop at os) ≡ length os
taken_long os at = sym (length-append (take at os) (drop at os)) ∙ ap length (take-append-drop at os)

-- options with the state in its place are read again from their canonical words
pub placed_again : (os : List Opt) (made : Option StateOpt) (at end : ℕ) (c : List (List ℕ) → ℕ) → IsPlacedForm os made at
    → options (length (at_columns c (placed_words os made at))) end false (at_columns c (placed_words os made at)) ≡ Ok (record { options = os; state = made; state_at = at })
placed_again os None at end c form =
    ap (λ n. options (length (at_columns c (placed_words os None n))) end false (at_columns c (placed_words os None n))) (form.nowhere refl)
    ∙ alone os (length (at_columns c (flat_map option_words os))) end false c (omega (arith, flat_long os, length_at c (flat_map option_words os))) form.each
    ∙ ap (λ n. let q : Result Placed Fault = Ok (placed_of os None n) in q) (sym (form.nowhere refl))
placed_again os (Some s) at end c form =
    let words : WordTexts = placed_words os (Some s) at in
    around (take at os) (drop at os) s (length (at_columns c words)) end c
    (omega (arith, length_at c words, length-append (flat_map option_words (take at os)) (state_words (Some s) ++ flat_map option_words (drop at os)), length-append (state_words (Some s)) (flat_map option_words (drop at os)), flat_long (take at os), flat_long (drop at os), state_long s))
    (all_take (λ o. IsTestForm o.test) at os form.each) (all_drop (λ o. IsTestForm o.test) at os form.each) form.state
    ∙ ap (λ xs. let q : Result Placed Fault = Ok (placed_of xs (Some s) (length (take at os))) in q) (take-append-drop at os)
    ∙ ap (λ n. let q : Result Placed Fault = Ok (placed_of os (Some s) n) in q) (length-take-le at os form.within)

-- options and states don't look like ports
word_begins : (c : List (List ℕ) → ℕ) (text : List ℕ) (more : WordTexts) → looks_like_ports text ≡ false → same text (codes "not") ≡ false → begin_with_ports (at_columns c (text ∷ more)) ≡ false
unfolding begin_with_ports
word_begins c text [] looks other = looks
word_begins c text (next ∷ more) looks other = ap (λ b. if b then looks_like_ports next else looks_like_ports text) other ∙ looks

not_begins : (c : List (List ℕ) → ℕ) (text : List ℕ) (more : WordTexts) → looks_like_ports text ≡ false → begin_with_ports (at_columns c (codes "not" ∷ text ∷ more)) ≡ false
unfolding begin_with_ports same
not_begins c text more looks = looks

option_begins : (c : List (List ℕ) → ℕ) (negated : Bool) (t : Test) (more : WordTexts) → begin_with_ports (at_columns c ((negation_words negated ++ test_words t) ++ more)) ≡ false
option_begins c true t more = ap (λ ws. begin_with_ports (at_columns c ((codes "not" ∷ ws) ++ more))) (test_words_are t) ∙ not_begins c (test_head t) (test_tail t ++ more) (head_ports t)
option_begins c false t more = ap (λ ws. begin_with_ports (at_columns c (ws ++ more))) (test_words_are t) ∙ word_begins c (test_head t) (test_tail t ++ more) (head_ports t) (head_not t)

keep_looks : looks_like_ports (codes "keep-state") ≡ false
unfolding looks_like_ports starts_with_digit service place service_names part_before same
keep_looks = refl

limit_looks : looks_like_ports (codes "limit") ≡ false
unfolding looks_like_ports starts_with_digit service place service_names part_before same
limit_looks = refl

keep_not : same (codes "keep-state") (codes "not") ≡ false
unfolding same
keep_not = refl

limit_not : same (codes "limit") (codes "not") ≡ false
unfolding same
limit_not = refl

none_begin : (c : List (List ℕ) → ℕ) → begin_with_ports (at_columns c []) ≡ false
unfolding begin_with_ports
none_begin c = refl

all_begin : (c : List (List ℕ) → ℕ) (front back : List Opt) (made : Option StateOpt) → begin_with_ports (at_columns c (flat_map option_words front ++ (state_words made ++ flat_map option_words back))) ≡ false
all_begin c (o ∷ front) back made =
    ap (λ ws. begin_with_ports (at_columns c ws)) (append_assoc (option_words o) (flat_map option_words front) (state_words made ++ flat_map option_words back))
    ∙ option_begins c o.negated o.test (flat_map option_words front ++ (state_words made ++ flat_map option_words back))
all_begin c [] back (Some (Keep name)) = word_begins c (codes "keep-state") (flow_words name ++ flat_map option_words back) keep_looks keep_not
all_begin c [] back (Some (Limit m n name)) = word_begins c (codes "limit") (mask_word m ∷ decimal n ∷ (flow_words name ++ flat_map option_words back)) limit_looks limit_not
all_begin c [] (o ∷ back) None = option_begins c o.negated o.test (flat_map option_words back)
all_begin c [] [] None = none_begin c

-- the canonical words of options aren't taken for ports
pub placed_begin : (c : List (List ℕ) → ℕ) (os : List Opt) (made : Option StateOpt) (at : ℕ) → begin_with_ports (at_columns c (placed_words os made at)) ≡ false
placed_begin c os made at = all_begin c (take at os) (drop at os) made
