-- The text of a flow is read again.
use Rattle.std.proofs.Common.{◌≡◌, ℕ, zero, suc, ◌/◌, ◌%◌, ◌^◌, ◌<◌, ◌≤◌, ◌==◌, ◌||◌, Bool, true, false, Some, List, [], ◌∷◌, ◌++◌, codes, length, refl, ap, ◌∙◌, inl, inr, arith, append_assoc}
use Rattle.std.specs.List.{list_all, join_with_byte}
use Rattle.std.specs.Fmt.{decimal}
use Rattle.std.specs.Char.{is_ascii_digit}
use Rattle.std.specs.Int.{byte_at}
use Rattle.std.proofs.Math.Nat.{mod-lt}
use Rattle.std.proofs.lemmas.Bool.{cases_Bool, and_parts, eqb-true}
use Rattle.std.proofs.lemmas.Nat.{from_be_bytes-to_be_bytes_4}
use Rattle.std.proofs.lemmas.Fmt.{digits_decimal, decimal_nonempty}
use Rattle.fw_base.specs.Addr.{address_text}
use Rattle.rule_text.specs.Canonical.{protocol_word, spaced_text}
use Rattle.packet_headers.specs.declared.flows.Flow.{Flow}
use Rattle.state_texts.specs.StateTexts.{flow_text}
use Rattle.report_reading.specs.Parts.{behind, number_at}
use Rattle.report_reading.specs.FlowTexts.{IsFlow, octets_at, address_at, port_at, is_named_protocol, plain_protocol, protocol_at, flow_at}
use Rattle.report_reading.proofs.Digits.{own, IsStop}
use Rattle.report_reading.proofs.Numbers.{number_again}
use Rattle.report_reading.proofs.RecordsAgain.{letter_apart}

-- ---- addresses and ports

octet_again : (octet : ℕ) (rest : List ℕ) → octet ≤ 255 → IsStop rest → number_at 255 (decimal octet ++ rest) ≡ Some (octet, rest)
octet_again octet rest low stop = number_again 255 octet rest low (omega (arith, low)) stop

-- four texts with dots between them, and a rest
pub dotted : (a b c d rest : List ℕ) → join_with_byte 46 (a ∷ b ∷ c ∷ d ∷ []) ++ rest
    ≡ a ++ (codes "." ++ (b ++ (codes "." ++ (c ++ (codes "." ++ (d ++ rest))))))
dotted a b c d rest =
    append_assoc a (46 ∷ (b ++ (46 ∷ (c ++ (46 ∷ d))))) rest
    ∙ ap (λ t. a ++ (46 ∷ t)) (append_assoc b (46 ∷ (c ++ (46 ∷ d))) rest ∙ ap (λ t. b ++ (46 ∷ t)) (append_assoc c (46 ∷ d) rest))

-- four numbers with dots between them are read again
pub octets_again : (a b c d : ℕ) (rest : List ℕ) → a ≤ 255 → b ≤ 255 → c ≤ 255 → d ≤ 255 → IsStop rest
    → octets_at (decimal a ++ (codes "." ++ (decimal b ++ (codes "." ++ (decimal c ++ (codes "." ++ (decimal d ++ rest)))))))
    ≡ Some (a ∷ b ∷ c ∷ d ∷ [], rest)
unfolding octets_at behind
octets_again a b c d rest first second third fourth stop =
    let after_c : List ℕ = codes "." ++ (decimal d ++ rest) in
    let after_b : List ℕ = codes "." ++ (decimal c ++ after_c) in
    rw (
      octet_again a (codes "." ++ (decimal b ++ after_b)) first refl,
      octet_again b after_b second refl,
      octet_again c after_c third refl,
      octet_again d rest fourth stop,
    ) refl

below_256 : (n : ℕ) → n % 256 ≤ 255
below_256 n =
    let low : n % 256 < 256 = mod-lt n (omega arith) in
    omega (arith, low)

-- a byte of a number is below 256
pub byte_small : (k n : ℕ) → byte_at k n ≤ 255
byte_small zero n = below_256 n
byte_small (suc k) n = below_256 (n / 256 ^ suc k)

-- an address is read again
pub address_again : (a : ℕ) (rest : List ℕ) → a < 2 ^ 32 → IsStop rest
    → address_at (codes " " ++ (address_text a ++ rest)) ≡ Some (record { 0 = a }, rest)
unfolding address_at address_text behind
address_again a rest fits stop =
    rw (
      dotted (decimal (byte_at 3 a)) (decimal (byte_at 2 a)) (decimal (byte_at 1 a)) (decimal (byte_at 0 a)) rest,
      octets_again (byte_at 3 a) (byte_at 2 a) (byte_at 1 a) (byte_at 0 a) rest (byte_small 3 a) (byte_small 2 a) (byte_small 1 a) (byte_small 0 a) stop,
    ) (ap (λ n. Some (record { 0 = n }, rest)) (from_be_bytes-to_be_bytes_4 a fits))

-- a port is read again
pub port_again : (port : ℕ) (rest : List ℕ) → port ≤ 65535 → IsStop rest → port_at (codes " " ++ (decimal port ++ rest)) ≡ Some (port, rest)
unfolding port_at behind
port_again port rest low stop = number_again 65535 port rest low (omega (arith, low)) stop

-- ---- protocols

by_digits : (digits rest : List ℕ) → list_all is_ascii_digit digits ≡ true → 0 < length digits
    → protocol_at (codes " " ++ (digits ++ rest)) ≡ plain_protocol (number_at 255 (digits ++ rest))
unfolding protocol_at behind
by_digits [] rest all some = absurd (omega arith)
by_digits (digit ∷ digits) rest all some =
    let here = (and_parts (is_ascii_digit digit) (list_all is_ascii_digit digits) all).0 in
    rw (letter_apart 105 digit refl here, letter_apart 116 digit refl here, letter_apart 117 digit refl here) refl

plain_again : (n : ℕ) (rest : List ℕ) → n ≤ 255 → IsStop rest → is_named_protocol n ≡ false
    → protocol_at (codes " " ++ (decimal n ++ rest)) ≡ Some (n, rest)
unfolding plain_protocol
plain_again n rest low stop other =
    let fits : n < 2 ^ 64 = omega (arith, low) in
    by_digits (decimal n) rest (digits_decimal own n fits) (decimal_nonempty n fits)
    ∙ ap plain_protocol (number_again 255 n rest low fits stop) ∙ rw other refl

unnamed : (zeroth first sixth seventeenth : Bool) → zeroth ≡ false → first ≡ false → sixth ≡ false → seventeenth ≡ false
    → (zeroth || (first || (sixth || seventeenth))) ≡ false
unnamed zeroth first sixth seventeenth a b c d = rw (a, b, c, d) refl

-- a protocol is read again
pub protocol_again : (n : ℕ) (rest : List ℕ) → n ≤ 255 → IsStop rest → protocol_at (codes " " ++ (protocol_word n ++ rest)) ≡ Some (n, rest)
unfolding protocol_at protocol_word behind
protocol_again n rest low stop = elim (cases_Bool (n == 0)) [
  | inl is ↦ let same : n ≡ 0 = eqb-true n 0 is in rw same refl
  | inr isn't_0 ↦ elim (cases_Bool (n == 1)) [
    | inl is ↦ let same : n ≡ 1 = eqb-true n 1 is in rw same refl
    | inr isn't_1 ↦ elim (cases_Bool (n == 6)) [
      | inl is ↦ let same : n ≡ 6 = eqb-true n 6 is in rw same refl
      | inr isn't_6 ↦ elim (cases_Bool (n == 17)) [
        | inl is ↦ let same : n ≡ 17 = eqb-true n 17 is in rw same refl
        | inr isn't_17 ↦
            let plain = plain_again n rest low stop (unnamed (n == 0) (n == 1) (n == 6) (n == 17) isn't_0 isn't_1 isn't_6 isn't_17) in
            rw (isn't_0, isn't_1, isn't_6, isn't_17) plain
      ]
    ]
  ]
]

-- ---- flows

-- the text of a flow, and a rest
abbrev pub flow_then : Flow → List ℕ → List ℕ
flow_then flow rest =
    codes " " ++ (protocol_word flow.protocol
    ++ (codes " " ++ (address_text flow.source.0 ++ (codes " " ++ (decimal flow.source_port
    ++ (codes " " ++ (address_text flow.destination.0 ++ (codes " " ++ (decimal flow.destination_port ++ rest)))))))))

spaced_five : (a b c d e rest : List ℕ) → spaced_text (a ∷ b ∷ c ∷ d ∷ e ∷ []) ++ rest
    ≡ codes " " ++ (a ++ (codes " " ++ (b ++ (codes " " ++ (c ++ (codes " " ++ (d ++ (codes " " ++ (e ++ rest)))))))))
spaced_five a b c d e rest =
    ap (λ t. 32 ∷ t) (append_assoc a (32 ∷ (b ++ (32 ∷ (c ++ (32 ∷ (d ++ (32 ∷ (e ++ [])))))))) rest
    ∙ ap (λ t. a ++ (32 ∷ t)) (append_assoc b (32 ∷ (c ++ (32 ∷ (d ++ (32 ∷ (e ++ [])))))) rest
    ∙ ap (λ t. b ++ (32 ∷ t)) (append_assoc c (32 ∷ (d ++ (32 ∷ (e ++ [])))) rest
    ∙ ap (λ t. c ++ (32 ∷ t)) (append_assoc d (32 ∷ (e ++ [])) rest
    ∙ ap (λ t. d ++ (32 ∷ t)) (append_assoc e [] rest)))))

-- the text of a flow stands before the rest word by word
pub flow_flat : (flow : Flow) (rest : List ℕ) → flow_text flow ++ rest ≡ flow_then flow rest
flow_flat flow rest =
    spaced_five (protocol_word flow.protocol) (address_text flow.source.0) (decimal flow.source_port) (address_text flow.destination.0) (decimal flow.destination_port) rest

-- a flow is read again
pub flow_again : (flow : Flow) (rest : List ℕ) → IsFlow flow → IsStop rest → flow_at (flow_then flow rest) ≡ Some (flow, rest)
unfolding flow_at
flow_again flow rest within stop =
    let ports : List ℕ = codes " " ++ (decimal flow.destination_port ++ rest) in
    let destination : List ℕ = codes " " ++ (address_text flow.destination.0 ++ ports) in
    let source_port : List ℕ = codes " " ++ (decimal flow.source_port ++ destination) in
    let source : List ℕ = codes " " ++ (address_text flow.source.0 ++ source_port) in
    rw (
      protocol_again flow.protocol source within.protocol refl,
      address_again flow.source.0 source_port within.source refl,
      port_again flow.source_port destination within.source_port refl,
      address_again flow.destination.0 ports within.destination refl,
      port_again flow.destination_port rest within.destination_port stop,
    ) refl
