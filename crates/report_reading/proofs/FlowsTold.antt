-- What is read of a flow's text is what it is the text of.
use Rattle.std.proofs.Common.{◌≡◌, ℕ, zero, suc, ◌^◌, ◌<◌, ◌≤◌, ◌==◌, ◌||◌, false, Some, None, List, [], ◌∷◌, ◌++◌, codes, map, get_or, refl, sym, ap, subst, ◌∙◌, inl, inr, arith}
use Rattle.std.specs.List.{join_with_byte}
use Rattle.std.specs.Fmt.{decimal}
use Rattle.std.specs.Int.{w32, to_be_bytes, from_be_bytes}
use Rattle.std.proofs.lemmas.Bool.{cases_Bool, or_parts}
use Rattle.std.proofs.lemmas.Nat.{be_bytes_4}
use Rattle.std.proofs.lemmas.Option.{none-some, some_pair_parts}
use Rattle.fw_base.specs.Addr.{address_text}
use Rattle.fw_base.specs.declared.address.Addr.{Addr}
use Rattle.rule_text.specs.Canonical.{protocol_word}
use Rattle.packet_headers.specs.declared.flows.Flow.{Flow}
use Rattle.fw_base.specs.Chain.{◌>>=◌, or_else}
use Rattle.report_reading.specs.Parts.{Part, behind, told_by, number_at}
use Rattle.report_reading.specs.FlowTexts.{IsFlow, octets_at, address_at, port_at, is_named_protocol, plain_protocol, protocol_at, flow_at}
use Rattle.report_reading.proofs.Words.{behind_told, then_found, one_found, by_word}
use Rattle.report_reading.proofs.Numbers.{number_told}
use Rattle.report_reading.proofs.FlowsAgain.{dotted, flow_then}

-- ---- addresses and ports

-- a text is four bytes as numbers with dots between them, and a rest
record IsOctets (bytes octets rest : List ℕ) : Type 0 where
  text : bytes ≡ address_text (from_be_bytes w32 octets) ++ rest
  fits : from_be_bytes w32 octets < 2 ^ 32

byte_of_four : (a b c d i : ℕ) → a ≤ 255 → b ≤ 255 → c ≤ 255 → d ≤ 255 → get_or (a ∷ b ∷ c ∷ d ∷ []) i 0 < 256
byte_of_four a b c d zero first second third fourth = omega (arith, first)
byte_of_four a b c d (suc zero) first second third fourth = omega (arith, second)
byte_of_four a b c d (suc (suc zero)) first second third fourth = omega (arith, third)
byte_of_four a b c d (suc (suc (suc zero))) first second third fourth = omega (arith, fourth)
byte_of_four a b c d (suc (suc (suc (suc i)))) first second third fourth = omega arith

four_fit : (a b c d : ℕ) → a ≤ 255 → b ≤ 255 → c ≤ 255 → d ≤ 255 → from_be_bytes w32 (a ∷ b ∷ c ∷ d ∷ []) < 2 ^ 32
four_fit a b c d first second third fourth = omega (arith, first, second, third, fourth)

four_told : (bytes : List ℕ) (a b c d : ℕ) (rest : List ℕ) → a ≤ 255 → b ≤ 255 → c ≤ 255 → d ≤ 255
    → bytes ≡ decimal a ++ (codes "." ++ (decimal b ++ (codes "." ++ (decimal c ++ (codes "." ++ (decimal d ++ rest))))))
    → IsOctets bytes (a ∷ b ∷ c ∷ d ∷ []) rest
unfolding address_text
four_told bytes a b c d rest first second third fourth split =
    let octets : List ℕ = a ∷ b ∷ c ∷ d ∷ [] in
    let written : to_be_bytes w32 (from_be_bytes w32 octets) ≡ octets =
    be_bytes_4 octets (from_be_bytes w32 octets) refl (λ i. byte_of_four a b c d i first second third fourth) refl in
    let text : address_text (from_be_bytes w32 octets) ≡ join_with_byte 46 (decimal a ∷ decimal b ∷ decimal c ∷ decimal d ∷ []) =
    ap (λ t. join_with_byte 46 (map decimal t)) written in
    record {
      text = split ∙ sym (dotted (decimal a) (decimal b) (decimal c) (decimal d) rest) ∙ sym (ap (λ t. t ++ rest) text);
      fits = four_fit a b c d first second third fourth;
    }

-- the steps of reading four bytes, from the last to the first
abbrev fourth_step : ℕ → ℕ → ℕ → ℕ × List ℕ → Part (List ℕ)
fourth_step a b c fourth = Some (a ∷ b ∷ c ∷ fourth.0 ∷ [], fourth.1)

abbrev fourth_front : ℕ → ℕ → ℕ → List ℕ → Part (List ℕ)
fourth_front a b c front = number_at 255 front >>= fourth_step a b c

abbrev third_step : ℕ → ℕ → ℕ × List ℕ → Part (List ℕ)
third_step a b third = behind (codes ".") third.1 >>= fourth_front a b third.0

abbrev third_front : ℕ → ℕ → List ℕ → Part (List ℕ)
third_front a b front = number_at 255 front >>= third_step a b

abbrev second_step : ℕ → ℕ × List ℕ → Part (List ℕ)
second_step a second = behind (codes ".") second.1 >>= third_front a second.0

abbrev second_front : ℕ → List ℕ → Part (List ℕ)
second_front a front = number_at 255 front >>= second_step a

abbrev first_step : ℕ × List ℕ → Part (List ℕ)
first_step first = behind (codes ".") first.1 >>= second_front first.0

-- a byte, a dot and a rest
dotted_told : (bytes rest : List ℕ) (n : ℕ) (more : List ℕ) → number_at 255 bytes ≡ Some (n, more) → behind (codes ".") more ≡ Some rest
    → (bytes ≡ decimal n ++ (codes "." ++ rest)) × (n ≤ 255)
dotted_told bytes rest n more number dot =
    let told = number_told 255 bytes n more (omega arith) number in
    (told.split ∙ ap (λ t. decimal n ++ t) (behind_told (codes ".") more rest dot), told.last)

last_told : (a b c : ℕ) (front : List ℕ) (octets rest : List ℕ) → fourth_front a b c front ≡ Some (octets, rest)
    → (d : ℕ) × (front ≡ decimal d ++ rest) × (d ≤ 255) × (a ∷ b ∷ c ∷ d ∷ [] ≡ octets)
last_told a b c front octets rest is =
    let (d, found, last) = then_found (number_at 255 front) (fourth_step a b c) (octets, rest) is in
    let (same, end) = some_pair_parts (a ∷ b ∷ c ∷ d.0 ∷ []) octets d.1 rest last in
    let told = number_told 255 front d.0 d.1 (omega arith) found in
    (d.0, told.split ∙ ap (λ t. decimal d.0 ++ t) end, told.last, same)

octets_told : (bytes octets rest : List ℕ) → octets_at bytes ≡ Some (octets, rest) → IsOctets bytes octets rest
unfolding octets_at
octets_told bytes octets rest is =
    let (a, a_found, a_more) = then_found (number_at 255 bytes) first_step (octets, rest) is in
    let (b_text, b_front, b_on) = then_found (behind (codes ".") a.1) (second_front a.0) (octets, rest) a_more in
    let (b, b_found, b_more) = then_found (number_at 255 b_text) (second_step a.0) (octets, rest) b_on in
    let (c_text, c_front, c_on) = then_found (behind (codes ".") b.1) (third_front a.0 b.0) (octets, rest) b_more in
    let (c, c_found, c_more) = then_found (number_at 255 c_text) (third_step a.0 b.0) (octets, rest) c_on in
    let (d_text, d_front, d_on) = then_found (behind (codes ".") c.1) (fourth_front a.0 b.0 c.0) (octets, rest) c_more in
    let (d, d_split, d_low, same) = last_told a.0 b.0 c.0 d_text octets rest d_on in
    let (a_split, a_low) = dotted_told bytes b_text a.0 a.1 a_found b_front in
    let (b_split, b_low) = dotted_told b_text c_text b.0 b.1 b_found c_front in
    let (c_split, c_low) = dotted_told c_text d_text c.0 c.1 c_found d_front in
    subst (λ t. IsOctets bytes t rest) same (four_told bytes a.0 b.0 c.0 d rest a_low b_low c_low d_low
    (a_split ∙ ap (λ t. decimal a.0 ++ (codes "." ++ t)) (b_split ∙ ap (λ t. decimal b.0 ++ (codes "." ++ t)) (c_split ∙ ap (λ t. decimal c.0 ++ (codes "." ++ t)) d_split))))

-- a text is an address behind a space, and a rest
record IsAddress (bytes : List ℕ) (address : Addr) (rest : List ℕ) : Type 0 where
  split : bytes ≡ codes " " ++ (address_text address.0 ++ rest)
  fits : address.0 < 2 ^ 32

address_told : (bytes : List ℕ) (address : Addr) (rest : List ℕ) → address_at bytes ≡ Some (address, rest) → IsAddress bytes address rest
unfolding address_at
address_told bytes address rest is =
    let last : List ℕ × List ℕ → Part Addr = λ octets. Some (record { 0 = from_be_bytes w32 octets.0 }, octets.1) in
    let (front, found, more) = then_found (behind (codes " ") bytes) (λ t. octets_at t >>= last) (address, rest) is in
    let (octets, read, end) = then_found (octets_at front) last (address, rest) more in
    let (same, line) = some_pair_parts (record { 0 = from_be_bytes w32 octets.0 }) address octets.1 rest end in
    let told = octets_told front octets.0 octets.1 read in
    subst (λ (a : Addr). IsAddress bytes a rest) same (record {
      split = behind_told (codes " ") bytes front found
          ∙ ap (λ t. codes " " ++ t) (told.text ∙ ap (λ t. address_text (from_be_bytes w32 octets.0) ++ t) line);
      fits = told.fits;
    })

-- a text is a port behind a space, and a rest
record IsPort (bytes : List ℕ) (port : ℕ) (rest : List ℕ) : Type 0 where
  split : bytes ≡ codes " " ++ (decimal port ++ rest)
  last : port ≤ 65535

port_told : (bytes : List ℕ) (port : ℕ) (rest : List ℕ) → port_at bytes ≡ Some (port, rest) → IsPort bytes port rest
unfolding port_at
port_told bytes port rest is =
    let (front, found, more) = then_found (behind (codes " ") bytes) (number_at 65535) (port, rest) is in
    let told = number_told 65535 front port rest (omega arith) more in
    record { split = behind_told (codes " ") bytes front found ∙ ap (λ t. codes " " ++ t) told.split; last = told.last }

-- ---- protocols

-- a text is a protocol behind a space, and a rest
record IsProtocol (bytes : List ℕ) (protocol : ℕ) (rest : List ℕ) : Type 0 where
  split : bytes ≡ codes " " ++ (protocol_word protocol ++ rest)
  last : protocol ≤ 255

plain_word : (n : ℕ) → is_named_protocol n ≡ false → protocol_word n ≡ decimal n
unfolding protocol_word
plain_word n other =
    let (isn't_0, others) = or_parts (n == 0) (n == 1 || (n == 6 || n == 17)) other in
    let (isn't_1, more) = or_parts (n == 1) (n == 6 || n == 17) others in
    let (isn't_6, isn't_17) = or_parts (n == 6) (n == 17) more in
    rw (isn't_0, isn't_1, isn't_6, isn't_17) refl

plain_found : (found : Part ℕ) (n : ℕ) (rest : List ℕ) → plain_protocol found ≡ Some (n, rest) → (found ≡ Some (n, rest)) × (is_named_protocol n ≡ false)
unfolding plain_protocol
plain_found None n rest is = absurd (none-some (n, rest) is)
plain_found (Some (m, bytes)) n rest is = elim (cases_Bool (is_named_protocol m)) [
  | inl named ↦ let no = rw named at is in absurd (none-some (n, rest) no)
  | inr other ↦
      let on = rw other at is in
      let (same, end) = some_pair_parts m n bytes rest on in
      (on, subst (λ k. is_named_protocol k ≡ false) same other)
]

by_name : (word bytes : List ℕ) (number protocol : ℕ) (rest : List ℕ) → told_by word number bytes ≡ Some (protocol, rest)
    → word ++ rest ≡ codes " " ++ (protocol_word number ++ rest) → number ≤ 255 → IsProtocol bytes protocol rest
by_name word bytes number protocol rest is text low =
    let (same, split) = by_word word bytes rest number protocol is in
    subst (λ k. IsProtocol bytes k rest) same (record { split = split ∙ text; last = low })

by_number : (bytes : List ℕ) (protocol : ℕ) (rest : List ℕ) → (behind (codes " ") bytes >>= λ front. plain_protocol (number_at 255 front)) ≡ Some (protocol, rest)
    → IsProtocol bytes protocol rest
by_number bytes protocol rest is =
    let (front, found, more) = then_found (behind (codes " ") bytes) (λ t. plain_protocol (number_at 255 t)) (protocol, rest) is in
    let (number, plain) = plain_found (number_at 255 front) protocol rest more in
    let told = number_told 255 front protocol rest (omega arith) number in
    record {
      split = behind_told (codes " ") bytes front found
          ∙ ap (λ t. codes " " ++ t) (told.split ∙ sym (ap (λ t. t ++ rest) (plain_word protocol plain)));
      last = told.last;
    }

protocol_told : (bytes : List ℕ) (protocol : ℕ) (rest : List ℕ) → protocol_at bytes ≡ Some (protocol, rest) → IsProtocol bytes protocol rest
unfolding protocol_at protocol_word
protocol_told bytes protocol rest is =
    let plain : Part ℕ = behind (codes " ") bytes >>= λ front. plain_protocol (number_at 255 front) in
    let third : Part ℕ = or_else (told_by (codes " udp") 17 bytes) plain in
    let second : Part ℕ = or_else (told_by (codes " tcp") 6 bytes) third in
    let first : Part ℕ = or_else (told_by (codes " icmp") 1 bytes) second in
    elim (one_found (told_by (codes " ip") 0 bytes) first (protocol, rest) is) [
      | inl ip ↦ by_name (codes " ip") bytes 0 protocol rest ip refl (omega arith)
      | inr more ↦ elim (one_found (told_by (codes " icmp") 1 bytes) second (protocol, rest) more) [
        | inl icmp ↦ by_name (codes " icmp") bytes 1 protocol rest icmp refl (omega arith)
        | inr other ↦ elim (one_found (told_by (codes " tcp") 6 bytes) third (protocol, rest) other) [
          | inl tcp ↦ by_name (codes " tcp") bytes 6 protocol rest tcp refl (omega arith)
          | inr last ↦ elim (one_found (told_by (codes " udp") 17 bytes) plain (protocol, rest) last) [
            | inl udp ↦ by_name (codes " udp") bytes 17 protocol rest udp refl (omega arith)
            | inr number ↦ by_number bytes protocol rest number
          ]
        ]
      ]
    ]

-- ---- flows

-- a text is a flow and a rest
pub record IsFlowText (bytes : List ℕ) (flow : Flow) (rest : List ℕ) : Type 0 where
  pub split : bytes ≡ flow_then flow rest
  pub within : IsFlow flow

-- the flow of these parts
abbrev flow_of : ℕ → Addr → ℕ → Addr → ℕ → Flow
flow_of protocol source source_port destination destination_port = record {
  source = source;
  destination = destination;
  source_port = source_port;
  destination_port = destination_port;
  protocol = protocol;
}

-- the steps of reading a flow, from the last to the first
abbrev ends_step : ℕ → Addr → ℕ → Addr → ℕ × List ℕ → Part Flow
ends_step protocol source source_port destination port = Some (flow_of protocol source source_port destination port.0, port.1)

abbrev destination_step : ℕ → Addr → ℕ → Addr × List ℕ → Part Flow
destination_step protocol source source_port destination = port_at destination.1 >>= ends_step protocol source source_port destination.0

abbrev source_port_step : ℕ → Addr → ℕ × List ℕ → Part Flow
source_port_step protocol source port = address_at port.1 >>= destination_step protocol source port.0

abbrev source_step : ℕ → Addr × List ℕ → Part Flow
source_step protocol source = port_at source.1 >>= source_port_step protocol source.0

abbrev protocol_step : ℕ × List ℕ → Part Flow
protocol_step protocol = address_at protocol.1 >>= source_step protocol.0

-- what is read of a flow is what it is the text of
pub flow_told : (bytes : List ℕ) (flow : Flow) (rest : List ℕ) → flow_at bytes ≡ Some (flow, rest) → IsFlowText bytes flow rest
unfolding flow_at
flow_told bytes flow rest is =
    let (p, p_found, p_more) = then_found (protocol_at bytes) protocol_step (flow, rest) is in
    let (s, s_found, s_more) = then_found (address_at p.1) (source_step p.0) (flow, rest) p_more in
    let (sp, sp_found, sp_more) = then_found (port_at s.1) (source_port_step p.0 s.0) (flow, rest) s_more in
    let (d, d_found, d_more) = then_found (address_at sp.1) (destination_step p.0 s.0 sp.0) (flow, rest) sp_more in
    let (dp, dp_found, last) = then_found (port_at d.1) (ends_step p.0 s.0 sp.0 d.0) (flow, rest) d_more in
    let (same, end) = some_pair_parts (flow_of p.0 s.0 sp.0 d.0 dp.0) flow dp.1 rest last in
    let protocol = protocol_told bytes p.0 p.1 p_found in
    let source = address_told p.1 s.0 s.1 s_found in
    let source_port = port_told s.1 sp.0 sp.1 sp_found in
    let destination = address_told sp.1 d.0 d.1 d_found in
    let destination_port = port_told d.1 dp.0 dp.1 dp_found in
    subst (λ (f : Flow). IsFlowText bytes f rest) same (record {
      split = protocol.split ∙ ap (λ t. codes " " ++ (protocol_word p.0 ++ t)) (source.split ∙ ap (λ t. codes " " ++ (address_text s.0.0 ++ t))
          (source_port.split ∙ ap (λ t. codes " " ++ (decimal sp.0 ++ t)) (destination.split ∙ ap (λ t. codes " " ++ (address_text d.0.0 ++ t))
          (destination_port.split ∙ ap (λ t. codes " " ++ (decimal dp.0 ++ t)) end))));
      within = record { protocol = protocol.last; source = source.fits; source_port = source_port.last; destination = destination.fits; destination_port = destination_port.last };
    })
