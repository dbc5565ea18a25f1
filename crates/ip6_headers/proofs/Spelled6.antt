-- What is spelled is read.
use Rattle.std.proofs.Common.{◌≡◌, ◌≢◌, ℕ, ◌+◌, ◌-◌, ◌*◌, ◌/◌, ◌^◌, ◌<◌, ◌≤◌, ◌⊎◌, inl, inr, Bool, true, false, not, ◌||◌, ◌==◌, if◌then◌else◌, Some, find, List, [], ◌∷◌, ◌++◌, length, take, drop, refl, arith, ap, sym, subst, ◌∙◌, length-append, append_assoc}
use Rattle.std.proofs.lemmas.Bool.{le-leb}
use Rattle.std.proofs.Math.ListN.{get_or-append}
use Rattle.std.proofs.Math.Seq.{take-append_seam}
use Rattle.std.specs.Int.{to_be_bytes, w16, w32}
use Rattle.std.specs.List.{AllByRecursion}
use Rattle.fw_base.specs.declared.link.Link.{Link}
use Rattle.fw_base.specs.declared.link.Link.TheVariants.{Null, Ethernet, Raw, Cooked}
use Rattle.packet_headers.specs.Octets.{octet, two_octets, four_octets}
use Rattle.packet_headers.specs.Reading.{version}
use Rattle.packet_headers.proofs.Spelled.{two_octets-spelled, octet-behind, drop-behind}
use Rattle.ip6_headers.specs.declared.any_ip.AnyIp.TheVariants.{Six}
use Rattle.ip6_headers.specs.declared.any_packet.AnyPacket.TheVariants.{Ip}
use Rattle.ip6_headers.specs.Chain.{Header, is_extension, fragment, length_told, is_whole, fragment_offset, ends_chain, next_header, first_header, headers_from, headers}
use Rattle.ip6_headers.specs.Fields6.{Fields6}
use Rattle.ip6_headers.specs.Layer.{Layer, layer_at}
use Rattle.ip6_headers.specs.Reading.{is_ipv6_family, ipv6_packet, total_length6, address_at, fields_with, within_total, layer_of, read_ipv6, read_any, read_either}
use Rattle.ip6_headers.specs.Spelling6.{Header6, IsHeader6, Extension, IsExtension, next_number, chain_bytes, packet6_bytes, fields6_of, IsLinkHeader6, SpelledPacketsAreRead}
use Rattle.ip6_headers.proofs.Walks.{from-ended, from-passed, last-found}

-- ---- one extension header

told-least : (number count : ℕ) → 8 ≤ length_told number count
told-least number count = grind arith

passes : (known whole : Bool) (offset : ℕ) → known ≡ true → whole ≡ true → offset ≡ 0 → (not known || (not whole || not (offset == 0))) ≡ false
passes known whole offset a b c = rw (a, b, c) refl

ends : (known other : Bool) → known ≡ false → (not known || other) ≡ true
ends known other a = rw a refl

offset-none : (number told : ℕ) → (number ≡ fragment → told / 8 ≡ 0) → (if number == fragment then told / 8 else 0) ≡ 0
offset-none number told first = grind arith

front-told : (xs ys : List ℕ) → 2 ≤ length xs → two_octets (xs ++ ys) 0 ≡ two_octets xs 0
front-told xs ys long = rw (get_or-append xs ys 0 0 (omega arith), get_or-append xs ys 0 1 (omega arith)) refl

-- where the chain of a packet ends: this header, behind which there are these bytes
record EndsBefore (packet : List ℕ) (more : ℕ) (from : Header) (last : ℕ) (payload : List ℕ) : Type 0 where
  pub place : ℕ
  pub found : find (ends_chain packet) (headers_from more packet from) ≡ Some (record { number = last; place = place })
  pub behind : drop place packet ≡ payload

-- one extension header is passed
passed : (e : Extension) (next more last : ℕ) (front tail payload : List ℕ) → IsExtension e → 0 < more
    → EndsBefore ((front ++ next ∷ e.count ∷ e.rest) ++ tail) (more - 1) (record { number = next; place = length (front ++ next ∷ e.count ∷ e.rest) }) last payload
    → EndsBefore (front ++ (next ∷ e.count ∷ (e.rest ++ tail))) more (record { number = e.number; place = length front }) last payload
passed e next more last front tail payload is some rest =
    let bytes : List ℕ = next ∷ e.count ∷ (e.rest ++ tail) in
    let packet : List ℕ = front ++ bytes in
    let here : Header = record { number = e.number; place = length front } in
    let same : (front ++ next ∷ e.count ∷ e.rest) ++ tail ≡ packet = append_assoc front (next ∷ e.count ∷ e.rest) tail in
    let count : octet packet (length front + 1) ≡ e.count = octet-behind front bytes 1 (length front + 1) refl in
    let number : octet packet (length front) ≡ next = octet-behind front bytes 0 (length front) (omega arith) in
    let size : length_told e.number (octet packet (length front + 1)) ≡ 2 + length e.rest = ap (length_told e.number) count ∙ sym is.whole in
    let sized : length packet ≡ length front + (2 + (length e.rest + length tail)) = omega (arith, length-append front bytes, length-append e.rest tail) in
    let whole : is_whole packet here ≡ true = le-leb _ _ (omega (arith, size, sized)) in
    let told : two_octets packet (length front + 2) ≡ two_octets e.rest 0 =
    rw (octet-behind front bytes 2 (length front + 2) refl, octet-behind front bytes 3 (length front + 2 + 1) (omega arith))
    (front-told e.rest tail (omega (arith, is.whole, told-least e.number e.count))) in
    let offset : fragment_offset packet here ≡ 0 = offset-none e.number (two_octets packet (length front + 2)) (λ fragments. ap (λ (n : ℕ). n / 8) told ∙ is.first fragments) in
    let goes : ends_chain packet here ≡ false = passes (is_extension e.number) (is_whole packet here) (fragment_offset packet here) is.known whole offset in
    let place : length front + length_told e.number (octet packet (length front + 1)) ≡ length (front ++ next ∷ e.count ∷ e.rest) = omega (arith, size, length-append front (next ∷ e.count ∷ e.rest)) in
    let following : next_header packet here ≡ record { number = next; place = length (front ++ next ∷ e.count ∷ e.rest) } = λ i. record { number = number i; place = place i } in
    record {
      place = rest.place;
      found = from-passed more packet here some goes ∙ ap (λ (h : Header). find (ends_chain packet) (headers_from (more - 1) packet h)) following
          ∙ subst (λ (p : List ℕ). find (ends_chain p) (headers_from (more - 1) p (record { number = next; place = length (front ++ next ∷ e.count ∷ e.rest) })) ≡ Some (record { number = last; place = rest.place })) same rest.found;
      behind = subst (λ (p : List ℕ). drop rest.place p ≡ payload) same rest.behind;
    }

-- all of them are
walked : (es : List Extension) (last : ℕ) (payload front : List ℕ) (more : ℕ) → AllByRecursion IsExtension es → is_extension last ≡ false → length es < more
    → EndsBefore (front ++ chain_bytes es last payload) more (record { number = next_number es last; place = length front }) last payload
walked [] last payload front more all other enough = record {
  place = length front;
  found = from-ended more (front ++ payload) (record { number = last; place = length front }) (omega (arith, enough)) (ends (is_extension last) _ other);
  behind = drop-behind front payload 0 (length front) (omega arith);
}
walked (e ∷ es) last payload front more all other enough =
    passed e (next_number es last) more last front (chain_bytes es last payload) payload all.0 (omega (arith, enough))
    (walked es last payload (front ++ next_number es last ∷ e.count ∷ e.rest) (more - 1) all.1 other (omega (arith, enough)))

-- ---- the packet

same_fields6 : (f g : Fields6) → f.source ≡ g.source → f.destination ≡ g.destination → f.protocol ≡ g.protocol → f.total ≡ g.total → f.offset ≡ g.offset → f.transport ≡ g.transport → f ≡ g
same_fields6 f g a b c d e t = λ i. record { source = a i; destination = b i; protocol = c i; total = d i; offset = e i; transport = t i }

read-passed : (packet : List ℕ) → 40 ≤ length packet → version packet ≡ 6 → read_ipv6 packet ≡ Ip (Six (fields_with packet (layer_of (within_total packet))))
unfolding read_ipv6
read-passed packet long six = grind arith

total-told : (packet : List ℕ) (n : ℕ) → two_octets packet 4 ≡ n → n ≢ 0 → total_length6 packet ≡ 40 + n
total-told packet n told some = grind arith

layer-behind : (packet : List ℕ) (number place : ℕ) (payload : List ℕ) → is_extension number ≡ false → drop place packet ≡ payload → layer_at packet (record { number = number; place = place }) ≡ record { protocol = number; offset = 0; transport = payload }
layer-behind packet number place payload other behind = rw (other, behind) refl

four-front : (xs ys : List ℕ) (i : ℕ) → i + 4 ≤ length xs → four_octets (xs ++ ys) i ≡ four_octets xs i
four-front xs ys i long =
    rw (get_or-append xs ys 0 i (omega arith), get_or-append xs ys 0 (i + 1) (omega arith), get_or-append xs ys 0 (i + 2) (omega arith), get_or-append xs ys 0 (i + 2 + 1) (omega arith)) refl

address-front : (xs ys : List ℕ) → length xs ≡ 16 → address_at (xs ++ ys) 0 ≡ address_at xs 0
address-front xs ys long =
    let a : four_octets (xs ++ ys) 0 ≡ four_octets xs 0 = four-front xs ys 0 (omega arith) in
    let b : four_octets (xs ++ ys) 4 ≡ four_octets xs 4 = four-front xs ys 4 (omega arith) in
    let c : four_octets (xs ++ ys) 8 ≡ four_octets xs 8 = four-front xs ys 8 (omega arith) in
    let d : four_octets (xs ++ ys) 12 ≡ four_octets xs 12 = four-front xs ys 12 (omega arith) in
    ap (λ (n : ℕ). (n * 2 ^ 32 + four_octets (xs ++ ys) 4) * 2 ^ 64 + (four_octets (xs ++ ys) 8 * 2 ^ 32 + four_octets (xs ++ ys) 12)) a
    ∙ ap (λ (n : ℕ). (four_octets xs 0 * 2 ^ 32 + n) * 2 ^ 64 + (four_octets (xs ++ ys) 8 * 2 ^ 32 + four_octets (xs ++ ys) 12)) b
    ∙ ap (λ (n : ℕ). (four_octets xs 0 * 2 ^ 32 + four_octets xs 4) * 2 ^ 64 + (n * 2 ^ 32 + four_octets (xs ++ ys) 12)) c
    ∙ ap (λ (n : ℕ). (four_octets xs 0 * 2 ^ 32 + four_octets xs 4) * 2 ^ 64 + (four_octets xs 8 * 2 ^ 32 + n)) d

four-behind : (xs ys : List ℕ) (i j : ℕ) → length xs + i ≡ j → four_octets (xs ++ ys) j ≡ four_octets ys i
four-behind xs ys i j e =
    rw (octet-behind xs ys i j e, octet-behind xs ys (i + 1) (j + 1) (omega arith), octet-behind xs ys (i + 2) (j + 2) (omega arith), octet-behind xs ys (i + 2 + 1) (j + 2 + 1) (omega arith)) refl

address-behind : (xs ys : List ℕ) → length xs ≡ 16 → address_at (xs ++ ys) 16 ≡ address_at ys 0
address-behind xs ys long =
    let a : four_octets (xs ++ ys) 16 ≡ four_octets ys 0 = four-behind xs ys 0 16 (omega arith) in
    let b : four_octets (xs ++ ys) 20 ≡ four_octets ys 4 = four-behind xs ys 4 20 (omega arith) in
    let c : four_octets (xs ++ ys) 24 ≡ four_octets ys 8 = four-behind xs ys 8 24 (omega arith) in
    let d : four_octets (xs ++ ys) 28 ≡ four_octets ys 12 = four-behind xs ys 12 28 (omega arith) in
    ap (λ (n : ℕ). (n * 2 ^ 32 + four_octets (xs ++ ys) 20) * 2 ^ 64 + (four_octets (xs ++ ys) 24 * 2 ^ 32 + four_octets (xs ++ ys) 28)) a
    ∙ ap (λ (n : ℕ). (four_octets ys 0 * 2 ^ 32 + n) * 2 ^ 64 + (four_octets (xs ++ ys) 24 * 2 ^ 32 + four_octets (xs ++ ys) 28)) b
    ∙ ap (λ (n : ℕ). (four_octets ys 0 * 2 ^ 32 + four_octets ys 4) * 2 ^ 64 + (n * 2 ^ 32 + four_octets (xs ++ ys) 28)) c
    ∙ ap (λ (n : ℕ). (four_octets ys 0 * 2 ^ 32 + four_octets ys 4) * 2 ^ 64 + (four_octets ys 8 * 2 ^ 32 + n)) d

-- the first 40 bytes
abbrev head : Header6 → ℕ → ℕ → List ℕ
head h next count = to_be_bytes w32 (6 * 2 ^ 28 + h.class) ++ (to_be_bytes w16 count ++ (next ∷ h.hop_limit ∷ (h.source ++ h.destination)))

head-before : (h : Header6) (next : ℕ) (behind : List ℕ) → packet6_bytes h next behind ≡ head h next (length behind) ++ behind
head-before h next behind = rw (append_assoc h.source h.destination behind) refl

length-head : (h : Header6) (next count : ℕ) → IsHeader6 h → length (head h next count) ≡ 40
length-head h next count is = omega (arith, is.source, is.destination, length-append h.source h.destination)

length-spelled : (h : Header6) (next : ℕ) (behind : List ℕ) → IsHeader6 h → length (packet6_bytes h next behind) ≡ 40 + length behind
length-spelled h next behind is = omega (arith, is.source, is.destination, length-append h.source (h.destination ++ behind), length-append h.destination behind)

version-spelled : (h : Header6) (next : ℕ) (behind padding : List ℕ) → IsHeader6 h → version (packet6_bytes h next behind ++ padding) ≡ 6
version-spelled h next behind padding is = omega (arith, is.class)

few-headers : (es : List Extension) (last : ℕ) (payload : List ℕ) → length es ≤ length (chain_bytes es last payload)
few-headers [] last payload = omega arith
few-headers (e ∷ es) last payload = omega (arith, few-headers es last payload, length-append e.rest (chain_bytes es last payload))

-- the chain that is spelled leads to the payload
layer-spelled : (h : Header6) (es : List Extension) (last : ℕ) (payload : List ℕ) → IsHeader6 h → AllByRecursion IsExtension es → is_extension last ≡ false
    → layer_of (packet6_bytes h (next_number es last) (chain_bytes es last payload)) ≡ record { protocol = last; offset = 0; transport = payload }
layer-spelled h es last payload is all other =
    let next : ℕ = next_number es last in
    let behind : List ℕ = chain_bytes es last payload in
    let front : List ℕ = head h next (length behind) in
    let bytes : List ℕ = front ++ behind in
    let size : length front ≡ 40 = length-head h next (length behind) is in
    let enough : length es < length bytes = omega (arith, size, few-headers es last payload, length-append front behind) in
    let walk : EndsBefore bytes (length bytes) (record { number = next; place = length front }) last payload = walked es last payload front (length bytes) all other enough in
    let first : first_header bytes ≡ record { number = next; place = length front } = λ i. record { number = next; place = sym size i } in
    let found : find (ends_chain bytes) (headers bytes) ≡ Some (record { number = last; place = walk.place }) =
    ap (λ (from : Header). find (ends_chain bytes) (headers_from (length bytes) bytes from)) first ∙ walk.found in
    ap layer_of (head-before h next behind)
    ∙ sym (ap (layer_at bytes) (last-found bytes (record { number = last; place = walk.place }) found))
    ∙ layer-behind bytes last walk.place payload other walk.behind

source-spelled : (h : Header6) (next : ℕ) (behind padding : List ℕ) → IsHeader6 h → address_at (packet6_bytes h next behind ++ padding) 8 ≡ address_at h.source 0
source-spelled h next behind padding is =
    rw (append_assoc h.source (h.destination ++ behind) padding) (address-front h.source ((h.destination ++ behind) ++ padding) is.source)

destination-spelled : (h : Header6) (next : ℕ) (behind padding : List ℕ) → IsHeader6 h → address_at (packet6_bytes h next behind ++ padding) 24 ≡ address_at h.destination 0
destination-spelled h next behind padding is =
    rw (append_assoc h.source (h.destination ++ behind) padding, append_assoc h.destination behind padding)
    (address-behind h.source (h.destination ++ (behind ++ padding)) is.source ∙ address-front h.destination (behind ++ padding) is.destination)

spelled-is-read : (h : Header6) (es : List Extension) (last : ℕ) (payload padding : List ℕ) → IsHeader6 h → AllByRecursion IsExtension es → is_extension last ≡ false
    → length (chain_bytes es last payload) ≢ 0 → length (chain_bytes es last payload) < 2 ^ 16
    → read_ipv6 (packet6_bytes h (next_number es last) (chain_bytes es last payload) ++ padding) ≡ Ip (Six (fields6_of h last (chain_bytes es last payload) payload))
spelled-is-read h es last payload padding is all other some fits =
    let next : ℕ = next_number es last in
    let behind : List ℕ = chain_bytes es last payload in
    let packet : List ℕ = packet6_bytes h next behind in
    let whole : List ℕ = packet ++ padding in
    let size : length packet ≡ 40 + length behind = length-spelled h next behind is in
    let total : total_length6 whole ≡ 40 + length behind = total-told whole (length behind) (two_octets-spelled (length behind) [] fits) some in
    let within : within_total whole ≡ packet = ap (λ (n : ℕ). take n whole) (total ∙ sym size) ∙ take-append_seam packet padding in
    let layer : layer_of (within_total whole) ≡ record { protocol = last; offset = 0; transport = payload } = ap layer_of within ∙ layer-spelled h es last payload is all other in
    read-passed whole (omega (arith, size, length-append packet padding)) (version-spelled h next behind padding is)
    ∙ ap (λ (f : Fields6). Ip (Six f))
    (same_fields6 (fields_with whole (layer_of (within_total whole))) (fields6_of h last behind payload)
    (source-spelled h next behind padding is) (destination-spelled h next behind padding is)
    (ap (λ (l : Layer). l.protocol) layer) total (ap (λ (l : Layer). l.offset) layer) (ap (λ (l : Layer). l.transport) layer))

-- ---- the link header

null-behind : (bytes : List ℕ) → 4 ≤ length bytes → is_ipv6_family (four_octets bytes 0) ≡ true → ipv6_packet Null bytes ≡ Some (drop 4 bytes)
unfolding ipv6_packet
null-behind bytes long family = rw family (grind arith)

ethernet-behind : (bytes : List ℕ) → 14 ≤ length bytes → two_octets bytes 12 ≡ 0x86dd → ipv6_packet Ethernet bytes ≡ Some (drop 14 bytes)
unfolding ipv6_packet
ethernet-behind bytes long type = grind arith

tagged-behind : (bytes : List ℕ) → 18 ≤ length bytes → two_octets bytes 12 ≡ 0x8100 → two_octets bytes 16 ≡ 0x86dd → ipv6_packet Ethernet bytes ≡ Some (drop 18 bytes)
unfolding ipv6_packet
tagged-behind bytes long tag type = grind arith

cooked-behind : (bytes : List ℕ) → 16 ≤ length bytes → two_octets bytes 14 ≡ 0x86dd → ipv6_packet Cooked bytes ≡ Some (drop 16 bytes)
unfolding ipv6_packet
cooked-behind bytes long type = grind arith

raw-behind : (bytes : List ℕ) → version bytes ≡ 6 → ipv6_packet Raw bytes ≡ Some bytes
unfolding ipv6_packet
raw-behind bytes six = grind arith

null-front : (front packet : List ℕ) (family : ℕ) → (family ≡ 24) ⊎ ((family ≡ 28) ⊎ (family ≡ 30))
    → (front ≡ family ∷ 0 ∷ 0 ∷ 0 ∷ []) ⊎ (front ≡ 0 ∷ 0 ∷ 0 ∷ family ∷ []) → ipv6_packet Null (front ++ packet) ≡ Some packet
null-front front packet family (inl a) (inl e) = rw (e, a) (null-behind (24 ∷ 0 ∷ 0 ∷ 0 ∷ packet) (omega arith) refl)
null-front front packet family (inl a) (inr e) = rw (e, a) (null-behind (0 ∷ 0 ∷ 0 ∷ 24 ∷ packet) (omega arith) refl)
null-front front packet family (inr (inl a)) (inl e) = rw (e, a) (null-behind (28 ∷ 0 ∷ 0 ∷ 0 ∷ packet) (omega arith) refl)
null-front front packet family (inr (inl a)) (inr e) = rw (e, a) (null-behind (0 ∷ 0 ∷ 0 ∷ 28 ∷ packet) (omega arith) refl)
null-front front packet family (inr (inr a)) (inl e) = rw (e, a) (null-behind (30 ∷ 0 ∷ 0 ∷ 0 ∷ packet) (omega arith) refl)
null-front front packet family (inr (inr a)) (inr e) = rw (e, a) (null-behind (0 ∷ 0 ∷ 0 ∷ 30 ∷ packet) (omega arith) refl)

ethernet-front : (addresses packet : List ℕ) → length addresses ≡ 12 → ipv6_packet Ethernet ((addresses ++ 0x86 ∷ 0xdd ∷ []) ++ packet) ≡ Some packet
ethernet-front addresses packet count =
    let ending : List ℕ = 0x86 ∷ 0xdd ∷ packet in
    let type : two_octets (addresses ++ ending) 12 ≡ 0x86dd = rw (octet-behind addresses ending 0 12 (omega arith), octet-behind addresses ending 1 13 (omega arith)) refl in
    rw append_assoc
    (ethernet-behind (addresses ++ ending) (omega (arith, length-append addresses ending)) type
    ∙ ap Some (drop-behind addresses ending 2 14 (omega arith)))

tagged-front : (addresses packet : List ℕ) (a b : ℕ) → length addresses ≡ 12 → ipv6_packet Ethernet ((addresses ++ 0x81 ∷ 0x00 ∷ a ∷ b ∷ 0x86 ∷ 0xdd ∷ []) ++ packet) ≡ Some packet
tagged-front addresses packet a b count =
    let ending : List ℕ = 0x81 ∷ 0x00 ∷ a ∷ b ∷ 0x86 ∷ 0xdd ∷ packet in
    let tag : two_octets (addresses ++ ending) 12 ≡ 0x8100 = rw (octet-behind addresses ending 0 12 (omega arith), octet-behind addresses ending 1 13 (omega arith)) refl in
    let type : two_octets (addresses ++ ending) 16 ≡ 0x86dd = rw (octet-behind addresses ending 4 16 (omega arith), octet-behind addresses ending 5 17 (omega arith)) refl in
    rw append_assoc
    (tagged-behind (addresses ++ ending) (omega (arith, length-append addresses ending)) tag type
    ∙ ap Some (drop-behind addresses ending 6 18 (omega arith)))

cooked-front : (address packet : List ℕ) → length address ≡ 14 → ipv6_packet Cooked ((address ++ 0x86 ∷ 0xdd ∷ []) ++ packet) ≡ Some packet
cooked-front address packet count =
    let ending : List ℕ = 0x86 ∷ 0xdd ∷ packet in
    let type : two_octets (address ++ ending) 14 ≡ 0x86dd = rw (octet-behind address ending 0 14 (omega arith), octet-behind address ending 1 15 (omega arith)) refl in
    rw append_assoc
    (cooked-behind (address ++ ending) (omega (arith, length-append address ending)) type
    ∙ ap Some (drop-behind address ending 2 16 (omega arith)))

link-behind : (link : Link) (front packet : List ℕ) → IsLinkHeader6 link front → version packet ≡ 6 → ipv6_packet link (front ++ packet) ≡ Some packet
link-behind Null front packet (family, which, order) six = null-front front packet family which order
link-behind Ethernet front packet (addresses, count, inl e) six = rw e (ethernet-front addresses packet count)
link-behind Ethernet front packet (addresses, count, inr (a, b, e)) six = rw e (tagged-front addresses packet a b count)
link-behind Raw front packet e six = rw e (raw-behind packet six)
link-behind Cooked front packet (address, count, e) six = rw e (cooked-front address packet count)

read-behind : (link : Link) (bytes packet : List ℕ) → ipv6_packet link bytes ≡ Some packet → read_any link bytes ≡ read_ipv6 packet
unfolding read_any
read-behind link bytes packet e = ap (λ o. read_either o link bytes) e

-- an IPv6 frame that is spelled is read as its fields, with the protocol behind its extension headers
pub packets_are_read : SpelledPacketsAreRead
packets_are_read link front h es last payload padding header is all other some fits =
    let next : ℕ = next_number es last in
    let behind : List ℕ = chain_bytes es last payload in
    let packet : List ℕ = packet6_bytes h next behind ++ padding in
    read-behind link (front ++ packet) packet (link-behind link front packet header (version-spelled h next behind padding is))
    ∙ spelled-is-read h es last payload padding is all other some fits
