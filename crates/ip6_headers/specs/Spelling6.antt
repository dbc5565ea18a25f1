-- How an IPv6 packet is spelled, field after field: the link header, the IPv6 header, the extension headers
-- and what is behind them (RFC 8200 sections 3 and 4).
use Rattle.std.specs.Prelude.{◌≡◌, ◌≢◌, ℕ, ◌+◌, ◌*◌, ◌/◌, ◌^◌, ◌<◌, ◌⊎◌, true, false, List, [], ◌∷◌, ◌++◌, length}
use Rattle.std.specs.Int.{to_be_bytes, w16, w32}
use Rattle.std.specs.List.{AllByRecursion}
use Rattle.fw_base.specs.declared.link.Link.{Link}
use Rattle.fw_base.specs.declared.link.Link.TheVariants.{Null, Ethernet, Raw, Cooked}
use Rattle.packet_headers.specs.Octets.{two_octets}
use Rattle.ip6_headers.specs.declared.any_ip.AnyIp.TheVariants.{Six}
use Rattle.ip6_headers.specs.declared.any_packet.AnyPacket.TheVariants.{Ip}
use Rattle.ip6_headers.specs.Chain.{is_extension, fragment, length_told}
use Rattle.ip6_headers.specs.Fields6.{Fields6}
use Rattle.ip6_headers.specs.Reading.{address_at, read_any}

-- an IPv6 header, but for the payload length and the next header; each address by its 16 bytes
pub record Header6 : Type 0 where
  -- the traffic class and the flow label
  pub class : ℕ
  pub hop_limit : ℕ
  pub source : List ℕ
  pub destination : List ℕ

-- its fields fit their places
pub record IsHeader6 (h : Header6) : Type 0 where
  pub class : h.class < 2 ^ 28
  pub source : length h.source ≡ 16
  pub destination : length h.destination ≡ 16

-- an extension header: its number, the byte that counts its length, and the bytes behind that
pub record Extension : Type 0 where
  pub number : ℕ
  pub count : ℕ
  pub rest : List ℕ

-- It is as long as it says, and a fragment header isn't that of a later fragment.
pub record IsExtension (e : Extension) : Type 0 where
  pub known : is_extension e.number ≡ true
  pub whole : 2 + length e.rest ≡ length_told e.number e.count
  pub first : e.number ≡ fragment → two_octets e.rest 0 / 8 ≡ 0

-- what the header before these says is next
abbrev pub next_number : List Extension → ℕ → ℕ
next_number [] last = last
next_number (e ∷ more) last = e.number

-- the extension headers, each with the number of what is behind it, and the payload
abbrev pub chain_bytes : List Extension → ℕ → List ℕ → List ℕ
chain_bytes [] last payload = payload
chain_bytes (e ∷ more) last payload = next_number more last ∷ e.count ∷ (e.rest ++ chain_bytes more last payload)

-- the header's bytes, in the order of the fields, and what is behind it
abbrev pub packet6_bytes : Header6 → ℕ → List ℕ → List ℕ
packet6_bytes h next behind =
    to_be_bytes w32 (6 * 2 ^ 28 + h.class)
    ++ (to_be_bytes w16 (length behind)
    ++ (next ∷ h.hop_limit ∷ (h.source ++ (h.destination ++ behind))))

-- what the spelled headers say
abbrev pub fields6_of : Header6 → ℕ → List ℕ → List ℕ → Fields6
fields6_of h last behind payload = record {
  source = address_at h.source 0;
  destination = address_at h.destination 0;
  protocol = last;
  total = 40 + length behind;
  offset = 0;
  transport = payload;
}

-- the link headers that stand before IPv6
abbrev pub IsLinkHeader6 : Link → List ℕ → Type 0
IsLinkHeader6 Null front =
    (family : ℕ) × ((family ≡ 24) ⊎ ((family ≡ 28) ⊎ (family ≡ 30)))
    × ((front ≡ family ∷ 0 ∷ 0 ∷ 0 ∷ []) ⊎ (front ≡ 0 ∷ 0 ∷ 0 ∷ family ∷ []))
IsLinkHeader6 Ethernet front =
    (addresses : List ℕ) × (length addresses ≡ 12)
    × ((front ≡ addresses ++ 0x86 ∷ 0xdd ∷ []) ⊎ ((a b : ℕ) × (front ≡ addresses ++ 0x81 ∷ 0x00 ∷ a ∷ b ∷ 0x86 ∷ 0xdd ∷ [])))
IsLinkHeader6 Raw front = front ≡ []
IsLinkHeader6 Cooked front =
    (address : List ℕ) × (length address ≡ 14) × (front ≡ address ++ 0x86 ∷ 0xdd ∷ [])

-- Such a frame is read as the header's fields, whatever follows the packet: the protocol is that of the
-- header behind the extension headers.
abbrev pub SpelledPacketsAreRead : Type 0
SpelledPacketsAreRead =
    (link : Link) (front : List ℕ) (h : Header6) (extensions : List Extension) (last : ℕ) (payload padding : List ℕ)
    → IsLinkHeader6 link front → IsHeader6 h
    → AllByRecursion IsExtension extensions → is_extension last ≡ false
    → length (chain_bytes extensions last payload) ≢ 0 → length (chain_bytes extensions last payload) < 2 ^ 16
    → read_any link (front ++ (packet6_bytes h (next_number extensions last) (chain_bytes extensions last payload) ++ padding))
    ≡ Ip (Six (fields6_of h last (chain_bytes extensions last payload) payload))
