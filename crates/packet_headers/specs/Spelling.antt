-- How a frame is spelled, field after field: the link header, then the IPv4 packet (RFC 791 section 3.1).
use Rattle.std.specs.Prelude.{◌≡◌, ℕ, ◌+◌, ◌*◌, ◌/◌, ◌^◌, ◌<◌, ◌≤◌, ◌⊎◌, ◌≢◌, List, [], ◌∷◌, ◌++◌, length, map, ◌==◌, if◌then◌else◌}
use Rattle.std.specs.Int.{to_be_bytes, w16, w32}
use Rattle.std.specs.List.{flat_map, AllByRecursion}
use Rattle.fw_base.specs.declared.link.Link.{Link}
use Rattle.fw_base.specs.declared.link.Link.TheVariants.{Null, Ethernet, Raw, Cooked}
use Rattle.packet_headers.specs.Fields.{Fields}
use Rattle.packet_headers.specs.Options.{option_types}
use Rattle.packet_headers.specs.Reading.{Ip, reading_of_frame}

-- an IPv4 header, but for the lengths
pub record Header : Type 0 where
  pub service : ℕ
  pub identification : ℕ
  pub flags : ℕ
  pub offset : ℕ
  pub time_to_live : ℕ
  pub protocol : ℕ
  pub checksum : ℕ
  pub source : ℕ
  pub destination : ℕ
  pub options : List ℕ

-- the header's fields fit their places, its options are whole words, and the total length can be told
pub record IsHeader (h : Header) (payload : List ℕ) : Type 0 where
  pub offset : h.offset < 8192
  pub flags : h.flags < 8
  pub source : h.source < 2 ^ 32
  pub destination : h.destination < 2 ^ 32
  pub words : length h.options ≡ 4 * (length h.options / 4)
  pub most : length h.options ≤ 40
  pub total : 20 + length h.options + length payload < 2 ^ 16

-- the header's bytes, in the order of the fields, and the payload
abbrev pub packet_bytes : Header → List ℕ → List ℕ
packet_bytes h payload =
    (16 * 4 + (5 + length h.options / 4)) ∷ h.service
    ∷ (to_be_bytes w16 (20 + length h.options + length payload)
    ++ (to_be_bytes w16 h.identification
    ++ (to_be_bytes w16 (h.flags * 8192 + h.offset)
    ++ (h.time_to_live ∷ h.protocol
    ∷ (to_be_bytes w16 h.checksum
    ++ (to_be_bytes w32 h.source
    ++ (to_be_bytes w32 h.destination
    ++ (h.options ++ payload))))))))

-- what the spelled header says
abbrev pub fields_of : Header → List ℕ → Fields
fields_of h payload = record {
  source = h.source;
  destination = h.destination;
  protocol = h.protocol;
  total = 20 + length h.options + length payload;
  offset = h.offset;
  options = h.options;
  transport = payload;
}

-- the link headers that stand before IPv4
abbrev pub IsLinkHeader : Link → List ℕ → Type 0
IsLinkHeader Null front = (front ≡ 2 ∷ 0 ∷ 0 ∷ 0 ∷ []) ⊎ (front ≡ 0 ∷ 0 ∷ 0 ∷ 2 ∷ [])
IsLinkHeader Ethernet front =
    (addresses : List ℕ) × (length addresses ≡ 12)
    × ((front ≡ addresses ++ 0x08 ∷ 0x00 ∷ []) ⊎ ((a b : ℕ) × (front ≡ addresses ++ 0x81 ∷ 0x00 ∷ a ∷ b ∷ 0x08 ∷ 0x00 ∷ [])))
IsLinkHeader Raw front = front ≡ []
IsLinkHeader Cooked front =
    (address : List ℕ) × (length address ≡ 14) × (front ≡ address ++ 0x08 ∷ 0x00 ∷ [])

-- Such a frame is read as the header's fields, whatever follows the packet.
abbrev pub SpelledFramesAreRead : Type 0
SpelledFramesAreRead =
    (link : Link) (front : List ℕ) (h : Header) (payload padding : List ℕ)
    → IsLinkHeader link front → IsHeader h payload
    → reading_of_frame link (front ++ (packet_bytes h payload ++ padding)) ≡ Ip (fields_of h payload)

-- an option is its type, and but for type 1 a length and its data
abbrev pub option_bytes : ℕ × List ℕ → List ℕ
option_bytes option =
    if option.0 == 1 then 1 ∷ [] else option.0 ∷ (length option.1 + 2) ∷ option.1

-- The types of options that are spelled one after another are told in this order, before those of the
-- bytes behind them.
abbrev pub SpelledOptionsAreTold : Type 0
SpelledOptionsAreTold =
    (options : List (ℕ × List ℕ)) (behind : List ℕ)
    → AllByRecursion (λ option. option.0 ≢ 0) options
    → option_types (flat_map option_bytes options ++ behind) ≡ map (λ option. option.0) options ++ option_types behind
