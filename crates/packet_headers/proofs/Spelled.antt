-- What is spelled is read.
use Rattle.std.proofs.Common.{◌≡◌, ◌≢◌, ℕ, ◌+◌, ◌-◌, ◌*◌, ◌/◌, ◌^◌, ◌<◌, ◌≤◌, ◌⊎◌, inl, inr, List, [], ◌∷◌, ◌++◌, length, take, drop, refl, arith, ap, ◌∙◌, min, length-append, append_assoc}
use Rattle.std.proofs.lemmas.Bool.{cases_eq}
use Rattle.std.proofs.lemmas.List.{get_or-append-add}
use Rattle.std.proofs.Math.Seq.{take-append_seam, drop-append_seam, drop-append-add}
use Rattle.std.specs.Int.{to_be_bytes, w16, w32}
use Rattle.std.specs.List.{flat_map}
use Rattle.fw_base.specs.declared.link.Link.{Link}
use Rattle.fw_base.specs.declared.link.Link.TheVariants.{Null, Ethernet, Raw, Cooked}
use Rattle.packet_headers.specs.Octets.{octet, two_octets, four_octets}
use Rattle.packet_headers.specs.Fields.{Fields}
use Rattle.packet_headers.specs.Options.{option_types}
use Rattle.packet_headers.specs.Reading.{Ip, reading_of_frame, read_ipv4, read_typed, version, header_words, header_length, total_length, fields}
use Rattle.packet_headers.specs.Spelling.{Header, IsHeader, packet_bytes, fields_of, IsLinkHeader, SpelledFramesAreRead, option_bytes, SpelledOptionsAreTold}
use Rattle.packet_headers.proofs.OptionWalk.{option_types-alone, option_types-long}

-- a number in its two bytes
pub two_octets-spelled : (n : ℕ) (rest : List ℕ) → n < 2 ^ 16 → two_octets (to_be_bytes w16 n ++ rest) 0 ≡ n
two_octets-spelled n rest fits = omega arith

four_octets-spelled : (n : ℕ) (rest : List ℕ) → n < 2 ^ 32 → four_octets (to_be_bytes w32 n ++ rest) 0 ≡ n
four_octets-spelled n rest fits = omega arith

same_fields : (f g : Fields) → f.source ≡ g.source → f.destination ≡ g.destination → f.protocol ≡ g.protocol → f.total ≡ g.total → f.offset ≡ g.offset → f.options ≡ g.options → f.transport ≡ g.transport → f ≡ g
same_fields f g a b c d e o t = λ i. record { source = a i; destination = b i; protocol = c i; total = d i; offset = e i; options = o i; transport = t i }

-- the tests that a packet passes
passed : (packet : List ℕ) → 20 ≤ length packet → version packet ≡ 4 → 5 ≤ header_words packet → header_length packet ≤ length packet → header_length packet ≤ total_length packet → read_ipv4 packet ≡ Ip (fields packet)
unfolding read_ipv4
passed packet a b c d e = grind arith

-- ---- the packet

total_told : (packet : List ℕ) (n : ℕ) → two_octets packet 2 ≡ n → n ≢ 0 → total_length packet ≡ n
total_told packet n is some = grind arith

options-of : (n : ℕ) (options payload padding : List ℕ) → n ≡ 20 + length options → take (n - 20) ((options ++ payload) ++ padding) ≡ options
options-of n options payload padding e =
    let count : n - 20 ≡ length options = omega arith in
    rw (count, append_assoc) (take-append_seam options (payload ++ padding))

payload-of : (front options payload padding : List ℕ) (m n : ℕ) → n ≡ length front + length options → m ≡ n + length payload → take (m - n) (drop n (front ++ ((options ++ payload) ++ padding))) ≡ payload
payload-of front options payload padding m n e d =
    let count : m - n ≡ length payload = omega arith in
    rw (count, e, drop-append-add front _ (length options), append_assoc, drop-append_seam) (take-append_seam payload padding)

version-spelled : (h : Header) (payload padding : List ℕ) → IsHeader h payload → version (packet_bytes h payload ++ padding) ≡ 4
version-spelled h payload padding is = omega (arith, is.words, is.most)

-- a spelled packet is read as its own fields, whatever padding stands behind it
pub spelled-is-read : (h : Header) (payload padding : List ℕ) → IsHeader h payload → read_ipv4 (packet_bytes h payload ++ padding) ≡ Ip (fields_of h payload)
spelled-is-read h payload padding is =
    let packet : List ℕ = packet_bytes h payload ++ padding in
    let all : ℕ = 20 + length h.options + length payload in
    let total : total_length packet ≡ all = total_told packet all (two_octets-spelled all [] is.total) (omega arith) in
    let words : header_words packet ≡ 5 + length h.options / 4 = omega (arith, is.words, is.most) in
    let header : header_length packet ≡ 20 + length h.options = omega (arith, words, is.words) in
    let bytes : length packet ≡ 20 + length h.options + length payload + length padding = omega (arith, length-append (h.options ++ payload) padding, length-append h.options payload) in
    let place : two_octets packet 6 ≡ h.flags * 8192 + h.offset = two_octets-spelled (h.flags * 8192 + h.offset) [] (omega (arith, is.flags, is.offset)) in
    passed packet (omega (arith, bytes)) (version-spelled h payload padding is) (omega (arith, words)) (omega (arith, header, bytes)) (omega (arith, header, total))
    ∙ ap Ip
    (same_fields (fields packet) (fields_of h payload) (four_octets-spelled h.source [] is.source) (four_octets-spelled h.destination [] is.destination) refl total
    (rw place (omega (arith, is.offset)))
    (options-of (header_length packet) h.options payload padding header)
    (payload-of (take 20 packet) h.options payload padding (min (total_length packet) (length packet)) (header_length packet) header (omega (arith, header, total, bytes))))

-- ---- the link header

-- a byte behind a front
pub octet-behind : (xs ys : List ℕ) (i j : ℕ) → length xs + i ≡ j → octet (xs ++ ys) j ≡ octet ys i
octet-behind xs ys i j e = rw (← e) (get_or-append-add xs ys i 0)

-- the bytes behind a front
pub drop-behind : (xs ys : List ℕ) (i j : ℕ) → length xs + i ≡ j → drop j (xs ++ ys) ≡ drop i ys
drop-behind xs ys i j e = rw (← e) (drop-append-add xs ys i)

null-read : (bytes : List ℕ) → 4 ≤ length bytes → (four_octets bytes 0 ≡ 2) ⊎ (four_octets bytes 0 ≡ 0x02000000) → reading_of_frame Null bytes ≡ read_ipv4 (drop 4 bytes)
unfolding reading_of_frame
null-read bytes long family = grind arith

ethernet-read : (bytes : List ℕ) → 14 ≤ length bytes → two_octets bytes 12 ≡ 0x0800 → reading_of_frame Ethernet bytes ≡ read_ipv4 (drop 14 bytes)
unfolding reading_of_frame read_typed
ethernet-read bytes long type = grind arith

tagged-read : (bytes : List ℕ) → 18 ≤ length bytes → two_octets bytes 12 ≡ 0x8100 → two_octets bytes 16 ≡ 0x0800 → reading_of_frame Ethernet bytes ≡ read_ipv4 (drop 18 bytes)
unfolding reading_of_frame read_typed
tagged-read bytes long tag type = grind arith

cooked-read : (bytes : List ℕ) → 16 ≤ length bytes → two_octets bytes 14 ≡ 0x0800 → reading_of_frame Cooked bytes ≡ read_ipv4 (drop 16 bytes)
unfolding reading_of_frame read_typed
cooked-read bytes long type = grind arith

raw-read : (bytes : List ℕ) → version bytes ≡ 4 → reading_of_frame Raw bytes ≡ read_ipv4 bytes
unfolding reading_of_frame
raw-read bytes four = grind arith

ethernet-front : (addresses packet : List ℕ) → length addresses ≡ 12 → reading_of_frame Ethernet ((addresses ++ 0x08 ∷ 0x00 ∷ []) ++ packet) ≡ read_ipv4 packet
ethernet-front addresses packet count =
    let ending : List ℕ = 0x08 ∷ 0x00 ∷ packet in
    let type : two_octets (addresses ++ ending) 12 ≡ 0x0800 = rw (octet-behind addresses ending 0 12 (omega arith), octet-behind addresses ending 1 13 (omega arith)) refl in
    rw append_assoc
    (ethernet-read (addresses ++ ending) (omega (arith, length-append addresses ending)) type
    ∙ ap read_ipv4 (drop-behind addresses ending 2 14 (omega arith)))

tagged-front : (addresses packet : List ℕ) (a b : ℕ) → length addresses ≡ 12 → reading_of_frame Ethernet ((addresses ++ 0x81 ∷ 0x00 ∷ a ∷ b ∷ 0x08 ∷ 0x00 ∷ []) ++ packet) ≡ read_ipv4 packet
tagged-front addresses packet a b count =
    let ending : List ℕ = 0x81 ∷ 0x00 ∷ a ∷ b ∷ 0x08 ∷ 0x00 ∷ packet in
    let tag : two_octets (addresses ++ ending) 12 ≡ 0x8100 = rw (octet-behind addresses ending 0 12 (omega arith), octet-behind addresses ending 1 13 (omega arith)) refl in
    let type : two_octets (addresses ++ ending) 16 ≡ 0x0800 = rw (octet-behind addresses ending 4 16 (omega arith), octet-behind addresses ending 5 17 (omega arith)) refl in
    rw append_assoc
    (tagged-read (addresses ++ ending) (omega (arith, length-append addresses ending)) tag type
    ∙ ap read_ipv4 (drop-behind addresses ending 6 18 (omega arith)))

cooked-front : (address packet : List ℕ) → length address ≡ 14 → reading_of_frame Cooked ((address ++ 0x08 ∷ 0x00 ∷ []) ++ packet) ≡ read_ipv4 packet
cooked-front address packet count =
    let ending : List ℕ = 0x08 ∷ 0x00 ∷ packet in
    let type : two_octets (address ++ ending) 14 ≡ 0x0800 = rw (octet-behind address ending 0 14 (omega arith), octet-behind address ending 1 15 (omega arith)) refl in
    rw append_assoc
    (cooked-read (address ++ ending) (omega (arith, length-append address ending)) type
    ∙ ap read_ipv4 (drop-behind address ending 2 16 (omega arith)))

link-read : (link : Link) (front packet : List ℕ) → IsLinkHeader link front → version packet ≡ 4 → reading_of_frame link (front ++ packet) ≡ read_ipv4 packet
link-read Null front packet (inl e) four = rw e (null-read (2 ∷ 0 ∷ 0 ∷ 0 ∷ packet) (omega arith) (inr refl))
link-read Null front packet (inr e) four = rw e (null-read (0 ∷ 0 ∷ 0 ∷ 2 ∷ packet) (omega arith) (inl refl))
link-read Ethernet front packet (addresses, count, inl e) four = rw e (ethernet-front addresses packet count)
link-read Ethernet front packet (addresses, count, inr (a, b, e)) four = rw e (tagged-front addresses packet a b count)
link-read Raw front packet e four = rw e (raw-read packet four)
link-read Cooked front packet (address, count, e) four = rw e (cooked-front address packet count)

-- a frame that is spelled is read as its header's fields, whatever follows the packet
pub frames_are_read : SpelledFramesAreRead
frames_are_read link front h payload padding before is =
    link-read link front (packet_bytes h payload ++ padding) before (version-spelled h payload padding is)
    ∙ spelled-is-read h payload padding is

-- ---- the options

bytes-alone : (option : ℕ × List ℕ) → option.0 ≡ 1 → option_bytes option ≡ 1 ∷ []
bytes-alone option one = grind arith

bytes-long : (option : ℕ × List ℕ) → option.0 ≢ 1 → option_bytes option ≡ option.0 ∷ (length option.1 + 2) ∷ option.1
bytes-long option other = grind arith

option-told : (option : ℕ × List ℕ) (behind : List ℕ) → option.0 ≢ 0 → (option.0 ≡ 1) ⊎ (option.0 ≢ 1) → option_types (option_bytes option ++ behind) ≡ option.0 ∷ option_types behind
option-told option behind some (inl one) =
    rw (bytes-alone option one, one) (option_types-alone (1 ∷ behind) (omega arith) refl)
option-told option behind some (inr other) =
    let bytes : List ℕ = option.0 ∷ (length option.1 + 2) ∷ (option.1 ++ behind) in
    let left : drop (length option.1 + 2) bytes ≡ behind = drop-behind (option.0 ∷ (length option.1 + 2) ∷ option.1) behind 0 (length option.1 + 2) (omega arith) in
    rw (bytes-long option other)
    (option_types-long bytes some other (omega arith) (omega (arith, length-append option.1 behind))
    ∙ ap (λ (xs : List ℕ). option.0 ∷ option_types xs) left)

-- the types of options that are spelled are told in their order
pub options_are_told : SpelledOptionsAreTold
options_are_told [] behind all = refl
options_are_told (option ∷ options) behind all =
    rw append_assoc
    (option-told option (flat_map option_bytes options ++ behind) all.0 (cases_eq option.0 1)
    ∙ ap (λ (xs : List ℕ). option.0 ∷ xs) (options_are_told options behind all.1))
