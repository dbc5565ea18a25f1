-- As many headers as the packet has bytes are enough for the end of its chain.
use Rattle.std.proofs.Common.{◌≡◌, ℕ, ◌+◌, ◌-◌, ◌*◌, ◌≤◌, ◌<◌, List, [], ◌∷◌, length, zero, suc, find, Some, None, Option, is_some, unwrap_or, true, false, refl, arith, ap, ◌∙◌, sym, Bool, if◌then◌else◌}
use Rattle.std.specs.Prelude.{not, ◌||◌, ◌==◌}
use Rattle.std.proofs.lemmas.Bool.{leb-true}
use Rattle.packet_headers.specs.Octets.{octet}
use Rattle.ip6_headers.specs.Chain.{Header, is_extension, is_whole, fragment, authentication, fragment_offset, length_told, end_place, ends_chain, next_header, first_header, headers_from, headers, last_header}
use Rattle.ip6_headers.proofs.Walks.{from-ended, from-passed}

-- an extension header has 8 bytes at least
least_told : (number count : ℕ) → 8 ≤ length_told number count
least_told number count = by_tests (number == fragment) (number == authentication)
  where
    by_tests : (f a : Bool) → 8 ≤ (if f then 8 else if a then 4 * count + 8 else 8 * count + 8)
    by_tests true a = omega arith
    by_tests false true = omega arith
    by_tests false false = omega arith

-- a test that fails with its second part true
second : (a b c : Bool) → (not a || (not b || c)) ≡ false → b ≡ true
second true true c e = refl
second true false c e = absurd (cc)
second false b c e = absurd (cc)

-- a header behind which the chain goes on is whole
passed_whole : (packet : List ℕ) (header : Header) → ends_chain packet header ≡ false → end_place packet header ≤ length packet
passed_whole packet header passed =
    let whole : is_whole packet header ≡ true = second (is_extension header.number) (is_whole packet header) (not (fragment_offset packet header == 0)) passed in
    leb-true (end_place packet header) (length packet) whole

-- the next header stands at least 8 bytes further
next_further : (packet : List ℕ) (header : Header) → header.place + 8 ≤ (next_header packet header).place
next_further packet header = omega (arith, least_told header.number (octet packet (header.place + 1)))

-- one header fewer
one_fewer : (count : ℕ) → suc count - 1 ≡ count
one_fewer count = omega arith

-- a header at which the chain goes on is passed
passed_on : (count : ℕ) (packet : List ℕ) (header : Header) → ends_chain packet header ≡ false
    → find (ends_chain packet) (headers_from (suc count) packet header) ≡ find (ends_chain packet) (headers_from count packet (next_header packet header))
passed_on count packet header is =
    from-passed (suc count) packet header (omega arith) is ∙ ap (λ (n : ℕ). find (ends_chain packet) (headers_from n packet (next_header packet header))) (one_fewer count)

-- any more headers have the same end of the chain
pub same_end : (count more : ℕ) (packet : List ℕ) (header : Header) → 0 < count → length packet < count + header.place → count ≤ more
    → find (ends_chain packet) (headers_from more packet header) ≡ find (ends_chain packet) (headers_from count packet header)
same_end zero more packet header some enough fewer = absurd (omega arith)
same_end (suc count) zero packet header some enough fewer = absurd (omega arith)
same_end (suc count) (suc more) packet header some enough fewer = by_end (ends_chain packet header) refl (λ s e. same_end count more packet (next_header packet header) s e (omega arith))
  where
    by_end : (ended : Bool) → ends_chain packet header ≡ ended
        → (0 < count → length packet < count + (next_header packet header).place → find (ends_chain packet) (headers_from more packet (next_header packet header)) ≡ find (ends_chain packet) (headers_from count packet (next_header packet header)))
        → find (ends_chain packet) (headers_from (suc more) packet header) ≡ find (ends_chain packet) (headers_from (suc count) packet header)
    by_end true is behind = from-ended (suc more) packet header (omega arith) is ∙ sym (from-ended (suc count) packet header (omega arith) is)
    by_end false is behind =
        let whole = passed_whole packet header is in
        let further = next_further packet header in
        passed_on more packet header is ∙ behind (omega (arith, enough, whole, further)) (omega (arith, enough, whole, further)) ∙ sym (passed_on count packet header is)

-- the chain ends among them
pub ends_among : (count : ℕ) (packet : List ℕ) (header : Header) → 0 < count → length packet < count + header.place → is_some (find (ends_chain packet) (headers_from count packet header)) ≡ true
ends_among zero packet header some enough = absurd (omega arith)
ends_among (suc count) packet header some enough = by_end (ends_chain packet header) refl (λ s e. ends_among count packet (next_header packet header) s e)
  where
    by_end : (ended : Bool) → ends_chain packet header ≡ ended
        → (0 < count → length packet < count + (next_header packet header).place → is_some (find (ends_chain packet) (headers_from count packet (next_header packet header))) ≡ true)
        → is_some (find (ends_chain packet) (headers_from (suc count) packet header)) ≡ true
    by_end true is behind = ap (λ (o : Option Header). is_some o) (from-ended (suc count) packet header (omega arith) is)
    by_end false is behind =
        let whole = passed_whole packet header is in
        let further = next_further packet header in
        ap (λ (o : Option Header). is_some o) (passed_on count packet header is) ∙ behind (omega (arith, enough, whole, further)) (omega (arith, enough, whole, further))

unwrapped : (found : Option Header) (other : Header) → is_some found ≡ true → found ≡ Some (unwrap_or found other)
unwrapped None other some = absurd (cc)
unwrapped (Some header) other some = refl

-- a packet's chain ends among as many headers as it has bytes
pub ends_at_last : (packet : List ℕ) → 0 < length packet → find (ends_chain packet) (headers packet) ≡ Some (last_header packet)
unfolding last_header
ends_at_last packet some = unwrapped (find (ends_chain packet) (headers packet)) (first_header packet) (ends_among (length packet) packet (first_header packet) some (omega arith))

-- and among more at the same
pub ends_alike : (packet : List ℕ) (more : ℕ) → length packet ≤ more → unwrap_or (find (ends_chain packet) (headers_from more packet (first_header packet))) (first_header packet) ≡ last_header packet
unfolding last_header headers_from
ends_alike [] zero fewer = refl
ends_alike [] (suc more) fewer = refl
ends_alike (byte ∷ bytes) more fewer =
    ap (λ (found : Option Header). unwrap_or found (first_header (byte ∷ bytes))) (same_end (length (byte ∷ bytes)) more (byte ∷ bytes) (first_header (byte ∷ bytes)) (omega arith) (omega arith) fewer)
