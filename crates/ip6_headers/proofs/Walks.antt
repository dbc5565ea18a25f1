-- The walk along the headers of a packet.
use Rattle.std.proofs.Common.{◌≡◌, ℕ, ◌+◌, ◌-◌, ◌≤◌, ◌<◌, List, length, zero, suc, find, Some, unwrap_or, true, false, refl, arith, ap, ◌∙◌, sym, subst, sub-one, Option, None, Bool, if◌then◌else◌}
use Rattle.ip6_headers.specs.Chain.{Header, ends_chain, next_header, first_header, headers_from, headers, last_header}

-- the chain's last header is found among those from this one on, as many as that, which are enough
pub record StandsAt (packet : List ℕ) (header : Header) : Type 0 where
  pub more : ℕ
  pub same : find (ends_chain packet) (headers packet) ≡ find (ends_chain packet) (headers_from more packet header)
  pub enough : length packet < more + header.place
  pub within : header.place ≤ length packet

-- a packet of 40 bytes or more stands at its first header
pub begins : (packet : List ℕ) → 40 ≤ length packet → StandsAt packet (first_header packet)
begins packet long = record { more = length packet; same = refl; enough = omega arith; within = long }

-- a chain that ends at once
pub from-ended : (more : ℕ) (packet : List ℕ) (header : Header) → 0 < more → ends_chain packet header ≡ true → find (ends_chain packet) (headers_from more packet header) ≡ Some header
unfolding headers_from
from-ended zero packet header some ended = absurd (omega arith)
from-ended (suc more) packet header some ended = rw ended refl

-- a header behind which it goes on
pub from-passed : (more : ℕ) (packet : List ℕ) (header : Header) → 0 < more → ends_chain packet header ≡ false → find (ends_chain packet) (headers_from more packet header) ≡ find (ends_chain packet) (headers_from (more - 1) packet (next_header packet header))
unfolding headers_from
from-passed zero packet header some passed = absurd (omega arith)
from-passed (suc more) packet header some passed = rw (passed, sub-one) refl

-- one header further
pub goes_on : (packet : List ℕ) (header : Header) → StandsAt packet header → ends_chain packet header ≡ false → (next_header packet header).place ≤ length packet → header.place + 8 ≤ (next_header packet header).place → StandsAt packet (next_header packet header)
goes_on packet header here passed within further = record {
  more = here.more - 1;
  same = here.same ∙ from-passed here.more packet header (omega (arith, here.enough, here.within)) passed;
  enough = omega (arith, here.enough, here.within, further);
  within = within;
}

-- the header at which the chain ends
pub ends_here : (packet : List ℕ) (header : Header) → StandsAt packet header → ends_chain packet header ≡ true → find (ends_chain packet) (headers packet) ≡ Some header
ends_here packet header here ended =
    here.same ∙ from-ended here.more packet header (omega (arith, here.enough, here.within)) ended

-- the header that is found at the chain's end is the packet's last
pub last-found : (packet : List ℕ) (header : Header) → find (ends_chain packet) (headers packet) ≡ Some header → header ≡ last_header packet
unfolding last_header
last-found packet header found = sym (ap (λ found. unwrap_or found (first_header packet)) found)

-- what a test that gives a header, where it fails, tells of its condition
given-by : (ended : Bool) (x y : Header) → (if ended then None else Some x) ≡ Some y → (ended ≡ false) × (x ≡ y)
given-by true x y given = cc
given-by false x y given = (refl, cc)

ended-by : (ended : Bool) (x : Header) → (if ended then None else Some x) ≡ None → ended ≡ true
ended-by true x none = refl
ended-by false x none = cc

-- one header further, as the code tells it
pub goes_on_to : (packet : List ℕ) (header next : Header) (result : Option Header) → StandsAt packet header → result ≡ (if ends_chain packet header then None else Some (next_header packet header)) → result ≡ Some next → next.place ≤ length packet → header.place + 8 ≤ next.place → StandsAt packet next
goes_on_to packet header next result here told given within further =
    let both = given-by (ends_chain packet header) (next_header packet header) next (sym told ∙ given) in
    subst (λ (h : Header). StandsAt packet h) both.1
    (goes_on packet header here both.0
    (subst (λ (h : Header). h.place ≤ length packet) (sym both.1) within)
    (subst (λ (h : Header). header.place + 8 ≤ h.place) (sym both.1) further))

-- the header at which the chain ends, as the code tells it
pub ends_at : (packet : List ℕ) (header : Header) (result : Option Header) → StandsAt packet header → result ≡ (if ends_chain packet header then None else Some (next_header packet header)) → result ≡ None → find (ends_chain packet) (headers packet) ≡ Some header
ends_at packet header result here told none =
    ends_here packet header here (ended-by (ends_chain packet header) (next_header packet header) (sym told ∙ none))
