-- The pieces of an address table: all addresses, cut where the longest prefix changes (RFC 4632 section 5.1).
use Rattle.std.specs.Prelude.{◌≡◌, ℕ, zero, suc, ◌+◌, ◌*◌, ◌^◌, ◌<◌, ◌≤◌, Bool, true, ◌||◌, nat_eq, Option, None, List, [], length, slice_index_or}
use Rattle.std.specs.List.{list_any}
use Rattle.std.specs.Option.{option_map, option_or}
use Rattle.fw_base.specs.Prefix.{Network, IsNetwork, network, size_of}
use Rattle.lookup_tables.specs.AddrTable.{AddrEntries, network_cmp, address_answer}
use Rattle.lookup_tables.specs.Entries.{IsInOrder, value_of}
use Rattle.lookup_tables.specs.Piece.{decider}
use Rattle.lookup_tables.specs.declared.piece.Piece.{Piece}

-- no address, and no value
abbrev pub no_piece : Piece
no_piece = record { first = record { 0 = 0 }; value = None; prefix = record { address = 0; bits = 0 } }

-- the piece in this place
abbrev pub piece_at : List Piece → ℕ → Piece
piece_at pieces place = slice_index_or pieces place no_piece

-- where the piece at the place begins
abbrev pub first_of : List Piece → ℕ → ℕ
first_of pieces place = (piece_at pieces place).first.0

-- the piece at the place is the last one that begins at or below the address
pub record IsIn (pieces : List Piece) (address place : ℕ) : Type 0 where
  pub within : place < length pieces
  pub begins : first_of pieces place ≤ address
  pub ends : place + 1 < length pieces → address < first_of pieces (place + 1)

-- the pieces of the entries: none where there is no entry; else from 0.0.0.0 on, at most one more than the
-- prefixes have ends, and each address has the answer of the piece that it is in
pub record ArePiecesOf (entries : AddrEntries) (pieces : List Piece) : Type 0 where
  pub none : length entries ≡ 0 → pieces ≡ []
  pub some : 0 < length entries → 0 < length pieces
  pub start : 0 < length pieces → first_of pieces 0 ≡ 0
  pub rising : (place later : ℕ) → place < later → later < length pieces → first_of pieces place < first_of pieces later
  pub few : length pieces ≤ 2 * length entries + 1
  pub answers : (address place : ℕ) → address < 2 ^ 32 → IsIn pieces address place → (piece_at pieces place).value ≡ address_answer entries address

-- Below, what a table keeps, from which this follows.

-- the pieces have all addresses
pub record IsDivision (pieces : List Piece) : Type 0 where
  pub low : (place : ℕ) → place < length pieces → first_of pieces place < 2 ^ 32
  pub some : 0 < length pieces
  pub start : first_of pieces 0 ≡ 0
  pub rising : (place later : ℕ) → place < later → later < length pieces → first_of pieces place < first_of pieces later

-- each piece is decided as each of its addresses
pub record Tells (decided : ℕ → Option (Network × ℕ)) (pieces : List Piece) : Type 0 where
  pub each : (address place : ℕ) → address < 2 ^ 32 → IsIn pieces address place → decider (piece_at pieces place) ≡ decided address

-- each piece begins where one may
pub record HaveEnds (is_end : ℕ → Bool) (pieces : List Piece) : Type 0 where
  pub each : (place : ℕ) → place < length pieces → is_end (first_of pieces place) ≡ true

-- the longest prefix of the address among those of at most that many bits, and its value
unfoldable pub decided_within : AddrEntries → ℕ → ℕ → Option (Network × ℕ)
decided_within entries address zero = option_map (λ value. (network address 0, value)) (value_of network_cmp entries (network address 0))
decided_within entries address (suc bits) = option_or (option_map (λ value. (network address (suc bits), value)) (value_of network_cmp entries (network address (suc bits)))) (decided_within entries address bits)

-- the longest prefix of the address, and its value
abbrev pub deciding_entry : AddrEntries → ℕ → Option (Network × ℕ)
deciding_entry entries address = decided_within entries address 32

-- the address is 0, or one prefix of the entries begins there, or ends before it
abbrev pub is_end : AddrEntries → ℕ → Bool
is_end entries address = nat_eq address 0 || list_any (λ e. nat_eq address e.0.address || nat_eq address (e.0.address + size_of e.0.bits)) entries

-- the entries of an address table: in order, and no host bit of a prefix is set
pub record AreEntries (entries : AddrEntries) : Type 0 where
  pub ordered : IsInOrder network_cmp entries
  pub networks : (place : ℕ) (d : Network × ℕ) → place < length entries → IsNetwork (slice_index_or entries place d).0

-- what a table keeps of its entries' pieces
pub record AreKept (entries : AddrEntries) (pieces : List Piece) : Type 0 where
  pub none : length entries ≡ 0 → pieces ≡ []
  pub division : 0 < length entries → IsDivision pieces
  pub tells : 0 < length entries → Tells (deciding_entry entries) pieces
  pub ends : HaveEnds (is_end entries) pieces

-- what a table keeps
pub record IsTable (entries : AddrEntries) (pieces : List Piece) : Type 0 where
  pub lawful : AreEntries entries
  pub kept : AreKept entries pieces
