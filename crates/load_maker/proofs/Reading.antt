-- How a made capture is read: a piece to its end, and then the next record.
use Rattle.std.proofs.Common.{◌≡◌, ◌≢◌, ◌∙◌, ℕ, ◌+◌, ◌-◌, ◌<◌, ◌≤◌, zero, suc, List, [], ◌++◌, length, take, drop, refl, ap, arith, append_assoc, length-drop}
use Rattle.std.proofs.Math.Seq.{drop-length}
use Rattle.fw_base.proofs.Parts.{front_then_rest}
use Rattle.load_maker.specs.Load.{records_from, record_drawn, next_draw}
use Rattle.load_maker.specs.Packets.{load_record}

-- behind the end of the piece nothing is left of it
pub behind_the_end : (piece : List ℕ) (taken : ℕ) → taken ≡ length piece → drop taken piece ≡ []
behind_the_end piece taken end = rw end (drop-length piece)

-- no record is empty
pub has_bytes : (second : ℕ) (packet : List ℕ) → 0 < length (load_record second packet)
unfolding load_record
has_bytes second packet = omega arith

-- the record that comes next, and those behind it
pub next_then_others : (more number x : ℕ) → more ≢ 0
    → records_from more number x
    ≡ record_drawn number (next_draw x) (next_draw (next_draw x)) (next_draw (next_draw (next_draw x)))
    ++ records_from (more - 1) (number + 1) (next_draw (next_draw (next_draw x)))
unfolding records_from
next_then_others zero number x some = absurd (some refl)
next_then_others (suc more) number x some = let others : suc more - 1 ≡ more = omega arith in rw others refl

-- A read gives the front of what is left of the piece; the rest of it, and what is behind, is left.
pub front_is_given : (piece behind buffer : List ℕ) (taken count : ℕ) → count ≤ length piece - taken
    → drop taken piece ++ behind ≡ take count (take count (drop taken piece) ++ drop count buffer) ++ (drop (taken + count) piece ++ behind)
front_is_given piece behind buffer taken count within =
    ap (λ (l : List ℕ). l ++ behind) (front_then_rest piece (drop taken piece) (drop count buffer) taken count refl (rw length-drop within))
    ∙ append_assoc (take count (take count (drop taken piece) ++ drop count buffer)) (drop (taken + count) piece) behind
