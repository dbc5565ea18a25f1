-- How writes of texts follow each other.
use Rattle.std.proofs.Common.{◌≡◌, ℕ, ◌+◌, ◌<◌, length, drop, get_or, drop-cons, add-one, List, [], ◌++◌, refl, Option, Result, Ok, Err, arith, append_assoc, sym, ap, ◌∙◌}
use Rattle.std.proofs.KnownBytes.{Appends-trans}
use Rattle.rule_text.specs.Pieces.{pieces_text, piece_text}
use Rattle.rule_text.specs.declared.writing.Piece.{Piece}
use Rattle.fw_base.specs.Texts.{SinkState, WritesText}
use Rattle.fw_base.proofs.Texts.{IsUnderWay, ends}
use Rattle.std.proofs.lemmas.Result.{err_from_is_err_and}
use Rattle.std.proofs.lemmas.List.{append-nil}
use Rattle.std.specs.Prelude.{IsErrAnd}

-- the front s of what was left was written
pub goes : {T E : Type 0} {a b c : SinkState} {text was s : List ℕ} {r : Result T E} {x : T} (rest : List ℕ)
    → IsUnderWay a b text was → was ≡ s ++ rest → r ≡ Ok x → WritesText b c s r → IsUnderWay a c text rest
goes {a = a} {b = b} {c = c} {s = s} {x = x} rest way split ok wrote =
    let next = rw ok at wrote in
    record {
      done = way.done ++ s;
      split = way.split ∙ ap (λ more. way.done ++ more) split ∙ sym (append_assoc way.done s rest);
      appended = Appends-trans a.written b.written c.written way.done s way.appended next.whole;
      made = next.made ∙ way.made;
      later = omega (arith, way.later, next.cause.later);
    }

part_of : {T U E : Type 0} {a b c : SinkState} {text was s : List ℕ} (e : E) (rest : List ℕ)
    → IsUnderWay a b text was → was ≡ s ++ rest → WritesText {T = T} b c s (Err e) → WritesText {T = U} {E = E} a c text (Err e)
part_of {a = a} {b = b} {c = c} {s = s} e rest way split next = record {
  whole = tt;
  part = (
    way.done ++ next.part.0,
    next.part.1 ++ rest,
    way.split ∙ ap (λ more. way.done ++ more) (split ∙ ap (λ more. more ++ rest) next.part.2 ∙ append_assoc next.part.0 next.part.1 rest) ∙ sym (append_assoc way.done next.part.0 (next.part.1 ++ rest)),
    Appends-trans a.written b.written c.written way.done next.part.0 way.appended next.part.3,
  );
  made = next.made ∙ way.made;
  cause = record { later = omega (arith, way.later, next.cause.later); failed = omega (arith, way.later, next.cause.failed) };
}

other_error : {T E : Type 0} {a b : SinkState} {text : List ℕ} {e : E} (f : E) → WritesText {T = T} a b text (Err e) → WritesText {T = T} a b text (Err f)
other_error f w = record { whole = tt; part = w.part; made = w.made; cause = record { later = w.cause.later; failed = w.cause.failed } }

-- the front s of what was left was not written whole, and the call ends with its failure
pub breaks_off : {T U E : Type 0} {a b c : SinkState} {text was s : List ℕ} {r : Result T E} {e : E} (Q : E → Type 0) (q : Result U E) (rest : List ℕ)
    → IsUnderWay a b text was → was ≡ s ++ rest → r ≡ Err e → WritesText b c s r → IsErrAnd q Q → WritesText a c text q
breaks_off {T = T} {E = E} {b = b} {c = c} {s = s} {e = e} Q q rest way split failed wrote exit =
    let p = err_from_is_err_and q exit in
    rw p.1 (other_error p.0 (part_of e rest way split (rw failed at wrote)))

-- the last front was written, or not
pub finishes : {T E : Type 0} {a b c : SinkState} {text was s : List ℕ} (r : Result T E)
    → IsUnderWay a b text was → was ≡ s → WritesText b c s r → WritesText a c text r
finishes (Ok x) way split wrote = ends _ _ _ [] x (goes [] way (split ∙ sym (append-nil _)) refl wrote) refl
finishes (Err e) way split wrote = part_of e [] way (split ∙ sym (append-nil _)) wrote

-- the piece at i and those behind it
pub pieces_text-drop : (pieces : List Piece) (i : ℕ) (d : Piece) → i < length pieces → pieces_text (drop i pieces) ≡ piece_text (get_or pieces i d) ++ pieces_text (drop (i + 1) pieces)
pieces_text-drop pieces i d inside = rw (add-one, drop-cons pieces i d) refl
