-- How writes follow each other.
use Rattle.std.proofs.Common.{◌≡◌, ℕ, ◌+◌, ◌≤◌, List, [], ◌++◌, Result, Ok, Err, length, take, drop, refl, sym, ap, ◌∙◌, subst, append_assoc, append-nil, take-append-drop, drop-cons, get_or, flat_map, suc, ◌<◌, arith}
use Rattle.std.specs.Io.KnownBytes.{Appends, Keeps}
use Rattle.std.proofs.KnownBytes.{Appends-nil, Appends-trans, Appends-kept}
use Rattle.fw_base.specs.Faults.{Rose}
use Rattle.fw_base.specs.Texts.{SinkState, WritesText}

-- so far the front of the text that isn't in rest was appended
pub record IsUnderWay (old now : SinkState) (text rest : List ℕ) : Type 0 where
  pub done : List ℕ
  pub split : text ≡ done ++ rest
  pub appended : Appends old.written now.written done
  pub made : now.made_with ≡ old.made_with
  pub later : old.faults ≤ now.faults

-- before the first write the whole text is left
pub starts : (a : SinkState) (text : List ℕ) → IsUnderWay a a text text
starts a text = record { done = []; split = refl; appended = Appends-nil a.written; made = refl; later = omega arith }

-- one write took the front of rest
pub goes_on : (a b c : SinkState) (text rest : List ℕ) (n : ℕ) → IsUnderWay a b text rest
    → Appends b.written c.written (take n rest) → c.made_with ≡ b.made_with → b.faults ≤ c.faults → IsUnderWay a c text (drop n rest)
goes_on a b c text rest n way more same rises = record {
  done = way.done ++ take n rest;
  split = way.split ∙ ap (λ l. way.done ++ l) (sym (take-append-drop n rest)) ∙ sym (append_assoc way.done (take n rest) (drop n rest));
  appended = Appends-trans a.written b.written c.written way.done (take n rest) way.appended more;
  made = same ∙ way.made;
  later = omega (arith, way.later);
}

-- where nothing is left, the whole text was written
pub ends : {T E : Type 0} (a b : SinkState) (text rest : List ℕ) (x : T) → IsUnderWay a b text rest → rest ≡ []
    → WritesText {E = E} a b text (Ok x)
ends a b text rest x way none = record {
  whole = subst (Appends a.written b.written) (sym (way.split ∙ ap (λ l. way.done ++ l) none ∙ append-nil way.done)) way.appended;
  part = tt;
  made = way.made;
  cause = record { later = way.later; failed = tt };
}

-- a write took nothing and failed
pub breaks : {T E : Type 0} (a b c : SinkState) (text rest : List ℕ) (e : E) → IsUnderWay a b text rest
    → Keeps b.written c.written → c.made_with ≡ b.made_with → b.faults ≤ c.faults → Rose b.faults c.faults → WritesText {T = T} a c text (Err e)
breaks a b c text rest e way kept same later rose = record {
  whole = tt;
  part = (way.done, rest, way.split, Appends-kept a.written b.written c.written way.done way.appended kept);
  made = same ∙ way.made;
  cause = record { later = omega (arith, way.later); failed = omega (arith, way.later) };
}

-- the first of some pieces, and those behind it
pub flat_map-drop : {X : Type 0} (f : X → List ℕ) (xs : List X) (i : ℕ) (d : X) → i < length xs → flat_map f (drop i xs) ≡ f (get_or xs i d) ++ flat_map f (drop (i + 1) xs)
flat_map-drop f xs i d within = let next : i + 1 ≡ suc i = omega arith in rw (drop-cons xs i d, next) refl

-- a text that stands at the front of rest was written whole
pub goes_on_with : {T E : Type 0} (a b c : SinkState) (text front rest : List ℕ) (x : T) → IsUnderWay a b text (front ++ rest)
    → WritesText {E = E} b c front (Ok x) → IsUnderWay a c text rest
goes_on_with a b c text front rest x way writes = record {
  done = way.done ++ front;
  split = way.split ∙ sym (append_assoc way.done front rest);
  appended = Appends-trans a.written b.written c.written way.done front way.appended writes.whole;
  made = writes.made ∙ way.made;
  later = omega (arith, writes.cause.later, way.later);
}

-- a text that stands at the front of rest was begun
pub breaks_in : {T U E F : Type 0} (a b c : SinkState) (text front rest : List ℕ) (e : E) (f : F) → IsUnderWay a b text (front ++ rest)
    → WritesText {T = T} b c front (Err e) → WritesText {T = U} a c text (Err f)
breaks_in a b c text front rest e f way writes =
    let (begun, others, split, appended) = writes.part in
    record {
      whole = tt;
      part = (
        way.done ++ begun,
        others ++ rest,
        way.split ∙ ap (λ l. way.done ++ (l ++ rest)) split ∙ ap (λ l. way.done ++ l) (append_assoc begun others rest) ∙ sym (append_assoc way.done begun (others ++ rest)),
        Appends-trans a.written b.written c.written way.done begun way.appended appended,
      );
      made = writes.made ∙ way.made;
      cause = record { later = omega (arith, writes.cause.later, way.later); failed = omega (arith, writes.cause.failed, way.later) };
    }

-- all that was left was written, or a front of it
pub ends_with : {T E : Type 0} (a b c : SinkState) (text rest : List ℕ) (r : Result T E) → IsUnderWay a b text rest
    → WritesText b c rest r → WritesText a c text r
ends_with a b c text rest (Ok x) way writes = record {
  whole = rw way.split (Appends-trans a.written b.written c.written way.done rest way.appended writes.whole);
  part = tt;
  made = writes.made ∙ way.made;
  cause = record { later = omega (arith, writes.cause.later, way.later); failed = tt };
}
ends_with a b c text rest (Err e) way writes =
    let same : rest ≡ rest ++ [] = sym (append-nil rest) in
    breaks_in a b c text rest [] e e (rw same at way) writes
