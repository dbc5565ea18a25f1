-- Text in pieces before a sink.
use Rattle.std.proofs.Common.{◌≡◌, ℕ, ◌+◌, ◌≤◌, Bool, true, false, List, [], ◌∷◌, ◌++◌, length, take, drop, Option, None, Some, Result, Ok, Err, refl, sym, ap, ◌∙◌, subst, arith, append_assoc, append-nil, length-append, take-append-drop}
use Rattle.std.specs.Prelude.{nat_le, if◌then◌else◌, OnOk}
use Rattle.std.proofs.Math.Seq.{take-append_seam}
use Rattle.std.proofs.lemmas.List.{append_cancel_left, take-append-le}
use Rattle.std.proofs.lemmas.Bool.{leb-true, le-leb}
use Rattle.std.specs.Io.KnownBytes.{Appends, Keeps, WriteAppends}
use Rattle.std.proofs.KnownBytes.{Appends-trans, Appends-nil, Appends-kept}
use Rattle.fw_base.specs.Faults.{Rose, HasCause}
use Rattle.fw_base.specs.Texts.{SinkState, AppendsPart, WritesText}
use Rattle.buffered_io.specs.PieceSink.{PieceText, HandsOn, known_bytes, text_behind, state_of}

module _ {K : Type 0} (state : K → SinkState) where
  -- one more write took the front of what is left
  pub hands_on_more : (old mid : PieceText K) (sink : K) (took rest : List ℕ) → HandsOn state old mid → Appends (state mid.sink).written (state sink).written took
      → (state sink).made_with ≡ (state mid.sink).made_with → mid.pending ≡ took ++ rest
      → HandsOn state old (record { sink = sink; pending = rest; begun = mid.begun })
  hands_on_more old mid sink took rest so more made cut = record {
    taken = so.taken ++ took;
    front = so.front ∙ ap (λ l. so.taken ++ l) cut ∙ sym (append_assoc so.taken took rest);
    appended = Appends-trans _ _ _ _ _ so.appended more;
    begun_kept = so.begun_kept;
    made_kept = made ∙ so.made_kept;
  }

-- the sink took some, and what is buffered then makes up the rest
pub behind_grows : (first : ℕ) (a b : Option (List ℕ)) (p q taken bs : List ℕ) → Appends a b taken → taken ++ q ≡ p ++ bs → Appends (text_behind first a p) (text_behind first b q) bs
behind_grows first None b p q taken bs took same = tt
behind_grows first (Some xs) None p q taken bs took same = absurd took
behind_grows first (Some xs) (Some ys) p q taken bs took same = go (nat_le first (length xs)) (nat_le first (length ys)) refl refl
  where
    go : (t u : Bool) → nat_le first (length xs) ≡ t → nat_le first (length ys) ≡ u
        → Appends (if t then Some (xs ++ p) else None) (if u then Some (ys ++ q) else None) bs
    go false u e f = tt
    go true true e f = ap (λ l. l ++ q) took ∙ append_assoc xs taken q ∙ ap (λ l. xs ++ l) same ∙ sym (append_assoc xs p bs)
    go true false e f =
        let within : first ≤ length xs = leb-true first (length xs) e in
        let longer : length ys ≡ length xs + length taken = ap length took ∙ length-append xs taken in
        let test : nat_le first (length ys) ≡ true = le-leb first (length ys) (omega arith) in
        let no : true ≡ false = sym test ∙ f in cc

-- all is buffered
pub behind_pushed : (first : ℕ) (a : Option (List ℕ)) (p q bs : List ℕ) → q ≡ p ++ bs → Appends (text_behind first a p) (text_behind first a q) bs
behind_pushed first a p q bs same = behind_grows first a a p q [] bs (Appends-nil a) same

keeps_nothing : (a b : Option (List ℕ)) → Appends a b [] → Keeps a b
keeps_nothing None b more = tt
keeps_nothing (Some xs) None more = absurd more
keeps_nothing (Some xs) (Some ys) more = more ∙ append-nil xs

module _ {K : Type 0} (state : K → SinkState) where
  abbrev written_behind : PieceText K → Option (List ℕ)
  written_behind p = (state_of state p).written

  -- what was buffered was handed on, and then the bytes were buffered
  pub handed_then_buffered : (old mid new : PieceText K) (bs : List ℕ) → HandsOn state old mid → mid.pending ≡ [] → new ≡ record mid { pending = mid.pending ++ bs }
      → Appends (written_behind old) (written_behind new) bs
  handed_then_buffered old mid new bs so none is =
      let cut : so.taken ++ (mid.pending ++ bs) ≡ old.pending ++ bs = sym (append_assoc so.taken mid.pending bs) ∙ ap (λ l. l ++ bs) (sym so.front) in
      let first = length (known_bytes (state old.begun).written) in
      let grown = behind_grows first (state old.sink).written (state mid.sink).written old.pending (mid.pending ++ bs) so.taken bs so.appended cut in
      subst (λ (n : PieceText K). Appends (written_behind old) (written_behind n) bs) (sym is)
      (subst (λ (b : K). Appends (written_behind old) (text_behind (length (known_bytes (state b).written)) (state mid.sink).written (mid.pending ++ bs)) bs) (sym so.begun_kept) grown)

  -- or some of them were handed on too
  pub handed_then_passed : {E : Type 0} (old mid new : PieceText K) (r : Result ℕ E) (bs : List ℕ) → HandsOn state old mid → mid.pending ≡ [] → new ≡ record mid { sink = new.sink }
      → WriteAppends (state mid.sink).written (state new.sink).written r bs → WriteAppends (written_behind old) (written_behind new) r bs
  handed_then_passed old mid new r bs so none is more =
      subst (λ (n : PieceText K). WriteAppends (written_behind old) (written_behind n) r bs) (sym is)
      (subst (λ (b : K). WriteAppends (written_behind old) (text_behind (length (known_bytes (state b).written)) (state new.sink).written mid.pending) r bs) (sym so.begun_kept) (by_result r more))
    where
      first : ℕ
      first = length (known_bytes (state old.begun).written)

      by_result : {E : Type 0} (r : Result ℕ E) → WriteAppends (state mid.sink).written (state new.sink).written r bs
          → WriteAppends (written_behind old) (text_behind first (state new.sink).written mid.pending) r bs
      by_result (Ok n) more =
          let took = take n bs in
          let all : old.pending ≡ so.taken = so.front ∙ ap (λ l. so.taken ++ l) none ∙ append-nil so.taken in
          let cut : (so.taken ++ took) ++ mid.pending ≡ old.pending ++ took = ap (λ l. (so.taken ++ took) ++ l) none ∙ append-nil (so.taken ++ took) ∙ ap (λ l. l ++ took) (sym all) in
          behind_grows first (state old.sink).written (state new.sink).written old.pending mid.pending (so.taken ++ took) took (Appends-trans _ _ _ _ _ so.appended more) cut
      by_result (Err e) more =
          let cut : so.taken ++ mid.pending ≡ old.pending ++ [] = sym so.front ∙ sym (append-nil old.pending) in
          keeps_nothing _ _ (behind_grows first (state old.sink).written (state new.sink).written old.pending mid.pending so.taken [] (Appends-kept _ _ _ _ so.appended more) cut)

-- what a text through the pieces comes to: the sink has a front of it, and the rest is buffered
part_of : (xs : List ℕ) (f : ℕ) (w : Option (List ℕ)) (p text : List ℕ) → f ≡ length xs → Appends (text_behind (length xs) (Some xs) []) (text_behind f w p) text
    → (ys : List ℕ) × (front : List ℕ) × (w ≡ Some ys) × (ys ≡ xs ++ front) × (text ≡ front ++ p)
part_of xs f w p text first all = from_test (nat_le (length xs) (length xs)) refl (le-leb (length xs) (length xs) (omega arith)) all
  where
    split : (ys : List ℕ) → length xs ≤ length ys → ys ++ p ≡ xs ++ text → (front : List ℕ) × (ys ≡ xs ++ front) × (text ≡ front ++ p)
    split ys within same =
        let head : take (length xs) ys ≡ xs = sym (take-append-le (length xs) ys p within) ∙ ap (take (length xs)) same ∙ take-append_seam xs text in
        let cut : ys ≡ xs ++ drop (length xs) ys = sym (take-append-drop (length xs) ys) ∙ ap (λ l. l ++ drop (length xs) ys) head in
        let joined : xs ++ (drop (length xs) ys ++ p) ≡ xs ++ text = sym (append_assoc xs (drop (length xs) ys) p) ∙ ap (λ l. l ++ p) (sym cut) ∙ same in
        (drop (length xs) ys, cut, sym (append_cancel_left xs (drop (length xs) ys ++ p) text joined))

    known : (ys : List ℕ) (u : Bool) → nat_le f (length ys) ≡ u → Appends (Some (xs ++ [])) (if u then Some (ys ++ p) else None) text
        → (front : List ℕ) × (ys ≡ xs ++ front) × (text ≡ front ++ p)
    known ys false e more = absurd more
    known ys true e more =
        let within : f ≤ length ys = leb-true f (length ys) e in
        split ys (omega (arith, first)) (more ∙ ap (λ l. l ++ text) (append-nil xs))

    found : (w : Option (List ℕ)) → Appends (Some (xs ++ [])) (text_behind f w p) text
        → (ys : List ℕ) × (front : List ℕ) × (w ≡ Some ys) × (ys ≡ xs ++ front) × (text ≡ front ++ p)
    found None more = absurd more
    found (Some ys) more = let (front, cut, same) = known ys (nat_le f (length ys)) refl more in (ys, front, refl, cut, same)

    from_test : (t : Bool) → nat_le (length xs) (length xs) ≡ t → t ≡ true → Appends (if t then Some (xs ++ []) else None) (text_behind f w p) text
        → (ys : List ℕ) × (front : List ℕ) × (w ≡ Some ys) × (ys ≡ xs ++ front) × (text ≡ front ++ p)
    from_test true e is more = found w more
    from_test false e is more = absurd (cc)

-- what the sink has then is a front of the text, however much of the rest it takes
pub pieces_part : (a b c : Option (List ℕ)) (f : ℕ) (p taken rest text : List ℕ) → f ≡ length (known_bytes a) → Appends (text_behind (length (known_bytes a)) a []) (text_behind f b p) text
    → p ≡ taken ++ rest → Appends b c taken → AppendsPart a c text
pieces_part None b c f p taken rest text first all cut more = ([], text, refl, tt)
pieces_part (Some xs) b c f p taken rest text first all cut more =
    let (ys, front, is, grown, same) = part_of xs f b p text first all in (
      front ++ taken,
      rest,
      same ∙ ap (λ l. front ++ l) cut ∙ sym (append_assoc front taken rest),
      Appends-trans (Some xs) b c front taken (subst (λ (w : Option (List ℕ)). Appends (Some xs) w front) (sym is) grown) more,
    )

-- all of it, where it takes the rest
pub pieces_whole : (a b c : Option (List ℕ)) (f : ℕ) (p taken rest text : List ℕ) → f ≡ length (known_bytes a) → Appends (text_behind (length (known_bytes a)) a []) (text_behind f b p) text
    → p ≡ taken ++ rest → Appends b c taken → rest ≡ [] → Appends a c text
pieces_whole None b c f p taken rest text first all cut more none = tt
pieces_whole (Some xs) b c f p taken rest text first all cut more none =
    let (ys, front, is, grown, same) = part_of xs f b p text first all in
    let whole : text ≡ front ++ taken = same ∙ ap (λ l. front ++ l) (cut ∙ ap (λ l. taken ++ l) none ∙ append-nil taken) in
    subst (Appends (Some xs) c) (sym whole) (Appends-trans (Some xs) b c front taken (subst (λ (w : Option (List ℕ)). Appends (Some xs) w front) (sym is) grown) more)

-- a front of a front
pub part_more : (a c : Option (List ℕ)) (front rest text : List ℕ) → text ≡ front ++ rest → AppendsPart a c front → AppendsPart a c text
part_more a c front rest text is (some, other, cut, took) = (some, other ++ rest, is ∙ ap (λ l. l ++ rest) cut ∙ append_assoc some other rest, took)

module _ {K : Type 0} (state : K → SinkState) where
  abbrev fresh : K → PieceText K
  fresh sink = record { sink = sink; pending = []; begun = sink }

  first_same : (a b : List ℕ) (c d : List (List ℕ)) → a ∷ c ≡ b ∷ d → length a ≡ length b
  first_same a b c d same = cc

  rest_same : (a b : List ℕ) (c d : List (List ℕ)) → a ∷ c ≡ b ∷ d → c ≡ d
  rest_same a b c d same = cc

  -- the sink had as many bytes at first as the one before which the pieces were made
  first_kept : (sink : K) (mid : PieceText K) → (state_of state mid).made_with ≡ (state_of state (fresh sink)).made_with → length (known_bytes (state mid.begun).written) ≡ length (known_bytes (state sink).written)
  first_kept sink mid made = first_same (known_bytes (state mid.begun).written) (known_bytes (state sink).written) (state mid.sink).made_with (state sink).made_with made

  -- the sink is made with what it was made with
  sink_kept : (sink : K) (mid : PieceText K) → (state_of state mid).made_with ≡ (state_of state (fresh sink)).made_with → (state mid.sink).made_with ≡ (state sink).made_with
  sink_kept sink mid made = rest_same (known_bytes (state mid.begun).written) (known_bytes (state sink).written) (state mid.sink).made_with (state sink).made_with made

  -- the text was written to the pieces, and then they were flushed
  pub flushed : {T U E F : Type 0} (sink : K) (mid last : PieceText K) (text : List ℕ) (x : U) (r : Result T E) → WritesText {E = F} (state_of state (fresh sink)) (state_of state mid) text (Ok x)
      → HandsOn state mid last → OnOk r (last.pending ≡ []) → HasCause (state mid.sink).faults (state last.sink).faults r
      → WritesText (state sink) (state last.sink) text r
  flushed sink mid last text x (Ok y) wrote so none cause = record {
    whole = pieces_whole (state sink).written (state mid.sink).written (state last.sink).written _ mid.pending so.taken last.pending text (first_kept sink mid wrote.made) wrote.whole so.front so.appended none;
    part = tt;
    made = so.made_kept ∙ sink_kept sink mid wrote.made;
    cause = record { later = omega (arith, cause.later, wrote.cause.later); failed = tt };
  }
  flushed sink mid last text x (Err e) wrote so none cause =
      let more : (state mid.sink).faults ≤ (state last.sink).faults = cause.later in
      let rose : Rose (state mid.sink).faults (state last.sink).faults = cause.failed in
      let before : (state sink).faults ≤ (state mid.sink).faults = wrote.cause.later in
      record {
        whole = tt;
        part = pieces_part (state sink).written (state mid.sink).written (state last.sink).written _ mid.pending so.taken last.pending text (first_kept sink mid wrote.made) wrote.whole so.front so.appended;
        made = so.made_kept ∙ sink_kept sink mid wrote.made;
        cause = record { later = omega arith; failed = omega arith };
      }

  -- a front of it was written to the pieces, when the sink failed
  pub broken : {T U E F : Type 0} (sink : K) (mid : PieceText K) (text : List ℕ) (e : E) (f : F) → WritesText {T = U} (state_of state (fresh sink)) (state_of state mid) text (Err f)
      → WritesText {T = T} (state sink) (state mid.sink) text (Err e)
  broken sink mid text e f wrote =
      let (front, rest, cut, some) = wrote.part in
      record {
        whole = tt;
        part = part_more (state sink).written (state mid.sink).written front rest text cut
            (pieces_part (state sink).written (state mid.sink).written (state mid.sink).written _ mid.pending [] mid.pending front (first_kept sink mid wrote.made) some refl (Appends-nil (state mid.sink).written));
        made = sink_kept sink mid wrote.made;
        cause = record { later = wrote.cause.later; failed = wrote.cause.failed };
      }
