-- What the operator knows of the table once every seat was joined into its own.
use Rattle.std.proofs.Common.{◌≡◌, ◌≢◌, ℕ, ◌+◌, ◌-◌, ◌*◌, ◌%◌, ◌^◌, ◌<◌, ◌≤◌, inl, inr, Bool, true, false, Some, None, List, ◌++◌, length, refl, sym, ◌∙◌, ap, arith, ⊎_elim, eq-eqb}
use Rattle.std.specs.Prelude.{slice_get, slice_index, if◌then◌else◌, ◌==◌}
use Rattle.std.proofs.lemmas.Bool.{eqb-true}
use mathlib.Core.Option as at
use lib.ListN.{get_elem?}
use Rattle.atomic_table.specs.Table.{State, Final, Seen}
use Rattle.rm_core.specs.declared.processor_state.Phase.{Phase}
use Rattle.rm_core.specs.declared.processor_state.Phase.TheVariants.{Out, In}
use Rattle.rm_core.specs.declared.processor_state.ProcessorState.{ProcessorState}
use Rattle.rm_core.specs.CoreState.{processor_of}
use Rattle.rm_core.proofs.Changes.{IsProcessor-some}
use Rattle.rm_table.specs.declared.view.Role.TheVariants.{Operator}
use Rattle.rm_table.specs.declared.padded_slot.Slot.{Slot}
use Rattle.rm_table.specs.declared.padded_slot.Slot.TheVariants.{Edition, Book}
use Rattle.rm_table.specs.declared.part.Part.{Part}
use Rattle.rm_table.specs.declared.view.View.{View}
use Rattle.rm_table.specs.Layout.{tracker_index, tracker_word}
use Rattle.rm_table.specs.Meanings.{Meanings}
use Rattle.rm_table.specs.Rule.{WholeState, core_of, IsPending, Live, KeptAt, OperatorKeeps, Shows, Whole}
use Rattle.rm_table.specs.Moves.{AllJoined, NoneDrained, NoneRevoked}
use Rattle.rm_table.specs.Ends.{EndsWith, ClosesWith}
use Rattle.std.proofs.lemmas.Option.{slice_get_within}
use Rattle.rm_table.proofs.Base.{slice_at, at_slice, found_there}
use Rattle.rm_table.proofs.Own.{known_number}
use Rattle.rm_table.proofs.Slots.{at_home, book_at_home}

module _ {E B T L I : Type 0} (m : Meanings E B T L I) (c : WholeState E B T L I) (t : State (Slot E B) (View E B T L I)) (id : ℕ) (v : View E B T L I) (shows : Shows m c t) (is_at : get_elem? t.views id ≡ at.some v)
    (role : v.role ≡ Operator) (joined : AllJoined v) (undrained : NoneDrained v) (bookless : v.book ≡ None) where
  l : Live m c id v
  l = (shows.each id v is_at).live (inr role)

  o : OperatorKeeps m c id v
  o = (shows.each id v is_at).operator role

  kept_there : (k : ℕ) (part : Part E L I) → slice_get v.kept k ≡ Some (Some part) → KeptAt m c id v.closing k part
  kept_there k part is = o.kept k part (slice_at v.kept k (Some part) is)

  out_there : (k : ℕ) → 0 < k → k ≤ c.count → (c.state k).phase ≡ Out
  out_there k low high = let got = joined.1 k low (let e = l.count in omega arith) in (kept_there k got.0 got.1).out

  nobody_in : (k : ℕ) → 0 < k → k ≤ c.count → (c.state k).phase ≡ In → ⊥
  nobody_in k low high inside = let clash : Out ≡ In = sym (out_there k low high) ∙ inside in absurd cc

  book_free : c.holder ≡ 0
  book_free = by_holder (c.holder == 0) refl
    where
      by_holder : (b : Bool) → (c.holder == 0) ≡ b → c.holder ≡ 0
      by_holder true is = eqb-true c.holder 0 is
      by_holder false is =
          let taken : c.holder ≢ 0 = λ free. let clash : true ≡ false = sym (eq-eqb c.holder 0 free) ∙ is in absurd cc in
          let not_operator : c.holder ≢ c.count + 1 = λ same.
          let mine : v.book ≡ Some c.book = l.book ∙ ap (λ (b : Bool). if b then Some c.book else None) (eq-eqb c.holder v.place (same ∙ sym o.place)) in
          let clash : None ≡ Some c.book = sym bookless ∙ mine in absurd cc in
          let at_desk = shows.desk.inside taken not_operator in
          absurd (nobody_in c.holder (grind (arith, taken)) at_desk.0 at_desk.1)

  unpublished : c.stale ≡ false
  unpublished = by_flag c.stale refl
    where
      by_flag : (b : Bool) → c.stale ≡ b → c.stale ≡ false
      by_flag true is = let e = shows.desk.writer is in let f = book_free in absurd (omega arith)
      by_flag false is = is

  refused : (k x : ℕ) → NoneRevoked v → IsPending (core_of c) k x → x ≤ c.number
  refused k x none (inl done) = done
  refused k x none (inr next) =
      let found : (p : ProcessorState) × (processor_of (core_of c) k ≡ Some p) × (p.revoked ≡ true) = IsProcessor-some (core_of c) k (λ p. p.revoked ≡ true) next.1 in
      let place = found_there c k found.0 found.1 in
      let flag : (c.state k).revoked ≡ false = sym (o.revoked k place.0 place.1) ∙ none k place.0 (let e = l.count in let h = place.1 in omega arith) in
      let other : (c.state k).revoked ≡ true = ap (λ (p : ProcessorState). p.revoked) place.2 ∙ found.2 in
      let clash : true ≡ false = sym other ∙ flag in
      absurd cc

  -- with every seat joined, words and slots hold what the operator's view keeps of each processor
  pub ends : (words : List ℕ) (slots : List (Slot E B)) → t.words ≡ words → ((k : ℕ) (y : Slot E B) → get_elem? t.homes k ≡ at.some (at.some y) → get_elem? slots k ≡ at.some y) → EndsWith m v words slots
  ends words slots same homes =
      let history : slice_get v.history (v.number - v.opened) ≡ Some (c.name, c.tag) =
      ap (λ (xs : List (L × T)). slice_get xs (v.number - v.opened)) o.history ∙ ap (λ (n : ℕ). slice_get c.history (n - v.opened)) o.number ∙ ap (λ (n : ℕ). slice_get c.history (c.number - n)) o.opened
      ∙ at_slice c.history (c.number - c.opened) (c.name, c.tag) shows.past.last in
      record {
        name = c.name;
        tag = c.tag;
        last = history;
        book = c.book;
        book_is = at_slice slots 0 (Book (Some c.book)) (homes 0 (Book (Some c.book)) (book_at_home m book_free shows.slots));
        book_number = shows.desk.number_is unpublished ∙ sym o.number;
        book_tag = shows.desk.tag_is unpublished;
        list_0 = shows.lists.list_0 unpublished ∙ sym o.own;
        ready = λ ready. shows.readiness (sym o.ready ∙ ready);
        editions = λ k low high.
            let within : k ≤ c.count = let e = l.count in omega arith in
            let got = at_home m k low within (λ away. ⊎_elim (nobody_in k low within) (λ flag. let clash : true ≡ false = sym flag ∙ sym (o.drained k low within) ∙ undrained k low high in absurd cc) away) shows.slots in
            (got.0, at_slice slots k (Edition (Some got.0)) (homes k (Edition (Some got.0)) got.1), got.2.number_is ∙ sym o.number, got.2.name_is, got.2.tag_is);
        trackers = λ k part is. let q = kept_there k part is in
            ap (λ (ws : List ℕ). slice_index ws (tracker_index k)) (sym same) ∙ shows.words.trackers k q.low q.high
            ∙ ap (λ (p : Phase). tracker_word (c.part k).sections p) q.out ∙ ap (λ (p : Part E L I). (2 * p.sections) % 2 ^ 64) (sym q.part_is);
        lists = λ k part is. let q = kept_there k part is in shows.lists.lists k q.low q.high ∙ ap (λ (p : Part E L I). p.own) (sym q.part_is);
        begins = λ k part is. let q = kept_there k part is in let b = shows.lists.begins k q.low q.high in (b.0, o.own ∙ b.1 ∙ ap (λ (p : Part E L I). p.first ++ b.0) (sym q.part_is));
        held = λ k part is. let q = kept_there k part is in let e : part.held ≡ (c.part k).held = ap (λ (p : Part E L I). p.held) q.part_is in let n = o.number in let h = known_number m c t shows k q.low q.high in omega arith;
        refusals = λ k part is none x told. let q = kept_there k part is in let n = o.number in
            let h : x ≤ c.number = refused k x none (shows.numbers.refusal k x (ap (λ (p : Part E L I). p.refusal) (sym q.part_is) ∙ told)) in omega arith;
        pairs = λ k part is j x name got. let q = kept_there k part is in
            let old = shows.insides.pairs k q.low q.high j x name (ap (λ (p : Part E L I). get_elem? p.pairs j) (sym q.part_is) ∙ slice_at part.pairs j (x, name) got) in (
              let n = o.opened in let h = old.0 in omega arith,
              (
                old.1.0,
                ap (λ (xs : List (L × T)). slice_get xs (x - v.opened)) o.history ∙ ap (λ (n : ℕ). slice_get c.history (x - n)) o.opened ∙ at_slice c.history (x - c.opened) (name, old.1.0) old.1.1,
              ),
            );
      }

-- the same, of the last state of a table
pub closing_ends : {E B T L I : Type 0} (m : Meanings E B T L I) (id : ℕ) (v : View E B T L I) (words : List ℕ) (slots : List (Slot E B)) → v.role ≡ Operator → AllJoined v → NoneDrained v → v.book ≡ None
    → Final (Seen (Whole m) id v) words slots → EndsWith m v words slots
closing_ends m id v words slots role joined undrained bookless f = ends m f.1.0.0 f.0 id v f.1.0.1 f.1.1 role joined undrained bookless words slots f.2 f.4

-- what a lock gives back, by what words and slots hold
pub closes : {E B T L I : Type 0} (m : Meanings E B T L I) (v : View E B T L I) (words : List ℕ) (slots : List (Slot E B)) (book : B) (trackers : List ℕ) (editions : List E) → EndsWith m v words slots
    → slice_get slots 0 ≡ Some (Book (Some book)) → length trackers ≡ v.count → length editions ≡ v.count
    → ((j : ℕ) → j < v.count → slice_get trackers j ≡ Some (slice_index words (tracker_index (j + 1))))
    → ((j : ℕ) (e : E) → slice_get editions j ≡ Some e → slice_get slots (j + 1) ≡ Some (Edition (Some e)))
    → ClosesWith m v book trackers editions
closes m v words slots book trackers editions h book_is tracker_count edition_count each taken =
    let both : Some (Book (Some h.book)) ≡ Some (Book (Some book)) = sym h.book_is ∙ book_is in
    let same : h.book ≡ book = cc in
    record {
      name = h.name;
      tag = h.tag;
      last = h.last;
      book_number = ap m.book_number (sym same) ∙ h.book_number;
      book_tag = ap m.book_tag (sym same) ∙ h.book_tag;
      list_0 = ap (λ b. m.of b 0) (sym same) ∙ h.list_0;
      ready = λ ready. ap m.book_ready (sym same) ∙ h.ready ready;
      tracker_count = tracker_count;
      edition_count = edition_count;
      published = λ j e is.
          let got = h.editions (j + 1) (omega arith) (let inside = slice_get_within editions j e is in omega arith) in
          let one : Some (Edition (Some got.0)) ≡ Some (Edition (Some e)) = sym got.1 ∙ taken j e is in
          let it : got.0 ≡ e = cc in
          (ap m.number (sym it) ∙ got.2, ap m.name (sym it) ∙ got.3, ap m.tag (sym it) ∙ got.4);
      begun = λ j part inside is. each j inside ∙ ap (λ (n : ℕ). Some n) (h.trackers (j + 1) part is);
      lists = λ k part is. ap (λ b. m.of b k) (sym same) ∙ h.lists k part is;
      begins = h.begins;
      held = h.held;
      refusals = h.refusals;
      pairs = h.pairs;
    }
