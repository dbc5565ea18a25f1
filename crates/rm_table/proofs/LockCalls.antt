-- What the steps on the locks, on the number and on the seats ask of the table, in the words of `atomic_table`.
use Rattle.std.proofs.Common.{◌≡◌, ◌≢◌, ℕ, ◌+◌, ◌-◌, ◌%◌, ◌^◌, ◌<◌, ◌≤◌, ◌⊎◌, inl, inr, Bool, true, false, Option, Some, None, [], ◌∷◌, ◌++◌, length, refl, sym, ◌∙◌, ap, arith, subst, eq-eqb, ne_eqb}
use Rattle.std.specs.Prelude.{slice_set, slice_get, slice_index, MatchBool, ◌==◌}
use Rattle.std.proofs.lemmas.Bool.{eqb-true}
use Rattle.std.proofs.lemmas.List.{set-get_or}
use mathlib.Core.Option as at
use lib.ListN.{get_elem?}
use prog.Atomic.{either}
use Rattle.atomic_table.specs.Table.{step, stepped, Allows, Splits, Joins, Act, Valid, carried_after, keeps, takes, gives, rest}
use Rattle.atomic_table.proofs.Lists.{set_else}
use Rattle.rm_core.specs.declared.processor_state.Phase.TheVariants.{Out, In}
use Rattle.rm_core.specs.declared.processor_state.Token.TheVariants.{Revoked}
use Rattle.rm_table.specs.declared.view.Role.{Role}
use Rattle.rm_table.specs.declared.view.Role.TheVariants.{Processor, Operator, Receipt}
use Rattle.rm_table.specs.declared.padded_slot.Slot.{Slot}
use Rattle.rm_table.specs.declared.padded_slot.Slot.TheVariants.{Edition, Book}
use Rattle.rm_table.specs.declared.part.Part.{Part}
use Rattle.rm_table.specs.declared.view.View.{View}
use Rattle.rm_table.specs.Layout.{number_index, behind_index, book_index, tracker_index, token_index, tracker_word, holder_word}
use Rattle.rm_table.specs.Meanings.{Meanings}
use Rattle.rm_table.specs.Rule.{WholeState, core_of, Live, Shows, Whole}
use Rattle.rm_table.specs.Moves.{Hand, with_step, behind_part, behind_taken, unread_part, behind_given, read_part, number_read, revoked_view, drained_view, is_revoked, is_drained, published_as, HasNext, gives_first, editions_from, book_part, book_taken, given_part, book_given, HasBook, IsOperator, IsWorking, NoneRevoked, AllDrained, SeenUpTo, IsLast, split_off, right_of, kept_at, receipt_view, informed_part, informed_view, spent_view, joined_view, joined_by}
use Rattle.rm_core.specs.declared.event.Event.TheVariants.{TakeBack, Drain}
use Rattle.rm_core.specs.CoreState.{MayCome, after}
use Rattle.rm_table.specs.Laws.{TakeBackLaw, GiveBackLaw, ReadNumberLaw, RevokeLaw, DrainLaw, PublishLaw, TakeBookLaw, GiveBookLaw, SplitLaw, JoinLaw, ReceiptLaw, HearLaw}
use Rattle.rm_table.specs.Plays.{Seated, TellsTakeBehind, TellsGiveBehind, TellsRevoke, TellsDrain, TellsNumber, TellsPublish, TellsTakeBook, TellsGiveBook}
use Rattle.fw_base.proofs.Logic.{match_true, match_false}
use Rattle.rm_table.proofs.Own.{known_number, seen_published}
use Rattle.rm_table.proofs.Locks.{lock_core, working_live, operator_keeps, take_back_may, give_back_may, take_back_shows, give_back_shows, read_number_shows, missed_shows, hear_shows}
use Rattle.rm_table.proofs.Writer.{state_core, even_word, writer_live, writer_keeps, revoke_may, revoke_event, drain_may, drain_event, drain_missed_event, revoke_shows, drain_home, drain_shows, last_known}
use Rattle.rm_table.proofs.Publishing.{published_core, published_is, publish_event, publish_may, publish_shows, valid_gives, carried_gives}
use Rattle.rm_table.proofs.Books.{desk_core, book_is_home, take_book_shows, book_found, book_free, give_processor_shows, give_operator_shows}
use Rattle.rm_table.proofs.Seats.{seat_core, split_shows, join_shows, receipt_shows, spent_shows}

-- what a drain keeps of a seat, whatever it found
pub record SameSeat {E B T L I : Type 0} (v w : View E B T L I) : Type 0 where
  pub role : w.role ≡ v.role
  pub count : w.count ≡ v.count
  pub place : w.place ≡ v.place
  pub number : w.number ≡ v.number
  pub tracker : tracker_word w.part.sections w.phase ≡ tracker_word v.part.sections v.phase
  pub closing : w.closing ≡ v.closing
  pub kept : w.kept ≡ v.kept

module _ {E B T L I : Type 0} (m : Meanings E B T L I) where
  -- whatever a drain found, the operator's role, place, numbers and kept parts stay
  pub drain_same : (me after : Seated m) (place index found : ℕ) (b : Bool) → MatchBool b
      ((e : E) × (after ≡ (with_step (drained_view me.0 place) index found, (place, Edition (Some e)) ∷ me.1)) × (m.number e ≡ me.0.number) × IsLast me.0 (m.name e) (m.tag e))
      (after ≡ (with_step me.0 index found, me.1)) → SameSeat me.0 after.0
  drain_same me after place index found true got = let is = got.1 in record {
    role = ap (λ z. z.0.role) is;
    count = ap (λ z. z.0.count) is;
    place = ap (λ z. z.0.place) is;
    number = ap (λ z. z.0.number) is;
    tracker = ap (λ z. tracker_word z.0.part.sections z.0.phase) is;
    closing = ap (λ z. z.0.closing) is;
    kept = ap (λ z. z.0.kept) is;
  }
  drain_same me after place index found false is = record {
    role = ap (λ z. z.0.role) is;
    count = ap (λ z. z.0.count) is;
    place = ap (λ z. z.0.place) is;
    number = ap (λ z. z.0.number) is;
    tracker = ap (λ z. tracker_word z.0.part.sections z.0.phase) is;
    closing = ap (λ z. z.0.closing) is;
    kept = ap (λ z. z.0.kept) is;
  }

  -- a try for the lock behind is its event in the lock's core, or none where another holds it
  pub take_back_makes : TakeBackLaw m
  take_back_makes slots id me i x i_is working x_is t whole sized is_at fits = by_holder whole.0.behind refl
    where
      v : View E B T L I
      v = me.0

      c : WholeState E B T L I
      c = whole.0

      found : ℕ
      found = slice_index t.words i

      live : Live m c id v
      live = working_live m c t id v whole.1 is_at working

      by_holder : (o : Option ℕ) → c.behind ≡ o
          → (w : View E B T L I) × (a : Act (Slot E B)) × Valid t.homes me.1 a × ((d : WholeState E B T L I) × Shows m d (stepped t i (either (found == 0) x found) id me.1 w a) × MatchBool (found == 0) (MayCome (core_of c) (TakeBack v.place) × (core_of d ≡ after (core_of c) (TakeBack v.place))) (core_of d ≡ core_of c)) × TellsTakeBehind m (step slots i 0 x at.none) me found (w, carried_after me.1 a)
      by_holder None is =
          let free : found ≡ 0 = ap (slice_index t.words) i_is ∙ whole.1.words.behind_is ∙ ap holder_word is in
          let test : (found == 0) ≡ true = eq-eqb found 0 free in
          let w : View E B T L I = with_step (behind_taken v) i found in
          let d : WholeState E B T L I = lock_core c v.place (Some v.place) (behind_part v.part) in (
            w,
            keeps,
            tt,
            (
              d,
              subst (λ (b : Bool). Shows m d (stepped t i (either b x found) id me.1 w keeps)) (sym test)
                  (subst (λ (y : ℕ). Shows m d (stepped t i y id me.1 w keeps)) (sym x_is)
                  (subst (λ (k : ℕ). Shows m d (stepped t k v.place id me.1 (with_step (behind_taken v) k found) keeps)) (sym i_is) (take_back_shows m c t id v whole.1 is_at working me.1 found is))),
              match_true _ _ (found == 0) test (take_back_may m c t id v whole.1 is_at working is, refl),
            ),
            match_true _ _ (found == 0) test refl,
          )
      by_holder (Some h) is =
          let seen : found ≡ h = ap (slice_index t.words) i_is ∙ whole.1.words.behind_is ∙ ap holder_word is in
          let bounds = whole.1.sound.holder h is in
          let test : (found == 0) ≡ false = ne_eqb found 0 (λ clash. let low = bounds.0 in absurd (omega arith)) in
          let w : View E B T L I = with_step v i found in
          let d : WholeState E B T L I = lock_core c v.place c.behind v.part in (
            w,
            keeps,
            tt,
            (
              d,
              subst (λ (b : Bool). Shows m d (stepped t i (either b x found) id me.1 w keeps)) (sym test)
                  (missed_shows m c t id v whole.1 is_at working i found (slice_set t.words i found) (set-get_or t.words i 0)),
              match_false _ _ (found == 0) test refl,
            ),
            match_false _ _ (found == 0) test (refl, let high = bounds.1 in let e = live.count in omega arith),
          )

  -- giving back the lock behind is its event in the lock's core
  pub give_back_makes : GiveBackLaw m
  give_back_makes slots id me i i_is working behind unrevoked t whole sized is_at fits =
      let v : View E B T L I = me.0 in
      let d : WholeState E B T L I = lock_core whole.0 v.place None (unread_part v.part) in (
        with_step (behind_given v) i 0,
        keeps,
        tt,
        (
          d,
          subst (λ (k : ℕ). Shows m d (stepped t k 0 id me.1 (with_step (behind_given v) k 0) keeps)) (sym i_is) (give_back_shows m whole.0 t id v whole.1 is_at working me.1 behind unrevoked),
          (give_back_may m whole.0 t id v whole.1 is_at working behind unrevoked, refl),
        ),
        refl,
      )

  -- reading the number is its event in the lock's core
  pub read_number_makes : ReadNumberLaw m
  read_number_makes slots id me i i_is working t whole sized is_at fits =
      let v : View E B T L I = me.0 in
      let c : WholeState E B T L I = whole.0 in
      let found : ℕ = slice_index t.words i in
      let live : Live m c id v = working_live m c t id v whole.1 is_at working in
      let is : found ≡ c.number = ap (slice_index t.words) i_is ∙ whole.1.words.number_is in (
        with_step (number_read v found) i found,
        keeps,
        tt,
        (lock_core c v.place c.behind (read_part v.behind v.part found), read_number_shows m c t id v whole.1 is_at working i found me.1 is, (is, refl)),
        record {
          after_is = refl;
          operator = λ role. is ∙ sym (operator_keeps m c t id v whole.1 is_at working role).number;
          processor = λ role. let h = known_number m c t whole.1 v.place live.low ((whole.1.each id v is_at).processor role) in let e : v.part.held ≡ (c.part v.place).held = ap (λ (y : Part E L I). y.held) live.part in omega arith;
          seen = λ role. subst (SeenUpTo v.part) (sym is) (subst (λ (y : Part E L I). SeenUpTo y c.number) (sym live.part) (seen_published m c t whole.1 v.place live.low ((whole.1.each id v is_at).processor role)));
        },
      )

  -- a revocation is its event in the lock's core
  pub revoke_makes : RevokeLaw m
  revoke_makes slots id me i k x i_is writer low high behind unrevoked room is t whole sized is_at fits =
      let v : View E B T L I = me.0 in
      let d : WholeState E B T L I = state_core whole.0 k (record (whole.0.state k) { token = Revoked (whole.0.number + 1); revoked = true }) in (
        with_step (revoked_view v k) i x,
        keeps,
        tt,
        (
          d,
          subst (λ (j : ℕ). Shows m d (stepped t j x id me.1 (with_step (revoked_view v k) j x) keeps)) (sym i_is) (revoke_shows m whole.0 t id v whole.1 is_at writer k x me.1 low high behind unrevoked room is),
          (revoke_may m whole.0 t id v whole.1 is_at writer k low high behind unrevoked room, revoke_event m whole.0 t id v whole.1 is_at writer k low (let e = (writer_live m whole.0 t id v whole.1 is_at writer).count in omega arith)),
        ),
        (λ place same. let e : k ≡ place = omega arith in ap (λ (j : ℕ). (with_step (revoked_view v j) i x, me.1)) e),
      )

  -- a drain is its event in the lock's core
  pub drain_makes : DrainLaw m
  drain_makes slots id me i k i_is writer low high flagged undrained t whole sized is_at fits = by_phase (even_word (whole.0.part k).sections (whole.0.state k).phase)
    where
      v : View E B T L I
      v = me.0

      c : WholeState E B T L I
      c = whole.0

      found : ℕ
      found = slice_index t.words i

      within : k ≤ c.count
      within = let e = (writer_live m c t id v whole.1 is_at writer).count in omega arith

      found_is : found ≡ tracker_word (c.part k).sections (c.state k).phase
      found_is = ap (slice_index t.words) i_is ∙ whole.1.words.trackers k low within

      by_phase : ((c.state k).phase ≡ Out) × (tracker_word (c.part k).sections (c.state k).phase % 2 ≡ 0) ⊎ ((c.state k).phase ≢ Out) × (tracker_word (c.part k).sections (c.state k).phase % 2 ≡ 1)
          → (w : View E B T L I) × (a : Act (Slot E B)) × Valid t.homes me.1 a × ((d : WholeState E B T L I) × Shows m d (stepped t i found id me.1 w a) × (MayCome (core_of c) (Drain k) × (core_of d ≡ after (core_of c) (Drain k)))) × TellsDrain m (step slots i 0 0 at.none) me found (w, carried_after me.1 a)
      by_phase (inl out) =
          let home = drain_home m c t id v whole.1 is_at writer k low high undrained out.0 in
          let e : E = home.0 in
          let even : found % 2 ≡ 0 = ap (λ (n : ℕ). n % 2) found_is ∙ out.1 in
          let number : m.number e ≡ v.number = home.2.number_is ∙ sym (writer_keeps m c t id v whole.1 is_at writer).number in (
            with_step (drained_view v k) i found,
            takes k (Edition (Some e)),
            home.1,
            (
              state_core c k (record (c.state k) { drained = true }),
              drain_shows m c t id v whole.1 is_at writer i k me.1 e low high flagged undrained out.0,
              (drain_may m c t id v whole.1 is_at writer k low high flagged undrained, drain_event m c t id v whole.1 is_at writer k low within out.0),
            ),
            (λ place same. let p : k ≡ place = omega arith in
                match_true _ _ (found % 2 == 0) (eq-eqb (found % 2) 0 even) (e, ap (λ (j : ℕ). (with_step (drained_view v j) i found, (j, Edition (Some e)) ∷ me.1)) p, number, last_known m c t id v whole.1 is_at writer (m.name e) (m.tag e) home.2.name_is home.2.tag_is)),
          )
      by_phase (inr inside) =
          let odd : found % 2 ≡ 1 = ap (λ (n : ℕ). n % 2) found_is ∙ inside.1 in (
            with_step v i found,
            keeps,
            tt,
            (
              lock_core c v.place c.behind v.part,
              missed_shows m c t id v whole.1 is_at (inr writer) i found (slice_set t.words i found) (set-get_or t.words i 0),
              (drain_may m c t id v whole.1 is_at writer k low high flagged undrained, drain_missed_event m c t id v whole.1 is_at writer k low within inside.0),
            ),
            (λ place same. match_false _ _ (found % 2 == 0) (ne_eqb (found % 2) 0 (λ clash. absurd (omega arith))) refl),
          )

  -- a publication is its event in the lock's core
  pub publish_makes : PublishLaw m
  publish_makes slots id me i x book i_is writer h drained behind has some is t whole sized is_at fits =
      let v : View E B T L I = me.0 in
      let d : WholeState E B T L I = published_core m whole.0 h.name h.tag in
      let w : View E B T L I = with_step (published_as m v h.name h.tag) i x in (
        w,
        gives_first v.count,
        valid_gives v.count t.homes me.1,
        (
          d,
          subst (λ (hand : Hand E B). Shows m d (stepped t i x id hand w (gives_first v.count))) (sym h.hand_is)
              (subst (λ (n : ℕ). Shows m d (stepped t i x id (editions_from 1 h.editions h.others) w (gives_first n))) h.count
              (subst (λ (k : ℕ). Shows m d (stepped t k x id (editions_from 1 h.editions h.others) (with_step (published_as m v h.name h.tag) k x) (gives_first (length h.editions)))) (sym i_is)
              (publish_shows m whole.0 t id v whole.1 is_at writer me.1 h x book drained behind has is))),
          (publish_may m whole.0 t id v whole.1 is_at writer drained behind, publish_event m whole.0 t id v whole.1 is_at writer h.name h.tag),
        ),
        (λ j. (with_step (sym (published_is m v me.1 h some) j) i x, carried_gives v.count me.1 j)),
      )

  -- a try for the book leaves the lock's core
  pub take_book_makes : TakeBookLaw m
  take_book_makes slots id me i x i_is working inside x_is t whole sized is_at fits = by_test (found == 0) refl
    where
      v : View E B T L I
      v = me.0

      c : WholeState E B T L I
      c = whole.0

      found : ℕ
      found = slice_index t.words i

      live : Live m c id v
      live = working_live m c t id v whole.1 is_at working

      found_is : found ≡ c.holder
      found_is = ap (slice_index t.words) i_is ∙ whole.1.words.book_is

      free : v.role ≡ Operator → AllDrained v → v.book ≡ None → found ≡ 0
      free role drained none = found_is ∙ book_free m c t id v whole.1 is_at working role drained none

      bound : found ≢ 0 → found ≤ v.count + 1
      bound taken = by_operator (c.holder == c.count + 1) refl
        where
          by_operator : (b : Bool) → (c.holder == c.count + 1) ≡ b → found ≤ v.count + 1
          by_operator true is = let e = eqb-true c.holder (c.count + 1) is in let n = live.count in let f = found_is in omega arith
          by_operator false is =
              let at_desk = whole.1.desk.inside (λ none. taken (found_is ∙ none)) (λ same. let clash : true ≡ false = sym (eq-eqb c.holder (c.count + 1) same) ∙ is in absurd cc) in
              let h = at_desk.0 in let n = live.count in let f = found_is in omega arith

      by_test : (b : Bool) → (found == 0) ≡ b
          → (w : View E B T L I) × (a : Act (Slot E B)) × Valid t.homes me.1 a × ((d : WholeState E B T L I) × Shows m d (stepped t i (either (found == 0) x found) id me.1 w a) × (core_of d ≡ core_of c)) × TellsTakeBook m (step slots i 0 x at.none) me found (w, carried_after me.1 a)
      by_test true test =
          let none : c.holder ≡ 0 = sym found_is ∙ eqb-true found 0 test in
          let w : View E B T L I = with_step (book_taken v c.book) i found in
          let d : WholeState E B T L I = desk_core c v.place v.place c.book c.stale c.ready (book_part v.part) in (
            w,
            takes 0 (Book (Some c.book)),
            book_is_home m c t id v whole.1 is_at working none,
            (
              d,
              subst (λ (b : Bool). Shows m d (stepped t i (either b x found) id me.1 w (takes 0 (Book (Some c.book))))) (sym test)
                  (subst (λ (y : ℕ). Shows m d (stepped t i y id me.1 w (takes 0 (Book (Some c.book))))) (sym x_is)
                  (subst (λ (k : ℕ). Shows m d (stepped t k v.place id me.1 (with_step (book_taken v c.book) k found) (takes 0 (Book (Some c.book))))) (sym i_is) (take_book_shows m c t id v whole.1 is_at working me.1 found none inside))),
              refl,
            ),
            record {
              tried = match_true _ _ (found == 0) test (c.book, refl, book_found m c t id v whole.1 is_at working none inside);
              free = free;
            },
          )
      by_test false test =
          let taken : found ≢ 0 = λ none. let clash : true ≡ false = sym (eq-eqb found 0 none) ∙ test in absurd cc in
          let w : View E B T L I = with_step v i found in
          let d : WholeState E B T L I = lock_core c v.place c.behind v.part in (
            w,
            keeps,
            tt,
            (
              d,
              subst (λ (b : Bool). Shows m d (stepped t i (either b x found) id me.1 w keeps)) (sym test)
                  (missed_shows m c t id v whole.1 is_at working i found (slice_set t.words i found) (set-get_or t.words i 0)),
              refl,
            ),
            record {
              tried = match_false _ _ (found == 0) test (refl, bound taken);
              free = free;
            },
          )

  -- the book on top of a hand
  abbrev top_book : B → Hand E B → B
  top_book other ((k, Book (Some y)) ∷ hand) = y
  top_book other _ = other

  -- giving back the book leaves the lock's core
  pub give_book_makes : GiveBookLaw m
  give_book_makes slots id me i i_is working h t whole sized is_at fits = (
    with_step (book_given m v y) i 0,
    gives,
    tt,
    given working,
    (λ other top.
        let same : y ≡ other = sym (ap (top_book y) h.hand_is) ∙ ap (top_book y) top in
        ap (λ (b : B). (with_step (book_given m v b) i 0, rest me.1)) same),
  )
    where
      v : View E B T L I
      v = me.0

      y : B
      y = h.book

      c : WholeState E B T L I
      c = whole.0

      at_top : (d : WholeState E B T L I) → core_of d ≡ core_of c → Shows m d (stepped t book_index 0 id ((0, Book (Some y)) ∷ rest me.1) (with_step (book_given m v y) book_index 0) gives) → (d : WholeState E B T L I) × Shows m d (stepped t i 0 id me.1 (with_step (book_given m v y) i 0) gives) × (core_of d ≡ core_of c)
      at_top d same shows = (
        d,
        subst (λ (k : ℕ). Shows m d (stepped t k 0 id me.1 (with_step (book_given m v y) k 0) gives)) (sym i_is)
            (subst (λ (hand : Hand E B). Shows m d (stepped t book_index 0 id hand (with_step (book_given m v y) book_index 0) gives)) (sym h.hand_is) shows),
        same,
      )

      given : IsWorking v → (d : WholeState E B T L I) × Shows m d (stepped t i 0 id me.1 (with_step (book_given m v y) i 0) gives) × (core_of d ≡ core_of c)
      given (inl processor) = at_top (desk_core c v.place 0 y c.stale c.ready (given_part m v.part v.place y)) refl (give_processor_shows m c t id v whole.1 is_at working (rest me.1) y h.taken processor h.book_taken (h.processor processor))
      given (inr writer) = at_top (desk_core c v.place 0 y false (m.book_ready y) (given_part m v.part v.place y)) refl (give_operator_shows m c t id v whole.1 is_at working (rest me.1) y h.taken writer.role h.book_taken (h.operator writer.role))

  -- the operator may split off the seat of a processor that it keeps
  pub splits : (id : ℕ) (v : View E B T L I) (k : ℕ) (part : Part E L I) → v.role ≡ Operator → slice_get v.kept k ≡ Some (Some part) → Splits (Whole m) id v (split_off v k) (right_of v k (kept_at v k))
  splits id v k part role kept t whole is_at =
      subst (λ (o : Option (Option (Part E L I))). Whole m (record { words = t.words; homes = t.homes; views = slice_set t.views id (split_off v k) ++ right_of v k o ∷ [] })) (sym kept)
      (seat_core whole.0 k (length t.views), split_shows m whole.0 t id v whole.1 is_at role k part kept)

  -- the operator may join the seat of a processor that is out and doesn't hold the lock behind
  pub joins : (id : ℕ) (v : View E B T L I) (other : ℕ) (w : View E B T L I) → v.role ≡ Operator → w.role ≡ Processor → w.phase ≡ Out → w.behind ≡ false → Joins (Whole m) id v other w (joined_view v w) spent_view
  joins id v other w role processor out unheld t whole is_at apart there =
      (seat_core whole.0 w.place id, join_shows m whole.0 t id v whole.1 is_at role other w apart (sym (set_else t.views id other (joined_view v w) apart) ∙ there) processor out unheld)

  -- a processor, or the operator at work, may try for the lock behind
  pub take_back_allows : (slots id : ℕ) (me : Seated m) (i x : ℕ) → i ≡ behind_index → IsWorking me.0 → x ≡ me.0.place
      → Allows (Whole m) slots id me i (λ n. either (n == 0) x n) (TellsTakeBehind m (step slots i 0 x at.none) me)
  take_back_allows slots id me i x i_is working x_is t whole sized is_at fits = let r = take_back_makes slots id me i x i_is working x_is t whole sized is_at fits in (r.0, r.1, r.2, (r.3.0, r.3.1), r.4)

  -- who holds the lock behind may give it back, the operator only where no token is revoked
  pub give_back_allows : (slots id : ℕ) (me : Seated m) (i : ℕ) → i ≡ behind_index → IsWorking me.0 → me.0.behind ≡ true → (me.0.role ≡ Operator → NoneRevoked me.0)
      → Allows (Whole m) slots id me i (λ _. 0) (λ _. TellsGiveBehind m (step slots i 0 0 at.none) me 0)
  give_back_allows slots id me i i_is working behind unrevoked t whole sized is_at fits = let r = give_back_makes slots id me i i_is working behind unrevoked t whole sized is_at fits in (r.0, r.1, r.2, (r.3.0, r.3.1), r.4)

  -- a processor, or the operator at work, may read the published number
  pub read_number_allows : (slots id : ℕ) (me : Seated m) (i : ℕ) → i ≡ number_index → IsWorking me.0 → Allows (Whole m) slots id me i (λ n. n) (TellsNumber m (step slots i 0 0 at.none) me)
  read_number_allows slots id me i i_is working t whole sized is_at fits = let r = read_number_makes slots id me i i_is working t whole sized is_at fits in (r.0, r.1, r.2, (r.3.0, r.3.1), r.4)

  -- the operator may revoke a token for the next number while it holds the lock behind
  pub revoke_allows : (slots id : ℕ) (me : Seated m) (i k x : ℕ) → i ≡ token_index me.0.count k → IsOperator me.0 → 0 < k → k ≤ me.0.count → me.0.behind ≡ true → is_revoked me.0 k ≡ false → me.0.number < 2 ^ 64 - 1 → x ≡ me.0.number + 1
      → Allows (Whole m) slots id me i (λ _. x) (λ _. TellsRevoke m (step slots i x 0 at.none) me x)
  revoke_allows slots id me i k x i_is writer low high behind unrevoked room is t whole sized is_at fits = let r = revoke_makes slots id me i k x i_is writer low high behind unrevoked room is t whole sized is_at fits in (r.0, r.1, r.2, (r.3.0, r.3.1), r.4)

  -- the operator may look whether a processor that it has revoked is out
  pub drain_allows : (slots id : ℕ) (me : Seated m) (i k : ℕ) → i ≡ tracker_index k → IsOperator me.0 → 0 < k → k ≤ me.0.count → is_revoked me.0 k ≡ true → is_drained me.0 k ≡ false
      → Allows (Whole m) slots id me i (λ n. n) (TellsDrain m (step slots i 0 0 at.none) me)
  drain_allows slots id me i k i_is writer low high flagged undrained t whole sized is_at fits = let r = drain_makes slots id me i k i_is writer low high flagged undrained t whole sized is_at fits in (r.0, r.1, r.2, (r.3.0, r.3.1), r.4)

  -- the operator that holds both locks may publish the next editions once all are drained
  pub publish_allows : (slots id : ℕ) (me : Seated m) (i x : ℕ) (book : B) → i ≡ number_index → IsOperator me.0 → HasNext m me.0 me.1 → AllDrained me.0 → me.0.behind ≡ true → me.0.book ≡ Some book → 0 < me.0.count → x ≡ me.0.number + 1
      → Allows (Whole m) slots id me i (λ _. x) (λ _. TellsPublish m (step slots i x 0 at.none) me x)
  publish_allows slots id me i x book i_is writer h drained behind has some is t whole sized is_at fits = let r = publish_makes slots id me i x book i_is writer h drained behind has some is t whole sized is_at fits in (r.0, r.1, r.2, (r.3.0, r.3.1), r.4)

  -- a processor that is in, or the operator at work, may try for the book
  pub take_book_allows : (slots id : ℕ) (me : Seated m) (i x : ℕ) → i ≡ book_index → IsWorking me.0 → (me.0.role ≡ Processor → me.0.phase ≡ In) → x ≡ me.0.place
      → Allows (Whole m) slots id me i (λ n. either (n == 0) x n) (TellsTakeBook m (step slots i 0 x at.none) me)
  take_book_allows slots id me i x i_is working inside x_is t whole sized is_at fits = let r = take_book_makes slots id me i x i_is working inside x_is t whole sized is_at fits in (r.0, r.1, r.2, (r.3.0, r.3.1), r.4)

  -- who has the book in hand may give it back
  pub give_book_allows : (slots id : ℕ) (me : Seated m) (i : ℕ) → i ≡ book_index → IsWorking me.0 → HasBook m me.0 me.1
      → Allows (Whole m) slots id me i (λ _. 0) (λ _. TellsGiveBook m (step slots i 0 0 at.none) me 0)
  give_book_allows slots id me i i_is working h t whole sized is_at fits = let r = give_book_makes slots id me i i_is working h t whole sized is_at fits in (r.0, r.1, r.2, (r.3.0, r.3.1), r.4)

  -- splitting a processor's seat off is no event in the lock's core
  pub split_makes : SplitLaw m
  split_makes id k v part role kept t whole is_at =
      let d : WholeState E B T L I = seat_core whole.0 k (length t.views) in
      (d, subst (λ (o : Option (Option (Part E L I))). Shows m d (record { words = t.words; homes = t.homes; views = slice_set t.views id (split_off v k) ++ right_of v k o ∷ [] })) (sym kept) (split_shows m whole.0 t id v whole.1 is_at role k part kept), refl)

  -- joining a processor's seat is no event in the lock's core
  pub join_makes : JoinLaw m
  join_makes id other v w role processor out unheld t whole is_at apart there =
      (seat_core whole.0 w.place id, join_shows m whole.0 t id v whole.1 is_at role other w apart (sym (set_else t.views id other (joined_view v w) apart) ∙ there) processor out unheld, refl)

  -- splitting a receipt's seat off is no event in the lock's core
  pub receipt_makes : ReceiptLaw m
  receipt_makes id v role t whole is_at = (whole.0, receipt_shows m whole.0 t id v whole.1 is_at role, refl)

  -- joining a receipt's seat into a processor's is no event in the lock's core
  pub hear_makes : HearLaw m
  hear_makes id other v w role receipt t whole is_at apart there =
      let c : WholeState E B T L I = whole.0 in
      let w_at : get_elem? t.views other ≡ at.some w = sym (set_else t.views id other (informed_view v w) apart) ∙ there in
      let heard = hear_shows m c t id other v w whole.1 is_at role w_at receipt in
      let d : WholeState E B T L I = lock_core c v.place c.behind (informed_part v.part w.opened w.history) in
      (d, spent_shows m d (record { words = t.words; homes = t.homes; views = slice_set t.views id (informed_view v w) }) other w heard there receipt, refl)

  -- the operator may split off a receipt's seat
  pub receipt_splits : (id : ℕ) (v : View E B T L I) → v.role ≡ Operator → Splits (Whole m) id v v (receipt_view v)
  receipt_splits id v role t whole is_at = let r = receipt_makes id v role t whole is_at in (r.0, r.1)

  -- a processor's seat may be joined into the operator's, and a receipt's into a processor's
  pub joins_by : (id : ℕ) (v : View E B T L I) (other : ℕ) (w : View E B T L I) → ((v.role ≡ Operator) × (w.role ≡ Processor) × (w.phase ≡ Out) × (w.behind ≡ false)) ⊎ ((v.role ≡ Processor) × (w.role ≡ Receipt)) → Joins (Whole m) id v other w (joined_by w.role v w) spent_view
  joins_by id v other w (inl pair) = subst (λ (r : Role). Joins (Whole m) id v other w (joined_by r v w) spent_view) (sym pair.1) (joins id v other w pair.0 pair.1 pair.2 pair.3)
  joins_by id v other w (inr pair) = subst (λ (r : Role). Joins (Whole m) id v other w (joined_by r v w) spent_view) (sym pair.1) (λ t whole is_at apart there. let r = hear_makes id other v w pair.0 pair.1 t whole is_at apart there in (r.0, r.1))
