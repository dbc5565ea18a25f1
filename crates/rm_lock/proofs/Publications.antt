-- The operator's seat through a publication.
use Rattle.std.proofs.Common.{◌≡◌, ◌≢◌, inr, ℕ, ◌+◌, ◌<◌, ◌≤◌, true, false, Some, None, List, [], ◌∷◌, ◌++◌, length, refl, sym, ◌∙◌, ap, subst, arith}
use Rattle.std.specs.Prelude.{slice_get}
use Rattle.std.proofs.lemmas.List.{length-replicate}
use Rattle.atomic_table.specs.Table.{Me, rest, turned}
use Rattle.atomic_table.specs.Seated.{TableId}
use Rattle.rm_table.specs.declared.padded_slot.Slot.{Slot}
use Rattle.rm_table.specs.declared.padded_slot.Slot.TheVariants.{Book}
use Rattle.rm_table.specs.declared.view.View.{View}
use Rattle.rm_table.specs.Layout.{number_index, book_index, behind_index}
use Rattle.rm_table.specs.Meanings.{Meanings}
use Rattle.rm_table.specs.Moves.{Hand, with_step, book_taken, book_given, behind_given, published_view, published_as, rest_from, editions_from, HasNext, HasBook, IsWorking, NoneRevoked, FoundBy}
use Rattle.rm_table.proofs.Publishing.{flag_of-replicate}
use Rattle.rm_table.proofs.Writes.{written_hand, published_of, has_written}
use Rattle.rm_lock.specs.Calls.{AreNext, PublishesEditions, after_write}
use Rattle.rm_lock.specs.Tokens.{TokenState, IsAtRestBy, WritesBy, AreOld}
use Rattle.rm_lock.specs.Writes.{IsWriting}
use Rattle.rm_lock.proofs.Hands.{editions_before, rest_behind, same_editions}

one_more : {A : Type 0} (xs : List A) (x : A) → length (xs ++ x ∷ []) ≡ length xs + 1
one_more [] x = refl
one_more (z ∷ xs) x = let e = one_more xs x in omega arith

first_there : {A : Type 0} (xs : List A) → 0 < length xs → (x : A) × (slice_get xs 0 ≡ Some x)
first_there [] h = absurd (omega arith)
first_there (x ∷ xs) h = (x, refl)

module _ {E B T L I : Type 0} (m : Meanings E B T L I) where
  -- the book, changed and in its slot again, lies behind the editions
  book_behind : (s0 s1 s2 s3 : Me (Slot E B) (View E B T L I)) (editions : List E) (taken b : B) → s0.1 ≡ editions_from 1 editions [] → s1 ≡ (with_step (book_taken s0.0 taken) book_index 0, (0, Book None) ∷ s0.1)
      → s2 ≡ (s1.0, (0, Book (Some b)) ∷ rest s1.1) → s3 ≡ (s2.0, turned s2.1) → s3 ≡ (with_step (book_taken s0.0 taken) book_index 0, editions_from 1 editions ((0, Book (Some b)) ∷ []))
  book_behind s0 s1 s2 s3 editions taken b e0 e1 e2 e3 =
      written_hand s0 s1 s2 s3 (editions_from 1 editions []) b (with_step (book_taken s0.0 taken) book_index 0) e0 e1 e2 e3
      ∙ ap (λ (h : Hand E B). (with_step (book_taken s0.0 taken) book_index 0, h)) (editions_before 1 editions [] ((0, Book (Some b)) ∷ []))

  next_ready : (s : Me (Slot E B) (View E B T L I)) (v : View E B T L I) (editions : List E) (facts : T) (others : Hand E B) → s ≡ (v, editions_from 1 editions others) → 0 < v.count → length editions ≡ v.count → AreNext m v.number editions facts → HasNext m s.0 s.1
  next_ready s v editions facts others is some count next =
      let f = first_there editions (omega arith) in
      subst (λ (z : Me (Slot E B) (View E B T L I)). HasNext m z.0 z.1) (sym is) (record {
        editions = editions;
        others = others;
        count = count;
        hand_is = refl;
        name = m.name f.0;
        tag = facts;
        same = λ j e at. let n = next j 0 e f.0 at f.1 in (n.0, n.2, n.1);
      })

  -- the seat after the publication
  has_published : (s new : Me (Slot E B) (View E B T L I)) (v : View E B T L I) (edition : E) (editions : List E) (facts : T) (b : B) (i x : ℕ) → s ≡ (v, editions_from 1 editions ((0, Book (Some b)) ∷ [])) → slice_get editions 0 ≡ Some edition → length editions ≡ v.count
      → new ≡ (with_step (published_view m s.0 s.1) i x, rest_from s.0.count s.1) → new ≡ (with_step (published_as m v (m.name edition) (m.tag edition)) i x, (0, Book (Some b)) ∷ [])
  has_published s new v edition [] facts b i x is first count e = absurd cc
  has_published s new v edition (d ∷ editions) facts b i x is first count e =
      let same : d ≡ edition = cc in
      published_of m s v d b v.count (editions_from 2 editions ((0, Book (Some b)) ∷ [])) i x new is (rest_behind 1 v.count (d ∷ editions) ((0, Book (Some b)) ∷ []) count) refl e
      ∙ ap (λ (n : E). (with_step (published_as m v (m.name n) (m.tag n)) i x, (0, Book (Some b)) ∷ [])) same

  -- the book was taken, has taken the facts in, and lies behind the editions
  pub record TakenIn (s0 s4 : Me (Slot E B) (View E B T L I)) (editions : List E) (facts : T) : Type 0 where
    pub writing : IsWriting s0.0
    pub count : length editions ≡ s0.0.count
    pub next : AreNext m s0.0.number editions facts
    pub taken : B
    pub book : B
    pub behind : s4 ≡ (with_step (book_taken s0.0 taken) book_index 0, editions_from 1 editions ((0, Book (Some book)) ∷ []))
    pub list_0 : m.of taken 0 ≡ s0.0.own
    pub number : m.book_number book ≡ s0.0.number + 1
    pub tag : m.book_tag book ≡ facts
    pub item : m.of book 0 ≡ m.of taken 0 ++ m.item facts ∷ []
    pub others : (k : ℕ) → k ≢ 0 → m.of book k ≡ m.of taken k

  -- the book that was taken has the new facts, and lies behind the next editions
  pub taken_in : (s0 s1 s3 s4 : Me (Slot E B) (View E B T L I)) (editions : List E) (facts : T) (facts_number : ℕ) (taken book : B) → IsWriting s0.0 → length editions ≡ s0.0.count → s0.1 ≡ editions_from 1 editions [] → AreNext m s0.0.number editions facts → facts_number ≡ s0.0.number + 1
      → (s1 ≡ (with_step (book_taken s0.0 taken) book_index 0, (0, Book None) ∷ s0.1)) × FoundBy m s0.0 taken → m.book_number book ≡ facts_number → m.book_tag book ≡ facts → m.of book 0 ≡ m.of taken 0 ++ m.item facts ∷ [] → ((k : ℕ) → k ≢ 0 → m.of book k ≡ m.of taken k)
      → s3 ≡ (s1.0, (0, Book (Some book)) ∷ rest s1.1) → s4 ≡ (s3.0, turned s3.1) → TakenIn s0 s4 editions facts
  taken_in s0 s1 s3 s4 editions facts facts_number taken book w count hand next facts_are t number tag item others e3 e4 = record {
    writing = w;
    count = count;
    next = next;
    taken = taken;
    book = book;
    behind = book_behind s0 s1 s3 s4 editions taken book hand t.0 e3 e4;
    list_0 = (t.1.operator w.operator.role).list_0;
    number = number ∙ facts_are;
    tag = tag;
    item = item;
    others = others;
  }

  -- with the next editions in its hand the operator may publish
  pub may_publish : (s0 s4 : Me (Slot E B) (View E B T L I)) (editions : List E) (facts : T) → TakenIn s0 s4 editions facts → HasNext m s4.0 s4.1
  may_publish s0 s4 editions facts t = next_ready s4 (with_step (book_taken s0.0 t.taken) book_index 0) editions facts ((0, Book (Some t.book)) ∷ []) t.behind t.writing.some t.count t.next

  edition_there : (s0 s4 : Me (Slot E B) (View E B T L I)) (editions : List E) (facts : T) → TakenIn s0 s4 editions facts → (e : E) × (slice_get editions 0 ≡ Some e)
  edition_there s0 s4 editions facts t = first_there editions (let c = t.count in let some = t.writing.some in omega arith)

  was_published : (s0 s4 s5 : Me (Slot E B) (View E B T L I)) (editions : List E) (facts : T) (t : TakenIn s0 s4 editions facts) → s5 ≡ (with_step (published_view m s4.0 s4.1) number_index (s4.0.number + 1), rest_from s4.0.count s4.1)
      → s5 ≡ (with_step (published_as m (with_step (book_taken s0.0 t.taken) book_index 0) (m.name (edition_there s0 s4 editions facts t).0) (m.tag (edition_there s0 s4 editions facts t).0)) number_index (s0.0.number + 1), (0, Book (Some t.book)) ∷ [])
  was_published s0 s4 s5 editions facts t e5 =
      let f = edition_there s0 s4 editions facts t in
      let v = with_step (book_taken s0.0 t.taken) book_index 0 in
      has_published s4 s5 v f.0 editions facts t.book number_index (s4.0.number + 1) t.behind f.1 t.count e5
      ∙ ap (λ (s : Me (Slot E B) (View E B T L I)). (with_step (published_as m v (m.name f.0) (m.tag f.0)) number_index (s.0.number + 1), (0, Book (Some t.book)) ∷ [])) t.behind

  -- behind the publication the operator has the book on top, and may give it back
  pub may_give : (s0 s4 s5 : Me (Slot E B) (View E B T L I)) (editions : List E) (facts : T) (t : TakenIn s0 s4 editions facts) → s5 ≡ (with_step (published_view m s4.0 s4.1) number_index (s4.0.number + 1), rest_from s4.0.count s4.1) → HasBook m s5.0 s5.1
  may_give s0 s4 s5 editions facts t e5 =
      let f = edition_there s0 s4 editions facts t in
      let tagged : m.tag f.0 ≡ facts = (t.next 0 0 f.0 f.0 f.1 f.1).1 in
      has_written m (with_step (book_taken s0.0 t.taken) book_index 0) f.0 t.taken t.book number_index (s0.0.number + 1) s5 (was_published s0 s4 s5 editions facts t e5) t.writing.operator.role refl t.writing.counts t.number (tagged ∙ sym t.tag) t.list_0
      (t.item ∙ ap (λ (g : T). m.of t.taken 0 ++ m.item g ∷ []) (sym tagged)) t.others

  -- the seat once the book is given back
  after_give : (s0 s4 s5 s6 : Me (Slot E B) (View E B T L I)) (editions : List E) (facts : T) (t : TakenIn s0 s4 editions facts) → s5 ≡ (with_step (published_view m s4.0 s4.1) number_index (s4.0.number + 1), rest_from s4.0.count s4.1)
      → ((c : B) → s5.1 ≡ (0, Book (Some c)) ∷ rest s5.1 → s6 ≡ (with_step (book_given m s5.0 c) book_index 0, rest s5.1))
      → s6 ≡ (with_step (book_given m (with_step (published_as m (with_step (book_taken s0.0 t.taken) book_index 0) (m.name (edition_there s0 s4 editions facts t).0) (m.tag (edition_there s0 s4 editions facts t).0)) number_index (s0.0.number + 1)) t.book) book_index 0, [])
  after_give s0 s4 s5 s6 editions facts t e5 step =
      let e = was_published s0 s4 s5 editions facts t e5 in
      step t.book (subst (λ (s : Me (Slot E B) (View E B T L I)). s.1 ≡ (0, Book (Some t.book)) ∷ rest s.1) (sym e) refl)
      ∙ ap (λ (s : Me (Slot E B) (View E B T L I)). (with_step (book_given m s.0 t.book) book_index 0, rest s.1)) e

  -- what giving the lock behind back asks
  pub record MayGiveBack (v : View E B T L I) : Type 0 where
    pub working : IsWorking v
    pub behind : v.behind ≡ true
    pub unrevoked : NoneRevoked v

  -- behind the book the operator may give the lock behind back
  pub may_give_back : (s0 s4 s5 s6 : Me (Slot E B) (View E B T L I)) (editions : List E) (facts : T) (t : TakenIn s0 s4 editions facts) → s5 ≡ (with_step (published_view m s4.0 s4.1) number_index (s4.0.number + 1), rest_from s4.0.count s4.1)
      → ((c : B) → s5.1 ≡ (0, Book (Some c)) ∷ rest s5.1 → s6 ≡ (with_step (book_given m s5.0 c) book_index 0, rest s5.1)) → MayGiveBack s6.0
  may_give_back s0 s4 s5 s6 editions facts t e5 step = subst (λ (s : Me (Slot E B) (View E B T L I)). MayGiveBack s.0) (sym (after_give s0 s4 s5 s6 editions facts t e5 step)) (record {
    working = inr (record { role = t.writing.operator.role; split = t.writing.operator.split });
    behind = t.writing.behind;
    unrevoked = λ k low high. flag_of-replicate _ k;
  })

  -- publishing, giving the book back and giving the lock behind back are one publication, and empty the hand
  pub publishes : (s0 s4 s5 s6 s7 : Me (Slot E B) (View E B T L I)) (editions : List E) (facts : T) (t : TakenIn s0 s4 editions facts) → s5 ≡ (with_step (published_view m s4.0 s4.1) number_index (s4.0.number + 1), rest_from s4.0.count s4.1)
      → ((c : B) → s5.1 ≡ (0, Book (Some c)) ∷ rest s5.1 → s6 ≡ (with_step (book_given m s5.0 c) book_index 0, rest s5.1)) → s7 ≡ (with_step (behind_given s6.0) behind_index 0, s6.1) → (PublishesEditions m s0.0 editions facts s7.0) × (s7.1 ≡ [])
  publishes s0 s4 s5 s6 s7 editions facts t e5 step e7 =
      let f = edition_there s0 s4 editions facts t in
      let tagged : m.tag f.0 ≡ facts = (t.next 0 0 f.0 f.0 f.1 f.1).1 in
      let is : s7 ≡ (after_write m s0.0 t.taken (m.name f.0) facts t.book, []) =
      e7 ∙ ap (λ (s : Me (Slot E B) (View E B T L I)). (with_step (behind_given s.0) behind_index 0, s.1)) (after_give s0 s4 s5 s6 editions facts t e5 step)
      ∙ ap (λ (g : T). (after_write m s0.0 t.taken (m.name f.0) g t.book, [])) tagged in (
        record { edition = f.0; first = f.1; taken = t.taken; book = t.book; after_is = ap (λ (s : Me (Slot E B) (View E B T L I)). s.0) is },
        ap (λ (s : Me (Slot E B) (View E B T L I)). s.1) is,
      )

  -- the operator is at rest again
  pub rests_again : (before after : View E B T L I) (hand : Hand E B) (editions : List E) (facts : T) (processors number : ℕ) → processors ≤ 64 → before.count ≡ processors → before.number ≡ number → IsWriting before → PublishesEditions m before editions facts after → hand ≡ []
      → IsAtRestBy processors (number + 1) after hand
  rests_again before after hand editions facts processors number few count is w p empty =
      let v = after_write m before p.taken (m.name p.edition) facts p.book in
      subst (λ (z : View E B T L I). IsAtRestBy processors (number + 1) z hand) (sym p.after_is) (record {
        at_rest = record {
          operator = record { role = w.operator.role; split = w.operator.split };
          some = w.some;
          unpublished = refl;
          kept_size = w.kept_size;
          unheld = refl;
          bookless = refl;
          unrevoked = λ k low high. flag_of-replicate _ k;
          undrained = λ k low high. flag_of-replicate _ k;
          revoked_size = length-replicate (before.count + 1) false;
          drained_size = length-replicate (before.count + 1) false;
          counts = let c = w.counts in let l = one_more before.history (m.name p.edition, facts) in omega arith;
          empty_hand = empty;
        };
        begun = let b = w.begun in omega arith;
        few = few;
        count_is = count;
        number_is = ap (λ (n : ℕ). n + 1) is;
      })

  -- the editions were exchanged, and nothing else is changed
  pub is_writing : (processors number : ℕ) (s0 s1 : Me (Slot E B) (View E B T L I)) → WritesBy m processors number s0.0 s0.1 → s1.0 ≡ s0.0 → IsWriting s1.0
  is_writing processors number s0 s1 w same = subst (λ (v : View E B T L I). IsWriting v) (sym same) (record {
    operator = w.operator;
    some = w.some;
    behind = w.behind;
    bookless = w.bookless;
    unpublished = w.unpublished;
    ready = w.ready;
    room = w.room;
    drained = w.drained;
    kept_size = w.kept_size;
    begun = w.begun;
    counts = w.counts;
  })

  -- what publishing asks of the operator that has exchanged the editions
  pub may_write : (token : TokenState E B T L I) (table : TableId) (s0 s1 : Me (Slot E B) (View E B T L I)) (editions : List E) (facts : T) → record { table_id = table; view = s0.0 } ≡ token → s1 ≡ (s0.0, editions_from 1 editions []) → length editions ≡ token.view.count → AreNext m token.view.number editions facts
      → (length editions ≡ s1.0.count) × (s1.1 ≡ editions_from 1 editions []) × AreNext m s1.0.number editions facts
  may_write token table s0 s1 editions facts is now count next =
      let view : token.view ≡ s1.0 = sym (ap (λ (u : TokenState E B T L I). u.view) is) ∙ sym (ap (λ (s : Me (Slot E B) (View E B T L I)). s.0) now) in (
        count ∙ ap (λ (v : View E B T L I). v.count) view,
        ap (λ (s : Me (Slot E B) (View E B T L I)). s.1) now,
        subst (λ (v : View E B T L I). AreNext m v.number editions facts) view next,
      )

  -- the editions that are given back are the old ones
  pub old_again : (token : TokenState E B T L I) (table : TableId) (processors number : ℕ) (s0 : Me (Slot E B) (View E B T L I)) (editions : List E) → record { table_id = table; view = s0.0 } ≡ token → WritesBy m processors number s0.0 s0.1 → s0.1 ≡ editions_from 1 editions [] → AreOld m token.view editions
  old_again token table processors number s0 editions is w was =
      let same : w.editions ≡ editions = same_editions 1 w.editions editions s0.1 w.hand_is was in
      subst (λ (u : TokenState E B T L I). AreOld m u.view editions) is (subst (λ (es : List E). AreOld m s0.0 es) same w.old)

  -- what the operator's seat publishes, its token publishes
  pub published_for : (token : TokenState E B T L I) (table : TableId) (s0 s1 : Me (Slot E B) (View E B T L I)) (editions : List E) (facts : T) (after : View E B T L I) → record { table_id = table; view = s0.0 } ≡ token → s1 ≡ (s0.0, editions_from 1 editions []) → PublishesEditions m s1.0 editions facts after → PublishesEditions m token.view editions facts after
  published_for token table s0 s1 editions facts after is now p =
      subst (λ (v : View E B T L I). PublishesEditions m v editions facts after) (ap (λ (s : Me (Slot E B) (View E B T L I)). s.0) now ∙ ap (λ (u : TokenState E B T L I). u.view) is) p
