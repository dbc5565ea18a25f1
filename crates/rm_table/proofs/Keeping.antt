-- What a step of the seat with one place leaves as it was for every other seat.
use Rattle.std.proofs.Common.{◌≡◌, ◌≢◌, inr, ℕ, ◌+◌, ◌<◌, Bool, List, [], ◌++◌, sym, ◌∙◌, ap, arith, subst, ⊎_elim, append-nil, append_assoc}
use Rattle.std.specs.Prelude.{slice_set}
use mathlib.Core.Option as at
use lib.ListN.{get_elem?}
use Rattle.std.proofs.lemmas.Bool.Decides.{eqb_tells}
use Rattle.atomic_table.proofs.Lists.{at_set, set_here, set_else}
use Rattle.rm_table.specs.declared.view.Role.TheVariants.{Operator}
use Rattle.rm_table.specs.declared.part.Part.{Part}
use Rattle.rm_table.specs.declared.view.View.{View}
use Rattle.rm_table.specs.Layout.{is_held_by}
use Rattle.rm_table.specs.Meanings.{Meanings, BeginsWith}
use Rattle.rm_table.specs.Rule.{WholeState, lent_book, Live, KeptAt, OperatorKeeps, IsSeatOf, EverySeat, Agrees}
use Rattle.rm_table.proofs.Base.{get_within}

module _ {A : Type 0} where
  -- a list begins with itself
  pub begins_same : (xs : List A) → BeginsWith xs xs
  begins_same xs = ([], sym (append-nil xs))

  -- what begins with a list that begins with xs begins with xs
  begins_longer : (zs ys xs : List A) → BeginsWith zs ys → BeginsWith ys xs → BeginsWith zs xs
  begins_longer zs ys xs longer shorter = (shorter.0 ++ longer.0, longer.1 ∙ ap (λ (l : List A). l ++ longer.0) shorter.1 ∙ append_assoc xs shorter.0 longer.0)

-- what the operator keeps, where another makes the step
pub record Quiet {E B T L I : Type 0} (c d : WholeState E B T L I) (p : ℕ) : Type 0 where
  pub number : d.number ≡ c.number
  pub opened : d.opened ≡ c.opened
  pub history : d.history ≡ c.history
  pub own : d.own ≡ c.own
  pub ready : d.ready ≡ c.ready
  pub stale : d.stale ≡ c.stale
  pub revoked : (k : ℕ) → (d.state k).revoked ≡ (c.state k).revoked
  pub drained : (k : ℕ) → (d.state k).drained ≡ (c.state k).drained
  pub token : (k : ℕ) → k ≢ p → (d.state k).token ≡ (c.state k).token

-- what nobody but the seat with place p may see changed
pub record Beside {E B T L I : Type 0} (c d : WholeState E B T L I) (p : ℕ) : Type 0 where
  pub count : d.count ≡ c.count
  pub opened : d.opened ≡ c.opened
  pub history : BeginsWith d.history c.history
  pub seat : (k : ℕ) → d.seat k ≡ c.seat k
  pub phase : (k : ℕ) → k ≢ p → (d.state k).phase ≡ (c.state k).phase
  pub part : (k : ℕ) → k ≢ p → d.part k ≡ c.part k
  pub behind : (k : ℕ) → k ≢ p → is_held_by d.behind k ≡ is_held_by c.behind k
  pub book : (k : ℕ) → k ≢ p → 0 < k → lent_book d.holder d.book k ≡ lent_book c.holder c.book k
  pub operator : p ≢ c.count + 1 → Quiet c d p

module _ {E B T L I : Type 0} (m : Meanings E B T L I) where
  -- what a seat with another place knows of itself stays so
  live_stays : (c d : WholeState E B T L I) (p j : ℕ) (u : View E B T L I) → Beside c d p → u.place ≢ p → Live m c j u → Live m d j u
  live_stays c d p j u b other l = record {
    count = l.count ∙ sym b.count;
    low = l.low;
    high = let h = l.high in let e = b.count in omega arith;
    seat = b.seat u.place ∙ l.seat;
    phase = l.phase ∙ sym (b.phase u.place other);
    part = l.part ∙ sym (b.part u.place other);
    behind = l.behind ∙ sym (b.behind u.place other);
    book = l.book ∙ sym (b.book u.place other l.low);
  }

  -- what the operator keeps of a processor with another place stays so
  kept_stays : (c d : WholeState E B T L I) (p j k : ℕ) (closing : Bool) (part : Part E L I) → Beside c d p → Quiet c d p → k ≢ p → KeptAt m c j closing k part → KeptAt m d j closing k part
  kept_stays c d p j k closing part b q other l = record {
    low = l.low;
    high = let h = l.high in let e = b.count in omega arith;
    seat = b.seat k ∙ l.seat;
    part_is = l.part_is ∙ sym (b.part k other);
    out = b.phase k other ∙ l.out;
    behind = b.behind k other ∙ l.behind;
    fresh = λ opening. let was = l.fresh opening in (was.0, q.token k other ∙ was.1);
  }

  -- what the operator keeps stays so where another seat makes the step
  keeps_stays : (c d : WholeState E B T L I) (p j : ℕ) (u : View E B T L I) → Beside c d p → Quiet c d p → c.seat p ≢ j → OperatorKeeps m c j u → OperatorKeeps m d j u
  keeps_stays c d p j u b q apart l = record {
    place = let e = l.place in let f = b.count in omega arith;
    number = l.number ∙ sym q.number;
    opened = l.opened ∙ sym q.opened;
    history = l.history ∙ sym q.history;
    own = l.own ∙ sym q.own;
    ready = l.ready ∙ sym q.ready;
    stale = l.stale ∙ sym q.stale;
    revoked_size = let e = l.revoked_size in let f = b.count in omega arith;
    drained_size = let e = l.drained_size in let f = b.count in omega arith;
    kept_size = let e = l.kept_size in let f = b.count in omega arith;
    revoked = λ k low high. l.revoked k low (let f = b.count in omega arith) ∙ sym (q.revoked k);
    drained = λ k low high. l.drained k low (let f = b.count in omega arith) ∙ sym (q.drained k);
    kept = λ k part is. let was = l.kept k part is in kept_stays c d p j k u.closing part b q (λ same. apart (ap c.seat (sym same) ∙ was.seat)) was;
  }

  -- what another seat's view says stays so
  agrees_stays : (c d : WholeState E B T L I) (p id j : ℕ) (u : View E B T L I) → Beside c d p → c.seat p ≡ id → j ≢ id → Agrees m c j u → Agrees m d j u
  agrees_stays c d p id j u b seat apart a = record {
    live = λ role. let l = a.live role in live_stays c d p j u b (λ same. apart (sym l.seat ∙ ap c.seat same ∙ seat)) l;
    processor = λ role. let h = a.processor role in let e = b.count in omega arith;
    operator = λ role.
        let l : Live m c j u = a.live (inr role) in
        let k : OperatorKeeps m c j u = a.operator role in
        let other : p ≢ c.count + 1 = λ same. apart (sym l.seat ∙ ap c.seat (k.place ∙ sym same) ∙ seat) in
        keeps_stays c d p j u b (b.operator other) (λ same. apart (sym same ∙ seat)) k;
    receipt = λ role. let r = a.receipt role in record { opened_is = r.opened_is ∙ sym b.opened; prefix = begins_longer d.history c.history u.history b.history r.prefix; begun = r.begun; counts = r.counts };
  }

  -- the views after a step of the seat that has place p
  pub each_after : (c d : WholeState E B T L I) (p id : ℕ) (w : View E B T L I) (views : List (View E B T L I))
      → ((j : ℕ) (u : View E B T L I) → get_elem? views j ≡ at.some u → Agrees m c j u) → c.seat p ≡ id → Beside c d p → Agrees m d id w
      → (j : ℕ) (u : View E B T L I) → get_elem? (slice_set views id w) j ≡ at.some u → Agrees m d j u
  each_after c d p id w views each seat b own j u is =
      ⊎_elim
      (λ here. subst (λ (x : View E B T L I). Agrees m d j x) here.1 (subst (λ (i : ℕ). Agrees m d i w) (sym here.0) own))
      (λ else'. agrees_stays c d p id j u b seat else'.0 (each j u else'.1))
      (at_set views id j w u is)

module _ {E B T L I : Type 0} where
  -- every seat exists after a step that leaves it with its place, or with the places that it keeps
  pub every_seat_after : (n : ℕ) (seat : ℕ → ℕ) (views : List (View E B T L I)) (id : ℕ) (v w : View E B T L I) → get_elem? views id ≡ at.some v → ((k : ℕ) → IsSeatOf v k → IsSeatOf w k) → (v.role ≡ Operator → w.role ≡ Operator)
      → EverySeat n seat views → EverySeat n seat (slice_set views id w)
  every_seat_after n seat views id v w is_at keeps stays s = record {
    processors = λ k low high. let got = s.processors k low high in
        ⊎_elim
        (λ here. (w, there k here.1, keeps k (subst (λ (x : View E B T L I). IsSeatOf x k) (mine k got.0 here.1 got.1) got.2)))
        (λ other. (got.0, set_else views id (seat k) w other.1 ∙ got.1, got.2))
        (eqb_tells (seat k) id);
    operator = let got = s.operator in
        ⊎_elim
        (λ here. (w, there (n + 1) here.1, stays (subst (λ (x : View E B T L I). x.role ≡ Operator) (mine (n + 1) got.0 here.1 got.1) got.2)))
        (λ other. (got.0, set_else views id (seat (n + 1)) w other.1 ∙ got.1, got.2))
        (eqb_tells (seat (n + 1)) id);
  }
    where
      there : (k : ℕ) → seat k ≡ id → get_elem? (slice_set views id w) (seat k) ≡ at.some w
      there k here = ap (get_elem? (slice_set views id w)) here ∙ set_here views id w (get_within views id v is_at)

      mine : (k : ℕ) (u : View E B T L I) → seat k ≡ id → get_elem? views (seat k) ≡ at.some u → u ≡ v
      mine k u here found = at.some-injective u v (sym found ∙ ap (get_elem? views) here ∙ is_at)
