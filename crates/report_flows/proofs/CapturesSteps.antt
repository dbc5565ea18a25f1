-- The captures so far, and one more.
use Rattle.std.proofs.Common.{◌≡◌, ◌≢◌, ℕ, suc, ◌+◌, ◌-◌, ◌<◌, ◌≤◌, List, [], ◌∷◌, ◌++◌, Option, length, map, get_or, take, drop, append-nil, refl, sym, ap, ◌∙◌, subst, arith, inl, inr}
use Rattle.std.specs.List.{AllZip}
use Rattle.std.proofs.lemmas.Bool.{cases_lt}
use Rattle.std.proofs.lemmas.List.{drop_all, get_or_append_left, get_or_push, length_push, map-append, map_more, take_all}
use Rattle.std.proofs.lemmas.Slice.Zip.{all_zipped_more}
use Rattle.std.proofs.Math.Seq.{split_at}
use Rattle.report_moves.specs.declared.moves.Move.{Move}
use Rattle.report_flows.specs.Captures.{AreAllCounted, HasCause, HasFlows, IsCauseIn, IsCountedCapture, IsFirstCause, IsWhole}
use Rattle.report_flows.specs.Counting.{Entries, IsCounted, IsNoneCounted, entries_at, move_at, pair_of, rows_at, rows_of}
use Rattle.report_flows.specs.declared.flow.AnyFlow.{AnyFlow}
use Rattle.report_flows.specs.declared.flows_fault.FlowsFault.{FlowsFault}
use Rattle.report_flows.specs.declared.flows_fault.FlowsFault.TheVariants.{Captures, Records, Capture, OutOfMemory}

-- a list that was lent whole and written back whole
pub written_back : (items new : List Entries) (len : ℕ) → length new ≡ length items → len ≡ length items → take len (new ++ drop (length new) items) ≡ new
written_back items new len same is =
    ap (λ rest. take len (new ++ rest)) (drop_all (length new) items (omega (arith, same))) ∙ ap (take len) (append-nil new)
    ∙ take_all len new (omega (arith, same, is))

module _ {S : Type 0} (left : S → Option (List ℕ)) (faults : S → ℕ) (old new : List (List ℕ)) (moves : List Move) where
  -- the flows of so many captures' records are counted
  pub record CountedSoFar (captures : List S) (at : ℕ) (counts : List Entries) : Type 0 where
    pub flows : List (List (Option AnyFlow))
    pub read : AllZip (HasFlows left faults) captures flows
    pub lengths : map length flows ≡ map length (take at old)
    pub size : length flows ≡ at
    pub taken : length captures ≡ at
    pub count : length counts ≡ length moves
    pub each : (place : ℕ) → place < length moves → 1 ≤ (move_at moves place).capture → (move_at moves place).capture ≤ at
        → IsCounted (pair_of (move_at moves place)) (rows_at old new flows (move_at moves place).capture) (entries_at counts place)
    pub none : (place : ℕ) → at < (move_at moves place).capture → entries_at counts place ≡ []

  -- before the first
  pub counted_nothing : (counts : List Entries) → IsNoneCounted (length moves) counts → CountedSoFar [] 0 counts
  counted_nothing counts none = record {
    flows = [];
    read = tt;
    lengths = refl;
    size = refl;
    taken = refl;
    count = none.count;
    each = λ place within first last. absurd (omega (arith, first, last));
    none = λ place above. none.none place;
  }

  module _ (captures : List S) (at : ℕ) (counts next : List Entries) (source : S) (so : CountedSoFar captures at counts) (within : at < length old)
      (here : IsCountedCapture left faults source moves (at + 1) (get_or old at []) (get_or new at []) (length (get_or old at [])) counts next) where
    flows_more : List (List (Option AnyFlow))
    flows_more = so.flows ++ here.flows ∷ []

    read_more : AllZip (HasFlows left faults) (captures ++ source ∷ []) flows_more
    unfolding flows_more
    read_more = all_zipped_more (HasFlows left faults) captures so.flows source here.flows so.read here.read

    lengths_more : map length flows_more ≡ map length (take (at + 1) old)
    unfolding flows_more
    lengths_more =
        map-append length so.flows (here.flows ∷ [])
        ∙ ap (λ ns. ns ++ length here.flows ∷ []) so.lengths
        ∙ ap (λ n. map length (take at old) ++ n ∷ []) here.count_is
        ∙ sym (map_more length old at [] within)

    rows_before : (capture : ℕ) → 1 ≤ capture → capture ≤ at → rows_at old new flows_more capture ≡ rows_at old new so.flows capture
    unfolding flows_more
    rows_before capture first last =
        ap (rows_of (get_or old (capture - 1) []) (get_or new (capture - 1) []))
        (get_or_append_left so.flows (here.flows ∷ []) [] (capture - 1) (omega (arith, so.size, first, last)))

    rows_here : (capture : ℕ) → capture ≡ at + 1 → rows_at old new flows_more capture ≡ rows_of (get_or old at []) (get_or new at []) here.flows
    unfolding flows_more
    rows_here capture one =
        let back : capture - 1 ≡ at = omega (arith, one) in
        ap (rows_at old new flows_more) one
        ∙ ap (λ n. rows_of (get_or old n []) (get_or new n []) (get_or flows_more n [])) (let z : at + 1 - 1 ≡ at = omega arith in z)
        ∙ ap (rows_of (get_or old at []) (get_or new at [])) (get_or_push so.flows here.flows [] at so.size)

    -- one capture more is counted
    pub counted_more : CountedSoFar (captures ++ source ∷ []) (at + 1) next
    unfolding flows_more
    counted_more = record {
      flows = flows_more;
      read = read_more;
      lengths = lengths_more;
      size = length_push so.flows here.flows ∙ ap (λ n. n + 1) so.size;
      taken = length_push captures source ∙ ap (λ n. n + 1) so.taken;
      count = here.counted.count ∙ so.count;
      each = λ place below first last. elim (cases_lt at (move_at moves place).capture) [
        | inl above ↦
            let one : (move_at moves place).capture ≡ at + 1 = omega (arith, above, last) in
            subst (λ rows. IsCounted (pair_of (move_at moves place)) rows (entries_at next place)) (sym (rows_here (move_at moves place).capture one))
            (here.counted.here place below one)
        | inr before ↦
            let apart : (move_at moves place).capture ≢ at + 1 = λ one. absurd (omega (arith, one, before)) in
            subst (IsCounted (pair_of (move_at moves place)) (rows_at old new flows_more (move_at moves place).capture)) (sym (here.counted.others place apart))
            (subst (λ rows. IsCounted (pair_of (move_at moves place)) rows (entries_at counts place)) (sym (rows_before (move_at moves place).capture first before))
            (so.each place below first before))
      ];
      none = λ place above.
          let apart : (move_at moves place).capture ≢ at + 1 = λ one. absurd (omega (arith, one, above)) in
          here.counted.others place apart ∙ so.none place (omega (arith, above));
    }

  -- where there are no others all are counted
  pub counted_all : (captures yielded : List S) (at : ℕ) (counts : List Entries) → yielded ≡ captures → length old ≤ at → CountedSoFar yielded at counts
      → AreAllCounted left faults captures old new moves counts
  counted_all captures yielded at counts is past so =
      subst (λ sources. AreAllCounted left faults sources old new moves counts) is (record {
        flows = so.flows;
        read = so.read;
        lengths = so.lengths ∙ ap (map length) (take_all at old past);
        count = so.count;
        each = λ place below first last. so.each place below first (omega (arith, last, past));
      })

  -- captures that were counted are whole
  are_whole : (captures : List S) (flows : List (List (Option AnyFlow))) → AllZip (HasFlows left faults) captures flows
      → AllZip (IsWhole left faults) captures (map length flows)
  are_whole [] [] read = tt
  are_whole [] (one ∷ flows) read = absurd read
  are_whole (source ∷ captures) [] read = absurd read
  are_whole (source ∷ captures) (one ∷ flows) read = (record { flows = one; read = read.0; count_is = refl }, are_whole captures flows read.1)

  -- a cause in the capture behind those that were counted is the first
  pub first_cause : (captures yielded : List S) (at : ℕ) (counts : List Entries) (source : S) (fault : FlowsFault) → CountedSoFar yielded at counts
      → yielded ≡ take at captures → at < length captures → source ≡ get_or captures at source
      → IsCauseIn left faults (at + 1) (length (get_or old at [])) source fault → IsFirstCause left faults captures old fault
  first_cause captures yielded at counts source fault so front within is cause = record {
    before = yielded;
    source = source;
    behind = drop (suc at) captures;
    place =
        split_at captures at source within
        ∙ ap (λ sources. sources ++ get_or captures at source ∷ drop (suc at) captures) (sym front)
        ∙ ap (λ one. yielded ++ one ∷ drop (suc at) captures) (sym is);
    whole =
        subst (λ n. AllZip (IsWhole left faults) yielded (map length (take n old))) (sym so.taken)
        (subst (AllZip (IsWhole left faults) yielded) so.lengths (are_whole yielded so.flows so.read));
    cause = subst (λ n. IsCauseIn left faults (n + 1) (length (get_or old n [])) source fault) (sym so.taken) cause;
  }

  -- and it is the cause of all
  pub has_cause : (captures : List S) (fault : FlowsFault) → IsFirstCause left faults captures old fault → HasCause left faults captures old fault
  has_cause captures (Captures told given) first = absurd first.cause
  has_cause captures (Records capture told read) first = first
  has_cause captures (Capture capture at fault) first = first
  has_cause captures OutOfMemory first = tt
