-- One more record, counted under its flow.
use Rattle.std.proofs.Common.{◌≡◌, ℕ, ◌+◌, ◌<◌, Bool, true, false, cond, List, [], ◌∷◌, ◌++◌, Option, Some, length, map, refl, sym, ap, ◌∙◌, subst, arith, inl, inr, unwrap_or}
use Rattle.std.specs.Prelude.{All, IfSome, sum_by}
use Rattle.std.specs.Option.{option_map}
use Rattle.std.specs.HashMap.{HashMap, Updates, PutsEntry, get}
use Rattle.std.specs.List.{IsDistinct}
use Rattle.std.specs.List.Sorted.{IsPermutation}
use Rattle.std.specs.Map.{lookup}
use Rattle.std.proofs.lemmas.Bool.{cases_Bool}
use Rattle.std.proofs.lemmas.List.Elements.{All-map}
use Rattle.std.proofs.lemmas.List.Sorted.{All-permutation, IsPermutation-map, sum_by-IsPermutation}
use Rattle.std.proofs.lemmas.List.Sums.{sum_by-cons}
use Rattle.std.proofs.lemmas.Map.Entries.{sum_by_puts_entry}
use Rattle.std.proofs.lemmas.Map.Keys.{IsDistinct-IsPermutation}
use Rattle.report_moves.proofs.SpanSteps.{count_yes, count_no, span_yes, span_no, few_pass, records_more}
use Rattle.report_moves.specs.Spans.{span_of, one_more}
use Rattle.report_moves.specs.declared.spans.Span.{Span}
use Rattle.report_flows.specs.declared.flow.AnyFlow.{AnyFlow}
use Rattle.report_flows.specs.declared.flow_counts.FlowSpan.{FlowSpan}
use Rattle.report_flows.specs.Flows.{same_flow}
use Rattle.report_flows.specs.Counting.{Row, Entries, CountsFlow, IsCounted, IsBelow, AreTold, AreFlowsInOrder, flow_span, is_in, is_of, records_in}
use Rattle.report_flows.proofs.SameFlows.{one_flow, flow_flips}

-- the map has one record more under the flow
pub counts_flow : {S : Type 0} (eq : Option AnyFlow → Option AnyFlow → Bool) → eq ≡ same_flow
    → (old new : HashMap (Option AnyFlow) Span S) (flow : Option AnyFlow) (number : ℕ) (was value : Option Span) (span : Span)
    → was ≡ get same_flow old flow → span ≡ one_more was number → Updates eq old new flow (Some span)
    → value ≡ get eq old flow → PutsEntry eq old new flow span value → CountsFlow old.entries new.entries flow number
counts_flow eq alike old new flow number was value span had is updates0 valued0 puts0 =
    let updates = subst (λ (e : Option AnyFlow → Option AnyFlow → Bool). Updates e old new flow (Some span)) alike updates0 in
    let valued = subst (λ (e : Option AnyFlow → Option AnyFlow → Bool). value ≡ get e old flow) alike valued0 in
    let puts = subst (λ (e : Option AnyFlow → Option AnyFlow → Bool). PutsEntry e old new flow span value) alike puts0 in
    record {
      spans = λ other.
          updates.0 other
          ∙ ap (λ s. cond (same_flow flow other) (Some s) (get same_flow old other)) (is ∙ ap (λ o. one_more o number) had);
      one =
          let whole = sum_by_puts_entry (λ (span : Span). span.records) same_flow old new flow span value valued puts in
          let taken : unwrap_or (option_map (λ (span : Span). span.records) value) 0 ≡ unwrap_or (option_map (λ (span : Span). span.records) was) 0 =
          ap (λ o. unwrap_or (option_map (λ (span : Span). span.records) o) 0) (valued ∙ sym had)
          in
          let given : span.records ≡ unwrap_or (option_map (λ (span : Span). span.records) was) 0 + 1 =
          ap (λ (s : Span). s.records) is ∙ records_more was number
          in
          omega (arith, whole, taken, given);
    }

module _ (pair : ℕ × ℕ) (rows : List Row) where
  -- before the first record nothing is counted
  pub none_counted : IsCounted pair [] []
  unfolding span_of
  none_counted = record { spans = λ flow. refl; all = refl }

  in_flow : (flow : Option AnyFlow) (row : Row) → is_of pair row ≡ true → same_flow row.1 flow ≡ true → is_in pair flow row ≡ true
  in_flow flow row of is = rw (of, flow_flips flow row.1) is

  not_in_flow : (flow : Option AnyFlow) (row : Row) → is_of pair row ≡ true → same_flow row.1 flow ≡ false → is_in pair flow row ≡ false
  not_in_flow flow row of isn't = rw (of, flow_flips flow row.1) isn't

  module _ (old new : Entries) (row : Row) (before : IsCounted pair rows old) where
    span_counted : is_of pair row ≡ true → CountsFlow old new row.1 (length rows + 1) → (flow : Option AnyFlow)
        → lookup (same_flow flow) new ≡ span_of (is_in pair flow) (rows ++ row ∷ [])
    span_counted of counts flow = elim (cases_Bool (same_flow row.1 flow)) [
      | inl is ↦
          let one : row.1 ≡ flow = one_flow row.1 flow is in
          counts.spans flow
          ∙ rw is (
          ap (λ f. Some (one_more (lookup (same_flow f) old) (length rows + 1))) one
          ∙ ap (λ o. Some (one_more o (length rows + 1))) (before.spans flow)
          ∙ sym (span_yes (is_in pair flow) rows row (in_flow flow row of is))
          )
      | inr isn't ↦
          counts.spans flow ∙ rw isn't (before.spans flow ∙ sym (span_no (is_in pair flow) rows row (not_in_flow flow row of isn't)))
    ]

    -- a record of these outcomes is counted under its flow
    pub counted_here : is_of pair row ≡ true → CountsFlow old new row.1 (length rows + 1) → IsCounted pair (rows ++ row ∷ []) new
    counted_here of counts = record {
      spans = span_counted of counts;
      all = counts.one ∙ ap (λ n. n + 1) before.all ∙ sym (count_yes (is_of pair) rows row of);
    }

    -- a record of others changes nothing
    pub counted_elsewhere : is_of pair row ≡ false → new ≡ old → IsCounted pair (rows ++ row ∷ []) new
    counted_elsewhere apart same =
        let out : (flow : Option AnyFlow) → is_in pair flow row ≡ false = λ flow. rw apart refl in
        subst (IsCounted pair (rows ++ row ∷ [])) (sym same) (record {
          spans = λ flow. before.spans flow ∙ sym (span_no (is_in pair flow) rows row (out flow));
          all = before.all ∙ sym (count_no (is_of pair) rows row apart);
        })

  -- fewer were counted than there are records and one
  pub below_next : (entries : Entries) → IsCounted pair rows entries → (flow : Option AnyFlow) → IsBelow flow (length rows + 1) entries
  below_next entries counted flow =
      subst (λ (o : Option Span). IfSome o (λ span. span.records < length rows + 1)) (sym (counted.spans flow)) (few_pass (is_in pair flow) rows)

told_flows : (entries : Entries) → map (λ (told : FlowSpan). told.flow) (map flow_span entries) ≡ map (λ (entry : Option AnyFlow × Span). entry.0) entries
told_flows [] = refl
told_flows (entry ∷ entries) = ap (λ fs. entry.0 ∷ fs) (told_flows entries)

told_sum : (entries : Entries) → sum_by (λ (told : FlowSpan). told.span.records) (map flow_span entries) ≡ records_in entries
told_sum [] = refl
told_sum (entry ∷ entries) =
    sum_by-cons (λ (told : FlowSpan). told.span.records) (flow_span entry) (map flow_span entries)
    ∙ ap (λ n. entry.1.records + n) (told_sum entries)
    ∙ sym (sum_by-cons (λ (span : Span). span.records) entry.1 (map (λ (e : Option AnyFlow × Span). e.1) entries))

-- what was counted is told, in whatever order
pub are_told : (entries : Entries) (found sorted : List FlowSpan) → found ≡ map flow_span entries → IsPermutation found sorted
    → All (λ (entry : Option AnyFlow × Span). lookup (same_flow entry.0) entries ≡ Some entry.1) entries
    → IsDistinct same_flow (map (λ (entry : Option AnyFlow × Span). entry.0) entries) → AreFlowsInOrder sorted → AreTold entries sorted
are_told entries found sorted is order each unique in_order =
    let Told : FlowSpan → Type 0 = λ told. lookup (same_flow told.flow) entries ≡ Some told.span in
    let flow_of : FlowSpan → Option AnyFlow = λ told. told.flow in
    let told : All Told found = subst (All Told) (sym is) (All-map Told flow_span entries each) in
    let once : IsDistinct same_flow (map flow_of found) = subst (IsDistinct same_flow) (sym (ap (map flow_of) is ∙ told_flows entries)) unique in
    record {
      found = All-permutation Told found sorted order told;
      once = IsDistinct-IsPermutation same_flow flow_flips (map flow_of found) (map flow_of sorted) (IsPermutation-map flow_of found sorted order) once;
      all =
          sum_by-IsPermutation (λ (t : FlowSpan). t.span.records) found sorted order ∙ ap (sum_by (λ (t : FlowSpan). t.span.records)) is
          ∙ told_sum entries;
      order = in_order;
    }
