-- What is shown was found.
use Rattle.std.proofs.Common.{◌≡◌, ℕ, Bool, true, false, ◌||◌, ◌==◌, not, List, Option, None, Some, Vec, Global, length, inl, inr, sym, subst, ◌∙◌, arith, if◌then◌else◌}
use Rattle.std.specs.List.{list_any}
use Rattle.fw_base.specs.Faults.{Rose}
use Rattle.report_flows.specs.declared.flow_counts.FlowSpan.{FlowSpan}
use Rattle.script_review.specs.declared.faulty_lines.LineFault.{LineFault}
use Rattle.script_review.specs.declared.findings.Finding.{Finding}
use Rattle.replay_setup.specs.Outside.{Files, Output}
use Rattle.view_driver.specs.MovesTold.{ComparesTexts}
use Rattle.view_driver.specs.Run.{IsFound, IsOfOneText, ShowsOneText, ShowsWhatItFinds, TellsFlowsIf}
use Rattle.view_driver.specs.ReviewText.{is_refused, review_status}
use Rattle.view_driver.specs.Shown.{ShowsIfMemory, shown_status}
use Rattle.view_driver.specs.declared.shown.Shown.TheVariants.{Moves, Page, Script, Trouble}
use Rattle.view_driver.specs.declared.trouble.Trouble.{Trouble as AnyTrouble}
use Rattle.view_driver.specs.declared.trouble.Trouble.TheVariants.{Usage, Unread, NoReport, Script as NoScript, NoJournal, OtherScript, Captures, Records, Named, OtherRecords, Capture, OutOfMemory}
use Rattle.view_driver.specs.TroubleText.{trouble_status}
use Rattle.view_driver.specs.declared.compared.Compared.{Compared}
use Rattle.view_driver.specs.declared.shown.Shown.{Shown}

-- whether flows are told changes nothing of what was compared
pub compares_with_flows : (old new : List ℕ) (compared told : Compared) → told ≡ record compared { flows = told.flows }
    → ComparesTexts old new compared → ComparesTexts old new told
compares_with_flows old new compared told same compares =
    subst (λ (c : Compared). ComparesTexts old new c) (sym same)
    (record {
      old_captures = compares.old_captures;
      new_captures = compares.new_captures;
      old_behind = compares.old_behind;
      new_behind = compares.new_behind;
      old_is = compares.old_is;
      new_is = compares.new_is;
      told = record {
        lengths = compares.told.lengths;
        told = compares.told.told;
        once = compares.told.once;
        others = compares.told.others;
        order = compares.told.order;
        stayed_told = compares.told.stayed_told;
        stayed_once = compares.told.stayed_once;
        same = compares.told.same;
        stayed_order = compares.told.stayed_order;
        all = compares.told.all;
      };
      outcomes = record {
        distinct = compares.outcomes.distinct;
        old_known = compares.outcomes.old_known;
        old_outcomes = compares.outcomes.old_outcomes;
        new_known = compares.outcomes.new_known;
        new_outcomes = compares.outcomes.new_outcomes;
        verdicts = compares.outcomes.verdicts;
      };
    })

module _ {L S : Type 0} (files : Files L S) (before now : L) where
  -- nor does it of what captures the flows are of
  flows_again : (compared : Compared) (told flows : Option (Vec (List FlowSpan) Global)) → TellsFlowsIf files before now compared flows
      → TellsFlowsIf files before now (record compared { flows = told }) flows
  flows_again compared told None same = same
  flows_again compared told (Some flows) tells = record {
    names = tells.names;
    sources = tells.sources;
    opens = tells.opens;
    flows = tells.flows;
  }

  pub tells_with_flows : (compared told : Compared) → told ≡ record compared { flows = told.flows } → TellsFlowsIf files before now compared told.flows
      → TellsFlowsIf files before now told told.flows
  tells_with_flows compared told same tells =
      subst (λ (c : Compared). TellsFlowsIf files before now c told.flows) (sym same) (flows_again compared told.flows told.flows tells)

module _ {K : Type 0} (output : Output K) where
  -- a page or what is wrong or odd with a script was shown
  pub one_text_shown : (sink sinkAfter : K) (it : Shown) (got : ℕ) → ShowsIfMemory output sink sinkAfter it got → IsOfOneText it
      → ShowsOneText output sink sinkAfter got
  one_text_shown sink sinkAfter it got (inl memory) one = inl memory
  one_text_shown sink sinkAfter it got (inr shows) one = inr (it, one, shows)

module _ {K L S : Type 0} (output : Output K) (files : Files L S) (before now : L) (sink sinkAfter : K) where
  -- what was found was shown
  pub found_shown : (it : Shown) (got : ℕ) → ShowsIfMemory output sink sinkAfter it got → IsFound files before now it
      → ShowsWhatItFinds output files before now sink sinkAfter got
  found_shown it got (inl memory) found = inl memory
  found_shown it got (inr shows) found = inr (record { it = it; found = found; shows = shows })

-- a status of 2 or of 0 isn't 5
two_or_none : (b : Bool) → ◌≡◌ {A = ℕ} (if b then 2 else 0) 5 → ⊥
two_or_none true is = absurd (omega (arith, is))
two_or_none false is = absurd (omega (arith, is))

-- no review has the status of a sink that failed
review_not_5 : (faults : List LineFault) (findings : List Finding) → review_status faults findings ≡ 5 → ⊥
unfolding review_status
review_not_5 faults findings is = two_or_none (not (length faults == 0) || list_any is_refused findings) is

-- nor has a trouble
trouble_not_5 : (trouble : AnyTrouble) → trouble_status trouble ≡ 5 → ⊥
trouble_not_5 Usage is = absurd (omega (arith, is))
trouble_not_5 (Unread name) is = absurd (omega (arith, is))
trouble_not_5 (NoReport name line) is = absurd (omega (arith, is))
trouble_not_5 (NoScript error) is = absurd (omega (arith, is))
trouble_not_5 (NoJournal name) is = absurd (omega (arith, is))
trouble_not_5 (OtherScript report line script) is = absurd (omega (arith, is))
trouble_not_5 (Captures old new) is = absurd (omega (arith, is))
trouble_not_5 (Records capture old new) is = absurd (omega (arith, is))
trouble_not_5 (Named told named) is = absurd (omega (arith, is))
trouble_not_5 (OtherRecords name told read) is = absurd (omega (arith, is))
trouble_not_5 (Capture name at fault) is = absurd (omega (arith, is))
trouble_not_5 OutOfMemory is = absurd (omega (arith, is))

-- nor has anything else that is shown
shown_not_5 : (it : Shown) → shown_status it ≡ 5 → ⊥
shown_not_5 (Moves compared) is = absurd (omega (arith, is))
shown_not_5 (Page pieces) is = absurd (omega (arith, is))
shown_not_5 (Script reviewed) is = review_not_5 reviewed.faults.now reviewed.findings.now is
shown_not_5 (Trouble trouble) is = trouble_not_5 trouble is

module _ {K L S : Type 0} (output : Output K) (files : Files L S) (before now : L) (sink sinkAfter : K) where
  -- with status 5 the sink failed
  pub sink_failed : (got : ℕ) → ShowsWhatItFinds output files before now sink sinkAfter got → got ≡ 5 → Rose (output.faults sink) (output.faults sinkAfter)
  sink_failed got (inl memory) is = absurd (omega (arith, memory.0, is))
  sink_failed got (inr found) is = elim found.shows.writes.answered [
    | inl whole ↦ absurd (shown_not_5 found.it (sym whole.0 ∙ is))
    | inr part ↦ part.2
  ]
