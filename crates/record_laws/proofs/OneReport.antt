-- Records that say the same are printed alike.
use Rattle.std.proofs.Common.{◌≡◌, ℕ, ◌+◌, ◌%◌, ◌^◌, Bool, Option, Some, None, List, [], ◌∷◌, ◌++◌, length, map, codes, sum_by, refl, sym, ap, ◌∙◌}
use Rattle.std.proofs.lemmas.List.Sums.{sum_by-cons}
use Rattle.std.specs.Fmt.{decimal}
use Rattle.std.specs.List.{flat_map}
use Rattle.counter_book.specs.Counts.{counted_under, total_under}
use Rattle.counter_book.specs.declared.tally.Count.{Count}
use Rattle.state_texts.specs.StateTexts.{states_text}
use Rattle.report_texts.specs.AnswerText.{count_line}
use Rattle.report_texts.specs.JournalText.{hits_text, optional_journal}
use Rattle.report_texts.specs.Report.{start_text, last_text, closing_text, last_closing, last_edition, report_text}
use Rattle.report_texts.specs.RulesText.{counts_text, counted_line, disabled_text, rules_text}
use Rattle.report_texts.specs.declared.capture_end.CaptureEnd.{CaptureEnd}
use Rattle.report_texts.specs.declared.ends.LineAnswer.{LineAnswer}
use Rattle.rule_text.specs.Canonical.{five_digits, rest_text}
use Rattle.fw_rule.specs.declared.rule.Rule.{Rule}
use Rattle.fw_world.specs.RecordValue.{RecordValue}
use Rattle.generation_store.specs.Published.{Published}
use Rattle.rule_chain.specs.Configuration.{Configuration}
use Rattle.record_laws.specs.OneReplay.{lane_counts, IsSameRecord}
use Rattle.record_laws.specs.VerdictLines.{recorded_with}

-- ---- totals

-- the sums of counts, packets and bytes
abbrev sums_of : List Count → Count
sums_of counts = record { packets = sum_by (λ (c : Count). c.packets) counts % 2 ^ 64; bytes = sum_by (λ (c : Count). c.bytes) counts % 2 ^ 64 }

sum_of_each : (part : Count → ℕ) (counter : ℕ) (tallies : List (List Count))
    → sum_by (λ (tally : List Count). part (counted_under tally counter)) tallies ≡ sum_by part (map (λ (tally : List Count). counted_under tally counter) tallies)
sum_of_each part counter [] = refl
sum_of_each part counter (tally ∷ tallies) =
    sum_by-cons (λ (t : List Count). part (counted_under t counter)) tally tallies
    ∙ ap (λ n. part (counted_under tally counter) + n) (sum_of_each part counter tallies)
    ∙ sym (sum_by-cons part (counted_under tally counter) (map (λ (t : List Count). counted_under t counter) tallies))

-- a total is the sum of what each lane counted
total_is : (counter : ℕ) (tallies : List (List Count)) → total_under tallies counter ≡ sums_of (map (λ (tally : List Count). counted_under tally counter) tallies)
total_is counter tallies =
    let packets = sum_of_each (λ (c : Count). c.packets) counter tallies in
    let bytes = sum_of_each (λ (c : Count). c.bytes) counter tallies in
    λ i. record { packets = packets i % 2 ^ 64; bytes = bytes i % 2 ^ 64 }

-- where lanes counted alike the totals are the same
pub same_totals : (counter : ℕ) (tallies others : List (List Count)) → map (λ (tally : List Count). counted_under tally counter) tallies ≡ map (λ (tally : List Count). counted_under tally counter) others
    → total_under tallies counter ≡ total_under others counter
same_totals counter tallies others same = total_is counter tallies ∙ ap sums_of same ∙ sym (total_is counter others)

-- ---- texts

module _ (tallies others : List (List Count)) (same : (counter : ℕ) → total_under tallies counter ≡ total_under others counter) where
  same_line : (rule : Rule) → counted_line tallies rule ≡ counted_line others rule
  unfolding counted_line counts_text
  same_line rule =
      ap (λ (c : Count). (five_digits rule.number ++ (codes " " ++ (decimal c.packets ++ (codes " " ++ decimal c.bytes)))) ++ (rest_text rule ++ codes "\n")) (same rule.counter)

  same_lines : (rules : List Rule) → flat_map (counted_line tallies) rules ≡ flat_map (counted_line others) rules
  same_lines [] = refl
  same_lines (rule ∷ rules) =
      ap (λ (text : List ℕ). text ++ flat_map (counted_line tallies) rules) (same_line rule) ∙ ap (λ (text : List ℕ). counted_line others rule ++ text) (same_lines rules)

  same_rules_text : (rules : List Rule) → rules_text tallies rules ≡ rules_text others rules
  unfolding rules_text
  same_rules_text rules = ap (λ (text : List ℕ). count_line (length rules) ++ text) (same_lines rules)

-- the record with other tallies
abbrev with_tallies : List (List Count) → RecordValue → RecordValue
with_tallies tallies r = record r { tallies = tallies }

module _ (r : RecordValue) (tallies : List (List Count)) (same : (counter : ℕ) → total_under tallies counter ≡ total_under r.tallies counter) (hits : List ℕ) (journal : Bool) where
  same_closing : (config : Configuration) → closing_text (recorded_with hits (with_tallies tallies r)) journal config ≡ closing_text (recorded_with hits r) journal config
  unfolding closing_text last_text
  same_closing config =
      ap (λ (text : List ℕ). (disabled_text config.disabled ++ (text ++ states_text config.names r.journal.object)) ++ (hits_text 1 hits ++ optional_journal journal config.names r.journal.entries r.dockets r.trackers))
      (same_rules_text tallies r.tallies same config.rules)

  same_last : (last : Option Published) → last_closing (recorded_with hits (with_tallies tallies r)) journal last ≡ last_closing (recorded_with hits r) journal last
  same_last None = refl
  same_last (Some edition) = same_closing edition.config

  same_text : (ends : List CaptureEnd) (answers : List LineAnswer) → report_text (recorded_with hits (with_tallies tallies r)) ends answers journal ≡ report_text (recorded_with hits r) ends answers journal
  unfolding report_text
  same_text ends answers = ap (λ (text : List ℕ). start_text r.editions r.dockets ends answers ++ text) (same_last (last_edition r.editions))

-- records that are the same but for their tallies, which count alike, say the same and are printed alike
pub same_record : (r s : RecordValue) → r.editions ≡ s.editions → r.journal ≡ s.journal → r.dockets ≡ s.dockets → r.trackers ≡ s.trackers → r.hits ≡ s.hits → ((counter : ℕ) → lane_counts counter r ≡ lane_counts counter s) → IsSameRecord r s
same_record r s editions journal dockets trackers found counted =
    let totals : (counter : ℕ) → total_under r.tallies counter ≡ total_under s.tallies counter = λ counter. same_totals counter r.tallies s.tallies (counted counter) in
    let but_tallies : r ≡ with_tallies r.tallies s = λ i. record { editions = editions i; journal = journal i; dockets = dockets i; tallies = r.tallies; trackers = trackers i; hits = found i } in
    record {
      editions = editions;
      journal = journal;
      dockets = dockets;
      trackers = trackers;
      hits = found;
      counted = counted;
      totals = totals;
      report = λ hits ends answers printed.
          ap (λ (x : RecordValue). report_text (recorded_with hits x) ends answers printed) but_tallies ∙ same_text s r.tallies totals hits printed ends answers;
    }
