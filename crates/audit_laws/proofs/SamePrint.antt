-- Records that say the same are printed alike.
use Rattle.std.proofs.Common.{◌≡◌, ℕ, ◌+◌, ◌%◌, ◌^◌, true, Option, Some, None, List, [], ◌∷◌, ◌++◌, length, map, codes, sum_by, refl, sym, ap, ◌∙◌}
use Rattle.std.specs.Fmt.{decimal}
use Rattle.std.specs.List.{flat_map}
use Rattle.std.proofs.lemmas.List.Sums.{sum_by-cons}
use Rattle.counter_book.specs.Counts.{counted_under, total_under}
use Rattle.counter_book.specs.declared.tally.Count.{Count}
use Rattle.dyn_states.specs.StateObject.{StateObject}
use Rattle.eval_engine.specs.Dockets.{DocketValue}
use Rattle.report_texts.specs.AnswerText.{count_line}
use Rattle.report_texts.specs.JournalText.{hits_text, journal_text}
use Rattle.report_texts.specs.Report.{closing_text, last_closing, last_edition, last_text, report_text, start_text}
use Rattle.report_texts.specs.RulesText.{counted_line, counts_text, disabled_text, rules_text}
use Rattle.report_texts.specs.declared.capture_end.CaptureEnd.{CaptureEnd}
use Rattle.report_texts.specs.declared.ends.LineAnswer.{LineAnswer}
use Rattle.fw_rule.specs.declared.rule.Rule.{Rule}
use Rattle.fw_world.specs.RecordValue.{RecordValue}
use Rattle.generation_store.specs.Published.{Published}
use Rattle.rule_chain.specs.Configuration.{Configuration}
use Rattle.rule_text.specs.Canonical.{five_digits, rest_text}
use Rattle.state_journal.specs.declared.entry.Entry.{Entry}
use Rattle.state_texts.specs.StateTexts.{states_text}
use Rattle.capture_tracks.specs.Reported.{report_record}
use Rattle.audit_laws.specs.Printable.{report_of}

-- ---- totals

-- the sums of counts, packets and bytes
abbrev sums_of : List Count → Count
sums_of counts = record { packets = sum_by (λ (c : Count). c.packets) counts % 2 ^ 64; bytes = sum_by (λ (c : Count). c.bytes) counts % 2 ^ 64 }

sum_of_each : (part : Count → ℕ) (counter : ℕ) (tallies : List (List Count))
    → sum_by (λ (tally : List Count). part (counted_under tally counter)) tallies ≡ sum_by part (map (λ (tally : List Count). counted_under tally counter) tallies)
sum_of_each part counter [] = refl
sum_of_each part counter (tally ∷ tallies) =
    sum_by-cons (λ (t : List Count). part (counted_under t counter)) tally tallies
    ∙ ap (λ n. part (counted_under tally counter) + n) (sum_of_each part counter tallies)
    ∙ sym (sum_by-cons part (counted_under tally counter) (map (λ (t : List Count). counted_under t counter) tallies))

total_is : (counter : ℕ) (tallies : List (List Count)) → total_under tallies counter ≡ sums_of (map (λ (tally : List Count). counted_under tally counter) tallies)
total_is counter tallies =
    let packets = sum_of_each (λ (c : Count). c.packets) counter tallies in
    let bytes = sum_of_each (λ (c : Count). c.bytes) counter tallies in
    λ i. record { packets = packets i % 2 ^ 64; bytes = bytes i % 2 ^ 64 }

-- lanes that counted alike
abbrev pub CountAlike : List (List Count) → List (List Count) → Type 0
CountAlike tallies others = (counter : ℕ) → map (λ (tally : List Count). counted_under tally counter) tallies ≡ map (λ (tally : List Count). counted_under tally counter) others

module _ (tallies others : List (List Count)) (same : CountAlike tallies others) where
  same_total : (counter : ℕ) → total_under tallies counter ≡ total_under others counter
  same_total counter = total_is counter tallies ∙ ap sums_of (same counter) ∙ sym (total_is counter others)

  same_line : (rule : Rule) → counted_line tallies rule ≡ counted_line others rule
  unfolding counted_line counts_text
  same_line rule =
      ap (λ (c : Count). (five_digits rule.number ++ (codes " " ++ (decimal c.packets ++ (codes " " ++ decimal c.bytes)))) ++ (rest_text rule ++ codes "\n")) (same_total rule.counter)

  same_lines : (rules : List Rule) → flat_map (counted_line tallies) rules ≡ flat_map (counted_line others) rules
  same_lines [] = refl
  same_lines (rule ∷ rules) =
      ap (λ (text : List ℕ). text ++ flat_map (counted_line tallies) rules) (same_line rule) ∙ ap (λ (text : List ℕ). counted_line others rule ++ text) (same_lines rules)

  same_rules : (rules : List Rule) → rules_text tallies rules ≡ rules_text others rules
  unfolding rules_text
  same_rules rules = ap (λ (text : List ℕ). count_line (length rules) ++ text) (same_lines rules)

-- ---- the report

-- what the two records share
pub record SayAlike (a b : RecordValue) : Type 0 where
  pub editions : a.editions ≡ b.editions
  pub entries : a.journal.entries ≡ b.journal.entries
  pub object : a.journal.object ≡ b.journal.object
  pub dockets : a.dockets ≡ b.dockets
  pub counted : CountAlike a.tallies b.tallies
  pub trackers : a.trackers ≡ b.trackers
  pub hits : a.hits ≡ b.hits

module _ (a b : RecordValue) (same : SayAlike a b) where
  -- the closing sections with these parts
  closing_of : Configuration → List ℕ → StateObject → List Entry → List DocketValue → List ℕ → List ℕ → List ℕ
  closing_of config rules object entries dockets trackers hits =
      (disabled_text config.disabled ++ (rules ++ states_text config.names object)) ++ (hits_text 1 hits ++ journal_text config.names entries dockets trackers)

  same_closing : (config : Configuration) → closing_text (report_record a) true config ≡ closing_text (report_record b) true config
  unfolding closing_text last_text closing_of
  same_closing config =
      let rules = same_rules a.tallies b.tallies same.counted config.rules in
      let object = same.object in
      let entries = same.entries in
      let dockets = same.dockets in
      let trackers = same.trackers in
      let hits = same.hits in
      λ i. closing_of config (rules i) (object i) (entries i) (dockets i) (trackers i) (hits i)

  same_last : (last : Option Published) → last_closing (report_record a) true last ≡ last_closing (report_record b) true last
  same_last None = refl
  same_last (Some edition) = same_closing edition.config

  -- they have the same report
  pub same_report : (ends : List CaptureEnd) (answers : List LineAnswer) → report_of a ends answers ≡ report_of b ends answers
  unfolding report_text
  same_report ends answers =
      let editions = same.editions in
      let dockets = same.dockets in
      ap (λ (text : List ℕ). start_text a.editions a.dockets ends answers ++ text) (same_last (last_edition a.editions))
      ∙ λ i. start_text (editions i) (dockets i) ends answers ++ last_closing (report_record b) true (last_edition (editions i))
