-- A listing names an edition that the journal published.
use Rattle.std.proofs.Common.{◌≡◌, ◌≢◌, ℕ, zero, suc, ◌+◌, ◌<◌, ◌≤◌, Bool, true, false, List, [], ◌∷◌, ◌++◌, length, map, refl, sym, ap, ◌∙◌, subst, arith, length-append}
use Rattle.std.proofs.lemmas.Bool.Decides.{nat_tests}
use Rattle.std.specs.Prelude.{◌==◌, ⊤, is_some, if◌then◌else◌, Option, Some, None, Ok, Err, Contains, slice_index_or}
use Rattle.std.specs.List.{AllByRecursion}
use Rattle.fw_base.proofs.Lists.{all_push, all_weaker}
use Rattle.fw_command.specs.declared.script.Line.{Line}
use Rattle.fw_command.specs.declared.script.Step.{Step}
use Rattle.report_texts.specs.AnswerText.{edition_of}
use Rattle.report_texts.specs.declared.ends.Answer.{Answer}
use Rattle.report_texts.specs.declared.ends.Answer.TheVariants.{Refused, Listed}
use Rattle.report_texts.specs.declared.ends.LineAnswer.{LineAnswer}
use Rattle.fw_rule.specs.declared.command.Command.{Command}
use Rattle.fw_world.specs.Editions.{AreEditionsFrom}
use Rattle.fw_world.specs.Legal.{IsLegal}
use Rattle.state_journal.specs.Entries.{publications}
use Rattle.fw_world.specs.RecordValue.{RecordValue}
use Rattle.generation_store.specs.Published.{Published}
use Rattle.lookup_tables.specs.Tables.{table_named}
use Rattle.rule_edits.specs.Answers.{Answer as Applied}
use Rattle.rule_edits.specs.Apply.{apply}
use Rattle.rule_chain.specs.Configuration.{Configuration}
use Rattle.rule_edits.specs.declared.apply_fault.ApplyFault.TheVariants.{NoSuchTable}
use Rattle.capture_tracks.specs.Commands.{Standing, Listing, Rules, Entries, listing_of, line_answer, listed_answer, after_applied, after_command, after_line, after_lines, first_standing}
use Rattle.capture_tracks.specs.Commands.{lines_outcome}
use Rattle.fw_command.specs.Steps.{all_lines}
use Rattle.state_journal.specs.declared.entry.Entry.{Entry}
use Rattle.state_journal.specs.declared.entry.Entry.TheVariants.{Publish, Ask}
use Rattle.record_laws.specs.Listings.{IsPublished, NamesPublished, ListingsNamePublishedEditions}

-- a listing names one of the editions up to this number
abbrev NamesUpTo : ℕ → Answer → Type 0
NamesUpTo most (Refused fault) = ⊤
NamesUpTo most (Listed number table) = (1 ≤ number) × (number ≤ most)

names_more : (most : ℕ) (answer : Answer) → NamesUpTo most answer → NamesUpTo (most + 1) answer
names_more most (Refused fault) names = tt
names_more most (Listed number table) names = (names.0, omega (arith, names.1))

-- what stands names no edition that isn't there
record IsStanding (s : Standing) : Type 0 where
  counted : s.number ≡ length s.accepted + 1
  named : AllByRecursion (λ (a : LineAnswer). NamesUpTo s.number a.answer) s.answers

with_answer : (s : Standing) (line : ℕ) (answer : Answer) → IsStanding s → NamesUpTo s.number answer → IsStanding (record s { answers = s.answers ++ line_answer line answer ∷ [] })
with_answer s line answer is names = record { counted = is.counted; named = all_push (λ (a : LineAnswer). NamesUpTo s.number a.answer) s.answers (line_answer line answer) is.named names }

with_listing : (s : Standing) (line : ℕ) (listing : Listing) → IsStanding s → NamesUpTo s.number (listed_answer s.config s.number listing)
with_listing s line Rules is = let some = is.counted in (omega arith, omega arith)
with_listing s line (Entries name) is =
    let some = is.counted in
    elim (is_some (table_named s.config.tables name)) as (λ b. NamesUpTo s.number (if b then Listed s.number (Some name) else Refused NoSuchTable)) [
      | true ↦ (omega arith, omega arith)
      | false ↦ tt
    ]

with_command : (s : Standing) (line : ℕ) (command : Command) (applied : Applied Configuration) → IsStanding s → IsStanding (after_applied s line command applied)
with_command s line command (Ok made) is = record {
  counted = let longer = length-append s.accepted (command ∷ []) in let some = is.counted in omega arith;
  named = all_weaker (λ (a : LineAnswer). NamesUpTo s.number a.answer) (λ (a : LineAnswer). NamesUpTo (s.number + 1) a.answer) (λ a names. names_more s.number a.answer names) s.answers is.named;
}
with_command s line command (Err fault) is = with_answer s line (Refused fault) is tt

with_line : (s : Standing) (line : ℕ) (command : Command) (listing : Option Listing) → IsStanding s → IsStanding (after_command s line command listing)
with_line s line command None is = with_command s line command (apply s.config command) is
with_line s line command (Some listing) is = with_answer s line (listed_answer s.config s.number listing) is (with_listing s line listing is)

with_lines : (s : Standing) (lines : List Line) → IsStanding s → IsStanding (after_lines s lines)
unfolding after_lines
with_lines s [] is = is
with_lines s (line ∷ lines) is = with_lines (after_line s line) lines (with_line s line.line line.command (listing_of line.command) is)

outcome_stands : (config : Configuration) (steps : List Step) → IsStanding (lines_outcome config steps)
outcome_stands config steps = with_lines (first_standing config) (all_lines steps) (record { counted = refl; named = tt })

-- there is one edition more than commands
edition_count : (start : ℕ) (config : Configuration) (commands : List Command) (editions : List Published) → AreEditionsFrom start config commands editions → length editions ≡ length commands + 1
edition_count start config commands [] are = absurd are
edition_count start config [] (edition ∷ []) are = refl
edition_count start config [] (edition ∷ next ∷ editions) are = absurd are
edition_count start config (command ∷ commands) (edition ∷ editions) are =
    let (built, made, applied, rest) = are in let longer = edition_count (start + 1) made commands editions rest in omega arith

-- an edition of these numbers is found by its number
record IsFound (editions : List Published) (number : ℕ) : Type 0 where
  edition : Published
  numbered : edition.number ≡ number
  shown : edition_of editions number ≡ Some edition
  counted : Contains (map (λ (e : Published). e.number) editions) number

found_first : (edition : Published) (editions : List Published) (number : ℕ) → edition.number ≡ number → IsFound (edition ∷ editions) number
found_first edition editions number same =
    let yes : (edition.number == number) ≡ true = grind (arith, nat_tests) in
    record { edition = edition; numbered = same; shown = rw yes refl; counted = (0, omega arith, same) }

found_later : (edition : Published) (editions : List Published) (number : ℕ) → edition.number ≢ number → IsFound editions number → IsFound (edition ∷ editions) number
found_later edition editions number differs found =
    let no : (edition.number == number) ≡ false = grind (arith, nat_tests) in
    let (k, within, is) = found.counted in
    record { edition = found.edition; numbered = found.numbered; shown = rw no found.shown; counted = (suc k, omega arith, is) }

found_from : (start : ℕ) (config : Configuration) (commands : List Command) (editions : List Published) → AreEditionsFrom start config commands editions
    → (number : ℕ) → start ≤ number → number < start + length editions → IsFound editions number
found_from start config commands [] are number least most = absurd are
found_from start config [] (edition ∷ []) are number least most =
    let numbered = are.numbered in found_first edition [] number (omega arith)
found_from start config [] (edition ∷ next ∷ editions) are number least most = absurd are
found_from start config (command ∷ commands) (edition ∷ editions) are number least most =
    let (built, made, applied, rest) = are in
    let numbered = built.numbered in
    decided (start == number) refl numbered (λ later. found_from (start + 1) made commands editions rest number later (omega arith))
  where
    decided : (b : Bool) → (start == number) ≡ b → edition.number ≡ start → (start + 1 ≤ number → IsFound editions number) → IsFound (edition ∷ editions) number
    decided true same numbered behind = found_first edition editions number (let e : start ≡ number = grind (arith, nat_tests) in numbered ∙ e)
    decided false apart numbered behind =
        let differs : start ≢ number = λ same. grind (arith, nat_tests) in
        found_later edition editions number (λ same. differs (sym numbered ∙ same)) (behind (grind (arith, differs, least)))

-- a publication is an entry of the journal
published_entry : (entries : List Entry) (number k : ℕ) → k < length (publications entries) → slice_index_or (publications entries) k number ≡ number → Contains entries (Publish number)
published_entry [] number k within is = absurd (omega arith)
published_entry (Publish first ∷ entries) number zero within is = (0, omega arith, ap Publish is)
published_entry (Publish first ∷ entries) number (suc k) within is =
    let (place, inside, same) = published_entry entries number k (omega arith) is in (suc place, omega arith, same)
published_entry (Ask lane op reply at ∷ entries) number k within is =
    let (place, inside, same) = published_entry entries number k within is in (suc place, omega arith, same)

published_number : (first : Configuration) (commands : List Command) {inputs : _} (r : RecordValue) → IsLegal first commands inputs r → (number : ℕ) → 1 ≤ number → number ≤ length commands + 1 → IsPublished r number
published_number first commands r legal number least most =
    let count = edition_count 1 first commands r.editions legal.editions in
    let found = found_from 1 first commands r.editions legal.editions number least (omega arith) in
    let there : Contains (publications r.journal.entries) number = subst (λ numbers. Contains numbers number) (sym legal.published) found.counted in
    let (k, within, is) = there in
    record {
      first = least;
      last = omega arith;
      published = published_entry r.journal.entries number k within is;
      edition = found.edition;
      numbered = found.numbered;
      shown = found.shown;
    }

module _ {S : Type 0} (left : S → Option (List ℕ)) (faults : S → ℕ) where
  -- each listing of a replay names an edition that its journal publishes
  pub listings_name_published : ListingsNamePublishedEditions left faults
  listings_name_published config steps cache captures r is =
      let standing = lines_outcome config steps in
      let stands = outcome_stands config steps in
      let published = all_weaker (λ (a : LineAnswer). NamesUpTo standing.number a.answer) (λ (a : LineAnswer). NamesPublished r.record a.answer) (λ a names. named a.answer names) standing.answers stands.named in
      subst (AllByRecursion (λ (a : LineAnswer). NamesPublished r.record a.answer)) (sym is.answered) published
    where
      named : (answer : Answer) → NamesUpTo (lines_outcome config steps).number answer → NamesPublished r.record answer
      named (Refused fault) names = tt
      named (Listed number table) names =
          let counted = (outcome_stands config steps).counted in
          published_number config (lines_outcome config steps).accepted r.record is.legal number names.0 (omega (arith, names.1, counted))
