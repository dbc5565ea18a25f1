-- What a script gives before a packet is read is as the grammar yields it.
use Rattle.std.proofs.Common.{◌≡◌, ℕ, Bool, true, false, if◌then◌else◌, Option, None, Some, IfSome, Result, Ok, Err, List, [], ◌∷◌, refl, subst}
use Rattle.std.specs.Prelude.{IfOk}
use Rattle.std.specs.List.{AllByRecursion}
use Rattle.audit_laws.specs.Captures.{IsFromScript}
use Rattle.audit_laws.specs.Formed.{IsFormedLine, IsFormedScript}
use Rattle.audit_laws.specs.Printable.{IsPrintableAnswer, IsPrintableConfig}
use Rattle.audit_laws.proofs.KeptForms.{first_in_range, form_kept}
use Rattle.audit_laws.proofs.PrintableRecords.{ArePrintableAnswers, IsGoodListing, answer_in_range, listing_on}
use Rattle.audit_laws.proofs.ScriptForms.{scripts_are_formed}
use Rattle.capture_tracks.specs.Commands.{Listing, line_answer, listed_answer, listing_of}
use Rattle.fw_command.specs.Scripts.{script_of}
use Rattle.fw_command.specs.declared.script.Line.{Line}
use Rattle.fw_command.specs.declared.script.Pace.{Pace}
use Rattle.fw_command.specs.declared.script.Script.{Script}
use Rattle.fw_command.specs.declared.script_fault.ScriptFault.{ScriptFault}
use Rattle.report_texts.specs.declared.ends.Answer.{Answer}
use Rattle.report_texts.specs.declared.ends.Answer.TheVariants.{Listed, Refused}
use Rattle.report_texts.specs.declared.ends.LineAnswer.{LineAnswer}
use Rattle.replay_setup.specs.FirstEdition.{◌>>=◌, answered_line, configuration_behind, configured_line, first_edition, listed_first, listings_of, on_line, read_script, with_answer}
use Rattle.replay_setup.specs.declared.first_edition.FirstEdition.{FirstEdition}
use Rattle.replay_setup.specs.declared.script_error.ScriptError.{ScriptError}
use Rattle.rule_chain.specs.Configuration.{Configuration}
use Rattle.rule_chain.specs.First.{first_configuration}
use Rattle.rule_edits.specs.Answers.{Answer as Applied}
use Rattle.rule_edits.specs.Apply.{apply}
use Rattle.rule_edits.specs.Changing.{is_changing}
use Rattle.replay_setup.proofs.Logic.{ok_same}

-- ---- the configuration

line_applied : (config after : Configuration) (line : Line) (answer : Applied Configuration) → IsPrintableConfig config → IsFormedLine line → apply config line.command ≡ answer → on_line line.line answer ≡ Ok after → IsPrintableConfig after
line_applied config after line (Ok made) is formed applies gives =
    let same : made ≡ after = ok_same made after gives in
    subst IsPrintableConfig same (form_kept config made line.command is formed applies)
line_applied config after line (Err fault) is formed applies gives = absurd (cc)

line_configured : (config after : Configuration) (line : Line) → IsPrintableConfig config → IsFormedLine line → configured_line config line ≡ Ok after → IsPrintableConfig after
line_configured config after line is formed gives = by_change (is_changing line.command) gives
  where
    by_change : (b : Bool) → (let r : Result Configuration ScriptError = if b then on_line line.line (apply config line.command) else Ok config in r) ≡ Ok after → IsPrintableConfig after
    by_change true gives = line_applied config after line (apply config line.command) is formed refl gives
    by_change false gives = subst IsPrintableConfig (ok_same config after gives) is

lines_configured : (config after : Configuration) (lines : List Line) → IsPrintableConfig config → AllByRecursion IsFormedLine lines → configuration_behind config lines ≡ Ok after → IsPrintableConfig after
unfolding configuration_behind
lines_configured config after [] is formed gives = subst IsPrintableConfig (ok_same config after gives) is
lines_configured config after (line ∷ lines) is formed gives =
    by_first (configured_line config line) refl gives (λ next one rest. lines_configured next after lines one formed.1 rest)
  where
    by_first : (r : Result Configuration ScriptError) → configured_line config line ≡ r → (r >>= λ (next : Configuration). configuration_behind next lines) ≡ Ok after
        → ((next : Configuration) → IsPrintableConfig next → configuration_behind next lines ≡ Ok after → IsPrintableConfig after) → IsPrintableConfig after
    by_first (Err e) one gives more = absurd (cc)
    by_first (Ok next) one gives more = more next (line_configured config next line is formed.0 one) gives

-- ---- the answers

answered_in_range : (line : ℕ) (shown : Answer) (answer : Option LineAnswer) → IsPrintableAnswer shown → answered_line line shown ≡ Ok answer → IfSome answer (λ a. IsPrintableAnswer a.answer)
answered_in_range line (Refused fault) answer printable gives = absurd (cc)
answered_in_range line (Listed edition table) answer printable gives = subst (λ (o : Option LineAnswer). IfSome o (λ a. IsPrintableAnswer a.answer)) (ok_same (Some (line_answer line (Listed edition table))) answer gives) printable

listed_in_range : (config : Configuration) (line : ℕ) (listing : Option Listing) (answer : Option LineAnswer) → IfSome listing IsGoodListing → listed_first config line listing ≡ Ok answer → IfSome answer (λ a. IsPrintableAnswer a.answer)
listed_in_range config line None answer good gives = subst (λ (o : Option LineAnswer). IfSome o (λ a. IsPrintableAnswer a.answer)) (ok_same None answer gives) tt
listed_in_range config line (Some listing) answer good gives = answered_in_range line (listed_answer config 1 listing) answer (answer_in_range config 1 listing good) gives

before_others : (answer : Option LineAnswer) (others : List LineAnswer) → IfSome answer (λ a. IsPrintableAnswer a.answer) → ArePrintableAnswers others → ArePrintableAnswers (with_answer answer others)
before_others None others one all = all
before_others (Some answer) others one all = (one, all)

answers_in_range : (config : Configuration) (lines : List Line) (answers : List LineAnswer) → AllByRecursion IsFormedLine lines → listings_of config lines ≡ Ok answers → ArePrintableAnswers answers
unfolding listings_of
answers_in_range config [] answers formed gives = subst ArePrintableAnswers (ok_same [] answers gives) tt
answers_in_range config (line ∷ lines) answers formed gives =
    by_first (listed_first config line.line (listing_of line.command)) refl gives (λ others rest. answers_in_range config lines others formed.1 rest)
  where
    by_rest : (answer : Option LineAnswer) (r : Result (List LineAnswer) ScriptError) → ((others : List LineAnswer) → r ≡ Ok others → ArePrintableAnswers others) → IfSome answer (λ a. IsPrintableAnswer a.answer)
        → (r >>= λ (others : List LineAnswer). let all : Result (List LineAnswer) ScriptError = Ok (with_answer answer others) in all) ≡ Ok answers → ArePrintableAnswers answers
    by_rest answer (Err e) more one gives = absurd (cc)
    by_rest answer (Ok others) more one gives = subst ArePrintableAnswers (ok_same (with_answer answer others) answers gives) (before_others answer others one (more others refl))

    by_first : (r : Result (Option LineAnswer) ScriptError) → listed_first config line.line (listing_of line.command) ≡ r
        → (r >>= λ (answer : Option LineAnswer). listings_of config lines >>= λ (others : List LineAnswer). Ok (with_answer answer others)) ≡ Ok answers
        → ((others : List LineAnswer) → listings_of config lines ≡ Ok others → ArePrintableAnswers others) → ArePrintableAnswers answers
    by_first (Err e) one gives more = absurd (cc)
    by_first (Ok answer) one gives more = by_rest answer (listings_of config lines) more (listed_in_range config line.line (listing_of line.command) answer (listing_on line.command formed.0) one) gives

-- ---- edition 1

-- what stands in edition 1, in its answers and behind `live`
pub edition_from_script : (pace : Pace) (bytes : List ℕ) (edition : FirstEdition) → first_edition pace bytes ≡ Ok edition → IsFromScript edition.config edition.answers edition.live
unfolding first_edition
edition_from_script pace bytes edition gives = by_script (script_of pace bytes) (scripts_are_formed pace bytes) gives
  where
    by_answers : (script : Script) (config : Configuration) → IsFormedScript script → IsPrintableConfig config → (r : Result (List LineAnswer) ScriptError) → listings_of config script.before ≡ r
        → (r >>= λ (answers : List LineAnswer). let all : Result FirstEdition ScriptError = Ok (record { config = config; answers = answers; live = script.live }) in all) ≡ Ok edition → IsFromScript edition.config edition.answers edition.live
    by_answers script config formed is (Err e) one gives = absurd (cc)
    by_answers script config formed is (Ok answers) one gives =
        subst (λ (e : FirstEdition). IsFromScript e.config e.answers e.live) (ok_same (record { config = config; answers = answers; live = script.live }) edition gives)
        (record { printable = is; listings = answers_in_range config script.before answers formed.before one; formed = formed.live; few = formed.few })

    by_config : (script : Script) → IsFormedScript script → (r : Result Configuration ScriptError) → configuration_behind first_configuration script.before ≡ r
        → (r >>= λ (config : Configuration). listings_of config script.before >>= λ (answers : List LineAnswer).
        let all : Result FirstEdition ScriptError = Ok (record { config = config; answers = answers; live = script.live }) in all) ≡ Ok edition → IsFromScript edition.config edition.answers edition.live
    by_config script formed (Err e) one gives = absurd (cc)
    by_config script formed (Ok config) one gives =
        by_answers script config formed (lines_configured first_configuration config script.before first_in_range formed.before one) (listings_of config script.before) refl gives

    by_script : (r : Result Script ScriptFault) → IfOk r IsFormedScript
        → (read_script r >>= λ (script : Script). configuration_behind first_configuration script.before >>= λ (config : Configuration). listings_of config script.before >>= λ (answers : List LineAnswer).
        let all : Result FirstEdition ScriptError = Ok (record { config = config; answers = answers; live = script.live }) in all) ≡ Ok edition → IsFromScript edition.config edition.answers edition.live
    by_script (Err fault) formed gives = absurd (cc)
    by_script (Ok script) formed gives = by_config script formed (configuration_behind first_configuration script.before) refl gives
