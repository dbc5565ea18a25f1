-- A line that ran: what the operator stands for then.
use Rattle.std.proofs.Common.{◌≡◌, ℕ, ◌+◌, ◌-◌, Some, None, Ok, Err, List, [], ◌∷◌, ◌++◌, length, refl, sym, ap, subst, ◌∙◌, arith, length-append, get_or}
use Rattle.std.specs.Prelude.{slice_get}
use Rattle.std.proofs.Math.Seq.{get_or-append_seam}
use Rattle.std.proofs.lemmas.Option.{slice_get_read}
use Rattle.fw_command.specs.declared.script.Line.{Line}
use Rattle.report_texts.specs.declared.ends.Answer.{Answer}
use Rattle.report_texts.specs.declared.ends.LineAnswer.{LineAnswer}
use Rattle.report_texts.specs.declared.ends.Answer.TheVariants.{Refused}
use Rattle.fw_world.specs.Editions.{IsLastOf}
use Rattle.fw_world.specs.World.{DeskStandsFor}
use Rattle.generation_store.specs.Published.{Published}
use Rattle.rule_chain.specs.Configuration.{Configuration}
use Rattle.rule_edits.specs.Apply.{apply}
use Rattle.capture_tracks.specs.Commands.{Standing, Listing, listing_of, listed_answer, line_answer, after_applied, after_command, after_line}
use Rattle.capture_tracks.specs.Operator.{OperatorValue, HasConfig, OperatorStandsFor, AddsAnswer, IsListed, AddsEdition, AddsRefusal}

-- there is one last edition
pub one_last : (editions : List Published) (a b : Published) → IsLastOf editions a → IsLastOf editions b → a ≡ b
one_last editions a b h k = let e : Some a ≡ Some b = sym h ∙ k in cc

-- an answer more: the standing has it too
stands-answer : (first : Configuration) (standing after : Standing) (old new : OperatorValue) (answer : LineAnswer) → AddsAnswer old new answer → after ≡ record standing { answers = standing.answers ++ answer ∷ [] }
    → OperatorStandsFor first standing old → OperatorStandsFor first after new
stands-answer first standing after old new answer h is stands = subst (λ s. OperatorStandsFor first s new) (sym is) (record {
  config = subst (λ editions. HasConfig editions standing.config) (sym h.editions) stands.config;
  number = stands.number ∙ sym (ap length h.editions);
  accepted = subst (λ editions. DeskStandsFor editions first standing.accepted) (sym h.editions) stands.accepted;
  answers = h.answers ∙ ap (λ answers. answers ++ answer ∷ []) stands.answers;
})

-- a listing was answered
pub stands-listed : (old new : OperatorValue) (line : Line) (listing : Listing) (answer : Answer) → listing_of line.command ≡ Some listing → IsListed old.editions listing answer → AddsAnswer old new (line_answer line.line answer)
    → (first : Configuration) (standing : Standing) → OperatorStandsFor first standing old → OperatorStandsFor first (after_line standing line) new
stands-listed old new line listing answer is listed h first standing stands =
    let (edition, last, config) = stands.config in
    let (other, other_last, other_config) = listed.last in
    let same : listed.config ≡ standing.config = sym other_config ∙ ap (λ (e : Published). e.config) (one_last old.editions other edition other_last last) ∙ config in
    let told : answer ≡ listed_answer standing.config standing.number listing =
    listed.listed ∙ ap (λ c. listed_answer c (length old.editions) listing) same ∙ ap (λ n. listed_answer standing.config n listing) (sym stands.number) in
    let after : after_line standing line ≡ record standing { answers = standing.answers ++ line_answer line.line answer ∷ [] } =
    ap (after_command standing line.line line.command) is ∙ ap (λ (a : Answer). record standing { answers = standing.answers ++ line_answer line.line a ∷ [] }) (sym told) in
    stands-answer first standing (after_line standing line) old new (line_answer line.line answer) h after stands

-- a command was refused
pub stands-refused : (old new : OperatorValue) (line : Line) → listing_of line.command ≡ None → AddsRefusal old new line
    → (first : Configuration) (standing : Standing) → OperatorStandsFor first standing old → OperatorStandsFor first (after_line standing line) new
stands-refused old new line is h first standing stands =
    let (edition, last, config) = stands.config in
    let same : h.refusal.edition.config ≡ standing.config = ap (λ (e : Published). e.config) (one_last old.editions h.refusal.edition edition h.refusal.last last) ∙ config in
    let refused : apply standing.config line.command ≡ Err h.fault = ap (λ c. apply c line.command) (sym same) ∙ h.refusal.refused in
    let after : after_line standing line ≡ record standing { answers = standing.answers ++ line_answer line.line (Refused h.fault) ∷ [] } =
    ap (after_command standing line.line line.command) is ∙ ap (after_applied standing line.line line.command) refused in
    stands-answer first standing (after_line standing line) old new (line_answer line.line (Refused h.fault)) h.answered after stands

last-pushed : (editions : List Published) (edition : Published) → IsLastOf (editions ++ edition ∷ []) edition
last-pushed editions edition =
    let longer : length (editions ++ edition ∷ []) ≡ length editions + 1 = length-append editions (edition ∷ []) in
    let place : length (editions ++ edition ∷ []) - 1 ≡ length editions = omega arith in
    let found : edition ≡ get_or (editions ++ edition ∷ []) (length editions) edition = sym (get_or-append_seam editions edition [] edition) in
    ap (slice_get (editions ++ edition ∷ [])) place ∙ slice_get_read (editions ++ edition ∷ []) (length (editions ++ edition ∷ [])) (length editions) edition refl (omega arith) found

-- an edition was published
pub stands-accepted : (old new : OperatorValue) (line : Line) → listing_of line.command ≡ None → AddsEdition old new line.command
    → (first : Configuration) (standing : Standing) → OperatorStandsFor first standing old → OperatorStandsFor first (after_line standing line) new
stands-accepted old new line is h first standing stands =
    let (edition, last, config) = stands.config in
    let same : h.next.before.config ≡ standing.config = ap (λ (e : Published). e.config) (one_last old.editions h.next.before edition h.next.last last) ∙ config in
    let made : apply standing.config line.command ≡ Ok h.next.made = ap (λ c. apply c line.command) (sym same) ∙ h.next.applied in
    let after : after_line standing line ≡ record standing { config = h.next.made; number = standing.number + 1; accepted = standing.accepted ++ line.command ∷ [] } =
    ap (after_command standing line.line line.command) is ∙ ap (after_applied standing line.line line.command) made in
    let more : length new.editions ≡ length old.editions + 1 = ap length h.editions ∙ length-append old.editions (h.edition ∷ []) in
    subst (λ s. OperatorStandsFor first s new) (sym after) (record {
      config = (h.edition, subst (λ editions. IsLastOf editions h.edition) (sym h.editions) (last-pushed old.editions h.edition), h.next.built.configured);
      number = ap (λ n. n + 1) stands.number ∙ sym more;
      accepted = h.accepts first standing.accepted stands.accepted;
      answers = h.answers ∙ stands.answers;
    })
