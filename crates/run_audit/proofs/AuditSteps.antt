-- An audit that meets one record more is one of it too.
use Rattle.std.proofs.Common.{◌≡◌, ℕ, zero, suc, ◌+◌, ◌-◌, ◌<◌, ◌≤◌, List, [], ◌∷◌, ◌++◌, length, Option, Some, None, refl, sym, ap, ◌∙◌, subst, inl, inr, arith}
use Rattle.std.specs.Prelude.{slice_get}
use Rattle.std.proofs.lemmas.Bool.{cases_lt}
use Rattle.std.proofs.lemmas.List.{append_assoc}
use Rattle.eval_engine.specs.declared.docket_entry.DocketEntry.{DocketEntry}
use Rattle.fw_command.specs.declared.script.Step.{Step}
use Rattle.fw_world.specs.Inputs.{Input}
use Rattle.rule_chain.specs.Configuration.{Configuration}
use Rattle.run_audit.specs.Audit.{AuditValue, IsAuditOf, FailsAtInput, StandsFor, told_value, with_input}
use Rattle.run_audit.specs.AuditFaults.{IfWrong}
use Rattle.run_audit.specs.Entering.{JudgingValue, EntersNext, FailsNext}
use Rattle.fw_world.specs.Tallies.{Hit, IsTallyOf, record_hits}
use Rattle.run_audit.specs.Judging.{ToldValue, FailsAtRecord, IsToldSo, asks_told, line_naming, number_or_last}
use Rattle.run_audit.specs.declared.audit_fault.AuditFault.{AuditFault}
use Rattle.run_audit.specs.declared.audit_fault.AuditFault.TheVariants.{Wrong, OutOfMemory}
use Rattle.run_audit.proofs.EnteredMore.{AreToldSo-more, AreTalliesOf-more, fails_next}

-- ---- inputs, one more

with-length : (p : ℕ) (input : Input) (inputs : List (List Input)) → length (with_input p input inputs) ≡ length inputs
with-length p input [] = refl
with-length zero input (own ∷ others) = refl
with-length (suc p) input (own ∷ others) = omega (arith, with-length p input others)

-- those of captures behind stay
with-behind : (p k : ℕ) (input : Input) (inputs : List (List Input)) → p < k → slice_get (with_input p input inputs) k ≡ slice_get inputs k
with-behind p k input [] less = refl
with-behind zero zero input (own ∷ others) less = absurd (omega (arith, less))
with-behind zero (suc k) input (own ∷ others) less = refl
with-behind (suc p) zero input (own ∷ others) less = absurd (omega (arith, less))
with-behind (suc p) (suc k) input (own ∷ others) less = with-behind p k input others (omega (arith, less))

-- one more in a capture that stands between others, or behind it
with-own : (before : List (List Input)) (own : List Input) (behind : List (List Input)) (input : Input)
    → with_input (length before) input (before ++ own ∷ behind) ≡ before ++ (own ++ input ∷ []) ∷ behind
with-own [] own behind input = refl
with-own (first ∷ before) own behind input = ap (λ (xs : List (List Input)). first ∷ xs) (with-own before own behind input)

with-later : (p : ℕ) (before : List (List Input)) (own : List Input) (behind : List (List Input)) (input : Input) → length before < p
    → with_input p input (before ++ own ∷ behind) ≡ before ++ own ∷ with_input (p - length before - 1) input behind
with-later zero [] own behind input less = absurd (omega (arith, less))
with-later (suc p) [] own behind input less =
    let place : p ≡ suc p - 0 - 1 = omega arith in
    ap (λ (n : ℕ). own ∷ with_input n input behind) place
with-later zero (first ∷ before) own behind input less = absurd (omega (arith, less))
with-later (suc p) (first ∷ before) own behind input less =
    let place : p - length before - 1 ≡ suc p - length (first ∷ before) - 1 = omega arith in
    ap (λ (xs : List (List Input)). first ∷ xs) (with-later p before own behind input (omega (arith, less)) ∙ ap (λ (n : ℕ). before ++ own ∷ with_input n input behind) place)

-- the first record that isn't told so stays the first
fails_further : (told : ToldValue) (p : ℕ) (inputs : List (List Input)) (input : Input) (line : ℕ) → (fails : FailsAtRecord told inputs line) → length fails.before ≤ p
    → FailsAtRecord told (with_input p input inputs) line
fails_further told p inputs input line fails up = elim (cases_lt (length fails.before) p) [
  | inl less ↦ record {
    before = fails.before;
    behind = with_input (p - length fails.before - 1) input fails.behind;
    front = fails.front;
    input = fails.input;
    rest = fails.rest;
    split = ap (with_input p input) fails.split ∙ with-later p fails.before (fails.front ++ fails.input ∷ fails.rest) fails.behind input less;
    dockets = fails.dockets;
    told_before = fails.told_before;
    wrong = fails.wrong;
    named = fails.named;
  }
  | inr more ↦
      let same : p ≡ length fails.before = omega (arith, up, more) in
      record {
        before = fails.before;
        behind = fails.behind;
        front = fails.front;
        input = fails.input;
        rest = fails.rest ++ input ∷ [];
        split = ap (with_input p input) fails.split ∙ ap (λ (n : ℕ). with_input n input (fails.before ++ (fails.front ++ fails.input ∷ fails.rest) ∷ fails.behind)) same
            ∙ with-own fails.before (fails.front ++ fails.input ∷ fails.rest) fails.behind input
            ∙ ap (λ (own : List Input). fails.before ++ own ∷ fails.behind) (append_assoc fails.front (fails.input ∷ fails.rest) (input ∷ []));
        dockets = fails.dockets;
        told_before = fails.told_before;
        wrong = fails.wrong;
        named = fails.named;
      }
]

-- what stands between others
there : (before : List (List Input)) (own : List Input) (behind : List (List Input)) → slice_get (before ++ own ∷ behind) (length before) ≡ Some own
there [] own behind = refl
there (first ∷ before) own behind = there before own behind

longer : (before : List (List Input)) (own : List Input) (behind : List (List Input)) → length before < length (before ++ own ∷ behind)
longer [] own behind = omega arith
longer (first ∷ before) own behind = omega (arith, longer before own behind)

not_empty : (front : List Input) (input : Input) (rest : List Input) → front ++ input ∷ rest ≡ [] → ⊥
not_empty [] input rest is = absurd (cc)
not_empty (first ∷ front) input rest is = absurd (cc)

same_own : (x y : List Input) → Some x ≡ Some y → x ≡ y
same_own x y is = cc

-- ---- the audit

-- what the report tells that is audited
abbrev pub told_of : AuditValue → ToldValue
told_of audit = told_value audit.editions audit.journal audit.report

-- what was entered and counted
abbrev pub judged_of : AuditValue → JudgingValue
judged_of audit = record { dockets = audit.dockets; tallies = audit.tallies }

module _ (config : Configuration) (steps : List Step) (report : List ℕ) (lane : ℕ) (input : Input) (inputs : List (List Input)) (old new : AuditValue) (is : IsAuditOf config steps report inputs old)
    (first : 1 ≤ lane) (ordered : old.lane ≤ lane) (reported : new.report ≡ old.report) (editions : new.editions ≡ old.editions) (answers : new.answers ≡ old.answers) (journal : new.journal ≡ old.journal)
    (captures : length new.dockets ≡ length old.dockets) (placed : new.lane ≡ lane)
  where
    -- it is one of the record too, where the fault stands for it
    met : StandsFor config steps new (with_input (lane - 1) input inputs) new.fault → IsAuditOf config steps report (with_input (lane - 1) input inputs) new
    met stands = record {
      reported = reported ∙ is.reported;
      opened = rw (reported, editions, journal) is.opened;
      answered = answers ∙ is.answered;
      captures = captures ∙ is.captures ∙ sym (with-length (lane - 1) input inputs);
      ordered = λ (capture : ℕ) (up : new.lane ≤ capture) (within : capture < length (with_input (lane - 1) input inputs)).
          let many : length (with_input (lane - 1) input inputs) ≡ length inputs = with-length (lane - 1) input inputs in
          with-behind (lane - 1) capture input inputs (omega (arith, first, placed, up)) ∙ is.ordered capture (omega (arith, ordered, placed, up)) (omega (arith, within, many));
      stands = stands;
    }

    -- a fault that came before stays
    pub met_before : (fault : AuditFault) → old.fault ≡ Some fault → new.fault ≡ Some fault → IsAuditOf config steps report (with_input (lane - 1) input inputs) new
    met_before fault was now = met (subst (λ (o : Option AuditFault). StandsFor config steps new (with_input (lane - 1) input inputs) o) (sym now) (still fault (subst (StandsFor config steps old inputs) was is.stands)))
      where
        still : (f : AuditFault) → StandsFor config steps old inputs (Some f) → StandsFor config steps new (with_input (lane - 1) input inputs) (Some f)
        still (Wrong line) fails =
            let split = fails.found.split in
            let before = fails.found.before in
            let own : List Input = fails.found.front ++ fails.found.input ∷ fails.found.rest in
            let found : slice_get inputs (length before) ≡ Some own = ap (λ (xs : List (List Input)). slice_get xs (length before)) split ∙ there before own fails.found.behind in
            let within : length before < length inputs = subst (λ (xs : List (List Input)). length before < length xs) (sym split) (longer before own fails.found.behind) in
            let low : length before < old.lane = elim (cases_lt (length before) old.lane) [
              | inl less ↦ less
              | inr up ↦ absurd (not_empty fails.found.front fails.found.input fails.found.rest (same_own own [] (sym found ∙ is.ordered (length before) up within)))
            ] in
            let up : length before ≤ lane - 1 = omega (arith, low, ordered) in
            subst (λ (r : List ℕ). FailsAtInput config steps r (with_input (lane - 1) input inputs) line) (sym reported) (record {
              editions = fails.editions;
              journal = fails.journal;
              opened = fails.opened;
              found = fails_further (told_value fails.editions fails.journal old.report) (lane - 1) inputs input line fails.found up;
            })
        still OutOfMemory fails = tt

    module _ (clear : old.fault ≡ None) where
      so : StandsFor config steps old inputs None
      so = subst (StandsFor config steps old inputs) clear is.stands

      place : lane - 1 + 1 ≡ lane
      place = omega (arith, first)

      -- the record is as the report tells it
      pub met_so : new.fault ≡ None → EntersNext (told_of old) lane input (judged_of old) (judged_of new) → IsAuditOf config steps report (with_input (lane - 1) input inputs) new
      met_so now enters =
          let lane_is : lane ≡ 1 + (lane - 1) = omega (arith, first) in
          let one = subst (λ (n : ℕ). IsToldSo (told_of old) n (length enters.entries + 1) input enters.entry) lane_is enters.told_so in
          let counted = subst (λ (n : ℕ). (hits : List Hit) → IsTallyOf hits enters.tally → IsTallyOf (hits ++ record_hits (told_of old).editions (asks_told (told_of old) n) (length enters.entries + 1) input enters.entry) enters.after) lane_is enters.counted in
          let told_all = AreToldSo-more (told_of old) 1 (lane - 1) inputs old.dockets input enters.entries enters.entry so.0 enters.was one in
          let tallied = AreTalliesOf-more (told_of old) 1 (lane - 1) inputs old.dockets old.tallies input enters.entries enters.tally enters.after enters.entry so.0 so.1 enters.was enters.had counted in
          met (subst (λ (o : Option AuditFault). StandsFor config steps new (with_input (lane - 1) input inputs) o) (sym now)
          (rw (reported, editions, journal, enters.dockets, enters.tallies) (told_all, tallied)))

      -- it isn't
      pub met_wrong : (line : ℕ) → new.fault ≡ Some (Wrong line) → FailsNext (told_of old) lane input (judged_of old) line → IsAuditOf config steps report (with_input (lane - 1) input inputs) new
      met_wrong line now fails =
          let wrong = λ (entry : DocketEntry) (same : IsToldSo (told_of old) (lane - 1 + 1) (length fails.entries + 1) input entry). fails.wrong entry (subst (λ (n : ℕ). IsToldSo (told_of old) n (length fails.entries + 1) input entry) place same) in
          let named = fails.named ∙ ap (λ (n : ℕ). number_or_last (told_of old) (line_naming (told_of old) n (length fails.entries + 1))) (sym place) in
          met (subst (λ (o : Option AuditFault). StandsFor config steps new (with_input (lane - 1) input inputs) o) (sym now)
          (subst (λ (r : List ℕ). FailsAtInput config steps r (with_input (lane - 1) input inputs) line) (sym reported) (record {
            editions = old.editions;
            journal = old.journal;
            opened = is.opened;
            found = fails_next (told_of old) (lane - 1) inputs old.dockets input fails.entries line so.0 fails.was wrong named;
          })))

      -- memory ran out
      pub met_none : new.fault ≡ Some OutOfMemory → IsAuditOf config steps report (with_input (lane - 1) input inputs) new
      met_none now = met (subst (λ (o : Option AuditFault). StandsFor config steps new (with_input (lane - 1) input inputs) o) (sym now) tt)

      -- a fault comes
      pub met_fault : (fault : AuditFault) → new.fault ≡ Some fault → IfWrong fault (FailsNext (told_of old) lane input (judged_of old)) → IsAuditOf config steps report (with_input (lane - 1) input inputs) new
      met_fault (Wrong line) now fails = met_wrong line now fails
      met_fault OutOfMemory now fails = met_none now
