-- The form of a report's lines, one by one, and of a fault the line that is told.
use Rattle.std.proofs.Common.{◌≡◌, ℕ, ◌+◌, true, Option, Some, None, List, [], ◌∷◌, refl, sym, ap, ◌∙◌, inl, inr}
use Rattle.std.specs.Prelude.{is_some, unwrap_or}
use Rattle.std.proofs.lemmas.Bool.{cases_Bool}
use Rattle.report_reading.specs.Lines.{lines_with_ends}
use Rattle.report_reading.specs.Readings.{reading_of}
use Rattle.fw_base.specs.Chain.{or_else}
use Rattle.run_audit.specs.AuditFaults.{IfWrong, NamesLine}
use Rattle.run_audit.specs.Forms.{first_unformed}
use Rattle.run_audit.specs.declared.audit_fault.AuditFault.{AuditFault}
use Rattle.run_audit.specs.declared.audit_fault.AuditFault.TheVariants.{Wrong, OutOfMemory}

-- where no line is left each had a form
pub none_unformed : (number : ℕ) (rest : List ℕ) → rest ≡ [] → first_unformed number (lines_with_ends rest) ≡ None
unfolding first_unformed lines_with_ends
none_unformed number rest is = rw is refl

-- a line that has a form is passed
pub formed_more : (number : ℕ) (rest line behind : List ℕ) → lines_with_ends rest ≡ line ∷ lines_with_ends behind → is_some (reading_of line) ≡ true
    → first_unformed (number + 1) (lines_with_ends behind) ≡ first_unformed number (lines_with_ends rest)
unfolding first_unformed
formed_more number rest line behind lines formed = sym (ap (first_unformed number) lines ∙ rw formed refl)

-- where each line has a form, the next one has
pub formed_here : (number : ℕ) (rest line behind : List ℕ) → lines_with_ends rest ≡ line ∷ lines_with_ends behind → first_unformed number (lines_with_ends rest) ≡ None
    → is_some (reading_of line) ≡ true
unfolding first_unformed
formed_here number rest line behind lines all = elim (cases_Bool (is_some (reading_of line))) [
  | inl formed ↦ formed
  | inr unformed ↦
      let first : first_unformed number (line ∷ lines_with_ends behind) ≡ None = sym (ap (first_unformed number) lines) ∙ all in
      let here : Some number ≡ None = rw unformed at first in
      absurd (cc)
]

-- a line that is named is named under a premise too
pub named_if : (P : Type 0) (first : Option ℕ) (fault : AuditFault) → NamesLine first fault → IfWrong fault (λ line. P → first ≡ Some line)
named_if P first (Wrong line) is = λ _. is
named_if P first OutOfMemory is = tt

-- the line without a form comes first, else the one that was found
pub form_first : (unformed unlawful : Option ℕ) (line : ℕ) → (unformed ≡ None → unlawful ≡ Some line) → or_else unformed unlawful ≡ Some (unwrap_or unformed line)
form_first None unlawful line is = is refl
form_first (Some first) unlawful line is = refl
