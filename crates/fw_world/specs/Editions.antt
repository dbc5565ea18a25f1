-- The editions of a run: each command that was accepted made the next one.
use Rattle.std.specs.Prelude.{◌≡◌, ⊤, ℕ, ◌+◌, ◌-◌, Option, Some, Ok, List, [], ◌∷◌, length, slice_get, option_and_then}
use Rattle.eval_engine.specs.Dockets.{judgement_in}
use Rattle.eval_engine.specs.declared.docket_entry.DocketEntry.{DocketEntry}
use Rattle.fw_rule.specs.declared.command.Command.{Command}
use Rattle.generation_store.specs.Published.{Published, IsEdition, IsBuilt}
use Rattle.rule_edits.specs.Apply.{apply}
use Rattle.rule_chain.specs.Configuration.{Configuration}

-- The first of these editions has this number and configuration, each next one the next number and what its
-- command makes of the one before, and there are no others.
abbrev pub AreEditionsFrom : ℕ → Configuration → List Command → List Published → Type 0
AreEditionsFrom number config commands [] = ⊥
AreEditionsFrom number config [] (edition ∷ []) = IsBuilt number config edition
AreEditionsFrom number config [] (edition ∷ next ∷ editions) = ⊥
AreEditionsFrom number config (command ∷ commands) (edition ∷ editions) =
    IsBuilt number config edition × (made : Configuration) × (apply config command ≡ Ok made) × AreEditionsFrom (number + 1) made commands editions

-- edition 1 is the first configuration
abbrev pub AreEditions : Configuration → List Command → List Published → Type 0
AreEditions first commands editions = AreEditionsFrom 1 first commands editions

-- the edition of that number, from 1
abbrev pub edition_numbered : List Published → ℕ → Option Published
edition_numbered editions number = slice_get editions (number - 1)

-- the edition under which an entry was judged, if it was
abbrev pub judging_edition : List Published → DocketEntry → Option Published
judging_edition editions entry = option_and_then (λ judgement. edition_numbered editions judgement.edition) (judgement_in entry)

-- this edition is the last of these
abbrev pub IsLastOf : List Published → Published → Type 0
IsLastOf editions edition = slice_get editions (length editions - 1) ≡ Some edition

-- the edition is what the command makes of the last of these, and numbered next
pub record IsNextEdition (editions : List Published) (command : Command) (edition : Published) : Type 0 where
  pub before : Published
  pub last : IsLastOf editions before
  pub made : Configuration
  pub applied : apply before.config command ≡ Ok made
  pub built : IsBuilt (length editions + 1) made edition

-- the first of these editions has this number, each next one the next number, and each its own facts
abbrev pub AreNumbered : ℕ → List Published → Type 0
AreNumbered number [] = ⊤
AreNumbered number (edition ∷ editions) = (edition.number ≡ number) × IsEdition edition × AreNumbered (number + 1) editions
