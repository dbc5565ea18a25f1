-- What the opening and reading of a named file comes to.
use Rattle.std.specs.Prelude.{ℕ, List}
use Rattle.replay_setup.specs.NamesRead.{ReadsNamed, FailsEarly}
use Rattle.replay_setup.specs.Openings.{Opens, RefusesToOpen}
use Rattle.replay_setup.specs.declared.named_source.NamedSource.{NamedSource}
use Rattle.replay_setup.specs.declared.named_source.NamedSource.TheVariants.{Read, Broken, Refused}
use Rattle.replay_setup.specs.Outside.{Files}

module _ {L S : Type 0} (files : Files L S) where
  -- what was found of this name, of which so many bytes are read at most
  abbrev pub FindsNamed : ℕ → L → L → List ℕ → NamedSource S → Type 0
  FindsNamed limit old new name (Read source bytes) = ReadsNamed files limit old new name source bytes.items
  FindsNamed limit old new name (Broken source) = (opened : S) × Opens files old new name opened × FailsEarly files.left files.failures limit opened source
  FindsNamed limit old new name Refused = RefusesToOpen files old new name
