-- Captures of names, opened one after the other.
use Rattle.std.proofs.Common.{◌≡◌, ℕ, ◌+◌, ◌<◌, List, [], ◌∷◌, ◌++◌, length, get_or, take, refl, subst}
use Rattle.std.proofs.lemmas.List.{map_more}
use Rattle.command_words.specs.declared.capture_word.CaptureWord.{CaptureWord}
use Rattle.replay_setup.specs.Openings.{Opens}
use Rattle.replay_setup.specs.Outside.{Files}
use Rattle.view_driver.specs.Run.{OpensNamed, names_of}

module _ {L S : Type 0} (files : Files L S) where
  -- one name more was opened
  pub named_push : (before mid now : L) (names : List (List ℕ)) (sources : List S) (name : List ℕ) (source : S)
      → OpensNamed files before mid names sources → Opens files mid now name source
      → OpensNamed files before now (names ++ name ∷ []) (sources ++ source ∷ [])
  named_push before mid now [] [] name source is opens = (now, subst (λ (l : L). Opens files l now name source) is opens, refl)
  named_push before mid now [] (s ∷ sources) name source is opens = absurd is
  named_push before mid now (n ∷ names) [] name source is opens = absurd is
  named_push before mid now (n ∷ names) (s ∷ sources) name source is opens =
      let (between, first, rest) = is in
      (between, first, named_push between mid now names sources name source rest opens)

-- the names of one capture more
pub names_more : (captures : List CaptureWord) (i : ℕ) (d : CaptureWord) → i < length captures
    → names_of (take (i + 1) captures) ≡ names_of (take i captures) ++ (get_or captures i d).name.now ∷ []
names_more captures i d within = map_more (λ (capture : CaptureWord). capture.name.now) captures i d within
