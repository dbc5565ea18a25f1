-- Openings one after the other.
use Rattle.std.proofs.Common.{◌≡◌, ℕ, ◌+◌, ◌<◌, suc, List, [], ◌∷◌, ◌++◌, length, map, take, drop, get_or, drop-cons, take-append-drop, refl, ap, sym, ◌∙◌, subst, arith}
use Rattle.std.proofs.Math.Seq.{take-suc}
use Rattle.std.proofs.lemmas.List.{map-append}
use Rattle.command_words.specs.Words.{CaptureNames}
use Rattle.command_words.specs.Invocation.{capture_names}
use Rattle.command_words.specs.declared.capture_word.CaptureWord.{CaptureWord}
use Rattle.replay_setup.specs.Openings.{Opens, OpensAll, port_of}
use Rattle.capture_tracks.specs.declared.opened.OpenedCapture.{OpenedCapture}
use Rattle.replay_setup.specs.Outside.{Files}

module _ {L S : Type 0} (files : Files L S) where
  -- one more capture was opened
  pub opens_push : (old mid new : L) (captures : List CaptureNames) (opened : List (OpenedCapture S)) (capture : CaptureNames) (next : OpenedCapture S)
      → OpensAll files old mid captures opened → next.port ≡ port_of capture → Opens files mid new capture.name next.source
      → OpensAll files old new (captures ++ capture ∷ []) (opened ++ next ∷ [])
  opens_push old mid new [] [] capture next all port more = (port, new, subst (λ (l : L). Opens files l new capture.name next.source) all more, refl)
  opens_push old mid new [] (o ∷ os) capture next all port more = absurd all
  opens_push old mid new (c ∷ cs) [] capture next all port more = absurd all
  opens_push old mid new (c ∷ cs) (o ∷ os) capture next all port more =
      let (here, between, opens, behind) = all in
      (here, between, opens, opens_push between mid new cs os capture next behind port more)

-- the names of the captures before the i-th, of the i-th, and of those behind it
pub names_split : (captures : List CaptureWord) (i : ℕ) (d : CaptureWord) → i < length captures
    → map capture_names captures ≡ map capture_names (take i captures) ++ capture_names (get_or captures i d) ∷ map capture_names (drop (i + 1) captures)
names_split captures i d within =
    let next : i + 1 ≡ suc i = omega arith in
    let cut : drop i captures ≡ get_or captures i d ∷ drop (i + 1) captures = rw next (drop-cons captures i d within) in
    ap (map capture_names) (sym (take-append-drop i captures)) ∙ map-append capture_names (take i captures) (drop i captures)
    ∙ ap (λ l. map capture_names (take i captures) ++ map capture_names l) cut

-- one more of them
pub names_push : (captures : List CaptureWord) (i : ℕ) (d : CaptureWord) → i < length captures
    → map capture_names (take (i + 1) captures) ≡ map capture_names (take i captures) ++ capture_names (get_or captures i d) ∷ []
names_push captures i d within =
    let next : i + 1 ≡ suc i = omega arith in
    let cut : take (i + 1) captures ≡ take i captures ++ get_or captures i d ∷ [] = rw next (take-suc captures i d within) in
    ap (map capture_names) cut ∙ map-append capture_names (take i captures) (get_or captures i d ∷ [])

module _ {L S : Type 0} (files : Files L S) where
  -- as many are opened as there are names
  pub opens_length : (old new : L) (captures : List CaptureNames) (opened : List (OpenedCapture S)) → OpensAll files old new captures opened → length opened ≡ length captures
  opens_length old new [] [] all = refl
  opens_length old new [] (o ∷ os) all = absurd all
  opens_length old new (c ∷ cs) [] all = absurd all
  opens_length old new (c ∷ cs) (o ∷ os) all = let (here, between, opens, behind) = all in ap suc (opens_length between new cs os behind)
