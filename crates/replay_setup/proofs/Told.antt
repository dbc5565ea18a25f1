-- What the openings leave of the told list and of the count.
use Rattle.std.proofs.Common.{◌≡◌, ℕ, suc, List, [], ◌∷◌, ◌++◌, Option, None, Some, length, take, sym, ap, ◌∙◌, subst}
use Rattle.std.specs.Prelude.{MatchOption, option_and_then}
use Rattle.std.proofs.Math.Seq.{take-append_seam, take-length}
use Rattle.std.proofs.lemmas.List.{length-map, map-append}
use Rattle.command_words.specs.Words.{CaptureNames}
use Rattle.fw_base.specs.Pairs.{Pair, take_named, TakesOut}
use Rattle.replay_setup.specs.NamesRead.{ReadsNames, RefusesScript, FailsScript, RefusesCapture}
use Rattle.replay_setup.specs.Openings.{Opens, OpensAll, file_names, pairs_without}
use Rattle.capture_tracks.specs.Replay.{sources_of}
use Rattle.replay_setup.proofs.Openings.{opens_length}
use Rattle.replay_setup.proofs.FailedReads.{AreFresh}
use Rattle.capture_tracks.specs.declared.opened.OpenedCapture.{OpenedCapture}
use Rattle.replay_setup.specs.Outside.{Files}

-- the list behind one opening
pub one_out : (a b : Option (List Pair)) (name : List ℕ) (names : List (List ℕ)) (left : Option (List ℕ)) (told : List Pair) (last : Option (List Pair)) → TakesOut a b name left → a ≡ Some told
    → ((rest : List Pair) → b ≡ Some rest → last ≡ pairs_without names rest) → last ≡ pairs_without (name ∷ names) told
one_out None b name names left told last took is behind = absurd (cc)
one_out (Some pairs) b name names left told last took is behind =
    let same : pairs ≡ told = cc in
    subst (λ (l : List Pair). last ≡ pairs_without (name ∷ names) l) same (by_place (take_named name pairs) took)
  where
    by_place : (found : Option (Pair × List Pair)) → MatchOption found ⊥ (λ f. (left ≡ Some f.0.1) × (b ≡ Some f.1)) → last ≡ option_and_then (λ f. pairs_without names f.1) found
    by_place None took = absurd took
    by_place (Some f) took = behind f.1 took.1

module _ {L S : Type 0} (files : Files L S) where
  all_out : (old new : L) (captures : List CaptureNames) (opened : List (OpenedCapture S)) (told : List Pair) → OpensAll files old new captures opened → files.pairs old ≡ Some told
      → files.pairs new ≡ pairs_without (file_names captures) told
  all_out old new [] [] told all is = ap files.pairs all ∙ is
  all_out old new [] (o ∷ os) told all is = absurd all
  all_out old new (c ∷ cs) [] told all is = absurd all
  all_out old new (c ∷ cs) (o ∷ os) told all is =
      let (port, between, opens, behind) = all in
      one_out (files.pairs old) (files.pairs between) c.name (file_names cs) (files.left o.source) told (files.pairs new) opens.took is (λ rest gone. all_out between new cs os rest behind gone)

  -- the list behind the script and these captures
  pub names_out : (name : List ℕ) (captures : List CaptureNames) (old new : L) (script : S) (bytes : List ℕ) (opened : List (OpenedCapture S)) (told : List Pair)
      → ReadsNames files name captures old new script bytes opened → files.pairs old ≡ Some told → files.pairs new ≡ pairs_without (name ∷ file_names captures) told
  names_out name captures old new script bytes opened told reads is =
      let first = reads.script_read.opens in
      one_out (files.pairs old) (files.pairs reads.between) name (file_names captures) (files.left reads.script_read.opened) told (files.pairs new) first.took is
      (λ rest gone. all_out reads.between new captures opened rest reads.captures_opened gone)

  all_steady : (old new : L) (captures : List CaptureNames) (opened : List (OpenedCapture S)) → OpensAll files old new captures opened → files.faults new ≡ files.faults old
  all_steady old new [] [] all = ap files.faults all
  all_steady old new [] (o ∷ os) all = absurd all
  all_steady old new (c ∷ cs) [] all = absurd all
  all_steady old new (c ∷ cs) (o ∷ os) all = let (port, between, opens, behind) = all in all_steady between new cs os behind ∙ opens.steady

  -- the count stood still
  pub names_steady : (name : List ℕ) (captures : List CaptureNames) (old new : L) (script : S) (bytes : List ℕ) (opened : List (OpenedCapture S))
      → ReadsNames files name captures old new script bytes opened → files.faults new ≡ files.faults old
  names_steady name captures old new script bytes opened reads = all_steady reads.between new captures opened reads.captures_opened ∙ reads.script_read.opens.steady

  -- the captures that were opened have sources of which no read failed yet
  pub all_fresh : (old new : L) (captures : List CaptureNames) (opened : List (OpenedCapture S)) → OpensAll files old new captures opened → AreFresh files.left files.failures opened
  all_fresh old new [] [] all = tt
  all_fresh old new [] (o ∷ os) all = absurd all
  all_fresh old new (c ∷ cs) [] all = absurd all
  all_fresh old new (c ∷ cs) (o ∷ os) all = let (port, between, opens, behind) = all in (opens.fresh, all_fresh between new cs os behind)

  sources_length : (old new : L) (captures : List CaptureNames) (opened : List (OpenedCapture S)) → OpensAll files old new captures opened → length (sources_of opened) ≡ length (file_names captures)
  sources_length old new captures opened all =
      length-map opened (λ o. o.source) ∙ opens_length files old new captures opened all ∙ sym (length-map captures (λ c. c.name))

  -- so many sources as names: the list is left without these
  pub all_named : (name : List ℕ) (captures : List CaptureNames) (old new : L) (script : S) (bytes : List ℕ) (opened : List (OpenedCapture S)) (sources : List S) (told : List Pair)
      → ReadsNames files name captures old new script bytes opened → files.pairs old ≡ Some told → length sources ≡ length opened
      → files.pairs new ≡ pairs_without (take (suc (length sources)) (name ∷ file_names captures)) told
  all_named name captures old new script bytes opened sources told reads is many =
      let count : length sources ≡ length (file_names captures) = many ∙ opens_length files reads.between new captures opened reads.captures_opened ∙ sym (length-map captures (λ c. c.name)) in
      names_out name captures old new script bytes opened told reads is
      ∙ ap (λ l. pairs_without (name ∷ l) told) (sym (ap (λ n. take n (file_names captures)) count ∙ take-length (file_names captures)))

  -- where the script's name was refused, nothing is taken out of the told list
  pub script_refused : (wanted : List ℕ) (captures : List CaptureNames) (old new : L) (name : List ℕ) (sources : List S) (told : List Pair) → RefusesScript files wanted old new name sources → files.pairs old ≡ Some told
      → files.pairs new ≡ pairs_without (take (length sources) (wanted ∷ file_names captures)) told
  script_refused wanted captures old new name sources told found is =
      rw (found.nothing_opened) (found.refuses.list_kept ∙ is)

  -- where the script could not be read, its name alone is taken out of the told list
  pub script_failed : (wanted : List ℕ) (captures : List CaptureNames) (old new : L) (name : List ℕ) (sources : List S) (told : List Pair) → FailsScript files wanted old new name sources → files.pairs old ≡ Some told
      → files.pairs new ≡ pairs_without (take (length sources) (wanted ∷ file_names captures)) told
  script_failed wanted captures old new name sources told found is =
      let opens = subst (λ (n : List ℕ). Opens files old new n found.opened) found.named found.opens in
      rw (found.given_back) (one_out (files.pairs old) (files.pairs new) wanted [] (files.left found.opened) told (files.pairs new) opens.took is (λ rest gone. gone))

  -- where a capture's name was refused, the names before it are taken out of the told list
  pub capture_refused : (wanted : List ℕ) (captures : List CaptureNames) (old new : L) (name : List ℕ) (sources : List S) (told : List Pair) → RefusesCapture files wanted captures old new name sources → files.pairs old ≡ Some told
      → files.pairs new ≡ pairs_without (take (length sources) (wanted ∷ file_names captures)) told
  capture_refused wanted captures old new name sources told found is =
      let before = file_names found.before in
      let split : file_names captures ≡ before ++ file_names (found.capture ∷ found.behind) = ap file_names found.stands ∙ map-append (λ c. c.name) found.before (found.capture ∷ found.behind) in
      let count : length (sources_of found.opened) ≡ length before = sources_length found.reads.between found.between found.before found.opened found.reads.captures_opened in
      let front : take (length (sources_of found.opened)) (file_names captures) ≡ before =
      ap (λ n. take n (file_names captures)) count ∙ ap (take (length before)) split ∙ take-append_seam before (file_names (found.capture ∷ found.behind)) in
      rw (found.given_back) (found.refuses.list_kept ∙ names_out wanted found.before old found.between found.script found.bytes found.opened told found.reads is ∙ ap (λ l. pairs_without (wanted ∷ l) told) (sym front))
