-- What is read of the names of a job is what stands under them.
use Rattle.std.proofs.Common.{◌≡◌, ℕ, ◌<◌, ◌≤◌, zero, suc, List, [], ◌∷◌, ◌++◌, Option, None, Some, length, map, take, refl, sym, ap, ◌∙◌, subst, arith, MatchOption, option_and_then}
use Rattle.std.specs.Option.{option_map}
use Rattle.command_words.specs.Words.{CaptureNames}
use Rattle.fw_base.specs.Pairs.{Pair, take_named, TakesOut}
use Rattle.record_laws.specs.SameCaptures.{HaveSameContents}
use Rattle.replay_setup.specs.NamesRead.{ReadsNames}
use Rattle.replay_setup.specs.Openings.{OpensAll, file_names, port_of}
use Rattle.replay_driver.specs.Promises.{opening_order}
use Rattle.replay_driver.specs.Served.{ReplayNames, Replays}
use Rattle.buffered_io.specs.WholeSource.{ReadsAll}
use Rattle.run_laws.specs.TwoRuns.{Outside, TellSameContents, contents_of}
use Rattle.capture_tracks.specs.declared.opened.OpenedCapture.{OpenedCapture}
use Rattle.replay_setup.specs.Outside.{Files}

-- ---- reading a file

-- what is read to the end or to a limit is as much as the limit has room for
front_of : (most : ℕ) (bytes rest : List ℕ) → length bytes ≤ most → (length bytes < most → rest ≡ []) → take most (bytes ++ rest) ≡ bytes
front_of zero [] rest within end = refl
front_of (suc most) [] rest within end = ap (take (suc most)) (end (omega arith))
front_of zero (byte ∷ bytes) rest within end = absurd (omega arith)
front_of (suc most) (byte ∷ bytes) rest within end = ap (λ (l : List ℕ). byte ∷ l) (front_of most bytes rest (omega arith) (λ less. end (omega arith)))

-- what was read of a file is its front
read_front : (most : ℕ) (file bytes : List ℕ) (after : Option (List ℕ)) (before now : ℕ) → ReadsAll (Some file) after before now most bytes → bytes ≡ take most file
read_front most file bytes None before now reads = absurd reads.taken
read_front most file bytes (Some rest) before now reads =
    let split : file ≡ bytes ++ rest = reads.taken in
    sym (ap (take most) split ∙ front_of most bytes rest reads.within reads.end)

-- ---- opening names

-- an opening gives what stands under the name, and leaves the list behind it
opened_pair : (told : List Pair) (after : Option (List Pair)) (name : List ℕ) (has : Option (List ℕ)) → TakesOut (Some told) after name has
    → (found : Pair × List Pair) × (take_named name told ≡ Some found) × (has ≡ Some found.0.1) × (after ≡ Some found.1)
opened_pair told after name has took = by_place (take_named name told) refl took
  where
    by_place : (place : Option (Pair × List Pair)) → take_named name told ≡ place → MatchOption place ⊥ (λ f. (has ≡ Some f.0.1) × (after ≡ Some f.1))
        → (found : Pair × List Pair) × (take_named name told ≡ Some found) × (has ≡ Some found.0.1) × (after ≡ Some found.1)
    by_place None is took = absurd took
    by_place (Some f) is took = (f, is, took.0, took.1)

-- the contents under a name and under the names behind it
contents_first : (name : List ℕ) (names : List (List ℕ)) (told : List Pair) (found : Pair × List Pair) (contents : List (List ℕ)) → take_named name told ≡ Some found → contents_of names found.1 ≡ Some contents
    → contents_of (name ∷ names) told ≡ Some (found.0.1 ∷ contents)
contents_first name names told found contents stands behind =
    ap (option_and_then (λ (f : Pair × List Pair). option_map (λ (l : List (List ℕ)). f.0.1 ∷ l) (contents_of names f.1))) stands
    ∙ ap (option_map (λ (l : List (List ℕ)). found.0.1 ∷ l)) behind

module _ {L S : Type 0} (files : Files L S) where
  -- Captures were opened at their ports, and their sources tell these contents.
  record TellContents (captures : List CaptureNames) (opened : List (OpenedCapture S)) (contents : List (List ℕ)) : Type 0 where
    ports : map (λ o. o.port) opened ≡ map port_of captures
    has : map (λ o. files.left o.source) opened ≡ map Some contents

  -- captures that were opened tell the contents that stand under their names
  captures_tell : (old new : L) (captures : List CaptureNames) (opened : List (OpenedCapture S)) (told : List Pair) → OpensAll files old new captures opened → files.pairs old ≡ Some told
      → (contents : List (List ℕ)) × (contents_of (file_names captures) told ≡ Some contents) × TellContents captures opened contents
  captures_tell old new [] [] told all is = ([], refl, record { ports = refl; has = refl })
  captures_tell old new [] (o ∷ os) told all is = absurd all
  captures_tell old new (c ∷ cs) [] told all is = absurd all
  captures_tell old new (c ∷ cs) (o ∷ os) told all is =
      let (port, between, opens, behind) = all in
      let (found, stands, gives, after) = opened_pair told (files.pairs between) c.name (files.left o.source) (subst (λ (l : Option (List Pair)). TakesOut l (files.pairs between) c.name (files.left o.source)) is opens.took) in
      let (contents, tells, others) = captures_tell between new cs os found.1 behind after in
      (found.0.1 ∷ contents, contents_first c.name (file_names cs) told found contents stands tells, record { ports = λ i. port i ∷ others.ports i; has = λ i. gives i ∷ others.has i })

  -- The script's file and the captures' contents stand under their names; of the file these bytes were read.
  record ReadFiles (name : List ℕ) (captures : List CaptureNames) (told : List Pair) (bytes : List ℕ) (opened : List (OpenedCapture S)) : Type 0 where
    file : List ℕ
    contents : List (List ℕ)
    stand : contents_of (name ∷ file_names captures) told ≡ Some (file ∷ contents)
    read : bytes ≡ take 1048577 file
    tells : TellContents captures opened contents

  -- what was read of names is what stands under them
  files_read : (name : List ℕ) (captures : List CaptureNames) (old new : L) (script : S) (bytes : List ℕ) (opened : List (OpenedCapture S)) (told : List Pair)
      → ReadsNames files name captures old new script bytes opened → files.pairs old ≡ Some told → ReadFiles name captures told bytes opened
  files_read name captures old new script bytes opened told names is =
      let source = names.script_read.opened in
      let (found, stands, gives, after) = opened_pair told (files.pairs names.between) name (files.left source)
      (subst (λ (l : Option (List Pair)). TakesOut l (files.pairs names.between) name (files.left source)) is names.script_read.opens.took) in
      let (contents, tells, others) = captures_tell names.between new captures opened found.1 names.captures_opened after in
      record {
        file = found.0.1;
        contents = contents;
        stand = contents_first name (file_names captures) told found contents stands tells;
        read = read_front 1048577 found.0.1 bytes (files.left script) (files.failures source) (files.failures script)
            (subst (λ (l : Option (List ℕ)). ReadsAll l (files.left script) (files.failures source) (files.failures script) 1048577 bytes) gives names.script_read.reads);
        tells = others;
      }

-- the first and the others of a list that is the same
same_first : {A : Type 0} (x y : A) (xs ys : List A) → Some (x ∷ xs) ≡ Some (y ∷ ys) → (x ≡ y) × (xs ≡ ys)
same_first x y xs ys same = (cc, cc)

module _ {L S K M T N : Type 0} (out : Outside L S K) (other : Outside M T N) where
  -- Two jobs read the same bytes of their scripts, and their captures' sources tell the same contents.
  pub record ReadSame (bytes otherBytes : List ℕ) (opened : List (OpenedCapture S)) (others : List (OpenedCapture T)) : Type 0 where
    pub script : bytes ≡ otherBytes
    pub captures : HaveSameContents out.files.left other.files.left opened others

  -- where the same bytes stand under the names of a job, two runs of it read the same
  pub same_read : (names : ReplayNames) (library libraryAfter : L) (otherLibrary otherLibraryAfter : M) (script : S) (otherScript : T) (bytes otherBytes : List ℕ) (opened : List (OpenedCapture S)) (others : List (OpenedCapture T))
      → ReadsNames out.files names.script names.captures library libraryAfter script bytes opened
      → ReadsNames other.files names.script names.captures otherLibrary otherLibraryAfter otherScript otherBytes others
      → TellSameContents (opening_order (Replays names)) (out.files.pairs library) (other.files.pairs otherLibrary) → ReadSame bytes otherBytes opened others
  same_read names library libraryAfter otherLibrary otherLibraryAfter script otherScript bytes otherBytes opened others reads otherReads same =
      let mine = files_read out.files names.script names.captures library libraryAfter script bytes opened same.before reads same.tells in
      let yours = files_read other.files names.script names.captures otherLibrary otherLibraryAfter otherScript otherBytes others same.other_before otherReads same.other_tells in
      let (file, contents) = same_first mine.file yours.file mine.contents yours.contents (sym mine.stand ∙ same.same ∙ yours.stand) in
      record {
        script = mine.read ∙ ap (take 1048577) file ∙ sym yours.read;
        captures = record {
          contents = yours.contents;
          ports = mine.tells.ports ∙ sym yours.tells.ports;
          told = mine.tells.has ∙ ap (map Some) contents;
          other_told = yours.tells.has;
        };
      }
