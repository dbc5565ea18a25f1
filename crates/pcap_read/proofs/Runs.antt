-- Many records, one after another.
use Rattle.std.proofs.Common.{◌≡◌, ℕ, ◌+◌, List, [], ◌∷◌, ◌++◌, length, Option, None, Some, Ok, Err, sym, ap, ◌∙◌, subst, arith, length-append, append_assoc, append-nil}
use Rattle.pcap_read.specs.declared.capture.Capture.{Capture}
use Rattle.pcap_read.specs.declared.capture_fault.CaptureFault.{CaptureFault}
use Rattle.pcap_read.specs.Reading.{Captured}
use Rattle.pcap_read.specs.Capture.{limit_of, source_of, IsReading, StopsWith, Finishes, Advances}

module _ {S : Type 0} (left : S → Option (List ℕ)) (faults : S → ℕ) where
  -- so many more records were given
  abbrev pub GoesOn : Capture S → Capture S → ℕ → Type 0
  GoesOn old new count = (source : S) (bytes : List ℕ) (records : List Captured) → IsReading left faults source old bytes records
      → (got : List ℕ) × (more : List Captured) × (length more ≡ count) × IsReading left faults source new (bytes ++ got) (records ++ more)

  -- before the first step no record more was given
  pub goes_nowhere : (c : Capture S) → GoesOn c c 0
  goes_nowhere c source bytes records reading = ([], [], omega arith, subst (λ b. IsReading left faults source c b (records ++ [])) (sym (append-nil bytes)) (subst (IsReading left faults source c bytes) (sym (append-nil records)) reading))

  -- a step to a record is one record more
  pub goes_further : (old mid new : Capture S) (count : ℕ) (r : Captured) → GoesOn old mid count → Advances left faults mid new (Ok (Some r)) → GoesOn old new (count + 1)
  goes_further old mid new count r goes step source bytes records reading =
      let p = goes source bytes records reading in
      let q = step.continues source (bytes ++ p.0) (records ++ p.1) p.3 in (
        p.0 ++ q.0,
        p.1 ++ r ∷ [],
        length-append p.1 (r ∷ []) ∙ ap (λ n. n + 1) p.2,
        subst (λ b. IsReading left faults source new b (records ++ (p.1 ++ r ∷ []))) (append_assoc bytes p.0 q.0)
            (subst (IsReading left faults source new ((bytes ++ p.0) ++ q.0)) (append_assoc records p.1 (r ∷ [])) q.1),
      )

  -- the stop behind more bytes and a limit that is the same
  stops_further : (limit before : ℕ) (source now : S) (bytes got last : List ℕ) (records : List Captured) (stop : Option CaptureFault) → limit ≡ before
      → StopsWith left faults limit source now ((bytes ++ got) ++ last) records (length records + 1) stop → StopsWith left faults before source now (bytes ++ (got ++ last)) records (length records + 1) stop
  stops_further limit before source now bytes got last records stop same stops =
      subst (λ b. StopsWith left faults before source now b records (length records + 1) stop) (append_assoc bytes got last)
      (subst (λ n. StopsWith left faults n source now ((bytes ++ got) ++ last) records (length records + 1) stop) same stops)

  -- a step to the end ends the run, with the records that were given so far
  pub goes_to_end : (old mid new : Capture S) (count : ℕ) → GoesOn old mid count → limit_of mid ≡ limit_of old → Advances left faults mid new (Ok None) → Finishes left faults old new count None
  goes_to_end old mid new count goes limit step source bytes records reading =
      let p = goes source bytes records reading in
      let q = step.continues source (bytes ++ p.0) (records ++ p.1) p.3 in
      (p.0 ++ q.0, p.1, p.2, stops_further _ _ source (source_of new) bytes p.0 q.0 (records ++ p.1) None limit q.1)

  -- a step to a fault ends the run, with the records that were given so far
  pub goes_to_fault : (old mid new : Capture S) (count : ℕ) (fault : CaptureFault) → GoesOn old mid count → limit_of mid ≡ limit_of old → Advances left faults mid new (Err fault) → Finishes left faults old new count (Some fault)
  goes_to_fault old mid new count fault goes limit step source bytes records reading =
      let p = goes source bytes records reading in
      let q = step.continues source (bytes ++ p.0) (records ++ p.1) p.3 in
      (p.0 ++ q.0, p.1, p.2, stops_further _ _ source (source_of new) bytes p.0 q.0 (records ++ p.1) (Some fault) limit q.1)
