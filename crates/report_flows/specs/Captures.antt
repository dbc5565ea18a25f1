-- The flows of the records of captures.
use Rattle.std.specs.Prelude.{◌≡◌, ◌≢◌, ℕ, ◌+◌, ◌<◌, ◌≤◌, IfOk, List, [], ◌∷◌, ◌++◌, length, map, take, Option, None, Some, slice_index_or, ⊤}
use Rattle.std.specs.List.{AllZip}
use Rattle.fw_base.specs.declared.link.Link.{Link}
use Rattle.pcap_read.specs.Capture.{StopsWith}
use Rattle.pcap_read.specs.Reading.{Captured, header_of}
use Rattle.pcap_read.specs.declared.capture_fault.CaptureFault.{CaptureFault}
use Rattle.pcap_read.specs.declared.capture_fault.CaptureFault.TheVariants as capture_fault
use Rattle.report_moves.specs.declared.moves.Move.{Move}
use Rattle.report_flows.specs.Counting.{AreCounted, AreFlowsOf, Entries, IsCounted, entries_at, move_at, pair_of, rows_at, rows_of}
use Rattle.report_flows.specs.Flows.{flow_in}
use Rattle.report_flows.specs.declared.flow.AnyFlow.{AnyFlow}
use Rattle.report_flows.specs.declared.flow_counts.FlowSpan.{FlowSpan}
use Rattle.report_flows.specs.declared.flows_fault.FlowsFault.{FlowsFault}
use Rattle.report_flows.specs.declared.flows_fault.FlowsFault.TheVariants.{Captures, Records, Capture, OutOfMemory}

-- how many records of a capture are read at most
abbrev pub most_records : ℕ
most_records = 4194304

-- the flows of records
abbrev pub flows_in : Link → List Captured → List (Option AnyFlow)
flows_in link records = map (λ r. flow_in link r.bytes) records

-- the flow of a record, where there is one and it has one
abbrev pub held_flow : Link → Option Captured → Option AnyFlow
held_flow link None = None
held_flow link (Some r) = flow_in link r.bytes

module _ {S : Type 0} (left : S → Option (List ℕ)) (faults : S → ℕ) where
  -- A source was read as a whole capture (pcap 2.4): these are the flows of its records.
  pub record HasFlows (source : S) (flows : List (Option AnyFlow)) : Type 0 where
    pub now : S
    pub bytes : List ℕ
    pub records : List Captured
    pub link : Link
    pub stops : StopsWith left faults most_records source now bytes records (length records + 1) None
    pub header : IfOk (header_of (take 24 bytes)) (λ format. format.link ≡ link)
    pub flows_are : flows ≡ flows_in link records

  -- The captures have these flows and as many records as the reports, and of each move the flows are told.
  pub record AreToldFlows (captures : List S) (old new : List (List ℕ)) (moves : List Move) (told : List (List FlowSpan)) : Type 0 where
    pub flows : List (List (Option AnyFlow))
    pub read : AllZip HasFlows captures flows
    pub lengths : map length flows ≡ map length old
    pub count : length told ≡ length moves
    pub each : (place : ℕ) → place < length moves
        → AreFlowsOf (move_at moves place) (rows_at old new flows (move_at moves place).capture) (slice_index_or told place [])

  -- the flows of a capture's records, of which there are so many, are counted for its moves
  pub record IsCountedCapture (source : S) (moves : List Move) (capture : ℕ) (old new : List ℕ) (count : ℕ) (before after : List Entries) : Type 0 where
    pub flows : List (Option AnyFlow)
    pub read : HasFlows source flows
    pub count_is : length flows ≡ count
    pub counted : AreCounted moves capture (rows_of old new flows) before after

  -- the flows of the records of all captures are counted for their moves
  pub record AreAllCounted (captures : List S) (old new : List (List ℕ)) (moves : List Move) (counts : List Entries) : Type 0 where
    pub flows : List (List (Option AnyFlow))
    pub read : AllZip HasFlows captures flows
    pub lengths : map length flows ≡ map length old
    pub count : length counts ≡ length moves
    pub each : (place : ℕ) → place < length moves → 1 ≤ (move_at moves place).capture → (move_at moves place).capture ≤ length old
        → IsCounted (pair_of (move_at moves place)) (rows_at old new flows (move_at moves place).capture) (entries_at counts place)

  -- a source was read as a whole capture of so many records
  pub record IsWhole (source : S) (count : ℕ) : Type 0 where
    pub flows : List (Option AnyFlow)
    pub read : HasFlows source flows
    pub count_is : length flows ≡ count

  -- A source stops with just this fault, at the record of this number, from 1; 0 is the capture's header (pcap 2.4).
  -- Want of memory is none.
  pub record StopsAt (source : S) (number : ℕ) (fault : CaptureFault) : Type 0 where
    pub now : S
    pub bytes : List ℕ
    pub records : List Captured
    pub stops : StopsWith left faults most_records source now bytes records number (Some fault)
    pub has_memory : fault ≢ capture_fault.OutOfMemory

  -- Why the capture of this number, of which the reports tell so many records, can't be counted: it was read whole
  -- and has others, or it stops with a fault. Want of memory is free.
  abbrev pub IsCauseIn : ℕ → ℕ → S → FlowsFault → Type 0
  IsCauseIn number told source (Captures reports given) = ⊥
  IsCauseIn number told source (Records capture reports read) = (capture ≡ number) × (reports ≡ told) × (reports ≢ read) × IsWhole source read
  IsCauseIn number told source (Capture capture at fault) = (capture ≡ number) × StopsAt source at fault
  IsCauseIn number told source OutOfMemory = ⊤

  -- A cause stands in the first capture that has one: those before it were whole and had as many records as the reports.
  pub record IsFirstCause (captures : List S) (old : List (List ℕ)) (fault : FlowsFault) : Type 0 where
    pub before : List S
    pub source : S
    pub behind : List S
    pub place : captures ≡ before ++ source ∷ behind
    pub whole : AllZip IsWhole before (map length (take (length before) old))
    pub cause : IsCauseIn (length before + 1) (length (slice_index_or old (length before) [])) source fault

  -- Why no flows are told: the numbers of captures differ, or else the first cause in a capture. Want of memory is free.
  abbrev pub HasCause : List S → List (List ℕ) → FlowsFault → Type 0
  HasCause captures old (Captures told given) = (told ≡ length old) × (given ≡ length captures) × (told ≢ given)
  HasCause captures old (Records capture told read) = IsFirstCause captures old (Records capture told read)
  HasCause captures old (Capture capture at fault) = IsFirstCause captures old (Capture capture at fault)
  HasCause captures old OutOfMemory = ⊤
