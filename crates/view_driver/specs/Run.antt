-- What a run finds and shows. Free are which words ask for what, what a page and a review of a script tell, which
-- report has no journal, and which line of a journal isn't its script's: the tests show those.
use Rattle.std.specs.Prelude.{◌≡◌, ℕ, ◌-◌, List, [], ◌∷◌, Err, Option, None, Some, Vec, map, slice_index_or, ◌⊎◌, ⊤}
use Rattle.command_words.specs.declared.capture_word.CaptureWord.{CaptureWord}
use Rattle.fw_command.specs.declared.script.Pace.TheVariants.{Serial}
use Rattle.replay_setup.specs.FirstEdition.{first_edition}
use Rattle.replay_setup.specs.NamesRead.{FailsEarly, ReadsNamed}
use Rattle.replay_setup.specs.Openings.{Opens, RefusesToOpen}
use Rattle.replay_setup.specs.Outside.{Files, Output}
use Rattle.replay_setup.specs.declared.script_error.ScriptError.{ScriptError}
use Rattle.report_flows.specs.Captures.{AreToldFlows, HasCause}
use Rattle.report_flows.specs.declared.flow_counts.FlowSpan.{FlowSpan}
use Rattle.report_flows.specs.declared.flows_fault.FlowsFault.{FlowsFault}
use Rattle.report_flows.specs.declared.flows_fault.FlowsFault.TheVariants as flows_fault
use Rattle.report_states.specs.declared.states_fault.StatesFault.{StatesFault}
use Rattle.report_states.specs.declared.states_fault.StatesFault.TheVariants as states_fault
use Rattle.report_values.specs.Reports.{IsUnfitLine}
use Rattle.view_driver.specs.MovesTold.{ComparesTexts, IsNoReport, IsTroubleOf}
use Rattle.view_driver.specs.Shown.{Shows}
use Rattle.view_driver.specs.declared.compared.Compared.{Compared}
use Rattle.view_driver.specs.declared.shown.Shown.{Shown}
use Rattle.view_driver.specs.declared.shown.Shown.TheVariants as shown
use Rattle.view_driver.specs.declared.trouble.Trouble.{Trouble}
use Rattle.view_driver.specs.declared.trouble.Trouble.TheVariants.{Usage, Unread, NoReport, Script, NoJournal, OtherScript, Captures, Records, Named, OtherRecords, Capture, OutOfMemory}

-- how many bytes of a text are read at most: 4 GiB
abbrev pub most_bytes : ℕ
most_bytes = 4294967296

-- How it is told why a journal's live states aren't. Which line of the report it is isn't said.
abbrev pub TellsFault : StatesFault → Trouble → Type 0
TellsFault fault (Script error) = fault ≡ states_fault.Script error
TellsFault fault (OtherScript report line script) = (within : ℕ) × (fault ≡ states_fault.Line within)
TellsFault fault OutOfMemory = fault ≡ states_fault.OutOfMemory
TellsFault fault Usage = ⊥
TellsFault fault (Unread name) = ⊥
TellsFault fault (NoReport name line) = ⊥
TellsFault fault (NoJournal name) = ⊥
TellsFault fault (Captures old new) = ⊥
TellsFault fault (Records capture old new) = ⊥
TellsFault fault (Named told named) = ⊥
TellsFault fault (OtherRecords name told read) = ⊥
TellsFault fault (Capture name at why) = ⊥

-- the names of captures
abbrev pub names_of : List CaptureWord → List (List ℕ)
names_of captures = map (λ capture. capture.name.now) captures

-- the name of the capture of this number, from 1
abbrev pub name_at : List (List ℕ) → ℕ → List ℕ
name_at names number = slice_index_or names (number - 1) []

-- How it is told why the flows of captures of these names aren't: the fault with the capture's name.
abbrev pub IsFlowsTrouble : List (List ℕ) → FlowsFault → Trouble → Type 0
IsFlowsTrouble names fault (Named told named) = fault ≡ flows_fault.Captures told named
IsFlowsTrouble names fault (OtherRecords name told read) = (number : ℕ) × (fault ≡ flows_fault.Records number told read) × (name.now ≡ name_at names number)
IsFlowsTrouble names fault (Capture name at why) = (number : ℕ) × (fault ≡ flows_fault.Capture number at why) × (name.now ≡ name_at names number)
IsFlowsTrouble names fault OutOfMemory = fault ≡ flows_fault.OutOfMemory
IsFlowsTrouble names fault Usage = ⊥
IsFlowsTrouble names fault (Unread name) = ⊥
IsFlowsTrouble names fault (NoReport name line) = ⊥
IsFlowsTrouble names fault (Script error) = ⊥
IsFlowsTrouble names fault (NoJournal name) = ⊥
IsFlowsTrouble names fault (OtherScript report line script) = ⊥
IsFlowsTrouble names fault (Captures old new) = ⊥
IsFlowsTrouble names fault (Records capture old new) = ⊥

-- what is shown is a page, or of a script
abbrev pub IsOfOneText : Shown → Type 0
IsOfOneText (shown.Page pieces) = ⊤
IsOfOneText (shown.Script reviewed) = ⊤
IsOfOneText (shown.Moves compared) = ⊥
IsOfOneText (shown.Trouble trouble) = ⊥

module _ {L S : Type 0} (files : Files L S) where
  -- the text of a name was read
  pub record ReadsText (before now : L) (name text : List ℕ) : Type 0 where
    pub source : S
    pub reads : ReadsNamed files most_bytes before now name source text

  -- a name was opened, and its source failed
  pub record BreaksOff (before now : L) (name : List ℕ) : Type 0 where
    pub opened : S
    pub source : S
    pub opens : Opens files before now name opened
    pub fails : FailsEarly files.left files.failures most_bytes opened source

  -- a name was the last to be asked for, and it was refused or its source failed
  pub record IsUnread (now : L) (name : List ℕ) : Type 0 where
    pub before : L
    pub cause : RefusesToOpen files before now name ⊎ BreaksOff before now name

  -- a name that isn't read, or want of memory
  abbrev pub IsUnreadOrMemory : L → Trouble → Type 0
  IsUnreadOrMemory now (Unread name) = IsUnread now name.now
  IsUnreadOrMemory now OutOfMemory = ⊤
  IsUnreadOrMemory now Usage = ⊥
  IsUnreadOrMemory now (NoReport name line) = ⊥
  IsUnreadOrMemory now (Script error) = ⊥
  IsUnreadOrMemory now (NoJournal name) = ⊥
  IsUnreadOrMemory now (OtherScript report line script) = ⊥
  IsUnreadOrMemory now (Captures old new) = ⊥
  IsUnreadOrMemory now (Records capture old new) = ⊥
  IsUnreadOrMemory now (Named told named) = ⊥
  IsUnreadOrMemory now (OtherRecords name told read) = ⊥
  IsUnreadOrMemory now (Capture name at fault) = ⊥

  -- the text of a script's name was read last, and it makes no edition
  pub record ReadsNoEdition (now : L) (error : ScriptError) : Type 0 where
    pub name : List ℕ
    pub asked : L
    pub script : List ℕ
    pub script_read : ReadsText asked now name script
    pub made : first_edition Serial script ≡ Err error

  -- Why a report's live states aren't told: a name isn't read, or the script makes no edition. Which report has no
  -- journal, and which line isn't the script's, is free.
  abbrev pub IsWithoutStates : L → Trouble → Type 0
  IsWithoutStates now (Unread name) = IsUnread now name.now
  IsWithoutStates now (Script error) = ReadsNoEdition now error
  IsWithoutStates now (NoJournal name) = ⊤
  IsWithoutStates now (OtherScript report line script) = ⊤
  IsWithoutStates now OutOfMemory = ⊤
  IsWithoutStates now Usage = ⊥
  IsWithoutStates now (NoReport name line) = ⊥
  IsWithoutStates now (Captures old new) = ⊥
  IsWithoutStates now (Records capture old new) = ⊥
  IsWithoutStates now (Named told named) = ⊥
  IsWithoutStates now (OtherRecords name told read) = ⊥
  IsWithoutStates now (Capture name at fault) = ⊥

  -- the same, or the text of this name is no report
  abbrev pub IsWithoutPage : L → List ℕ → List ℕ → Trouble → Type 0
  IsWithoutPage now name text trouble = IsWithoutStates now trouble ⊎ IsNoReport name text trouble

  -- the text of a name was read, and the line of this number is the first that no report has there
  pub record ReadsNoReport (name : List ℕ) (line : ℕ) : Type 0 where
    pub asked : L
    pub behind : L
    pub text : List ℕ
    pub text_read : ReadsText asked behind name text
    pub unfit : IsUnfitLine text line

  -- the texts of two names were read, one after the other
  pub record ReadsBoth (before now : L) (old new : List ℕ) : Type 0 where
    pub old_name : List ℕ
    pub new_name : List ℕ
    pub between : L
    pub old_read : ReadsText before between old_name old
    pub new_read : ReadsText between now new_name new

  -- these names were opened, in their order
  abbrev pub OpensNamed : L → L → List (List ℕ) → List S → Type 0
  OpensNamed before now [] [] = now ≡ before
  OpensNamed before now [] (source ∷ sources) = ⊥
  OpensNamed before now (name ∷ names) [] = ⊥
  OpensNamed before now (name ∷ names) (source ∷ sources) = (between : L) × Opens files before between name source × OpensNamed between now names sources

  -- Captures were opened in their order and read whole. They have as many records as what was compared, and of each
  -- move these are the flows of its records.
  pub record TellsFlows (before now : L) (compared : Compared) (told : List (List FlowSpan)) : Type 0 where
    pub names : List (List ℕ)
    pub sources : List S
    pub opens : OpensNamed before now names sources
    pub flows : AreToldFlows files.left files.failures sources compared.old.items compared.new.items compared.moves.moved.items told

  -- Captures were opened in their order, and why their flows aren't told: their number isn't that of what was
  -- compared, or the first of them that isn't whole or has another number of records.
  pub record TellsNoFlows (before now : L) (compared : Compared) (trouble : Trouble) : Type 0 where
    pub names : List (List ℕ)
    pub sources : List S
    pub opens : OpensNamed before now names sources
    pub fault : FlowsFault
    pub cause : HasCause files.left files.failures sources compared.old.items fault
    pub is_told : IsFlowsTrouble names fault trouble

  -- the same, or a name that isn't read, or want of memory
  abbrev pub IsUnreadOrFlowless : L → L → Compared → Trouble → Type 0
  IsUnreadOrFlowless before now compared trouble = IsUnreadOrMemory now trouble ⊎ TellsNoFlows before now compared trouble

  -- no flows are told and nothing was opened, or they are those of captures
  abbrev pub TellsFlowsIf : {A : Type 0} → L → L → Compared → Option (Vec (List FlowSpan) A) → Type 0
  TellsFlowsIf before now compared None = now ≡ before
  TellsFlowsIf before now compared (Some told) = TellsFlows before now compared told.items

  -- two texts were read and compared, and behind them the captures whose flows are told, where some are
  pub record ReadsCompared (before now : L) (compared : Compared) : Type 0 where
    pub old : List ℕ
    pub new : List ℕ
    pub behind : L
    pub both : ReadsBoth before behind old new
    pub compares : ComparesTexts old new compared
    pub flows : TellsFlowsIf behind now compared compared.flows

  -- two texts were read and compared, and why the flows of captures that were opened behind them aren't told
  pub record ReadsFlowless (before now : L) (trouble : Trouble) : Type 0 where
    pub old : List ℕ
    pub new : List ℕ
    pub behind : L
    pub both : ReadsBoth before behind old new
    pub compared : Compared
    pub compares : ComparesTexts old new compared
    pub flowless : TellsNoFlows behind now compared trouble

  -- two texts were read, and why they aren't compared
  pub record ReadsUnlike (before now : L) (trouble : Trouble) : Type 0 where
    pub old : List ℕ
    pub new : List ℕ
    pub both : ReadsBoth before now old new
    pub unlike : IsTroubleOf both.old_name old both.new_name new trouble

  -- Where a run came to this trouble, its cause. Where the words are no command, no name was asked for.
  abbrev pub ComesToTrouble : L → L → Trouble → Type 0
  ComesToTrouble before now (Unread name) = IsUnread now name.now
  ComesToTrouble before now (Captures old new) = ReadsUnlike before now (Captures old new)
  ComesToTrouble before now (Records capture old new) = ReadsUnlike before now (Records capture old new)
  ComesToTrouble before now Usage = now ≡ before
  ComesToTrouble before now (NoReport name line) = ReadsNoReport name.now line
  ComesToTrouble before now (Script error) = ReadsNoEdition now error
  ComesToTrouble before now (NoJournal name) = ⊤
  ComesToTrouble before now (OtherScript report line script) = ⊤
  ComesToTrouble before now (Named told named) = ReadsFlowless before now (Named told named)
  ComesToTrouble before now (OtherRecords name told read) = ReadsFlowless before now (OtherRecords name told read)
  ComesToTrouble before now (Capture name at fault) = ReadsFlowless before now (Capture name at fault)
  ComesToTrouble before now OutOfMemory = ⊤

  -- What is shown was found: what moved, between two reports that were read, with the flows of captures that were
  -- read; and why there is nothing to show.
  abbrev pub IsFound : L → L → Shown → Type 0
  IsFound before now (shown.Moves compared) = ReadsCompared before now compared.now
  IsFound before now (shown.Page pieces) = ⊤
  IsFound before now (shown.Script reviewed) = ⊤
  IsFound before now (shown.Trouble trouble) = ComesToTrouble before now trouble

module _ {K : Type 0} (output : Output K) where
  -- memory ran out and nothing was written, or a page or what is wrong or odd with a script was shown
  abbrev pub ShowsOneText : K → K → ℕ → Type 0
  ShowsOneText sink sinkAfter got =
      ((got ≡ 6) × (sinkAfter ≡ sink)) ⊎ ((it : Shown) × IsOfOneText it × Shows output sink sinkAfter it got)

module _ {K L S : Type 0} (output : Output K) (files : Files L S) where
  -- something was found and shown
  pub record FindsAndShows (before now : L) (sink sinkAfter : K) (got : ℕ) : Type 0 where
    pub it : Shown
    pub found : IsFound files before now it
    pub shows : Shows output sink sinkAfter it got

  -- memory ran out and nothing was written, or what was found was shown
  abbrev pub ShowsWhatItFinds : L → L → K → K → ℕ → Type 0
  ShowsWhatItFinds before now sink sinkAfter got =
      ((got ≡ 6) × (sinkAfter ≡ sink)) ⊎ FindsAndShows before now sink sinkAfter got
