-- Why a run comes to a trouble.
use Rattle.std.proofs.Common.{ℕ, List, Result, Ok, Err, inl, inr, sym, subst}
use Rattle.std.specs.Prelude.{IfErr}
use Rattle.replay_setup.specs.Outside.{Files}
use Rattle.report_states.specs.Behind.{HasCause}
use Rattle.report_states.specs.declared.states_fault.StatesFault.{StatesFault}
use Rattle.view_driver.specs.MovesTold.{ComparesTexts, IsNoReport}
use Rattle.view_driver.specs.Run.{ComesToTrouble, IsUnreadOrFlowless, IsUnreadOrMemory, IsWithoutPage, IsWithoutStates, ReadsBoth, ReadsFlowless, ReadsText, TellsFault, TellsNoFlows}
use Rattle.view_driver.specs.declared.compared.Compared.{Compared}
use Rattle.view_driver.specs.declared.trouble.Trouble.{Trouble}
use Rattle.view_driver.specs.declared.trouble.Trouble.TheVariants.{Usage, Unread, NoReport, Script, NoJournal, OtherScript, Captures, Records, Named, OtherRecords, Capture, OutOfMemory}

module _ {L S : Type 0} (files : Files L S) (before now : L) where
  -- a name that isn't read, or want of memory
  unread_comes : (trouble : Trouble) → IsUnreadOrMemory files now trouble → ComesToTrouble files before now trouble
  unread_comes Usage cause = absurd cause
  unread_comes (Unread told) cause = cause
  unread_comes (NoReport told line) cause = absurd cause
  unread_comes (Script fault) cause = absurd cause
  unread_comes (NoJournal told) cause = absurd cause
  unread_comes (OtherScript told line script) cause = absurd cause
  unread_comes (Captures was is_now) cause = absurd cause
  unread_comes (Records capture was is_now) cause = absurd cause
  unread_comes (Named told named) cause = absurd cause
  unread_comes (OtherRecords told records read) cause = absurd cause
  unread_comes (Capture told at fault) cause = absurd cause
  unread_comes OutOfMemory cause = tt

  -- live states aren't told
  stateless_comes : (trouble : Trouble) → IsWithoutStates files now trouble → ComesToTrouble files before now trouble
  stateless_comes Usage cause = absurd cause
  stateless_comes (Unread told) cause = cause
  stateless_comes (NoReport told line) cause = absurd cause
  stateless_comes (Script fault) cause = cause
  stateless_comes (NoJournal told) cause = tt
  stateless_comes (OtherScript told line script) cause = tt
  stateless_comes (Captures was is_now) cause = absurd cause
  stateless_comes (Records capture was is_now) cause = absurd cause
  stateless_comes (Named told named) cause = absurd cause
  stateless_comes (OtherRecords told records read) cause = absurd cause
  stateless_comes (Capture told at fault) cause = absurd cause
  stateless_comes OutOfMemory cause = tt

  -- where a name isn't read no live states are told
  pub unread_stateless : (trouble : Trouble) → IsUnreadOrMemory files now trouble → IsWithoutStates files now trouble
  unread_stateless Usage cause = absurd cause
  unread_stateless (Unread told) cause = cause
  unread_stateless (NoReport told line) cause = absurd cause
  unread_stateless (Script fault) cause = absurd cause
  unread_stateless (NoJournal told) cause = absurd cause
  unread_stateless (OtherScript told line script) cause = absurd cause
  unread_stateless (Captures was is_now) cause = absurd cause
  unread_stateless (Records capture was is_now) cause = absurd cause
  unread_stateless (Named told named) cause = absurd cause
  unread_stateless (OtherRecords told records read) cause = absurd cause
  unread_stateless (Capture told at fault) cause = absurd cause
  unread_stateless OutOfMemory cause = tt

module _ {L S : Type 0} (files : Files L S) (asked now : L) (name script lines : List ℕ) (script_read : ReadsText files asked now name script)
    (fault : StatesFault) (cause : HasCause script lines fault) where
  -- the cause of a fault of the states, behind the script that was read
  pub fault_stateless : (trouble : Trouble) → TellsFault fault trouble → IsWithoutStates files now trouble
  fault_stateless Usage told = absurd told
  fault_stateless (Unread unread) told = absurd told
  fault_stateless (NoReport report line) told = absurd told
  fault_stateless (Script error) told = record {
    name = name;
    asked = asked;
    script = script;
    script_read = script_read;
    made = subst (HasCause script lines) told cause;
  }
  fault_stateless (NoJournal report) told = tt
  fault_stateless (OtherScript report line other) told = tt
  fault_stateless (Captures was is_now) told = absurd told
  fault_stateless (Records capture was is_now) told = absurd told
  fault_stateless (Named of_report named) told = absurd told
  fault_stateless (OtherRecords capture records read) told = absurd told
  fault_stateless (Capture capture at why) told = absurd told
  fault_stateless OutOfMemory told = tt

module _ {L S : Type 0} (files : Files L S) (before now asked behind : L) (name text : List ℕ) (text_read : ReadsText files asked behind name text) where
  -- a text that was read is no report
  no_report_comes : (trouble : Trouble) → IsNoReport name text trouble → ComesToTrouble files before now trouble
  no_report_comes Usage cause = absurd cause
  no_report_comes (Unread told) cause = absurd cause
  no_report_comes (NoReport told line) cause = record {
    asked = asked;
    behind = behind;
    text = text;
    text_read = subst (λ (n : List ℕ). ReadsText files asked behind n text) (sym cause.0) text_read;
    unfit = cause.1;
  }
  no_report_comes (Script fault) cause = absurd cause
  no_report_comes (NoJournal told) cause = absurd cause
  no_report_comes (OtherScript told line script) cause = absurd cause
  no_report_comes (Captures was is_now) cause = absurd cause
  no_report_comes (Records capture was is_now) cause = absurd cause
  no_report_comes (Named told named) cause = absurd cause
  no_report_comes (OtherRecords told records read) cause = absurd cause
  no_report_comes (Capture told at fault) cause = absurd cause
  no_report_comes OutOfMemory cause = tt

  -- so of what showing a text that was read answers
  pub text_comes : {T : Type 0} (result : Result T Trouble) → IfErr result (IsWithoutPage files now name text)
      → IfErr result (ComesToTrouble files before now)
  text_comes (Ok shown) cause = tt
  text_comes (Err trouble) (inl stateless) = stateless_comes files before now trouble stateless
  text_comes (Err trouble) (inr unfit) = no_report_comes trouble unfit

module _ {L S : Type 0} (files : Files L S) (before behind now : L) (old new : List ℕ) (both : ReadsBoth files before behind old new)
    (compared : Compared) (compares : ComparesTexts old new compared) where
  -- the flows of captures aren't told
  flowless_comes : (trouble : Trouble) → TellsNoFlows files behind now compared trouble → ReadsFlowless files before now trouble
  flowless_comes trouble flowless = record {
    old = old;
    new = new;
    behind = behind;
    both = both;
    compared = compared;
    compares = compares;
    flowless = flowless;
  }

  no_flows_come : (trouble : Trouble) → TellsNoFlows files behind now compared trouble → ComesToTrouble files before now trouble
  no_flows_come Usage flowless = absurd flowless.is_told
  no_flows_come (Unread told) flowless = absurd flowless.is_told
  no_flows_come (NoReport told line) flowless = absurd flowless.is_told
  no_flows_come (Script fault) flowless = absurd flowless.is_told
  no_flows_come (NoJournal told) flowless = absurd flowless.is_told
  no_flows_come (OtherScript told line script) flowless = absurd flowless.is_told
  no_flows_come (Captures was is_now) flowless = absurd flowless.is_told
  no_flows_come (Records capture was is_now) flowless = absurd flowless.is_told
  no_flows_come (Named told named) flowless = flowless_comes (Named told named) flowless
  no_flows_come (OtherRecords told records read) flowless = flowless_comes (OtherRecords told records read) flowless
  no_flows_come (Capture told at fault) flowless = flowless_comes (Capture told at fault) flowless
  no_flows_come OutOfMemory flowless = tt

  -- so where asking for them fails
  pub flows_come : (trouble : Trouble) → IsUnreadOrFlowless files behind now compared trouble → ComesToTrouble files before now trouble
  flows_come trouble (inl unread) = unread_comes files before now trouble unread
  flows_come trouble (inr flowless) = no_flows_come trouble flowless
