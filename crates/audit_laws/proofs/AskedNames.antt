-- What an evaluation asks for: names that have a number in its edition, and installs of its rules with limits in their
-- range.
use Rattle.std.proofs.Common.{◌≡◌, ◌&&◌, unwrap_or, Bool, true, ℕ, ◌+◌, ◌^◌, ◌≤◌, ◌<◌, arith, false, Option, Some, None, List, ◌∷◌, length, refl, subst}
use Rattle.std.specs.List.{AllByRecursion, position_or_len}
use Rattle.std.specs.Prelude.{⊤, IfSome}
use Rattle.eval_engine.proofs.Configured.{state_named}
use Rattle.eval_engine.specs.Encounter.{any_flow_of, body_state, looks_up, name_at, install_by, is_check_state, lookup_by, state_limit_of, state_of}
use Rattle.eval_engine.specs.Evaluated.{Evaluated}
use Rattle.eval_engine.specs.Evaluation.{evaluate}
use Rattle.eval_engine.specs.Question.{Question}
use Rattle.eval_engine.specs.Trace.{Seen, is_name_due}
use Rattle.eval_engine.specs.Walk.{lookup_flow}
use Rattle.evaluation_laws.proofs.Sound.{IsSuffix, from_suffix, rest_suffix, rules_at, runs_are_evaluations}
use Rattle.evaluation_laws.proofs.Total.{each_reaches}
use Rattle.evaluation_laws.specs.Runs.{Moment, Runs, BehindAll, IsDisabled, IsUnasked, IsUnanswered, IsFound, IsNotFound, IsMistaken, IsCheckState, IsUnheld, IsFlowless, IsStateless, IsWaiting, IsMade, IsThere, IsLimited, IsFull, IsMisread, IsDecided, IsCounted, IsChecked, IsSkipped, IsDeepest, IsEnded, IsReturned, IsOutside, IsWithin}
use Rattle.evaluation_laws.specs.Story.{Story}
use Rattle.report_texts.specs.JournalText.{flow_of_ask}
use Rattle.state_asks.specs.Asked.{asked_second}
use Rattle.fw_rule.specs.WellFormed.{HasBody, IsState}
use Rattle.fw_rule.specs.declared.action.Action.{Action}
use Rattle.fw_rule.specs.declared.action.Action.TheVariants.{Allow, Deny, Reset, Unreach, Count, SkipTo, Call, Return, CheckState}
use Rattle.fw_rule.specs.declared.body.Body.{Body}
use Rattle.fw_rule.specs.declared.rule.Rule.{Rule}
use Rattle.fw_rule.specs.declared.state_opt.StateOpt.{StateOpt}
use Rattle.fw_rule.specs.declared.state_opt.StateOpt.TheVariants.{Keep, Limit}
use Rattle.generation_store.specs.Jumps.{first_from}
use Rattle.generation_store.specs.Published.{is_identity, numbered_name}
use Rattle.ip6_headers.specs.Either.{any_tcp_flags_of}
use Rattle.packet_headers.specs.declared.flows.Flow.{Flow}
use Rattle.report_reading.specs.AskLines.{IsLimit}
use Rattle.rule_chain.specs.Chain.{IsConfiguration, IsRule}
use Rattle.rule_chain.specs.Names.{IsNamed, name_of, number_of_name, state_name}
use Rattle.state_asks.proofs.FewFlags.{few_flags}
use Rattle.state_asks.specs.Flags.{HasKeptFlags}
use Rattle.state_asks.specs.declared.op.FlowName.{FlowName}
use Rattle.state_asks.specs.declared.op.FlowName.TheVariants.{Any, Named}
use Rattle.state_asks.specs.declared.op.Op.{Op}
use Rattle.state_asks.specs.declared.op.Op.TheVariants.{Lookup, Install}
use Rattle.state_asks.specs.declared.reply.Reply.{Reply}
use Rattle.audit_laws.proofs.Lists.{both, all_behind}

-- a name has a number below this one, or is every name
abbrev pub IsBelow : ℕ → FlowName → Type 0
IsBelow most Any = ⊤
IsBelow most (Named number) = number < most

-- what an ask names is below this number, and an install's rule and limit are in their ranges
abbrev pub IsAskedBelow : ℕ → Op → Type 0
IsAskedBelow most (Lookup flags flow second name) = IsBelow most name
IsAskedBelow most (Install flags flow second rule limit name) = (name < most) × (rule.id < 2 ^ 32) × IsLimit limit × (rule.number ≤ 65535)

numbered_below : (names : List (List ℕ)) (name : Option (List ℕ)) → IfSome name (λ own. number_of_name names own < length names) → IsBelow (length names) (numbered_name names name)
numbered_below names None is = tt
numbered_below names (Some name) is = is

limit_in_range : (state : StateOpt) → IsState state → IsLimit (state_limit_of state)
limit_in_range (Keep name) is = tt
limit_in_range (Limit mask most name) is = (is.0.least_le, is.0.most_ge)

some_state : (P : StateOpt → Type 0) (o : Option StateOpt) (state : StateOpt) → o ≡ Some state → IfSome o P → P state
some_state P o state is each = subst (λ (other : Option StateOpt). IfSome other P) is each

-- the state option of a rule is in its ranges
state_in_range : (action : Action) (body : Option Body) (state : StateOpt) → HasBody action body → body_state body ≡ Some state → IsState state
state_in_range action None state has is = absurd (cc)
state_in_range Allow (Some body) state has is = some_state IsState body.state state is has.state
state_in_range Deny (Some body) state has is = some_state IsState body.state state is has.state
state_in_range Reset (Some body) state has is = some_state IsState body.state state is has.state
state_in_range (Unreach code) (Some body) state has is = some_state IsState body.state state is has.state
state_in_range Count (Some body) state has is = some_state IsState body.state state is has.state
state_in_range (SkipTo number) (Some body) state has is = some_state IsState body.state state is has.state
state_in_range (Call number) (Some body) state has is = some_state IsState body.state state is has.state
state_in_range Return (Some body) state has is = some_state IsState body.state state is has.state
state_in_range (CheckState name) (Some body) state has is = absurd has

-- an ask is for the packet's flow at its second, with the flags that states keep
pub record IsOfPacket (q : Question) (op : Op) : Type 0 where
  pub second : asked_second op ≡ q.second
  pub flow : any_flow_of q.packet ≡ Some (flow_of_ask op)
  pub flags : HasKeptFlags op

-- what is asked for is in its ranges, and for the packet
pub record IsAskedSo (q : Question) (op : Op) : Type 0 where
  pub below : IsAskedBelow (length q.edition.config.names) op
  pub packet : IsOfPacket q op

due_flow : (q : Question) (seen : Seen) (rule : Rule) (flow : Flow) (b : Bool) → (looks_up rule && is_name_due seen (name_at q rule)) ≡ b → lookup_flow q seen rule ≡ Some flow → any_flow_of q.packet ≡ Some flow
due_flow q seen rule flow true due is = rw due at is
due_flow q seen rule flow false due is = let none : ◌≡◌ {A = Option Flow} None (Some flow) = rw due at is in absurd (cc)

module _ (q : Question) (lawful : IsConfiguration q.edition.config) where
  -- what is asked for is in its ranges
  Asks : Op → Type 0
  Asks op = IsAskedSo q op

  of_rule : (P : Rule → Type 0) (rule : Rule) (rest : List Rule) → IsSuffix q.edition.config.rules (rule ∷ rest) → AllByRecursion P q.edition.config.rules → P rule
  of_rule P rule rest suffix every = (subst (λ (rules : List Rule). AllByRecursion P rules) suffix.is (all_behind P suffix.place q.edition.config.rules every)).0

  looks : (seen : Seen) (rule : Rule) (rest : List Rule) (flow : Flow) → IsSuffix q.edition.config.rules (rule ∷ rest) → lookup_flow q seen rule ≡ Some flow → Asks (lookup_by q rule flow)
  unfolding Asks
  looks seen rule rest flow suffix due = record {
    below = numbered_below q.edition.config.names (name_of rule.action rule.body) (of_rule (IsNamed q.edition.config.names) rule rest suffix lawful.named);
    packet = record { second = refl; flow = due_flow q seen rule flow (looks_up rule && is_name_due seen (name_at q rule)) refl due; flags = few_flags (unwrap_or (any_tcp_flags_of q.packet) 0) };
  }

  makes : (rule : Rule) (rest : List Rule) (state : StateOpt) (flow : Flow) → IsSuffix q.edition.config.rules (rule ∷ rest) → is_check_state rule.action ≡ false → state_of rule ≡ Some state
      → any_flow_of q.packet ≡ Some flow → Asks (install_by q rule state flow)
  unfolding Asks
  makes rule rest state flow suffix plain made there =
      let known : IsRule q.edition.config.greatest_id q.edition.config.greatest_counter rule =
      of_rule (IsRule q.edition.config.greatest_id q.edition.config.greatest_counter) rule rest suffix lawful.rules in
      let id = known.id in
      let ids = lawful.ids in
      let counters = lawful.counters in
      let name : number_of_name q.edition.config.names (state_name state) < length q.edition.config.names =
      subst (λ (name : FlowName). IsBelow (length q.edition.config.names) name) (state_named q.edition.config.names rule.action rule.body state plain made)
      (numbered_below q.edition.config.names (name_of rule.action rule.body) (of_rule (IsNamed q.edition.config.names) rule rest suffix lawful.named)) in
      record {
        below = (name, omega (arith, id, ids, counters), limit_in_range state (state_in_range rule.action rule.body state known.body made), known.number.most_ge);
        packet = record { second = refl; flow = there; flags = few_flags (unwrap_or (any_tcp_flags_of q.packet) 0) };
      }

  asks_named : {depth : ℕ} {seen : _} {moment : Moment} {replies : List Reply} {story : Story} → Runs q depth seen moment replies story
      → IsSuffix q.edition.config.rules (rules_at moment) → AllByRecursion Asks story.asks
  asks_named (BehindAll depth seen replies) = λ suffix. tt
  asks_named (IsDisabled depth seen rule rest replies story disabled on) = λ suffix. asks_named on (rest_suffix q.edition.config.rules rule rest suffix)
  asks_named (IsUnasked depth seen rule rest replies story enabled undue on) = λ suffix. asks_named on suffix
  asks_named (IsUnanswered depth seen rule rest flow enabled due) = λ suffix. (looks seen rule rest flow suffix due, tt)
  asks_named (IsFound depth seen rule rest flow maker way found after replies story enabled due fits there on) = λ suffix.
      (looks seen rule rest flow suffix due, asks_named on (record { place = position_or_len (is_identity maker.id) q.edition.config.rules; is = there }))
  asks_named (IsNotFound depth seen rule rest flow replies story enabled due on) = λ suffix. (looks seen rule rest flow suffix due, asks_named on suffix)
  asks_named (IsMistaken depth seen rule rest flow reply replies enabled due unfit) = λ suffix. (looks seen rule rest flow suffix due, tt)
  asks_named (IsCheckState depth seen rule rest replies story check on) = λ suffix. asks_named on (rest_suffix q.edition.config.rules rule rest suffix)
  asks_named (IsUnheld depth seen rule rest replies story plain unheld on) = λ suffix. asks_named on (rest_suffix q.edition.config.rules rule rest suffix)
  asks_named (IsFlowless depth seen rule rest state replies story plain held made none on) = λ suffix. asks_named on (rest_suffix q.edition.config.rules rule rest suffix)
  asks_named (IsStateless depth seen rule rest replies story plain held made on) = λ suffix. asks_named on suffix
  asks_named (IsWaiting depth seen rule rest state flow plain held made is) = λ suffix. (makes rule rest state flow suffix plain made is, tt)
  asks_named (IsMade depth seen rule rest state flow replies story plain held made is on) = λ suffix. (makes rule rest state flow suffix plain made is, asks_named on suffix)
  asks_named (IsThere depth seen rule rest state flow replies story plain held made is on) = λ suffix. (makes rule rest state flow suffix plain made is, asks_named on suffix)
  asks_named (IsLimited depth seen rule rest state flow count replies plain held made is) = λ suffix. (makes rule rest state flow suffix plain made is, tt)
  asks_named (IsFull depth seen rule rest state flow count replies plain held made is) = λ suffix. (makes rule rest state flow suffix plain made is, tt)
  asks_named (IsMisread depth seen rule rest state flow reply replies plain held made is unfit) = λ suffix. (makes rule rest state flow suffix plain made is, tt)
  asks_named (IsDecided depth seen rule rest verdict replies decided) = λ suffix. tt
  asks_named (IsCounted depth seen rule rest replies story is on) = λ suffix. asks_named on (rest_suffix q.edition.config.rules rule rest suffix)
  asks_named (IsChecked depth seen rule rest name replies story is on) = λ suffix. asks_named on (rest_suffix q.edition.config.rules rule rest suffix)
  asks_named (IsSkipped depth seen rule rest number replies story is on) = λ suffix.
      asks_named on (from_suffix q.edition.config.rules rest number (rest_suffix q.edition.config.rules rule rest suffix))
  asks_named (IsDeepest depth seen rule rest number replies story is full on) = λ suffix. asks_named on (rest_suffix q.edition.config.rules rule rest suffix)
  asks_named (IsEnded depth seen rule rest number replies inner is lt on last) = λ suffix. asks_named on (record { place = first_from number q.edition.config.rules; is = refl })
  asks_named (IsReturned depth seen rule rest number replies inner later left story is lt on returned then_on) = λ suffix.
      both Asks inner.asks story.asks (asks_named on (record { place = first_from number q.edition.config.rules; is = refl }))
      (asks_named then_on (record { place = first_from (rule.number + 1) q.edition.config.rules; is = refl }))
  asks_named (IsOutside seen rule rest replies story is on) = λ suffix. asks_named on (rest_suffix q.edition.config.rules rule rest suffix)
  asks_named (IsWithin depth seen rule rest replies is) = λ suffix. tt

  all_asks : (replies : List Reply) → AllByRecursion Asks (evaluate q replies).asks
  all_asks replies =
      let reached = each_reaches q replies lawful.ordered in
      let told = runs_are_evaluations q replies reached.story lawful.ordered reached.runs in
      subst (λ (e : Evaluated). AllByRecursion Asks e.asks) told (asks_named reached.runs (record { place = 0; is = refl }))

-- each ask of an evaluation is for a name of its edition, and in its ranges
pub asked_names : (q : Question) (replies : List Reply) → IsConfiguration q.edition.config → AllByRecursion (IsAskedSo q) (evaluate q replies).asks
unfolding Asks
asked_names q replies lawful = all_asks q lawful replies
