-- The replies of the state object fit their asks.
use Rattle.std.proofs.Common.{◌≡◌, ℕ, Bool, true, false, List, length, Option, Some, None, cond, refl, sym, subst, ◌∙◌}
use Rattle.std.specs.Prelude.{nat_le, ⊤}
use Rattle.std.specs.List.{list_any}
use Rattle.packet_headers.specs.declared.flows.Flow.{Flow}
use Rattle.state_asks.specs.RuleLists.{has_id}
use Rattle.state_asks.specs.declared.op.FlowName.{FlowName}
use Rattle.state_asks.specs.declared.op.FlowName.TheVariants.{Named}
use Rattle.state_asks.specs.declared.op.Op.{Op}
use Rattle.state_asks.specs.declared.op.Op.TheVariants.{Lookup, Install}
use Rattle.state_asks.specs.declared.reply.Reply.{Reply}
use Rattle.state_asks.specs.declared.reply.Reply.TheVariants.{Found, NotFound, Created, Exists, LimitReached, TableFull}
use Rattle.dyn_states.specs.declared.state.State.{State}
use Rattle.dyn_states.specs.StateObject.{StateObject, found_reply, lookup_reply, install_reply, or_full, full_reply, limit_reply, limit_count, considers, reply_of, object_at_second}
use Rattle.eval_engine.specs.Standing.{is_reply_to, InstallsRuleOf}
use Rattle.fw_rule.specs.declared.rule.Rule.{Rule}
use Rattle.generation_store.specs.Published.{has_identity}
use Rattle.state_journal.specs.Journal.{NamesRuleOf, IsFoundOf}

-- a reply to a lookup, or one to an install
abbrev pub Answers : Op → Reply → Type 0
Answers (Lookup flags flow second name) (Found way rule) = ⊤
Answers (Lookup flags flow second name) NotFound = ⊤
Answers (Lookup flags flow second name) Created = ⊥
Answers (Lookup flags flow second name) Exists = ⊥
Answers (Lookup flags flow second name) (LimitReached count) = ⊥
Answers (Lookup flags flow second name) (TableFull count) = ⊥
Answers (Install flags flow second rule limit name) (Found way found) = ⊥
Answers (Install flags flow second rule limit name) NotFound = ⊥
Answers (Install flags flow second rule limit name) Created = ⊤
Answers (Install flags flow second rule limit name) Exists = ⊤
Answers (Install flags flow second rule limit name) (LimitReached count) = ⊤
Answers (Install flags flow second rule limit name) (TableFull count) = ⊤

found_answers : (flow asked : Flow) (flags second : ℕ) (name : FlowName) (s : Option State) → Answers (Lookup flags asked second name) (found_reply flow s)
found_answers flow asked flags second name None = tt
found_answers flow asked flags second name (Some s) = tt

full_answers : (op : Op) (o : StateObject) (b : Bool) (count : ℕ) → Answers op (TableFull count) → Answers op Created → Answers op (cond b (TableFull count) Created)
full_answers op o true count full created = full
full_answers op o false count full created = created

limit_answers : (op : Op) (o : StateObject) (b : Bool) (count : ℕ) → Answers op (LimitReached count) → Answers op (full_reply o) → Answers op (or_full o (cond b (Some (LimitReached count)) None))
limit_answers op o true count limit full = limit
limit_answers op o false count limit full = full

exists_answers : (op : Op) (b : Bool) (r : Reply) → Answers op Exists → Answers op r → Answers op (cond b Exists r)
exists_answers op true r exists other = exists
exists_answers op false r exists other = other

-- what the state object replies is a reply to the ask
pub reply_answers : (o : StateObject) (op : Op) → Answers op (reply_of o op)
unfolding lookup_reply install_reply
reply_answers o (Lookup flags flow second name) = found_answers flow flow flags second name _
reply_answers o (Install flags flow second rule None name) =
    let op = Install flags flow second rule None name in
    let now = object_at_second o second in
    exists_answers op (list_any (considers flow (Named name)) now.states) (full_reply now) tt (full_answers op now (nat_le now.settings.max (length now.states)) (length now.states) tt tt)
reply_answers o (Install flags flow second rule (Some limit) name) =
    let op = Install flags flow second rule (Some limit) name in
    let now = object_at_second o second in
    let count = limit_count now rule limit.0 flow in
    exists_answers op (list_any (considers flow (Named name)) now.states) (or_full now (limit_reply now rule (Some limit) flow)) tt
    (limit_answers op now (nat_le limit.1 count) count tt (full_answers op now (nat_le now.settings.max (length now.states)) (length now.states) tt tt))

-- it fits an evaluation, where the state's rule is one of the list
pub is_reply : (rules : List ℕ) (all : List Rule) (op : Op) (reply : Reply) → ((id : ℕ) → has_id rules id ≡ has_identity all id) → Answers op reply → IsFoundOf rules reply → is_reply_to all op reply ≡ true
is_reply rules all (Lookup flags flow second name) (Found way rule) same answers found = sym (same rule.id) ∙ found
is_reply rules all (Lookup flags flow second name) NotFound same answers found = refl
is_reply rules all (Lookup flags flow second name) Created same answers found = absurd answers
is_reply rules all (Lookup flags flow second name) Exists same answers found = absurd answers
is_reply rules all (Lookup flags flow second name) (LimitReached count) same answers found = absurd answers
is_reply rules all (Lookup flags flow second name) (TableFull count) same answers found = absurd answers
is_reply rules all (Install flags flow second rule limit name) (Found way other) same answers found = absurd answers
is_reply rules all (Install flags flow second rule limit name) NotFound same answers found = absurd answers
is_reply rules all (Install flags flow second rule limit name) Created same answers found = refl
is_reply rules all (Install flags flow second rule limit name) Exists same answers found = refl
is_reply rules all (Install flags flow second rule limit name) (LimitReached count) same answers found = refl
is_reply rules all (Install flags flow second rule limit name) (TableFull count) same answers found = refl

-- an install of an evaluation names a rule of the last publication
pub names_rule : (rules : List ℕ) (all : List Rule) (op : Op) → ((id : ℕ) → has_id rules id ≡ has_identity all id) → InstallsRuleOf all op → NamesRuleOf rules op
names_rule rules all (Lookup flags flow second name) same installs = tt
names_rule rules all (Install flags flow second rule limit name) same installs = same rule.id ∙ installs

-- what the state object replies fits an evaluation, where a state that was found has a rule of the list
pub reply_fits : (o : StateObject) (rules : List ℕ) (all : List Rule) (op : Op) (reply : Reply) → ((id : ℕ) → has_id rules id ≡ has_identity all id) → reply ≡ reply_of o op → IsFoundOf rules reply → is_reply_to all op reply ≡ true
reply_fits o rules all op reply same is found = is_reply rules all op reply same (subst (λ (r : Reply). Answers op r) (sym is) (reply_answers o op)) found
