-- The states that a lawful journal leaves, and the replies that they give, are in the ranges of their lines, where its
-- installs are.
use Rattle.std.proofs.Common.{◌≡◌, ℕ, suc, ◌+◌, ◌^◌, ◌≤◌, ◌<◌, Bool, true, false, Option, Some, None, List, [], ◌∷◌, ◌++◌, length, map, refl, sym, ap, subst, inl, inr, arith, length-append}
use Rattle.std.specs.List.{filter, find, list_any, AllByRecursion}
use Rattle.std.specs.Prelude.{⊤, IfSome, nat_le}
use Rattle.std.proofs.lemmas.Bool.{cases_Bool}
use Rattle.std.proofs.lemmas.Bool.Decides.{nat_tests}
use Rattle.std.proofs.lemmas.List.{length-map}
use Rattle.std.proofs.lemmas.List.Sums.{count_by-le-length}
use Rattle.dyn_states.specs.Flows.{way_of}
use Rattle.dyn_states.specs.StateObject.{StateObject, after_ask, after_install, after_lookup, after_publication, considers, counts_for, found_reply, full_reply, handed_over, has_rule_among, install_reply, is_created, is_live, limit_count, limit_reply, lookup_reply, new_state, object_at_second, or_full, reply_of, state_after_lookup, states_after, with_first}
use Rattle.dyn_states.specs.declared.state.State.{State}
use Rattle.fw_rule.specs.declared.state_opt.LimitMask.{LimitMask}
use Rattle.packet_headers.specs.declared.flows.Flow.{Flow}
use Rattle.report_reading.specs.AskLines.{IsReply}
use Rattle.rule_edits.proofs.Lists.{length-filter_le}
use Rattle.state_asks.specs.declared.facts.Facts.{Facts}
use Rattle.state_asks.specs.declared.op.FlowName.{FlowName}
use Rattle.state_asks.specs.declared.op.FlowName.TheVariants.{Named}
use Rattle.state_asks.specs.declared.op.Op.{Op}
use Rattle.state_asks.specs.declared.op.Op.TheVariants.{Lookup, Install}
use Rattle.state_asks.specs.declared.reply.Reply.{Reply}
use Rattle.state_asks.specs.declared.reply.Reply.TheVariants.{Found, NotFound, Created, Exists, LimitReached, TableFull}
use Rattle.state_asks.specs.declared.reply.Way.{Way}
use Rattle.state_asks.specs.declared.reply.Way.TheVariants.{Forward, Reverse}
use Rattle.state_asks.specs.declared.rule_ref.RuleRef.{RuleRef}
use Rattle.state_journal.specs.Journal.{IsLawfulFrom, object_after_publication, object_from}
use Rattle.state_journal.specs.declared.entry.Entry.{Entry}
use Rattle.state_journal.specs.declared.entry.Entry.TheVariants.{Publish, Ask}
use Rattle.audit_laws.proofs.Configs.{of_found}
use Rattle.audit_laws.proofs.Lists.{both}

-- a rule's identity and number
pub record IsRefInRange (rule : RuleRef) : Type 0 where
  pub id : rule.id < 2 ^ 32
  pub number : rule.number ≤ 65535

-- the rule of a state
abbrev pub IsStateInRange : State → Type 0
IsStateInRange state = IsRefInRange state.rule

-- the rule of an install
abbrev pub IsOpInRange : Op → Type 0
IsOpInRange (Lookup flags flow second name) = ⊤
IsOpInRange (Install flags flow second rule limit name) = IsRefInRange rule

-- so it is with an entry that is an ask
abbrev pub IsAskedInRange : Entry → Type 0
IsAskedInRange (Publish number) = ⊤
IsAskedInRange (Ask lane op reply at) = IsOpInRange op

-- an ask of the journal is answered in the ranges of its line
abbrev pub IsAnswered : Entry → Type 0
IsAnswered (Publish number) = ⊤
IsAnswered (Ask lane op reply at) = IsReply reply

-- The states' rules are in their ranges, and there are never more than the most that a setting allows.
pub record IsObjectInRange (object : StateObject) : Type 0 where
  pub states : AllByRecursion IsStateInRange object.states
  pub few : length object.states ≤ 65536
  pub most : object.settings.max ≤ 65536

-- ---- lists of states

filtered : {X : Type 0} (P : X → Type 0) (test : X → Bool) (xs : List X) → AllByRecursion P xs → AllByRecursion P (filter test xs)
filtered P test [] all = tt
filtered P test (x ∷ xs) all = elim (cases_Bool (test x)) [
  | inl passes ↦ rw passes (all.0, filtered P test xs all.1)
  | inr fails ↦ rw fails (filtered P test xs all.1)
]

changed : {X : Type 0} (P : X → Type 0) (change : X → X) (xs : List X) → ((x : X) → P x → P (change x)) → AllByRecursion P xs → AllByRecursion P (map change xs)
changed P change [] keeps all = tt
changed P change (x ∷ xs) keeps all = (keeps x all.0, changed P change xs keeps all.1)

first_changed : (test : State → Bool) (change : State → State) (states : List State) → ((s : State) → IsStateInRange s → IsStateInRange (change s)) → AllByRecursion IsStateInRange states
    → AllByRecursion IsStateInRange (with_first test change states)
unfolding with_first
first_changed test change [] keeps all = tt
first_changed test change (s ∷ states) keeps all = elim (cases_Bool (test s)) [
  | inl passes ↦ rw passes (keeps s all.0, all.1)
  | inr fails ↦ rw fails (all.0, first_changed test change states keeps all.1)
]

first_counted : (test : State → Bool) (change : State → State) (states : List State) → length (with_first test change states) ≡ length states
unfolding with_first
first_counted test change [] = refl
first_counted test change (s ∷ states) = elim (cases_Bool (test s)) [
  | inl passes ↦ rw passes refl
  | inr fails ↦ rw fails (ap suc (first_counted test change states))
]

-- ---- what an ask and a publication leave

at_second : (object : StateObject) (second : ℕ) → IsObjectInRange object → IsObjectInRange (object_at_second object second)
unfolding object_at_second
at_second object second is =
    let few = is.few in
    let fewer = length-filter_le (is_live (object_at_second object second).clock) object.states in
    record {
      states = filtered IsStateInRange (is_live (object_at_second object second).clock) object.states is.states;
      few = omega (arith, few, fewer);
      most = is.most;
    }

seen_more : (object : StateObject) (flow : Flow) (flags : ℕ) (way : Way) (s : State) → way_of s.flow flow ≡ way → IsStateInRange s → IsStateInRange (state_after_lookup object flow flags s)
seen_more object flow flags Forward s is range = rw is range
seen_more object flow flags Reverse s is range = rw is range

looked_up : (object : StateObject) (flow : Flow) (flags : ℕ) (name : FlowName) → IsObjectInRange object → IsObjectInRange (after_lookup object flow flags name)
unfolding after_lookup
looked_up object flow flags name is =
    let few = is.few in
    let same = first_counted (considers flow name) (state_after_lookup object flow flags) object.states in
    record {
      states = first_changed (considers flow name) (state_after_lookup object flow flags) object.states (λ s range. seen_more object flow flags (way_of s.flow flow) s refl range) is.states;
      few = omega (arith, few, same);
      most = is.most;
    }

full_below : (object : StateObject) → full_reply object ≡ Created → length object.states < object.settings.max
full_below object is = elim (cases_Bool (nat_le object.settings.max (length object.states))) [
  | inl full ↦ let no : TableFull (length object.states) ≡ Created = rw full at is in absurd (cc)
  | inr room ↦ grind (arith, nat_tests, room)
]

made_below : (object : StateObject) (flow : Flow) (rule : RuleRef) (limit : Option (LimitMask × ℕ)) (reply : Option Reply) → limit_reply object rule limit flow ≡ reply → or_full object reply ≡ Created
    → length object.states < object.settings.max
made_below object flow rule limit None limited is = full_below object is
made_below object flow rule None (Some reply) limited is = absurd (cc)
made_below object flow rule (Some most) (Some reply) limited is = elim (cases_Bool (nat_le most.1 (limit_count object rule most.0 flow))) [
  | inl over ↦
      let given : Some (LimitReached (limit_count object rule most.0 flow)) ≡ Some reply = rw over at limited in
      let no : LimitReached (limit_count object rule most.0 flow) ≡ Created = cc in
      absurd (cc)
  | inr under ↦ let none : ◌≡◌ {A = Option Reply} None (Some reply) = rw under at limited in absurd (cc)
]

created_below : (object : StateObject) (flow : Flow) (rule : RuleRef) (limit : Option (LimitMask × ℕ)) (name : ℕ) → is_created (install_reply object flow rule limit name) ≡ true
    → length object.states < object.settings.max
unfolding install_reply
created_below object flow rule limit name made = elim (cases_Bool (list_any (considers flow (Named name)) object.states)) [
  | inl there ↦ let no : false ≡ true = rw there at made in absurd (cc)
  | inr none ↦
      let created : is_created (or_full object (limit_reply object rule limit flow)) ≡ true = rw none at made in
      made_below object flow rule limit (limit_reply object rule limit flow) refl (is_made (or_full object (limit_reply object rule limit flow)) created)
]
  where
    is_made : (reply : Reply) → is_created reply ≡ true → reply ≡ Created
    is_made (Found way maker) is = absurd (cc)
    is_made NotFound is = absurd (cc)
    is_made Created is = refl
    is_made Exists is = absurd (cc)
    is_made (LimitReached count) is = absurd (cc)
    is_made (TableFull count) is = absurd (cc)

installed : (object : StateObject) (flow : Flow) (flags : ℕ) (rule : RuleRef) (limit : Option (LimitMask × ℕ)) (name : ℕ) → IsObjectInRange object → IsRefInRange rule
    → IsObjectInRange (after_install object flow flags rule limit name)
unfolding after_install
installed object flow flags rule limit name is range = elim (cases_Bool (is_created (install_reply object flow rule limit name))) [
  | inl made ↦
      let below = created_below object flow rule limit name made in
      let most = is.most in
      let longer : length (object.states ++ new_state object flow flags rule limit name ∷ []) ≡ length object.states + 1 = length-append object.states (new_state object flow flags rule limit name ∷ []) in
      let after : IsObjectInRange (record object { states = object.states ++ new_state object flow flags rule limit name ∷ [] }) = record {
        states = both IsStateInRange object.states (new_state object flow flags rule limit name ∷ []) is.states (range, tt);
        few = omega (arith, below, most, longer);
        most = is.most;
      } in
      rw made after
  | inr none ↦ rw none is
]

asked : (object : StateObject) (op : Op) → IsObjectInRange object → IsOpInRange op → IsObjectInRange (after_ask object op)
asked object (Lookup flags flow second name) is range = looked_up (object_at_second object second) flow flags name (at_second object second is)
asked object (Install flags flow second rule limit name) is range = installed (object_at_second object second) flow flags rule limit name (at_second object second is) range

handed : (rules : List ℕ) (s : State) → IsStateInRange s → IsStateInRange (handed_over rules s)
handed rules s range = elim (cases_Bool (has_rule_among rules s)) [
  | inl there ↦ rw there range
  | inr gone ↦ rw gone (record { id = omega arith; number = omega arith })
]

kept_states : (keep : Bool) (rules : List ℕ) (states : List State) → AllByRecursion IsStateInRange states → AllByRecursion IsStateInRange (states_after keep rules states)
kept_states true rules states all = changed IsStateInRange (handed_over rules) states (handed rules) all
kept_states false rules states all = filtered IsStateInRange (has_rule_among rules) states all

kept_few : (keep : Bool) (rules : List ℕ) (states : List State) → length (states_after keep rules states) ≤ length states
kept_few true rules states = let same = length-map states (handed_over rules) in omega (arith, same)
kept_few false rules states = length-filter_le (has_rule_among rules) states

published : (object : StateObject) (facts : Facts) → IsObjectInRange object → IsObjectInRange (object_after_publication object facts)
unfolding after_publication
published object facts is =
    let few = is.few in
    let fewer = kept_few facts.settings.keep facts.rules object.states in
    record {
      states = kept_states facts.settings.keep facts.rules object.states is.states;
      few = omega (arith, few, fewer);
      most = facts.settings.max_in_range.most;
    }

-- ---- replies

found_in_range : (flow : Flow) (found : Option State) → IfSome found IsStateInRange → IsReply (found_reply flow found)
found_in_range flow None range = tt
found_in_range flow (Some s) range = range.id

full_in_range : (object : StateObject) → IsObjectInRange object → IsReply (full_reply object)
full_in_range object is = elim (cases_Bool (nat_le object.settings.max (length object.states))) [
  | inl full ↦
      let few = is.few in
      let small : length object.states < 2 ^ 32 = omega (arith, few) in
      rw full small
  | inr room ↦ rw room tt
]

limited_in_range : (object : StateObject) (rule : RuleRef) (limit : Option (LimitMask × ℕ)) (flow : Flow) → IsObjectInRange object → IsReply (or_full object (limit_reply object rule limit flow))
unfolding limit_count
limited_in_range object rule None flow is = full_in_range object is
limited_in_range object rule (Some most) flow is = elim (cases_Bool (nat_le most.1 (limit_count object rule most.0 flow))) [
  | inl over ↦
      let few = is.few in
      let counted = count_by-le-length (counts_for rule most.0 flow) object.states in
      let small : limit_count object rule most.0 flow < 2 ^ 32 = omega (arith, few, counted) in
      rw over small
  | inr under ↦ rw under (full_in_range object is)
]

install_in_range : (object : StateObject) (flow : Flow) (rule : RuleRef) (limit : Option (LimitMask × ℕ)) (name : ℕ) → IsObjectInRange object → IsReply (install_reply object flow rule limit name)
unfolding install_reply
install_in_range object flow rule limit name is = elim (cases_Bool (list_any (considers flow (Named name)) object.states)) [
  | inl there ↦ rw there tt
  | inr none ↦ rw none (limited_in_range object rule limit flow is)
]

reply_in_range : (object : StateObject) (op : Op) → IsObjectInRange object → IsReply (reply_of object op)
unfolding lookup_reply
reply_in_range object (Lookup flags flow second name) is =
    let now = at_second object second is in
    found_in_range flow (find (considers flow name) (object_at_second object second).states) (of_found IsStateInRange (considers flow name) (object_at_second object second).states now.states)
reply_in_range object (Install flags flow second rule limit name) is = install_in_range (object_at_second object second) flow rule limit name (at_second object second is)

-- ---- a journal

-- the replies of a lawful journal
pub answers_in_range : (object : StateObject) (facts : List Facts) (entries : List Entry) → IsObjectInRange object → IsLawfulFrom object facts entries → AllByRecursion IsAskedInRange entries
    → AllByRecursion IsAnswered entries
answers_in_range object facts [] is lawful all = tt
answers_in_range object [] (Publish number ∷ entries) is lawful all = absurd lawful
answers_in_range object (next ∷ facts) (Publish number ∷ entries) is lawful all = (tt, answers_in_range (object_after_publication object next) facts entries (published object next is) lawful.1 all.1)
answers_in_range object [] (Ask lane op reply at ∷ entries) is lawful all =
    (subst IsReply (sym lawful.0) (reply_in_range object op is), answers_in_range (after_ask object op) [] entries (asked object op is all.0) lawful.1 all.1)
answers_in_range object (next ∷ facts) (Ask lane op reply at ∷ entries) is lawful all =
    (subst IsReply (sym lawful.0) (reply_in_range object op is), answers_in_range (after_ask object op) (next ∷ facts) entries (asked object op is all.0) lawful.1 all.1)

-- the states that it leaves
pub object_in_range : (object : StateObject) (facts : List Facts) (entries : List Entry) → IsObjectInRange object → IsLawfulFrom object facts entries → AllByRecursion IsAskedInRange entries
    → IsObjectInRange (object_from object facts entries)
object_in_range object facts [] is lawful all = is
object_in_range object [] (Publish number ∷ entries) is lawful all = absurd lawful
object_in_range object (next ∷ facts) (Publish number ∷ entries) is lawful all = object_in_range (object_after_publication object next) facts entries (published object next is) lawful.1 all.1
object_in_range object [] (Ask lane op reply at ∷ entries) is lawful all = object_in_range (after_ask object op) [] entries (asked object op is all.0) lawful.1 all.1
object_in_range object (next ∷ facts) (Ask lane op reply at ∷ entries) is lawful all = object_in_range (after_ask object op) (next ∷ facts) entries (asked object op is all.0) lawful.1 all.1
