-- From each moment of a run on, what is entered until its end is lawful.
use Rattle.std.proofs.Common.{◌≡◌, ℕ, ◌+◌, List, [], ◌∷◌, ◌++◌, length, inl, inr, refl, sym, ap, ◌∙◌, subst, arith, append_assoc, append-nil}
use Rattle.std.proofs.lemmas.List.{append_cancel_left}
use Rattle.std.specs.Prelude.{Option, Some, None, slice_get}
use Rattle.fw_base.specs.declared.port.Port.{Port}
use Rattle.counter_book.specs.declared.tally.Count.{Count}
use Rattle.dyn_states.specs.StateObject.{StateObject, reply_of, after_ask}
use Rattle.state_asks.specs.declared.facts.Facts.{Facts}
use Rattle.state_asks.specs.declared.op.Op.{Op}
use Rattle.state_asks.specs.declared.reply.Reply.{Reply}
use Rattle.eval_engine.specs.Evaluation.{evaluate}
use Rattle.eval_engine.specs.Question.{question_under}
use Rattle.eval_engine.specs.declared.judgement.Judgement.{Judgement}
use Rattle.fw_rule.specs.declared.command.Command.{Command}
use Rattle.fw_world.specs.Inputs.{Input, Other, Malformed, Packet}
use Rattle.fw_world.specs.Publications.{IsLawful, facts_of}
use Rattle.serial_world.specs.Steps.{Judges, Publishes}
use Rattle.fw_world.specs.Asks.{with_asks}
use Rattle.fw_world.specs.World.{WorldValue}
use Rattle.generation_store.specs.Published.{Published}
use Rattle.ip6_headers.specs.declared.any_ip.AnyIp.{AnyIp}
use Rattle.rule_chain.specs.Configuration.{Configuration}
use Rattle.capture_tracks.specs.Commands.{Listing, listing_of}
use Rattle.serial_replay.specs.Events.{RunState, ReplaysInput, RunsLine, ReplaysTurn, ReplaysEvent, ReplaysAll}
use Rattle.capture_tracks.specs.Reading.{Origin, input_of}
use Rattle.serial_replay.specs.Replay.{IsFirstState}
use Rattle.serial_schedule.specs.Order.{Turn}
use Rattle.serial_schedule.specs.Schedule.{Event, Ran, Taken}
use Rattle.state_journal.specs.Journal.{Journal, IsLawfulFrom, no_states, with_ask}
use Rattle.state_journal.specs.declared.entry.Entry.{Entry}
use Rattle.state_journal.specs.declared.entry.Entry.TheVariants.{Publish, Ask}
use Rattle.record_laws.proofs.OneEvaluation.{AnswersInTurn}

-- ---- worlds that grow

-- The world has become this one: these editions were published, and these entries made.
pub record GrowsTo (old new : WorldValue) : Type 0 where
  pub more : List Published
  pub entries : List Entry
  pub grown : new.editions ≡ old.editions ++ more
  pub entered : new.journal.entries ≡ old.journal.entries ++ entries

grows_same : (old new : WorldValue) → new ≡ old → GrowsTo old new
grows_same old new same = record {
  more = [];
  entries = [];
  grown = ap (λ (w : WorldValue). w.editions) same ∙ sym (append-nil old.editions);
  entered = ap (λ (w : WorldValue). w.journal.entries) same ∙ sym (append-nil old.journal.entries);
}

grows_twice : (a b c : WorldValue) → GrowsTo a b → GrowsTo b c → GrowsTo a c
grows_twice a b c first second = record {
  more = first.more ++ second.more;
  entries = first.entries ++ second.entries;
  grown = second.grown ∙ ap (λ (l : List Published). l ++ second.more) first.grown ∙ append_assoc a.editions first.more second.more;
  entered = second.entered ∙ ap (λ (l : List Entry). l ++ second.entries) first.entered ∙ append_assoc a.journal.entries first.entries second.entries;
}

-- the entries of these asks of one record
abbrev ask_entries : ℕ → ℕ → List Op → List Reply → List Entry
ask_entries lane at [] replies = []
ask_entries lane at (op ∷ ops) [] = []
ask_entries lane at (op ∷ ops) (reply ∷ replies) = Ask lane op reply at ∷ ask_entries lane at ops replies

asks_entered : (j : Journal) (lane at : ℕ) (ops : List Op) (replies : List Reply) → (with_asks j lane at ops replies).entries ≡ j.entries ++ ask_entries lane at ops replies
asks_entered j lane at [] replies = sym (append-nil j.entries)
asks_entered j lane at (op ∷ ops) [] = sym (append-nil j.entries)
asks_entered j lane at (op ∷ ops) (reply ∷ replies) =
    asks_entered (with_ask j lane at op reply) lane at ops replies ∙ append_assoc j.entries (Ask lane op reply at ∷ []) (ask_entries lane at ops replies)

module _ (old new : WorldValue) (lane at : ℕ) (packet : AnyIp) (port : Port) (second : ℕ) (counts after : List Count) (judgement : Judgement)
    (judges : Judges old new lane at packet port second counts after judgement) where
  -- what the packet asked
  abbrev pub judged_asks : List Op
  judged_asks = (evaluate (question_under judges.edition packet port second) judges.replies).asks

  judged_entered : new.journal.entries ≡ old.journal.entries ++ ask_entries lane at judged_asks judges.replies
  judged_entered = ap (λ (j : Journal). j.entries) judges.entered ∙ asks_entered old.journal lane at judged_asks judges.replies

  judged_editions_stay : new.editions ≡ old.editions ++ []
  judged_editions_stay = judges.editions ∙ sym (append-nil old.editions)

  grows_judged : GrowsTo old new
  grows_judged = record { more = []; entries = ask_entries lane at judged_asks judges.replies; grown = judged_editions_stay; entered = judged_entered }

grows_publication : (old new : WorldValue) (command : Command) → Publishes old new command → GrowsTo old new
grows_publication old new command p = record {
  more = p.edition ∷ [];
  entries = Publish p.edition.facts.number ∷ [];
  grown = p.editions;
  entered = ap (λ (j : Journal). j.entries) p.journal;
}

grows_input : (place : ℕ) (old new : RunState) (input : Input) → ReplaysInput place old new input → GrowsTo old.world new.world
grows_input place old new Other replays = grows_same old.world new.world replays.world
grows_input place old new (Malformed kind) replays = grows_same old.world new.world replays.world
grows_input place old new (Packet packet port second) replays =
    grows_judged old.world new.world replays.lane.place (length replays.lane.docket.entries + 1) packet port second replays.lane.tally replays.tally replays.judgement replays.judges

grows_line : (old new : RunState) (command : Command) (listing : Option Listing) → RunsLine old new command listing → GrowsTo old.world new.world
grows_line old new command None (inl published) = grows_publication old.world new.world command published.1
grows_line old new command None (inr refused) = grows_same old.world new.world (ap (λ (s : RunState). s.world) refused.1)
grows_line old new command (Some listing) same = grows_same old.world new.world (ap (λ (s : RunState). s.world) same)

grows_turn : (origin : Option Origin) (old new : RunState) (turn : Turn) → ReplaysTurn origin old new turn → GrowsTo old.world new.world
grows_turn None old new turn replays = absurd replays
grows_turn (Some origin) old new turn replays = grows_input turn.capture old new (input_of origin.link origin.port turn.taken) replays

grows_event : (origins : List Origin) (old new : RunState) (event : Event) → ReplaysEvent origins old new event → GrowsTo old.world new.world
grows_event origins old new (Ran line) replays = grows_line old new line.command (listing_of line.command) replays
grows_event origins old new (Taken turn) replays = grows_turn (slice_get origins turn.capture) old new turn replays

-- a world grows through all events
pub grows_all : (origins : List Origin) (old new : RunState) (events : List Event) → ReplaysAll origins old new events → GrowsTo old.world new.world
grows_all origins old new [] same = grows_same old.world new.world (ap (λ (s : RunState). s.world) same)
grows_all origins old new (event ∷ events) replays =
    grows_twice old.world replays.0.world new.world (grows_event origins old replays.0 event replays.1) (grows_all origins replays.0 new events replays.2)

-- ---- and what is entered in them

-- The world becomes the last one, and from its states on all that is entered until then is lawful.
pub record LeadsTo (old last : WorldValue) : Type 0 where
  pub grows : GrowsTo old last
  pub lawful : IsLawfulFrom old.journal.object (facts_of grows.more) grows.entries

-- what is lawful until the end is what comes next and what comes behind it
lawful_in_two : (old new last : WorldValue) (more : List Published) (entries : List Entry) → new.editions ≡ old.editions ++ more → new.journal.entries ≡ old.journal.entries ++ entries
    → LeadsTo old last → (behind : GrowsTo new last) → IsLawfulFrom old.journal.object (facts_of (more ++ behind.more)) (entries ++ behind.entries)
lawful_in_two old new last more entries grown entered leads behind =
    let editions : leads.grows.more ≡ more ++ behind.more =
    append_cancel_left old.editions leads.grows.more (more ++ behind.more)
    (sym leads.grows.grown ∙ behind.grown ∙ ap (λ (l : List Published). l ++ behind.more) grown ∙ append_assoc old.editions more behind.more) in
    let all : leads.grows.entries ≡ entries ++ behind.entries =
    append_cancel_left old.journal.entries leads.grows.entries (entries ++ behind.entries)
    (sym leads.grows.entered ∙ behind.entered ∙ ap (λ (l : List Entry). l ++ behind.entries) entered ∙ append_assoc old.journal.entries entries behind.entries) in
    subst (λ (l : List Published). IsLawfulFrom old.journal.object (facts_of l) (entries ++ behind.entries)) editions
    (subst (λ (l : List Entry). IsLawfulFrom old.journal.object (facts_of leads.grows.more) l) all leads.lawful)

-- nothing came next
leads_same : (old new last : WorldValue) → new ≡ old → LeadsTo old last → LeadsTo new last
leads_same old new last same leads = subst (λ (w : WorldValue). LeadsTo w last) (sym same) leads

lawful_ask : (o : StateObject) (facts : List Facts) (lane at : ℕ) (op : Op) (reply : Reply) (entries : List Entry) → IsLawfulFrom o facts (Ask lane op reply at ∷ entries)
    → (reply ≡ reply_of o op) × IsLawfulFrom (after_ask o op) facts entries
lawful_ask o [] lane at op reply entries lawful = lawful
lawful_ask o (next ∷ facts) lane at op reply entries lawful = lawful

-- the state object after these asks
abbrev object_after_asks : StateObject → List Op → StateObject
object_after_asks o [] = o
object_after_asks o (op ∷ ops) = object_after_asks (after_ask o op) ops

asks_leave : (j : Journal) (lane at : ℕ) (ops : List Op) (replies : List Reply) → length ops ≡ length replies → (with_asks j lane at ops replies).object ≡ object_after_asks j.object ops
asks_leave j lane at [] replies same = refl
asks_leave j lane at (op ∷ ops) [] same = absurd (omega arith)
asks_leave j lane at (op ∷ ops) (reply ∷ replies) same = asks_leave (with_ask j lane at op reply) lane at ops replies (omega arith)

-- lawful asks were answered by the state object in turn
asks_in_turn : (o : StateObject) (facts : List Facts) (lane at : ℕ) (ops : List Op) (replies : List Reply) (behind : List Entry) → length ops ≡ length replies → IsLawfulFrom o facts (ask_entries lane at ops replies ++ behind)
    → AnswersInTurn o ops replies × IsLawfulFrom (object_after_asks o ops) facts behind
asks_in_turn o facts lane at [] [] behind same lawful = (tt, lawful)
asks_in_turn o facts lane at [] (reply ∷ replies) behind same lawful = absurd (omega arith)
asks_in_turn o facts lane at (op ∷ ops) [] behind same lawful = absurd (omega arith)
asks_in_turn o facts lane at (op ∷ ops) (reply ∷ replies) behind same lawful =
    let (first, others) = lawful_ask o facts lane at op reply (ask_entries lane at ops replies ++ behind) lawful in
    let (rest, after) = asks_in_turn (after_ask o op) facts lane at ops replies behind (omega arith) others in
    ((first, rest), after)

module _ (old new last : WorldValue) (lane at : ℕ) (packet : AnyIp) (port : Port) (second : ℕ) (counts after : List Count) (judgement : Judgement)
    (judges : Judges old new lane at packet port second counts after judgement) (leads : LeadsTo old last) (behind : GrowsTo new last) where
  abbrev packet_asks : List Op
  packet_asks = judged_asks old new lane at packet port second counts after judgement judges

  in_turn : AnswersInTurn old.journal.object packet_asks judges.replies × IsLawfulFrom (object_after_asks old.journal.object packet_asks) (facts_of behind.more) behind.entries
  in_turn =
      asks_in_turn old.journal.object (facts_of behind.more) lane at packet_asks judges.replies behind.entries judges.asked
      (lawful_in_two old new last [] (ask_entries lane at packet_asks judges.replies)
      (judged_editions_stay old new lane at packet port second counts after judgement judges)
      (judged_entered old new lane at packet port second counts after judgement judges)
      leads behind)

  -- the asks of a packet were answered in turn
  pub judged_in_turn : AnswersInTurn old.journal.object packet_asks judges.replies
  judged_in_turn = in_turn.0

  leads_judged : LeadsTo new last
  leads_judged =
      let object : object_after_asks old.journal.object packet_asks ≡ new.journal.object =
      sym (ap (λ (j : Journal). j.object) judges.entered ∙ asks_leave old.journal lane at packet_asks judges.replies judges.asked) in
      record { grows = behind; lawful = subst (λ (o : StateObject). IsLawfulFrom o (facts_of behind.more) behind.entries) object in_turn.1 }

leads_publication : (old new last : WorldValue) (command : Command) → Publishes old new command → LeadsTo old last → GrowsTo new last → LeadsTo new last
leads_publication old new last command p leads behind =
    let lawful = lawful_in_two old new last (p.edition ∷ []) (Publish p.edition.facts.number ∷ []) p.editions (ap (λ (j : Journal). j.entries) p.journal) leads behind in
    record {
      grows = behind;
      lawful = subst (λ (o : StateObject). IsLawfulFrom o (facts_of behind.more) behind.entries) (sym (ap (λ (j : Journal). j.object) p.journal)) lawful.1;
    }

leads_input : (place : ℕ) (old new : RunState) (last : WorldValue) (input : Input) → ReplaysInput place old new input → LeadsTo old.world last → GrowsTo new.world last → LeadsTo new.world last
leads_input place old new last Other replays leads behind = leads_same old.world new.world last replays.world leads
leads_input place old new last (Malformed kind) replays leads behind = leads_same old.world new.world last replays.world leads
leads_input place old new last (Packet packet port second) replays leads behind =
    leads_judged old.world new.world last replays.lane.place (length replays.lane.docket.entries + 1) packet port second replays.lane.tally replays.tally replays.judgement replays.judges leads behind

leads_line : (old new : RunState) (last : WorldValue) (command : Command) (listing : Option Listing) → RunsLine old new command listing → LeadsTo old.world last → GrowsTo new.world last → LeadsTo new.world last
leads_line old new last command None (inl published) leads behind = leads_publication old.world new.world last command published.1 leads behind
leads_line old new last command None (inr refused) leads behind = leads_same old.world new.world last (ap (λ (s : RunState). s.world) refused.1) leads
leads_line old new last command (Some listing) same leads behind = leads_same old.world new.world last (ap (λ (s : RunState). s.world) same) leads

leads_turn : (origin : Option Origin) (old new : RunState) (last : WorldValue) (turn : Turn) → ReplaysTurn origin old new turn → LeadsTo old.world last → GrowsTo new.world last → LeadsTo new.world last
leads_turn None old new last turn replays leads behind = absurd replays
leads_turn (Some origin) old new last turn replays leads behind = leads_input turn.capture old new last (input_of origin.link origin.port turn.taken) replays leads behind

-- behind an event the run is still lawful until its end
pub leads_event : (origins : List Origin) (old new : RunState) (last : WorldValue) (event : Event) → ReplaysEvent origins old new event → LeadsTo old.world last → GrowsTo new.world last → LeadsTo new.world last
leads_event origins old new last (Ran line) replays leads behind = leads_line old new last line.command (listing_of line.command) replays leads behind
leads_event origins old new last (Taken turn) replays leads behind = leads_turn (slice_get origins turn.capture) old new last turn replays leads behind

-- a run with a lawful journal is so from its first state on
pub leads_first : (config : Configuration) (cache : Option ℕ) (lanes : ℕ) (first : RunState) (last : WorldValue) → IsFirstState config cache lanes first → IsLawful last.editions last.journal.entries → GrowsTo first.world last → LeadsTo first.world last
leads_first config cache lanes first last begins lawful grows =
    let editions : last.editions ≡ begins.edition ∷ grows.more = grows.grown ∙ ap (λ (l : List Published). l ++ grows.more) begins.editions in
    let entries : last.journal.entries ≡ Publish begins.edition.facts.number ∷ grows.entries = grows.entered ∙ ap (λ (j : Journal). j.entries ++ grows.entries) begins.journal in
    let all : IsLawfulFrom no_states (facts_of (begins.edition ∷ grows.more)) (Publish begins.edition.facts.number ∷ grows.entries) =
    subst (λ (l : List Entry). IsLawfulFrom no_states (facts_of (begins.edition ∷ grows.more)) l) entries
    (subst (λ (l : List Published). IsLawfulFrom no_states (facts_of l) last.journal.entries) editions lawful.replied) in
    record {
      grows = grows;
      lawful = subst (λ (o : StateObject). IsLawfulFrom o (facts_of grows.more) grows.entries) (sym (ap (λ (j : Journal). j.object) begins.journal)) all.1;
    }
