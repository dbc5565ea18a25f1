-- Two lawful runs of one schedule agree event by event.
use Rattle.std.proofs.Common.{◌≡◌, ℕ, zero, suc, ◌+◌, List, [], ◌∷◌, ◌++◌, length, map, inl, inr, refl, sym, ap, ◌∙◌, subst}
use Rattle.std.specs.Prelude.{⊤, Option, Some, None, Ok, Err, slice_get, slice_set}
use Rattle.fw_base.specs.declared.port.Port.{Port}
use Rattle.counter_book.specs.Counts.{counted_under}
use Rattle.counter_book.specs.declared.tally.Count.{Count}
use Rattle.cached_verdicts.specs.LaneCache.{LaneCacheValue}
use Rattle.state_asks.specs.declared.reply.Reply.{Reply}
use Rattle.eval_engine.specs.Evaluated.{Whole}
use Rattle.eval_engine.specs.Evaluation.{evaluate}
use Rattle.eval_engine.specs.Question.{Question, question_under}
use Rattle.eval_engine.specs.declared.docket_entry.DocketEntry.{DocketEntry}
use Rattle.eval_engine.specs.declared.docket_entry.DocketEntry.TheVariants as entry
use Rattle.eval_engine.specs.declared.judgement.Judgement.{Judgement}
use Rattle.fw_rule.specs.declared.command.Command.{Command}
use Rattle.fw_world.specs.AskRuns.{raised_by}
use Rattle.fw_world.specs.Editions.{IsLastOf}
use Rattle.fw_world.specs.Inputs.{Input, Other, Malformed, Packet}
use Rattle.fw_world.specs.Lane.{LaneValue, with_docket_entry}
use Rattle.serial_world.specs.Steps.{Judges, Publishes}
use Rattle.fw_world.specs.Asks.{with_asks}
use Rattle.fw_world.specs.World.{WorldValue, published_count}
use Rattle.generation_store.proofs.OneEdition.{same_edition}
use Rattle.generation_store.specs.Published.{Published, IsBuilt}
use Rattle.ip6_headers.specs.Either.{total_of}
use Rattle.ip6_headers.specs.declared.any_ip.AnyIp.{AnyIp}
use Rattle.rule_edits.specs.Apply.{apply}
use Rattle.rule_chain.specs.Configuration.{Configuration}
use Rattle.capture_tracks.proofs.Operator.{one_last}
use Rattle.capture_tracks.specs.Commands.{Listing, listing_of}
use Rattle.serial_replay.specs.Events.{RunState, ChangesLane, judged_lane, ReplaysInput, HasRefusalOf, RunsLine, ReplaysTurn, ReplaysEvent, ReplaysAll}
use Rattle.capture_tracks.specs.Reading.{Origin, input_of}
use Rattle.serial_replay.specs.Replay.{IsFirstState}
use Rattle.serial_schedule.specs.Order.{Turn}
use Rattle.serial_schedule.specs.Schedule.{Event, Ran, Taken}
use Rattle.state_journal.specs.Journal.{first_journal, with_publication}
use Rattle.record_laws.proofs.LawfulRun.{GrowsTo, LeadsTo, grows_all, leads_event, judged_in_turn}
use Rattle.record_laws.proofs.OneEvaluation.{AnswersInTurn, one_evaluation}

-- there is one edition of a number and a configuration
one_edition : (number : ℕ) (config made : Configuration) (a b : Published) → config ≡ made → IsBuilt number config a → IsBuilt number made b → a ≡ b
one_edition number config made a b same first second =
    same_edition a b (first.numbered ∙ sym second.numbered) (first.configured ∙ same ∙ sym second.configured) first.factual second.factual

one_world : (a b : WorldValue) → a.editions ≡ b.editions → a.journal ≡ b.journal → a ≡ b
one_world a b editions journal = λ i. record { editions = editions i; journal = journal i }

-- ---- lanes

-- a lane but for its tally and its cache
abbrev without_tally : LaneValue → LaneValue
without_tally lane = record lane { tally = []; cache = None }

-- both tallies have the same count under each number
abbrev CountAlike : List Count → List Count → Type 0
CountAlike tally other = (id : ℕ) → counted_under tally id ≡ counted_under other id

-- Both lanes are the same, and their tallies count alike.
pub record IsSameLane (a b : LaneValue) : Type 0 where
  pub same : without_tally a ≡ without_tally b
  pub counts : CountAlike a.tally b.tally

-- lane by lane
abbrev pub AreSameLanes : List LaneValue → List LaneValue → Type 0
AreSameLanes [] [] = ⊤
AreSameLanes [] (b ∷ others) = ⊥
AreSameLanes (a ∷ lanes) [] = ⊥
AreSameLanes (a ∷ lanes) (b ∷ others) = IsSameLane a b × AreSameLanes lanes others

same_at : (place : ℕ) (lanes others : List LaneValue) (a b : LaneValue) → AreSameLanes lanes others → slice_get lanes place ≡ Some a → slice_get others place ≡ Some b → IsSameLane a b
same_at place [] others a b same first second = absurd (cc)
same_at place (x ∷ lanes) [] a b same first second = absurd same
same_at zero (x ∷ lanes) (y ∷ others) a b same first second =
    let one : x ≡ a = cc in
    let two : y ≡ b = cc in
    subst (λ (l : LaneValue). IsSameLane l b) one (subst (λ (l : LaneValue). IsSameLane x l) two same.0)
same_at (suc place) (x ∷ lanes) (y ∷ others) a b same first second = same_at place lanes others a b same.1 first second

same_with : (place : ℕ) (lanes others : List LaneValue) (a b : LaneValue) → AreSameLanes lanes others → IsSameLane a b → AreSameLanes (slice_set lanes place a) (slice_set others place b)
same_with place [] [] a b same changed = tt
same_with place [] (y ∷ others) a b same changed = absurd same
same_with place (x ∷ lanes) [] a b same changed = absurd same
same_with zero (x ∷ lanes) (y ∷ others) a b same changed = (changed, same.1)
same_with (suc place) (x ∷ lanes) (y ∷ others) a b same changed = (same.0, same_with place lanes others a b same.1 changed)

-- lanes that are the same stay so where one of each changes alike
same_changed : (place : ℕ) (old new others changed : List LaneValue) (a after b behind : LaneValue) → AreSameLanes old others → ChangesLane place old new a after → ChangesLane place others changed b behind
    → (IsSameLane a b → IsSameLane after behind) → AreSameLanes new changed
same_changed place old new others changed a after b behind same first second alike =
    subst (λ (l : List LaneValue). AreSameLanes l changed) (sym first.1) (subst (λ (l : List LaneValue). AreSameLanes (slice_set old place after) l) (sym second.1)
    (same_with place old others after behind same (alike (same_at place old others a b same first.0 second.0))))

same_entered : (entered : DocketEntry) (a b : LaneValue) → IsSameLane a b → IsSameLane (with_docket_entry entered a) (with_docket_entry entered b)
same_entered entered a b is = record { same = ap (with_docket_entry entered) is.same; counts = is.counts }

same_judged : (number : ℕ) (judgement : Judgement) (tally other : List Count) (cache kept : Option LaneCacheValue) (a b : LaneValue) → CountAlike tally other → IsSameLane a b
    → IsSameLane (judged_lane number judgement tally cache a) (judged_lane number judgement other kept b)
same_judged number judgement tally other cache kept a b alike is = record { same = ap (judged_lane number judgement [] None) is.same; counts = alike }

-- ---- one packet

-- Both judgements of a packet leave the same.
record AreJudgedAlike (new changed : WorldValue) (judgement told : Judgement) (after behind : List Count) : Type 0 where
  world : new ≡ changed
  judgement_is : judgement ≡ told
  counts : CountAlike after behind

judged_alike : (old new changed last end : WorldValue) (lane at : ℕ) (packet : AnyIp) (port : Port) (second : ℕ) (counts others after behind : List Count) (judgement told : Judgement)
    → (a : Judges old new lane at packet port second counts after judgement) → (b : Judges old changed lane at packet port second others behind told)
    → LeadsTo old last → LeadsTo old end → GrowsTo new last → GrowsTo changed end → CountAlike counts others → AreJudgedAlike new changed judgement told after behind
judged_alike old new changed last end lane at packet port second counts others after behind judgement told a b leads goes grows rises alike =
    let q : Published → Question = λ edition. question_under edition packet port second in
    let edition : b.edition ≡ a.edition = one_last old.editions b.edition a.edition b.last a.last in
    let outcome : (evaluate (q a.edition) b.replies).outcome ≡ Whole told = subst (λ (e : Published). (evaluate (q e) b.replies).outcome ≡ Whole told) edition b.outcome in
    let first : AnswersInTurn old.journal.object (evaluate (q a.edition) a.replies).asks a.replies =
    judged_in_turn old new last lane at packet port second counts after judgement a leads grows in
    let other : AnswersInTurn old.journal.object (evaluate (q b.edition) b.replies).asks b.replies =
    judged_in_turn old changed end lane at packet port second others behind told b goes rises in
    let replies : a.replies ≡ b.replies =
    one_evaluation (q a.edition) old.journal.object a.replies b.replies judgement told a.outcome outcome first
    (subst (λ (e : Published). AnswersInTurn old.journal.object (evaluate (q e) b.replies).asks b.replies) edition other) in
    let same : Whole judgement ≡ Whole told = sym a.outcome ∙ ap (λ (rs : List Reply). (evaluate (q a.edition) rs).outcome) replies ∙ outcome in
    let journal : new.journal ≡ changed.journal =
    a.entered
    ∙ ap (λ (rs : List Reply). with_asks old.journal lane at (evaluate (q a.edition) rs).asks rs) replies
    ∙ ap (λ (e : Published). with_asks old.journal lane at (evaluate (q e) b.replies).asks b.replies) (sym edition)
    ∙ sym b.entered in
    record {
      world = one_world new changed (a.editions ∙ sym b.editions) journal;
      judgement_is = cc;
      counts = λ id.
          a.counted id
          ∙ ap (λ (rs : List Reply). raised_by (total_of packet) (evaluate (q a.edition) rs).hits id (counted_under counts id)) replies
          ∙ ap (λ (e : Published). raised_by (total_of packet) (evaluate (q e) b.replies).hits id (counted_under counts id)) (sym edition)
          ∙ ap (raised_by (total_of packet) (evaluate (q b.edition) b.replies).hits id) (alike id)
          ∙ sym (b.counted id);
    }

-- ---- events

-- The worlds are the same, and so are the lanes.
pub record IsSameState (a b : RunState) : Type 0 where
  pub world : a.world ≡ b.world
  pub lanes : AreSameLanes a.lanes b.lanes

-- a command isn't both accepted and refused
not_both : (a b new : WorldValue) (command : Command) → a ≡ b → Publishes a new command → HasRefusalOf b command → ⊥
not_both a b new command same published refused =
    let next = published.next in
    let (fault, refusal) = refused in
    let one : next.before ≡ refusal.edition = one_last a.editions next.before refusal.edition next.last (subst (λ (w : WorldValue). IsLastOf w.editions refusal.edition) (sym same) refusal.last) in
    let both : Ok next.made ≡ Err fault = sym next.applied ∙ ap (λ (e : Published). apply e.config command) one ∙ refusal.refused in
    absurd (cc)

module _ (a b x y : RunState) (last end : WorldValue) (same : IsSameState a b) (leads : LeadsTo a.world last) (goes : LeadsTo b.world end) (grows : GrowsTo x.world last) (rises : GrowsTo y.world end) where
  alike_input : (place : ℕ) (input : Input) → ReplaysInput place a x input → ReplaysInput place b y input → IsSameState x y
  alike_input place Other first second = record {
    world = first.world ∙ same.world ∙ sym second.world;
    lanes = same_changed place a.lanes x.lanes b.lanes y.lanes first.lane (with_docket_entry entry.Other first.lane) second.lane (with_docket_entry entry.Other second.lane) same.lanes first.changes second.changes (same_entered entry.Other first.lane second.lane);
  }
  alike_input place (Malformed kind) first second = record {
    world = first.world ∙ same.world ∙ sym second.world;
    lanes = same_changed place a.lanes x.lanes b.lanes y.lanes first.lane (with_docket_entry (entry.Malformed kind) first.lane) second.lane (with_docket_entry (entry.Malformed kind) second.lane) same.lanes first.changes second.changes (same_entered (entry.Malformed kind) first.lane second.lane);
  }
  alike_input place (Packet packet port second) one two =
      let lane : IsSameLane one.lane two.lane = same_at place a.lanes b.lanes one.lane two.lane same.lanes one.changes.0 two.changes.0 in
      let judges : Judges b.world y.world one.lane.place (length one.lane.docket.entries + 1) packet port second two.lane.tally two.tally two.judgement =
      subst (λ (l : LaneValue). Judges b.world y.world l.place (length l.docket.entries + 1) packet port second two.lane.tally two.tally two.judgement) (sym lane.same) two.judges in
      let other : Judges a.world y.world one.lane.place (length one.lane.docket.entries + 1) packet port second two.lane.tally two.tally two.judgement =
      subst (λ (w : WorldValue). Judges w y.world one.lane.place (length one.lane.docket.entries + 1) packet port second two.lane.tally two.tally two.judgement) (sym same.world) judges in
      let alike =
      judged_alike a.world x.world y.world last end one.lane.place (length one.lane.docket.entries + 1) packet port second one.lane.tally two.lane.tally one.tally two.tally one.judgement two.judgement
      one.judges other leads (subst (λ (w : WorldValue). LeadsTo w end) (sym same.world) goes) grows rises lane.counts in
      let after : LaneValue = judged_lane (published_count a.world) one.judgement one.tally one.cache one.lane in
      let changes : ChangesLane place b.lanes y.lanes two.lane (judged_lane (published_count a.world) one.judgement two.tally two.cache two.lane) =
      subst (λ (w : WorldValue). ChangesLane place b.lanes y.lanes two.lane (judged_lane (published_count w) one.judgement two.tally two.cache two.lane)) (sym same.world)
      (subst (λ (j : Judgement). ChangesLane place b.lanes y.lanes two.lane (judged_lane (published_count b.world) j two.tally two.cache two.lane)) (sym alike.judgement_is) two.changes) in
      record {
        world = alike.world;
        lanes = same_changed place a.lanes x.lanes b.lanes y.lanes one.lane after two.lane (judged_lane (published_count a.world) one.judgement two.tally two.cache two.lane) same.lanes one.changes changes
            (same_judged (published_count a.world) one.judgement one.tally two.tally one.cache two.cache one.lane two.lane alike.counts);
      }

  alike_published : (command : Command) → Publishes a.world x.world command → Publishes b.world y.world command → x.world ≡ y.world
  alike_published command first second =
      let p = first.next in
      let r = second.next in
      let before : p.before ≡ r.before = one_last a.world.editions p.before r.before p.last (subst (λ (w : WorldValue). IsLastOf w.editions r.before) (sym same.world) r.last) in
      let applied : Ok p.made ≡ Ok r.made = sym p.applied ∙ ap (λ (e : Published). apply e.config command) before ∙ r.applied in
      let made : p.made ≡ r.made = cc in
      let built : IsBuilt (length a.world.editions + 1) r.made second.edition = subst (λ (w : WorldValue). IsBuilt (length w.editions + 1) r.made second.edition) (sym same.world) r.built in
      let edition : first.edition ≡ second.edition = one_edition (length a.world.editions + 1) p.made r.made first.edition second.edition made p.built built in
      one_world x.world y.world
      (first.editions ∙ ap (λ (w : WorldValue). w.editions ++ first.edition ∷ []) same.world ∙ ap (λ (e : Published). b.world.editions ++ e ∷ []) edition ∙ sym second.editions)
      (first.journal ∙ ap (λ (w : WorldValue). with_publication w.journal first.edition.facts) same.world ∙ ap (λ (e : Published). with_publication b.world.journal e.facts) edition ∙ sym second.journal)

  same_behind : x ≡ a → y ≡ b → IsSameState x y
  same_behind first second = subst (λ (s : RunState). IsSameState s y) (sym first) (subst (λ (s : RunState). IsSameState a s) (sym second) same)

  alike_command : (command : Command) → RunsLine a x command None → RunsLine b y command None → IsSameState x y
  alike_command command (inl first) (inl second) = record {
    world = alike_published command first.1 second.1;
    lanes = subst (λ (l : List LaneValue). AreSameLanes l y.lanes) (sym first.0) (subst (λ (l : List LaneValue). AreSameLanes a.lanes l) (sym second.0) same.lanes);
  }
  alike_command command (inl first) (inr second) = absurd (not_both a.world b.world x.world command same.world first.1 second.0)
  alike_command command (inr first) (inl second) = absurd (not_both b.world a.world y.world command (sym same.world) second.1 first.0)
  alike_command command (inr first) (inr second) = same_behind first.1 second.1

  alike_line : (command : Command) (listing : Option Listing) → RunsLine a x command listing → RunsLine b y command listing → IsSameState x y
  alike_line command None first second = alike_command command first second
  alike_line command (Some listing) first second = same_behind first second

  alike_turn : (origin : Option Origin) (turn : Turn) → ReplaysTurn origin a x turn → ReplaysTurn origin b y turn → IsSameState x y
  alike_turn None turn first second = absurd first
  alike_turn (Some origin) turn first second = alike_input turn.capture (input_of origin.link origin.port turn.taken) first second

  alike_event : (origins : List Origin) (event : Event) → ReplaysEvent origins a x event → ReplaysEvent origins b y event → IsSameState x y
  alike_event origins (Ran line) first second = alike_line line.command (listing_of line.command) first second
  alike_event origins (Taken turn) first second = alike_turn (slice_get origins turn.capture) turn first second

-- two lawful runs of the same events, from states that are the same, end in states that are the same
pub alike_all : (origins : List Origin) (a b last end : RunState) (events : List Event) → IsSameState a b → LeadsTo a.world last.world → LeadsTo b.world end.world → ReplaysAll origins a last events → ReplaysAll origins b end events
    → IsSameState last end
alike_all origins a b last end [] same leads goes first second =
    subst (λ (s : RunState). IsSameState s end) (sym first) (subst (λ (s : RunState). IsSameState a s) (sym second) same)
alike_all origins a b last end (event ∷ events) same leads goes first second =
    let (x, step, rest) = first in
    let (y, pace, others) = second in
    let grows = grows_all origins x last events rest in
    let rises = grows_all origins y end events others in
    alike_all origins x y last end events
    (alike_event a b x y last.world end.world same leads goes grows rises origins event step pace)
    (leads_event origins a x last.world event step leads grows)
    (leads_event origins b y end.world event pace goes rises)
    rest others

-- ---- where they begin

lanes_same : (lanes : List LaneValue) → AreSameLanes lanes lanes
lanes_same [] = tt
lanes_same (lane ∷ lanes) = (record { same = refl; counts = λ id. refl }, lanes_same lanes)

-- there is one first state of a configuration and so many lanes
pub first_alike : (config : Configuration) (cache : Option ℕ) (lanes : ℕ) (a b : RunState) → IsFirstState config cache lanes a → IsFirstState config cache lanes b → IsSameState a b
first_alike config cache lanes a b first second =
    let edition : first.edition ≡ second.edition = one_edition 1 config config first.edition second.edition refl first.built second.built in
    record {
      world = one_world a.world b.world
          (first.editions ∙ ap (λ (e : Published). e ∷ []) edition ∙ sym second.editions)
          (first.journal ∙ ap (λ (e : Published). first_journal lanes e.facts) edition ∙ sym second.journal);
      lanes = subst (λ (l : List LaneValue). AreSameLanes a.lanes l) (first.lanes_new ∙ sym second.lanes_new) (lanes_same a.lanes);
    }

-- ---- what is read of lanes that are the same

module _ {X : Type 0} (part : LaneValue → X) where
  -- a part but for tally and cache
  pub same_parts : (lanes others : List LaneValue) → AreSameLanes lanes others → map (λ (lane : LaneValue). part (without_tally lane)) lanes ≡ map (λ (lane : LaneValue). part (without_tally lane)) others
  same_parts [] [] same = refl
  same_parts [] (b ∷ others) same = absurd same
  same_parts (a ∷ lanes) [] same = absurd same
  same_parts (a ∷ lanes) (b ∷ others) same = ap (λ (x : X). x ∷ map (λ (lane : LaneValue). part (without_tally lane)) lanes) (ap part same.0.same) ∙ ap (λ (xs : List X). part (without_tally b) ∷ xs) (same_parts lanes others same.1)

-- and what the tallies count
pub same_counts : (counter : ℕ) (lanes others : List LaneValue) → AreSameLanes lanes others
    → map (λ (tally : List Count). counted_under tally counter) (map (λ (lane : LaneValue). lane.tally) lanes) ≡ map (λ (tally : List Count). counted_under tally counter) (map (λ (lane : LaneValue). lane.tally) others)
same_counts counter [] [] same = refl
same_counts counter [] (b ∷ others) same = absurd same
same_counts counter (a ∷ lanes) [] same = absurd same
same_counts counter (a ∷ lanes) (b ∷ others) same =
    ap (λ (c : Count). c ∷ map (λ (tally : List Count). counted_under tally counter) (map (λ (lane : LaneValue). lane.tally) lanes)) (same.0.counts counter)
    ∙ ap (λ (cs : List Count). counted_under b.tally counter ∷ cs) (same_counts counter lanes others same.1)
