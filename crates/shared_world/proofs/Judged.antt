-- Lanes that judge a packet in their section.
use Rattle.std.proofs.Common.{◌≡◌, ℕ, ◌+◌, ◌<◌, ◌≤◌, Bool, true, false, List, [], ◌∷◌, ◌++◌, length, Option, Some, None, refl, sym, ap, ◌∙◌, subst, arith, inl, inr, append_assoc}
use Rattle.std.proofs.lemmas.List.{append-nil, length-append}
use Rattle.std.proofs.lemmas.List.Elements.{All-push}
use Rattle.std.specs.Prelude.{All, Result, Ok, Err, IfOk, OnOk, OnErr, is_ok, IsSomeAnd, option_map, ◌⊎◌, slice_get}
use Rattle.std.specs.Arc.{arc_value}
use Rattle.atomic_table.specs.Seated.{TableId}
use Rattle.eval_engine.proofs.Hits.{judgement_names_edition}
use Rattle.eval_engine.specs.Dockets.{DocketValue, judged_entry}
use Rattle.eval_engine.specs.Evaluation.{evaluate}
use Rattle.eval_engine.specs.Question.{Question, question_under}
use Rattle.eval_engine.specs.declared.judgement.Judgement.{Judgement}
use Rattle.fw_base.specs.declared.failure.OutOfMemory.{OutOfMemory}
use Rattle.fw_base.specs.declared.port.Port.{Port}
use Rattle.std.specs.List.{AllByRecursion}
use Rattle.std.proofs.lemmas.List.Elements.{recursion_from_All}
use Rattle.fw_base.proofs.Lists.{all_push}
use Rattle.fw_world.proofs.Caching.{CacheStandsFor-judged, IsCacheSeen-behind, IsPortFor-behind, IsTrueFor-seen, capacity-behind}
use Rattle.fw_world.specs.Caches.{IsPortFor, IsTrueFor, IsCacheAfter, IsCacheSeen}
use Rattle.shared_world.proofs.SeenCaches.{seen-below}
use Rattle.fw_world.proofs.AskLists.{asks_in-append}
use Rattle.fw_world.proofs.Judging.{StandFor-judged}
use Rattle.fw_world.proofs.LaneSteps.{IsLane-judged, IsLane-failed, judged_editions-judged}
use Rattle.fw_world.proofs.Running.{EntersEach-length}
use Rattle.fw_world.specs.AskRuns.{EntersEach, Evaluates, AsksFront}
use Rattle.fw_world.specs.Asks.{LaneAsk, asks_in, record_asks}
use Rattle.fw_world.specs.Editions.{edition_numbered}
use Rattle.fw_world.specs.Inputs.{Input, Packet}
use Rattle.fw_world.specs.Lane.{LaneValue, with_docket_entry}
use Rattle.fw_world.specs.LaneKept.{IsLane, pending_of}
use Rattle.fw_world.specs.LaneSteps.{LaneJudges}
use Rattle.fw_world.specs.Sections.{judged_editions, tracker_after}
use Rattle.fw_world.specs.Standing.{StandFor, AreSeenOf}
use Rattle.fw_world.specs.declared.lane_work.LaneWork.{LaneWork}
use Rattle.generation_store.proofs.OneEdition.{same_edition}
use Rattle.generation_store.specs.Published.{Published, IsBuilt, IsEdition}
use Rattle.ip6_headers.specs.declared.any_ip.AnyIp.{AnyIp}
use Rattle.rule_chain.specs.Configuration.{Configuration}
use Rattle.shared_world.proofs.Sections.{inside_of}
use Rattle.shared_world.proofs.Visits.{edition_of-reads, reads_after, of_book_after}
use Rattle.shared_world.specs.Judging.{Judges, BeginsJudging, JudgesNext}
use Rattle.shared_world.specs.Known.{Known, SharedEdition}
use Rattle.shared_world.specs.LaneKept.{IsSharedLane, IsSeenIn, ReadsSeen, plain_of}
use Rattle.shared_world.specs.SharedLane.{lane_of, edition_read}
use Rattle.shared_world.specs.Standing.{LaneStandsFor}
use Rattle.shared_world.specs.Visits.{AskingValue, AsksOnce, MissesOnce, edition_of, steady_view}
use Rattle.state_asks.specs.declared.op.Op.{Op}
use Rattle.state_asks.specs.declared.reply.Reply.{Reply}
use Rattle.state_journal.specs.declared.entry.Entry.TheVariants.{Ask}
use Rattle.state_journal.specs.declared.entry.Item.TheVariants.{Asked}

-- what an ask for that record means while a lane asks
abbrev pub Enters : ℕ → AskingValue → Op → Reply → AskingValue → Type 0
Enters at old op reply new = (new.lock ≡ old.lock) × AsksOnce old.view at op reply new.view

-- and what one means that wants memory
abbrev pub Misses : AskingValue → AskingValue → Type 0
Misses old new = (new.lock ≡ old.lock) × MissesOnce old.view new.view

-- So many visits to the book were made, with these asks as the lane's last ones.
record Asks (old new : AskingValue) (visits : ℕ) (asks : List LaneAsk) : Type 0 where
  lock : new.lock ≡ old.lock
  steady : steady_view new.view ≡ steady_view old.view
  taken : new.view.part.book_taken ≡ old.view.part.book_taken + visits
  own : asks_in new.view.part.own ≡ asks_in old.view.part.own ++ asks

-- a run of asks
runs : (at : ℕ) (old : AskingValue) (ops : List Op) (replies : List Reply) (new : AskingValue) → EntersEach (Enters at) old ops replies new → Asks old new (length ops) (record_asks old.view.part.held at ops replies)
runs at old [] [] new ran =
    let none : old.view.part.book_taken ≡ old.view.part.book_taken + 0 = omega arith in
    record { lock = ap (λ (a : AskingValue). a.lock) ran; steady = ap (λ (a : AskingValue). steady_view a.view) ran; taken = ap (λ (a : AskingValue). a.view.part.book_taken) ran ∙ none; own = ap (λ (a : AskingValue). asks_in a.view.part.own) ran ∙ sym (append-nil _) }
runs at old [] (reply ∷ replies) new ran = absurd ran
runs at old (op ∷ ops) [] new ran = absurd ran
runs at old (op ∷ ops) (reply ∷ replies) new ran =
    let next = ran.0 in
    let one = ran.1.1 in
    let rest = runs at next ops replies new ran.2 in
    let held : next.view.part.held ≡ old.view.part.held = ap (λ (v : Known). v.part.held) one.steady in
    let first : LaneAsk = record { after = old.view.part.held; at = at; op = op; reply = reply } in
    let own : asks_in next.view.part.own ≡ asks_in old.view.part.own ++ first ∷ [] = ap asks_in one.own_is ∙ asks_in-append old.view.part.own (Asked old.view.part.held (Ask old.view.place op reply at) ∷ []) in
    record {
      lock = rest.lock ∙ ran.1.0;
      steady = rest.steady ∙ one.steady;
      taken = omega (arith, rest.taken, one.taken);
      own =
          rest.own ∙ ap (λ (n : ℕ). asks_in next.view.part.own ++ record_asks n at ops replies) held ∙ ap (λ (asks : List LaneAsk). asks ++ record_asks old.view.part.held at ops replies) own
          ∙ append_assoc (asks_in old.view.part.own) (first ∷ []) (record_asks old.view.part.held at ops replies);
    }

-- the one edition that these editions have under a number and a configuration
found_edition : (found : Option Published) (edition : Published) → IsSomeAnd found (IsBuilt edition.number edition.config) → IsEdition edition → found ≡ Some edition
found_edition None edition is r = absurd is
found_edition (Some one) edition is r = ap Some (same_edition one edition is.numbered is.configured is.factual r)

module _ (table : TableId) (v : Known) (work : LaneWork) (reads : ReadsSeen v) (packet : AnyIp) (port : Port) (second : ℕ) (old new : AskingValue) (t : TableId) (u : Known) (w : LaneWork)
    (begun : old.view ≡ v) (ended : u ≡ new.view) where
  abbrev edition : Published
  edition = edition_of v

  abbrev question : Question
  question = question_under edition packet port second

  abbrev at : ℕ
  at = length work.docket.entries + 1

  edition_is : edition ≡ arc_value reads.edition
  edition_is = edition_of-reads v reads.edition reads.reading

  lawful : IsEdition edition
  lawful = subst (λ (p : Published). IsEdition p) (sym edition_is) reads.lawful

  held : edition.number ≡ v.part.held
  held = ap (λ (p : Published). p.number) edition_is ∙ reads.held

  -- what its section reads
  reading : edition_read v ≡ Some edition
  reading = ap (λ (o : Option SharedEdition). option_map arc_value o) reads.reading ∙ ap Some (sym edition_is)

  -- the edition of that number among those that have what was seen
  found : (editions : List Published) → AreSeenOf editions v.part.pairs → edition_numbered editions edition.number ≡ Some edition
  found editions are =
      let there = are reads.index (arc_value reads.edition).number (arc_value reads.edition).config reads.seen in
      subst (λ (p : Published). edition_numbered editions p.number ≡ Some p) (sym edition_is) (found_edition (edition_numbered editions (arc_value reads.edition).number) (arc_value reads.edition) there reads.lawful)

  -- what the asks leave of the lane
  module _ (visits : ℕ) (asks : List LaneAsk) (a : Asks old new visits asks) where
    own_asks : asks_in u.part.own ≡ asks_in v.part.own ++ asks
    own_asks = ap (λ (x : Known). asks_in x.part.own) ended ∙ a.own ∙ ap (λ (x : Known). asks_in x.part.own ++ asks) begun

    taken : u.part.book_taken ≡ v.part.book_taken + visits
    taken = ap (λ (x : Known). x.part.book_taken) ended ∙ a.taken ∙ ap (λ (x : Known). x.part.book_taken + visits) begun

    steady : steady_view u ≡ steady_view v
    steady = ap steady_view ended ∙ a.steady ∙ ap steady_view begun

  -- a packet that was judged
  judged : (judgement : Judgement) → Evaluates (Enters at) old new question work.tally w.tally judgement → Judges edition (lane_of table v work) (lane_of t u w) packet port second judgement
  judged judgement ran =
      let ops : List Op = (evaluate question ran.replies).asks in
      let same = EntersEach-length (Enters at) old ops ran.replies new ran.entered in
      let a = runs at old ops ran.replies new ran.entered in
      let number : old.view.part.held ≡ edition.number = ap (λ (x : Known). x.part.held) begun ∙ sym held in
      record {
        numbered = judgement_names_edition question ran.replies judgement ran.outcome;
        replies = ran.replies;
        outcome = ran.outcome;
        asked = same;
        asks = own_asks (length ops) (record_asks old.view.part.held at ops ran.replies) a ∙ ap (λ (n : ℕ). asks_in v.part.own ++ record_asks n at ops ran.replies) number;
        taken = taken (length ops) (record_asks old.view.part.held at ops ran.replies) a ∙ ap (λ (n : ℕ). v.part.book_taken + n) same;
        counted = ran.counted;
      }

  -- the asks of an evaluation that began, and the visits that it made
  record Front (ops : List Op) (replies : List Reply) : Type 0 where
    visits : ℕ
    least : length ops ≤ visits
    most : visits ≤ length ops + 1
    asking : visits ≤ length (evaluate question replies).asks
    asks : Asks old new visits (record_asks old.view.part.held at ops replies)

  front : (f : AsksFront (Enters at) Misses old new question) → Front f.ops f.replies
  front f = by_missed f.missed
    where
      a : Asks old f.between (length f.ops) (record_asks old.view.part.held at f.ops f.replies)
      a = runs at old f.ops f.replies f.between f.entered

      made : length (evaluate question f.replies).asks ≡ length f.ops + length f.begins.0
      made = ap length f.begins.1 ∙ length-append f.ops f.begins.0

      by_missed : (new ≡ f.between) ⊎ ((length f.ops < length (evaluate question f.replies).asks) × Misses f.between new) → Front f.ops f.replies
      by_missed (inl same) = record { visits = length f.ops; least = omega arith; most = omega arith; asking = omega (arith, made); asks = subst (λ (x : AskingValue). Asks old x (length f.ops) (record_asks old.view.part.held at f.ops f.replies)) (sym same) a }
      by_missed (inr missed) = let miss = missed.1 in record {
        visits = length f.ops + 1;
        least = omega arith;
        most = omega arith;
        asking = omega (arith, missed.0);
        asks = record { lock = miss.0 ∙ a.lock; steady = miss.1.steady ∙ a.steady; taken = omega (arith, miss.1.taken, a.taken); own = ap asks_in miss.1.own_is ∙ a.own };
      }

  begins : AsksFront (Enters at) Misses old new question → BeginsJudging edition (lane_of table v work) (lane_of t u w) packet port second
  begins f =
      let fr = front f in
      let number : old.view.part.held ≡ edition.number = ap (λ (x : Known). x.part.held) begun ∙ sym held in
      let all = taken fr.visits (record_asks old.view.part.held at f.ops f.replies) fr.asks in
      record {
        ops = f.ops;
        replies = f.replies;
        asked = EntersEach-length (Enters at) old f.ops f.replies f.between f.entered;
        begins = f.begins;
        asks = own_asks fr.visits (record_asks old.view.part.held at f.ops f.replies) fr.asks ∙ ap (λ (n : ℕ). asks_in v.part.own ++ record_asks n at f.ops f.replies) number;
        least = omega (arith, all, fr.least);
        most = omega (arith, all, fr.most);
        asking = omega (arith, all, fr.asking);
      }

  still : AsksFront (Enters at) Misses old new question → steady_view u ≡ steady_view v
  still f = let fr = front f in steady fr.visits (record_asks old.view.part.held at f.ops f.replies) fr.asks

  -- each number that was judged was seen, and isn't past the edition's
  each_below : (numbers : List ℕ) → All (λ n. n ≤ v.part.held) numbers → AllByRecursion (IsSeenIn v.part.pairs) numbers → AllByRecursion (λ n. (n ≤ edition.number) × IsSeenIn v.part.pairs n) numbers
  each_below numbers few known = both_of numbers (recursion_from_All (λ n. n ≤ v.part.held) numbers few) known
    where
      both_of : (ns : List ℕ) → AllByRecursion (λ n. n ≤ v.part.held) ns → AllByRecursion (IsSeenIn v.part.pairs) ns → AllByRecursion (λ n. (n ≤ edition.number) × IsSeenIn v.part.pairs n) ns
      both_of [] first second = tt
      both_of (n ∷ ns) first second = ((omega (arith, first.0, held), second.0), both_of ns first.1 second.1)

  -- the lane that judged stands for the packet behind its inputs
  stands : (judgement : Judgement) → Evaluates (Enters at) old new question work.tally w.tally judgement → w.docket.entries ≡ work.docket.entries ++ judged_entry judgement ∷ [] → steady_view u ≡ steady_view v
      → IsCacheAfter question work.cache w.cache → All (λ n. n ≤ v.part.held) (judged_editions work.docket.entries) → AllByRecursion (IsSeenIn v.part.pairs) (judged_editions work.docket.entries)
      → (inputs : List Input) → LaneStandsFor (lane_of table v work) inputs → LaneStandsFor (lane_of t u w) (inputs ++ Packet packet port second ∷ [])
  unfolding LaneStandsFor judged
  stands judgement ran entries same sees few known inputs stood = λ editions are.
      let j = judged judgement ran in
      let ops : List Op = (evaluate question ran.replies).asks in
      let seen : AreSeenOf editions v.part.pairs = subst (λ (pairs : List (ℕ × Configuration)). AreSeenOf editions pairs) (ap (λ (x : Known). x.part.pairs) same) are in
      let there : edition_numbered editions judgement.edition ≡ Some edition = ap (edition_numbered editions) j.numbered ∙ found editions seen in
      let more = StandFor-judged editions (asks_in v.part.own) work.docket work.tally inputs (stood editions seen).stands edition packet port second ops ran.replies judgement w.tally there j.asked ran.outcome refl ran.counted w.docket entries in
      let own : asks_in v.part.own ++ record_asks judgement.edition at ops ran.replies ≡ asks_in u.part.own = ap (λ (n : ℕ). asks_in v.part.own ++ record_asks n at ops ran.replies) j.numbered ∙ sym j.asks in
      let below = seen-below editions v.part.pairs edition.number (judged_editions work.docket.entries) seen (each_below (judged_editions work.docket.entries) few known) in
      let cached = CacheStandsFor-judged editions work.docket inputs (stood editions seen).stands.entered work.cache w.cache edition packet port second judgement w.docket there below sees entries (stood editions seen).cached in
      record { stands = subst (λ (asks : List LaneAsk). StandFor editions asks w.docket w.tally (inputs ++ Packet packet port second ∷ [])) own more; cached = cached }

  alike : t ≡ table → steady_view u ≡ steady_view v → w.loose ≡ work.loose
      → lane_of t u w ≡ record (lane_of table v work) { docket = w.docket; tally = w.tally; cache = w.cache; asks = asks_in u.part.own; book_taken = u.part.book_taken; failed = w.failed }
  alike a s l = λ i. record {
    world = a i;
    place = (s i).place;
    number = (s i).part.held;
    refusal = (s i).part.refusal;
    sections = (s i).part.sections;
    seen = (s i).part.pairs;
    asks = asks_in u.part.own;
    behind_taken = (s i).part.behind_taken;
    book_taken = u.part.book_taken;
    docket = w.docket;
    tally = w.tally;
    cache = w.cache;
    failed = w.failed;
    loose = l i;
  }

  -- its next record was judged, or memory was wanted
  abbrev NextIsJudged : ℕ → Result Judgement OutOfMemory → Type 0
  NextIsJudged lane result = LaneJudges (λ old lane at. Enters at old) Misses old new lane question work w result

  loose_is : (lane : ℕ) (result : Result Judgement OutOfMemory) → NextIsJudged lane result → w.loose ≡ work.loose
  loose_is lane (Ok judgement) judges = ap (λ (x : LaneWork). x.loose) judges.entered
  loose_is lane (Err fault) judges = ap (λ (x : LaneWork). x.loose) judges.failed

  module _ (lane : ℕ) (result : Result Judgement OutOfMemory) (judges : NextIsJudged lane result) (at_port : IsPortFor work.cache port) where
    -- the next record of the lane was judged, or memory was wanted
    pub next : (b : Bool) → IsSharedLane 1 v work → t ≡ table → JudgesNext (inside_of table v work b) (inside_of t u w (is_ok result)) packet port second result
    next b is own = record {
      edition = edition;
      reads = reading;
      judged = judged_by result judges;
      entered = entered_by result judges;
      same = alike own (still judges.evaluated.asked) (loose_is lane result judges);
      room = capacity-behind edition port work.cache w.cache judges.evaluated.cache;
      at_port = IsPortFor-behind edition port work.cache w.cache judges.evaluated.cache at_port;
      stands = stands_by result judges;
      working = working_by result judges;
      idle = λ was.
          let same : u ≡ v = ended ∙ ap (λ (a : AskingValue). a.view) (judges.idle was) ∙ begun in
          (ap (λ (x : Known). asks_in x.part.own) same, ap (λ (x : Known). x.part.book_taken) same);
      failed = failed_by result judges;
      begun = begins judges.evaluated.asked;
      reading = ap edition_read (still judges.evaluated.asked);
      section = refl;
    }
      where
        judged_by : (r : Result Judgement OutOfMemory) → NextIsJudged lane r → IfOk r (Judges edition (lane_of table v work) (lane_of t u w) packet port second)
        judged_by (Ok judgement) judges = judged judgement judges.evaluated.judged
        judged_by (Err fault) judges = tt

        entered_by : (r : Result Judgement OutOfMemory) → NextIsJudged lane r → IfOk r (λ judgement. w.docket ≡ record work.docket { entries = work.docket.entries ++ judged_entry judgement ∷ [] })
        entered_by (Ok judgement) judges = ap (λ (x : LaneWork). x.docket) judges.entered
        entered_by (Err fault) judges = tt

        stands_by : (r : Result Judgement OutOfMemory) → NextIsJudged lane r → OnOk r ((inputs : List Input) → LaneStandsFor (lane_of table v work) inputs → LaneStandsFor (lane_of t u w) (inputs ++ Packet packet port second ∷ []))
        stands_by (Ok judgement) judges =
            stands judgement judges.evaluated.judged (ap (λ (x : LaneWork). x.docket.entries) judges.entered) (still judges.evaluated.asked) judges.evaluated.seen is.judged is.seen
        stands_by (Err fault) judges = tt

        working_by : (r : Result Judgement OutOfMemory) → NextIsJudged lane r → OnOk r ((work.failed ≡ false) × (w.failed ≡ false))
        working_by (Ok judgement) judges = (judges.working, ap (λ (x : LaneWork). x.failed) judges.entered ∙ judges.working)
        working_by (Err fault) judges = tt

        failed_by : (r : Result Judgement OutOfMemory) → NextIsJudged lane r → OnErr r ((w.failed ≡ true) × (w.docket ≡ work.docket))
        failed_by (Ok judgement) judges = tt
        failed_by (Err fault) judges = (ap (λ (x : LaneWork). x.failed) judges.failed, ap (λ (x : LaneWork). x.docket) judges.failed)

    -- its cache keeps what is true
    cached_still : IsSharedLane 1 v work → IsCacheSeen u.part.pairs w.cache
    cached_still is =
        let names = subst (λ (p : Published). (j : ℕ) (other : Configuration) → slice_get v.part.pairs j ≡ Some (p.number, other) → other ≡ p.config) (sym edition_is) reads.named in
        let pair : slice_get v.part.pairs reads.index ≡ Some (edition.number, edition.config) = subst (λ (p : Published). slice_get v.part.pairs reads.index ≡ Some (p.number, p.config)) (sym edition_is) reads.seen in
        subst (λ (pairs : List (ℕ × Configuration)). IsCacheSeen pairs w.cache) (sym (ap (λ (x : Known). x.part.pairs) (still judges.evaluated.asked)))
        (IsCacheSeen-behind v.part.pairs edition lawful names port work.cache w.cache reads.index pair at_port judges.evaluated.cache is.cached)

    -- what holds of it
    pub kept : IsSharedLane 1 v work → IsSharedLane (pending_of (is_ok result)) u w
    kept is = kept_by result judges
      where
        of_seat : steady_view u ≡ steady_view v
        of_seat = still judges.evaluated.asked

        kept_by : (r : Result Judgement OutOfMemory) → NextIsJudged lane r → IsSharedLane (pending_of (is_ok r)) u w
        kept_by (Ok judgement) judges =
            let ran = judges.evaluated.judged in
            let entered = judges.entered in
            let number : judgement.edition ≡ v.part.held = judgement_names_edition question ran.replies judgement ran.outcome ∙ held in
            let below : All (λ n. n ≤ judgement.edition) (judged_editions work.docket.entries) = subst (λ (top : ℕ). All (λ n. n ≤ top) (judged_editions work.docket.entries)) (sym number) is.judged in
            let before : LaneValue = record (with_docket_entry (judged_entry judgement) (plain_of v work)) { tally = w.tally; cache = w.cache } in
            let same : plain_of u w ≡ before = (λ i. record {
              place = (of_seat i).place;
              number = (of_seat i).part.held;
              refusal = (of_seat i).part.refusal;
              tracker = tracker_after (of_seat i).part.sections;
              docket = (entered i).docket;
              tally = w.tally;
              cache = w.cache;
              failed = (entered i).failed;
              loose = (entered i).loose;
            }) in
            let more : All (λ n. n ≤ judgement.edition) (judged_editions work.docket.entries ++ judgement.edition ∷ []) = All-push (λ n. n ≤ judgement.edition) (judged_editions work.docket.entries) judgement.edition below (omega arith) in
            let entries : judged_editions w.docket.entries ≡ judged_editions work.docket.entries ++ judgement.edition ∷ [] = ap (λ (x : LaneWork). judged_editions x.docket.entries) entered ∙ judged_editions-judged work.docket.entries judgement in
            record {
              plain = subst (λ (l : LaneValue). IsLane 0 l) (sym same) (IsLane-judged (plain_of v work) judgement w.tally w.cache is.plain below);
              of_book = of_book_after v u of_seat is.of_book;
              judged =
                  subst (λ (top : ℕ). All (λ n. n ≤ top) (judged_editions w.docket.entries)) (number ∙ sym (ap (λ (x : Known). x.part.held) of_seat))
                  (subst (λ (numbers : List ℕ). All (λ n. n ≤ judgement.edition) numbers) (sym entries) more);
              seen =
                  let one : IsSeenIn v.part.pairs judgement.edition = record { index = reads.index; config = (arc_value reads.edition).config; pair = subst (λ (n : ℕ). slice_get v.part.pairs reads.index ≡ Some (n, (arc_value reads.edition).config)) (reads.held ∙ sym number) reads.seen } in
                  subst (λ (pairs : List (ℕ × Configuration)). AllByRecursion (IsSeenIn pairs) (judged_editions w.docket.entries)) (sym (ap (λ (x : Known). x.part.pairs) of_seat))
                  (subst (λ (numbers : List ℕ). AllByRecursion (IsSeenIn v.part.pairs) numbers) (sym entries) (all_push (IsSeenIn v.part.pairs) (judged_editions work.docket.entries) judgement.edition is.seen one));
              cached = cached_still is;
            }
        kept_by (Err fault) judges =
            let failed = judges.failed in
            let before : LaneValue = record (plain_of v work) { tally = w.tally; cache = w.cache; failed = true } in
            let same : plain_of u w ≡ before = (λ i. record {
              place = (of_seat i).place;
              number = (of_seat i).part.held;
              refusal = (of_seat i).part.refusal;
              tracker = tracker_after (of_seat i).part.sections;
              docket = (failed i).docket;
              tally = w.tally;
              cache = w.cache;
              failed = (failed i).failed;
              loose = (failed i).loose;
            }) in
            record {
              plain = subst (λ (l : LaneValue). IsLane 1 l) (sym same) (IsLane-failed 1 (plain_of v work) w.tally w.cache is.plain);
              of_book = of_book_after v u of_seat is.of_book;
              judged =
                  subst (λ (top : ℕ). All (λ n. n ≤ top) (judged_editions w.docket.entries)) (sym (ap (λ (x : Known). x.part.held) of_seat))
                  (subst (λ (x : DocketValue). All (λ n. n ≤ v.part.held) (judged_editions x.entries)) (sym (ap (λ (x : LaneWork). x.docket) failed)) is.judged);
              seen =
                  subst (λ (pairs : List (ℕ × Configuration)). AllByRecursion (IsSeenIn pairs) (judged_editions w.docket.entries)) (sym (ap (λ (x : Known). x.part.pairs) of_seat))
                  (subst (λ (x : DocketValue). AllByRecursion (IsSeenIn v.part.pairs) (judged_editions x.entries)) (sym (ap (λ (x : LaneWork). x.docket) failed)) is.seen);
              cached = cached_still is;
            }

    pub reads_still : ReadsSeen u
    reads_still = reads_after v u (still judges.evaluated.asked) reads

    pub place_still : u.place ≡ v.place
    place_still = ap (λ (x : Known). x.place) (still judges.evaluated.asked)

    pub lock_still : new.lock ≡ old.lock
    lock_still = (front judges.evaluated.asked).asks.lock

-- under the edition that is read all that the cache keeps is true
pub is_true : (v : Known) (work : LaneWork) → ReadsSeen v → IsCacheSeen v.part.pairs work.cache → IsTrueFor (edition_of v) work.cache
is_true v work reads is =
    subst (λ (p : Published). IsTrueFor p work.cache) (sym (edition_of-reads v reads.edition reads.reading)) (IsTrueFor-seen v.part.pairs (arc_value reads.edition) reads.lawful reads.named work.cache is)
