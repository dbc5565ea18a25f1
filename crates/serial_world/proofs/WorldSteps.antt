-- What asks and publications leave of a serial world.
use Rattle.std.proofs.Common.{◌≡◌, ℕ, ◌+◌, ◌-◌, ◌<◌, List, [], ◌∷◌, ◌++◌, length, map, inl, inr, refl, sym, ap, ◌∙◌, subst, arith}
use Rattle.std.proofs.lemmas.List.{length-append, length-map, map-append}
use Rattle.std.specs.Prelude.{Some, slice_get, ◌⊎◌}
use Rattle.fw_base.specs.declared.port.Port.{Port}
use Rattle.fw_rule.specs.declared.command.Command.{Command}
use Rattle.ip6_headers.specs.declared.any_ip.AnyIp.{AnyIp}
use Rattle.counter_book.specs.declared.tally.Count.{Count}
use Rattle.state_asks.specs.declared.facts.Facts.{Facts}
use Rattle.state_asks.specs.declared.op.Op.{Op}
use Rattle.state_asks.specs.declared.reply.Reply.{Reply}
use Rattle.generation_store.specs.Published.{Published}
use Rattle.state_journal.proofs.EntryLists.{publications-ask, publications-publication}
use Rattle.state_journal.specs.Entries.{last_number}
use Rattle.state_journal.specs.Items.{asks_of}
use Rattle.state_journal.specs.Journal.{Journal, IsJournal, with_ask, with_publication}
use Rattle.eval_engine.proofs.Hits.{judgement_names_edition}
use Rattle.eval_engine.specs.Dockets.{judged_entry}
use Rattle.eval_engine.specs.Evaluation.{evaluate}
use Rattle.eval_engine.specs.Question.{Question, question_under}
use Rattle.eval_engine.specs.declared.judgement.Judgement.{Judgement}
use Rattle.fw_world.specs.AskRuns.{EntersEach, Evaluates, AsksFront}
use Rattle.fw_world.specs.Asks.{LaneAsk, lane_asks, with_asks, record_asks}
use Rattle.fw_world.specs.Editions.{IsNextEdition, edition_numbered}
use Rattle.fw_world.specs.Inputs.{Input, Packet}
use Rattle.fw_world.specs.Lane.{LaneValue}
use Rattle.fw_world.specs.Caches.{IsCacheAfter}
use Rattle.fw_world.specs.Sections.{judged_editions}
use Rattle.fw_world.specs.Standing.{StandWithCache}
use Rattle.fw_world.specs.World.{WorldValue, LaneStandsFor}
use Rattle.fw_world.proofs.AskLists.{lane_asks-record, asks_of-others, KeepsAround-asks}
use Rattle.fw_world.proofs.Caching.{AreBelow, CacheStandsFor-judged}
use Rattle.fw_world.proofs.Judging.{StandFor-judged}
use Rattle.fw_world.proofs.Numbering.{last_is_numbered, AreNumbered-append, all_found_below}
use Rattle.fw_world.proofs.Running.{EntersEach-length}
use Rattle.serial_world.specs.LastEdition.{last_published}
use Rattle.serial_world.specs.Steps.{Judges, BeginsJudging, ChangesAsksOf}
use Rattle.serial_world.specs.WorldKept.{IsWorld}
use Rattle.serial_world.proofs.LastEdition.{last_published-is, IsLastOf-last_published}

-- what asking for a lane's record means for the world
abbrev pub AsksFor : ℕ → ℕ → WorldValue → Op → Reply → WorldValue → Type 0
AsksFor lane at old op reply new = new ≡ record old { journal = with_ask old.journal lane at op reply }

-- a run of asks leaves the world with them at its journal's end
world-run : (lane at : ℕ) (old : WorldValue) (ops : List Op) (replies : List Reply) (new : WorldValue) → EntersEach (AsksFor lane at) old ops replies new → new ≡ record old { journal = with_asks old.journal lane at ops replies }
world-run lane at old [] [] new ran = ran
world-run lane at old [] (reply ∷ replies) new ran = absurd ran
world-run lane at old (op ∷ ops) [] new ran = absurd ran
world-run lane at old (op ∷ ops) (reply ∷ replies) new ran =
    world-run lane at ran.0 ops replies new ran.2 ∙ ap (λ (w : WorldValue). record w { journal = with_asks w.journal lane at ops replies }) ran.1

-- an ask leaves a world one
pub IsWorld-asked : (world : WorldValue) (lane at : ℕ) (op : Op) (reply : Reply) → IsWorld world → IsWorld (record world { journal = with_ask world.journal lane at op reply })
IsWorld-asked world lane at op reply is = record {
  begun = is.begun;
  numbered = is.numbered;
  published = record { factual = is.published.factual; once = publications-ask lane at op reply world.journal.entries ∙ is.published.once };
  still = is.still;
}

-- an evaluation of which some asks were entered began a judging of the world
pub BeginsJudging-run : (old new : WorldValue) (lane at : ℕ) (packet : AnyIp) (port : Port) (second : ℕ) → IsWorld old
    → AsksFront (AsksFor lane at) (λ (before after : WorldValue). after ≡ before) old new (question_under (last_published old.editions) packet port second) → BeginsJudging old new lane at packet port second
BeginsJudging-run old new lane at packet port second is front =
    let left : new ≡ front.between = stays front.missed in
    let same : new ≡ record old { journal = with_asks old.journal lane at front.ops front.replies } = left ∙ world-run lane at old front.ops front.replies front.between front.entered in
    record {
      edition = last_published old.editions;
      last = IsLastOf-last_published old.editions is.begun;
      ops = front.ops;
      replies = front.replies;
      asked = EntersEach-length _ _ _ _ _ front.entered;
      begins = front.begins;
      entered = ap (λ (w : WorldValue). w.journal) same;
      editions = ap (λ (w : WorldValue). w.editions) same;
    }
  where
    stays : (new ≡ front.between) ⊎ ((length front.ops < length (evaluate (question_under (last_published old.editions) packet port second) front.replies).asks) × (new ≡ front.between)) → new ≡ front.between
    stays (inl same) = same
    stays (inr missed) = missed.1

-- what began changes no ask of another lane
pub ChangesAsksOf-begun : (old new : WorldValue) (lane at : ℕ) (packet : AnyIp) (port : Port) (second : ℕ) → BeginsJudging old new lane at packet port second → ChangesAsksOf lane old new
ChangesAsksOf-begun old new lane at packet port second begun =
    let around = KeepsAround-asks old.journal lane at begun.ops begun.replies in
    record {
      editions = begun.editions;
      lanes = ap (λ (j : Journal). j.lanes) begun.entered ∙ around.lanes;
      others = λ k other. ap (λ (j : Journal). asks_of k 0 j.entries) begun.entered ∙ asks_of-others old.journal k lane at begun.ops begun.replies other;
    }

-- an evaluation of the world's answers is a judging of the world
pub Judges-run : (old new : WorldValue) (lane at : ℕ) (packet : AnyIp) (port : Port) (second : ℕ) (counts after : List Count) (judgement : Judgement)
    → IsWorld old → Evaluates (AsksFor lane at) old new (question_under (last_published old.editions) packet port second) counts after judgement → Judges old new lane at packet port second counts after judgement
Judges-run old new lane at packet port second counts after judgement is ran =
    let edition : Published = last_published old.editions in
    let last = IsLastOf-last_published old.editions is.begun in
    let same = world-run lane at old _ ran.replies new ran.entered in
    record {
      edition = edition;
      last = last;
      numbered = omega (arith, judgement_names_edition (question_under edition packet port second) ran.replies judgement ran.outcome, last_is_numbered 1 old.editions edition is.numbered last);
      replies = ran.replies;
      outcome = ran.outcome;
      asked = EntersEach-length _ _ _ _ _ ran.entered;
      entered = ap (λ (w : WorldValue). w.journal) same;
      counted = ran.counted;
      editions = ap (λ (w : WorldValue). w.editions) same;
    }

-- the lane that judged stands for the packet behind its inputs
pub LaneStandsFor-judged : (old new : WorldValue) (before after : LaneValue) (packet : AnyIp) (port : Port) (second : ℕ) (judgement : Judgement) (inputs : List Input)
    → IsWorld old → IsJournal old.journal → Judges old new before.place (length before.docket.entries + 1) packet port second before.tally after.tally judgement
    → IsCacheAfter (question_under (last_published old.editions) packet port second) before.cache after.cache → after.place ≡ before.place → after.docket.entries ≡ before.docket.entries ++ judged_entry judgement ∷ [] → LaneStandsFor old before inputs → LaneStandsFor new after (inputs ++ Packet packet port second ∷ [])
LaneStandsFor-judged old new before after packet port second judgement inputs is journal judges sees place entries stands =
    let at : ℕ = length before.docket.entries + 1 in
    let q : Question = question_under judges.edition packet port second in
    let ops : List Op = (evaluate q judges.replies).asks in
    let found : edition_numbered old.editions judgement.edition ≡ Some judges.edition = subst (λ (n : ℕ). slice_get old.editions (n - 1) ≡ Some judges.edition) (sym judges.numbered) judges.last in
    let number : last_number 0 old.journal.entries ≡ judgement.edition = journal.current ∙ sym (ap length is.published.factual) ∙ length-map old.editions (λ (e : Published). e.facts) ∙ sym judges.numbered in
    let own : lane_asks before.place new.journal.entries ≡ lane_asks before.place old.journal.entries ++ record_asks judgement.edition at ops judges.replies =
    ap (λ (j : Journal). lane_asks before.place j.entries) judges.entered ∙ lane_asks-record old.journal before.place at ops judges.replies
    ∙ ap (λ (n : ℕ). lane_asks before.place old.journal.entries ++ record_asks n at ops judges.replies) number in
    let judged = StandFor-judged old.editions (lane_asks before.place old.journal.entries) before.docket before.tally inputs stands.stands judges.edition packet port second ops judges.replies judgement after.tally found judges.asked judges.outcome refl judges.counted after.docket entries in
    let seen = subst (λ (e : Published). IsCacheAfter (question_under e packet port second) before.cache after.cache) (sym (last_published-is old.editions judges.edition judges.last)) sees in
    let top : length old.editions ≡ judges.edition.number = omega (arith, last_is_numbered 1 old.editions judges.edition is.numbered judges.last) in
    let below = subst (λ (n : ℕ). AreBelow old.editions n (judged_editions before.docket.entries)) top (all_found_below old.editions (judged_editions before.docket.entries) is.numbered) in
    let cached = CacheStandsFor-judged old.editions before.docket inputs stands.stands.entered before.cache after.cache judges.edition packet port second judgement after.docket found below seen entries stands.cached in
    let both : StandWithCache old.editions (lane_asks before.place old.journal.entries ++ record_asks judgement.edition at ops judges.replies) after.docket after.tally after.cache (inputs ++ Packet packet port second ∷ []) = record { stands = judged; cached = cached } in
    let editions = subst (λ (all : List Published). StandWithCache all (lane_asks before.place old.journal.entries ++ record_asks judgement.edition at ops judges.replies) after.docket after.tally after.cache (inputs ++ Packet packet port second ∷ [])) (sym judges.editions) both in
    subst (λ (place : ℕ). StandWithCache new.editions (lane_asks place new.journal.entries) after.docket after.tally after.cache (inputs ++ Packet packet port second ∷ [])) (sym place)
    (subst (λ (asks : List LaneAsk). StandWithCache new.editions asks after.docket after.tally after.cache (inputs ++ Packet packet port second ∷ [])) (sym own) editions)

-- a publication of the next edition leaves a world one
pub IsWorld-publication : (editions : List Published) (journal : Journal) (command : Command) (edition : Published) → IsWorld (record { editions = editions; journal = journal }) → IsNextEdition editions command edition
    → IsWorld (record { editions = editions ++ edition ∷ []; journal = with_publication journal edition.facts })
IsWorld-publication editions journal command edition is next = record {
  begun = omega (arith, length-append editions (edition ∷ []));
  numbered = AreNumbered-append 1 editions edition is.numbered (omega (arith, next.built.numbered)) next.built.factual;
  published = record {
    factual = map-append (λ (e : Published). e.facts) editions (edition ∷ []) ∙ ap (λ (facts : List Facts). facts ++ edition.facts ∷ []) is.published.factual;
    once =
        publications-publication edition.facts.number journal.entries
        ∙ ap (λ (numbers : List ℕ). numbers ++ edition.facts.number ∷ []) is.published.once
        ∙ ap (λ (n : ℕ). map (λ (e : Published). e.number) editions ++ n ∷ []) next.built.factual.numbered
        ∙ sym (map-append (λ (e : Published). e.number) editions (edition ∷ []));
  };
  still = refl;
}
