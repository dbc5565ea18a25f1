-- What a lane keeps while the world goes on beside it: cite these for a lane that stands aside.
use Rattle.std.proofs.Common.{◌≡◌, ◌≢◌, ℕ, ◌+◌, ◌≤◌, List, [], ◌∷◌, ◌++◌, length, sym, ap, ◌∙◌, subst, arith}
use Rattle.std.proofs.lemmas.List.{length-append}
use Rattle.std.proofs.lemmas.List.Elements.{All-weaker}
use Rattle.std.specs.Prelude.{Result, Ok, Err, OnOk, OnErr, All, IfSome, Option, Some, None}
use Rattle.fw_rule.specs.declared.command.Command.{Command}
use Rattle.generation_store.specs.Published.{Published}
use Rattle.state_journal.specs.Journal.{Journal}
use Rattle.state_journal.proofs.ItemLists.{asks_of-publication}
use Rattle.fw_world.specs.declared.commit_fault.CommitFault.{CommitFault}
use Rattle.fw_world.specs.Asks.{LaneAsk, asks_in, lane_asks}
use Rattle.fw_world.specs.Caches.{IsCacheAmong}
use Rattle.fw_world.specs.Inputs.{Input}
use Rattle.fw_world.specs.Lane.{LaneValue}
use Rattle.fw_world.specs.Standing.{StandWithCache}
use Rattle.fw_world.specs.Sections.{judged_editions}
use Rattle.serial_world.specs.Steps.{ChangesAsksOf, Publishes}
use Rattle.fw_world.specs.World.{WorldValue, published_count, IsLaneOf, LaneStandsFor}
use Rattle.fw_world.proofs.MoreEditions.{StandWithCache-more, IsCacheAmong-more}

-- a lane stands for what it stood for while another lane asks
pub stands_beside : (lane : ℕ) (old new : WorldValue) (aside : LaneValue) (inputs : List Input) → ChangesAsksOf lane old new → aside.place ≢ lane → LaneStandsFor old aside inputs → LaneStandsFor new aside inputs
stands_beside lane old new aside inputs changes other stands =
    subst (λ (editions : List Published). StandWithCache editions (lane_asks aside.place new.journal.entries) aside.docket aside.tally aside.cache inputs) (sym changes.editions)
    (subst (λ (asks : List LaneAsk). StandWithCache old.editions asks aside.docket aside.tally aside.cache inputs) (sym (ap asks_in (changes.others aside.place other))) stands)

-- it stays a lane of the world
pub is_lane_beside : (lane : ℕ) (old new : WorldValue) (aside : LaneValue) → ChangesAsksOf lane old new → IsLaneOf old aside → IsLaneOf new aside
is_lane_beside lane old new aside changes is =
    let count : published_count old ≡ published_count new = sym (ap length changes.editions) in
    record {
      first = is.first;
      last = subst (λ (n : ℕ). aside.place ≤ n) (sym changes.lanes) is.last;
      held = subst (λ (n : ℕ). aside.number ≤ n) count is.held;
      heard = subst (λ (n : ℕ). IfSome aside.refusal (λ number. number ≤ n)) count is.heard;
      judged = subst (λ (n : ℕ). All (λ number. number ≤ n) (judged_editions aside.docket.entries)) count is.judged;
      cached = subst (λ (editions : List Published). IsCacheAmong editions aside.cache) (sym changes.editions) is.cached;
    }

-- a lane stands for what it stood for when an edition is published
pub stands_behind : (old new : WorldValue) (command : Command) (lane : LaneValue) (inputs : List Input) → Publishes old new command → LaneStandsFor old lane inputs → LaneStandsFor new lane inputs
stands_behind old new command lane inputs publishes stands =
    let more : List Published = publishes.edition ∷ [] in
    let asks : List LaneAsk = lane_asks lane.place old.journal.entries in
    let own : lane_asks lane.place new.journal.entries ≡ asks = ap (λ (j : Journal). lane_asks lane.place j.entries) publishes.journal ∙ ap asks_in (asks_of-publication lane.place 0 publishes.edition.facts.number old.journal.entries) in
    let grown : StandWithCache (old.editions ++ more) asks lane.docket lane.tally lane.cache inputs = StandWithCache-more old.editions more asks lane.docket lane.tally lane.cache inputs stands in
    subst (λ (editions : List Published). StandWithCache editions (lane_asks lane.place new.journal.entries) lane.docket lane.tally lane.cache inputs) (sym publishes.editions)
    (subst (λ (some : List LaneAsk). StandWithCache (old.editions ++ more) some lane.docket lane.tally lane.cache inputs) (sym own) grown)

-- and stays a lane of the world
pub is_lane_behind : (old new : WorldValue) (command : Command) (lane : LaneValue) → Publishes old new command → IsLaneOf old lane → IsLaneOf new lane
is_lane_behind old new command lane publishes is =
    let count : published_count new ≡ published_count old + 1 = ap length publishes.editions ∙ length-append old.editions (publishes.edition ∷ []) in
    record {
      first = is.first;
      last = subst (λ (n : ℕ). lane.place ≤ n) (sym (ap (λ (j : Journal). j.lanes) publishes.journal)) is.last;
      held = omega (arith, count, is.held);
      heard = heard lane.refusal count is.heard;
      judged = All-weaker (λ (n : ℕ). n ≤ published_count old) (λ (n : ℕ). n ≤ published_count new) (λ n below. omega (arith, count, below)) (judged_editions lane.docket.entries) is.judged;
      cached = subst (λ (editions : List Published). IsCacheAmong editions lane.cache) (sym publishes.editions) (IsCacheAmong-more old.editions (publishes.edition ∷ []) lane.cache is.cached);
    }
  where
    heard : (refusal : Option ℕ) → published_count new ≡ published_count old + 1 → IfSome refusal (λ number. number ≤ published_count old) → IfSome refusal (λ number. number ≤ published_count new)
    heard None count below = below
    heard (Some number) count below = omega (arith, count, below)

-- a publication that was made or refused leaves as many lanes
pub lanes_after : (result : Result ℕ CommitFault) (old new : WorldValue) (command : Command) → OnOk result (Publishes old new command) → OnErr result (new ≡ old) → new.journal.lanes ≡ old.journal.lanes
lanes_after (Ok number) old new command published unchanged = ap (λ (j : Journal). j.lanes) published.journal
lanes_after (Err fault) old new command published unchanged = ap (λ (w : WorldValue). w.journal.lanes) unchanged
