-- What a commit does to a desk.
use Rattle.std.proofs.Common.{◌≡◌, ℕ, ◌+◌, List, [], ◌∷◌, ◌++◌, length, Ok, Err, refl, sym, ap, ◌∙◌, subst, arith}
use Rattle.std.proofs.lemmas.List.{length-append}
use Rattle.std.specs.Prelude.{Result, IfOk, IfErr, OnErr}
use Rattle.std.specs.Arc.{arc_value}
use Rattle.atomic_table.specs.Seated.{TableId}
use Rattle.fw_rule.specs.declared.command.Command.{Command}
use Rattle.fw_world.proofs.Accepting.{accepts_one_more}
use Rattle.fw_world.specs.CommitFaults.{IsCauseOf}
use Rattle.fw_world.specs.Editions.{AreEditions, IsNextEdition}
use Rattle.fw_world.specs.declared.commit_fault.CommitFault.{CommitFault}
use Rattle.fw_world.specs.declared.commit_fault.CommitFault.TheVariants as refusal
use Rattle.generation_store.specs.Published.{Published}
use Rattle.shared_world.proofs.DeskSteps.{published-kept, visited-kept}
use Rattle.shared_world.specs.Commits.{Commits, StaysAsItWas}
use Rattle.shared_world.specs.DeskKept.{AreShares, IsPrepared, IsSharedDesk, PublishesNext, VisitsDesk}
use Rattle.shared_world.specs.Known.{Known}
use Rattle.shared_world.specs.SharedDesk.{SharedDesk}
use Rattle.shared_world.specs.Standing.{DeskStandsFor}
use Rattle.shared_world.specs.declared.preparing.NextEdition.{NextEdition}

-- the desk of this world that knows this, and has these editions
abbrev pub desk_of : TableId → ℕ → Known → List Published → SharedDesk
desk_of world lanes v editions = record { world = world; lanes = lanes; editions = editions; steps = v.steps }

-- what was prepared follows what the operator published
pub is_prepared : (lanes : ℕ) (v : Known) (editions : List Published) (command : Command) (next : NextEdition) → IsSharedDesk lanes v editions → IsNextEdition editions command (arc_value next.edition) → next.number ≡ length editions + 1
    → AreShares (arc_value next.edition) lanes next.shares.items → next.facts ≡ (arc_value next.edition).facts → IsPrepared v next
is_prepared lanes v editions command next is follows number shares facts = record {
  number = omega (arith, number, is.published);
  numbered = omega (arith, follows.built.numbered, is.published);
  lawful = follows.built.factual;
  shares = subst (λ (n : ℕ). AreShares (arc_value next.edition) n next.shares.items) (sym is.count) shares;
  facts = facts;
}

-- a desk that visited the book at most is as it was
pub stays-desk : (world table : TableId) (lanes : ℕ) (v u : Known) (editions same : List Published) → table ≡ world → VisitsDesk v u → same ≡ editions → StaysAsItWas (desk_of world lanes v editions) (desk_of table lanes u same)
stays-desk world table lanes v u editions same of_world visits unchanged = record {
  more = visits.more;
  on_book = visits.on_book;
  after_is = λ i. record { world = of_world i; lanes = lanes; editions = unchanged i; steps = visits.steps i };
}

-- nothing was published
pub refused : (before after : SharedDesk) (command : Command) (fault : CommitFault) → IsCauseOf before.editions command fault → StaysAsItWas before after → Commits before after command (Err fault)
refused before after command fault cause stays = record {
  published = tt;
  number = tt;
  accepts = tt;
  cause = cause;
  unchanged = stays;
  world = ap (λ (d : SharedDesk). d.world) stays.after_is;
  lanes = ap (λ (d : SharedDesk). d.lanes) stays.after_is;
}

-- the next edition was
accepted : (before after : SharedDesk) (command : Command) (number : ℕ) (edition : Published) → IsNextEdition before.editions command edition → after.editions ≡ before.editions ++ edition ∷ [] → number ≡ length before.editions + 1
    → after.world ≡ before.world → after.lanes ≡ before.lanes → Commits before after command (Ok number)
unfolding DeskStandsFor
accepted before after command number edition next editions told world lanes = record {
  published = record { edition = edition; next = next; editions = editions };
  number = omega (arith, told, ap length editions, length-append before.editions (edition ∷ []));
  accepts = λ first commands stands. subst (λ (all : List Published). AreEditions first (commands ++ command ∷ []) all) (sym editions) (accepts_one_more before.editions command edition first commands next stands);
  cause = tt;
  unchanged = tt;
  world = world;
  lanes = lanes;
}

module _ (world table : TableId) (lanes : ℕ) (v u : Known) (editions more : List Published) (next : NextEdition) (command : Command) (result : Result ℕ CommitFault) (follows : IsNextEdition editions command (arc_value next.edition))
    (published : IfOk result (PublishesNext v u next editions more)) (unchanged : OnErr result (VisitsDesk v u × (more ≡ editions))) where
  -- what was prepared was published, or nothing was
  pub commits : table ≡ world → next.number ≡ length editions + 1 → IfErr result (λ fault. fault ≡ refusal.OutOfMemory) → Commits (desk_of world lanes v editions) (desk_of table lanes u more) command result
  commits of_world number cause = told result published unchanged cause
    where
      told : (r : Result ℕ CommitFault) → IfOk r (PublishesNext v u next editions more) → OnErr r (VisitsDesk v u × (more ≡ editions)) → IfErr r (λ fault. fault ≡ refusal.OutOfMemory)
          → Commits (desk_of world lanes v editions) (desk_of table lanes u more) command r
      told (Ok answer) does stays why = accepted (desk_of world lanes v editions) (desk_of table lanes u more) command answer (arc_value next.edition) follows does.stored (does.told ∙ number) of_world refl
      told (Err fault) does stays why =
          refused (desk_of world lanes v editions) (desk_of table lanes u more) command fault (subst (λ (f : CommitFault). IsCauseOf editions command f) (sym why) tt) (stays-desk world table lanes v u editions more of_world stays.0 stays.1)

  -- what holds of every desk holds of it
  pub commits-kept : IsSharedDesk lanes v editions → IsSharedDesk lanes u more
  commits-kept is = told result published unchanged
    where
      told : (r : Result ℕ CommitFault) → IfOk r (PublishesNext v u next editions more) → OnErr r (VisitsDesk v u × (more ≡ editions)) → IsSharedDesk lanes u more
      told (Ok answer) does stays =
          let number : (arc_value next.edition).number ≡ v.number + 1 = omega (arith, follows.built.numbered, is.published) in
          subst (λ (all : List Published). IsSharedDesk lanes u all) (sym does.stored) (published-kept lanes v u editions (arc_value next.edition) does.view number follows.built.factual is)
      told (Err fault) does stays = subst (λ (all : List Published). IsSharedDesk lanes u all) (sym stays.1) (visited-kept lanes v u editions stays.0 is)
