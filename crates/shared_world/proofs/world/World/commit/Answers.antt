use Rattle.std.proofs.Common.{sym, ap, ◌∙◌, subst}
use Rattle.shared_world.proofs.Committed.{commits, commits-kept, desk_of}
use Rattle.shared_world.proofs.world.World.commit.Goals as goal
use Rattle.shared_world.specs.Commits.{Commits}
use Rattle.shared_world.specs.SharedDesk.{SharedDesk}

pub invariant_of-desk : goal.invariant_of-desk
invariant_of-desk g c = (
  commits-kept c.desk.inside.operator.table_id c.publish_prepared-operator.result.0.table_id c.desk.inside.lanes c.desk.inside.operator.view c.publish_prepared-operator.result.0.view
      c.desk.inside.store.editions c.publish_prepared-operator.new.store.editions c.in-Ok.next c.args.command.now c.publish_prepared-operator.result.1 c.in-Ok.ensures.next
      (rw c.prepared.ensures.unchanged at c.publish_prepared-operator.ensures.published) (rw c.prepared.ensures.unchanged at c.publish_prepared-operator.ensures.unchanged) c.desk.invariant.0,
  c.desk.invariant.1,
)

pub returns-in-Ok : goal.returns-in-Ok
returns-in-Ok g c = record {
  committed =
      subst (λ (d : SharedDesk). Commits d (desk_of c.publish_prepared-operator.result.0.table_id c.desk.inside.lanes c.publish_prepared-operator.result.0.view c.publish_prepared-operator.new.store.editions) c.args.command.now c.publish_prepared-operator.result.1) c.desk.view_is
      (commits c.desk.inside.operator.table_id c.publish_prepared-operator.result.0.table_id c.desk.inside.lanes c.desk.inside.operator.view c.publish_prepared-operator.result.0.view
      c.desk.inside.store.editions c.publish_prepared-operator.new.store.editions c.in-Ok.next c.args.command.now c.publish_prepared-operator.result.1 c.in-Ok.ensures.next
      (rw c.prepared.ensures.unchanged at c.publish_prepared-operator.ensures.published) (rw c.prepared.ensures.unchanged at c.publish_prepared-operator.ensures.unchanged)
      (c.publish_prepared-operator.ensures.lock ∙ sym c.requires.desk ∙ sym (ap (λ (d : SharedDesk). d.world) c.desk.view_is)) c.in-Ok.ensures.number c.publish_prepared-operator.ensures.cause);
}
