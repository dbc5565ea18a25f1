use Rattle.std.proofs.Common.{List, ◌++◌, ◌∷◌, [], ◌∙◌, sym, ap, subst}
use Rattle.std.proofs.lemmas.Result.{IfOk-weaker}
use Rattle.std.specs.Prelude.{OnOk}
use Rattle.fw_rule.specs.declared.command.Command.{Command}
use Rattle.rule_chain.specs.Configuration.{Configuration}
use Rattle.fw_world.specs.Inputs.{Input}
use Rattle.fw_world.specs.Lane.{LaneValue}
use Rattle.fw_world.specs.Columns.{no_columns}
use Rattle.fw_world.specs.World.{IsLaneOf, LaneStandsFor, DeskStandsFor}
use Rattle.fw_world.proofs.Accepting.{accepts_one_more}
use Rattle.serial_world.specs.Steps.{Publishes}
use Rattle.serial_world.proofs.Keeping.{is_lane_behind, stands_behind, lanes_after}
use Rattle.serial_world.proofs.serial_world.SerialWorld.edit.Goals as goal
use Rattle.serial_world.proofs.serial_world.SerialWorld.edit.Goals.{After-publish}

published : (c : After-publish) → OnOk c.publish.result (Publishes c.args.self.now c.publish.new.self c.args.command.now)
published c = rw c.self.view_is at c.publish.ensures.published

pub invariant_of-self : goal.invariant_of-self
invariant_of-self c = c.self.invariant ∙ ap no_columns (sym (lanes_after c.publish.result c.self.inside.held c.publish.new.self c.args.command.now c.publish.ensures.published c.publish.ensures.unchanged))

lanes : (c : After-publish) → OnOk c.publish.result ((lane : LaneValue) → IsLaneOf c.args.self.now lane → IsLaneOf c.publish.new.self lane)
lanes c = IfOk-weaker c.publish.result _ _ (λ number published lane is. is_lane_behind c.args.self.now c.publish.new.self c.args.command.now lane published is) (published c)

stands : (c : After-publish) → OnOk c.publish.result ((lane : LaneValue) (inputs : List Input) → LaneStandsFor c.args.self.now lane inputs → LaneStandsFor c.publish.new.self lane inputs)
stands c = IfOk-weaker c.publish.result _ _ (λ number published lane inputs stands. stands_behind c.args.self.now c.publish.new.self c.args.command.now lane inputs published stands) (published c)

accepts : (c : After-publish) → OnOk c.publish.result ((first : Configuration) (commands : List Command) → DeskStandsFor c.desk.inside.store.editions first commands → DeskStandsFor c.publish.new.shown.editions first (commands ++ c.args.command.now ∷ []))
accepts c = IfOk-weaker c.publish.result _ _ (λ number published first commands stands.
    subst (λ editions. DeskStandsFor editions first (commands ++ c.args.command.now ∷ [])) (sym (c.publish.ensures.shown ∙ published.editions))
    (accepts_one_more c.args.self.now.editions c.args.command.now published.edition first commands published.next (subst (λ editions. DeskStandsFor editions first commands) (c.desk.view_is ∙ c.requires.desk) stands))) (published c)

pub returns : goal.returns
returns c = record {
  published = published c;
  number = c.publish.ensures.number;
  desk = c.publish.ensures.shown;
  accepts = rw c.desk.view_is at (accepts c);
  lanes = lanes c;
  stands = stands c;
  cause = rw c.self.view_is at c.publish.ensures.cause;
  unchanged = rw c.self.view_is at c.publish.ensures.unchanged;
}
