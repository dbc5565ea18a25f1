use Rattle.shared_world.proofs.DeskSteps.{published}
use Rattle.shared_world.proofs.committing.publish_shares.Goals as goal

pub returns-clause-published : goal.returns-clause-published
returns-clause-published g c = λ edition are.
    published c.args.operator.view c.begin_write-writing.result.view c.publish-operator.result.0.view edition c.requires.next.0 c.args.shares.items c.args.facts
    are c.requires.next.1 c.requires.next.4 c.begin_write-writing.ensures.begun c.publish-operator.ensures.published
