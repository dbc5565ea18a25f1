use Rattle.std.proofs.Common.{refl, inl}
use Rattle.live_replay.specs.declared.operator.Operator.{Operator}
use Rattle.live_replay.proofs.Lines.{accepts_command}
use Rattle.live_replay.proofs.operator.Operator.commit.Goals as goal

pub returns-in-Ok : goal.returns-in-Ok
returns-in-Ok g c =
    let after : Operator = record { desk = c.commit-desk.result.0; answers = c.args.self.answers } in
    inl (accepts_command c.args.self after c.args.line.now.command c.commit-desk.result.1 c.in-Ok._number c.in-Ok.is c.commit-desk.ensures.committed refl)
