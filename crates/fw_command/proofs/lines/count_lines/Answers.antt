use Rattle.std.proofs.Common.{◌≡◌, [], arith, rules, drop_of_length-le}
use Rattle.fw_command.proofs.Pieces.{lines_of-nil}
use Rattle.fw_command.proofs.lines.count_lines.Goals as goal

pub returns : goal.returns
returns c =
    let none : c.loop-rest.rest.now ≡ [] = drop_of_length-le c.loop-rest.rest.now {i = 0} (search rules) in
    let counted = rw (none, lines_of-nil) at c.loop-rest.invariant.counted in
    omega (arith, counted)
