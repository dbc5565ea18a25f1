use Rattle.std.proofs.Common.{◌*◌, ◌-◌, ◌%◌, ◌^◌, ◌≡◌, ap, ◌∙◌, arith}
use Rattle.std.proofs.Math.Nat.{mod-eq_of_lt}
use Rattle.ipfw_parser.proofs.Steps.Sides.{shifted_fits}
use Rattle.ipfw_parser.proofs.addresses6.followed.Goals as goal

pub returns-else-front-eq0 : goal.returns-else-front-eq0
returns-else-front-eq0 c =
    let same : c.from.result ≡ 8 - c.args.front.count = omega (arith, c.from.ensures) in
    ap (λ k. c.args.front.value * 2 ^ (16 * k) % 2 ^ 128) same
    ∙ mod-eq_of_lt (shifted_fits c.args.front.value c.args.front.count (omega (arith, c.requires.few)) c.requires.small)
