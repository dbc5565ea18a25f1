use Rattle.std.proofs.Common.{◌≡◌, ◌+◌, ◌*◌, ◌/◌, ◌%◌, ◌^◌, ◌≤◌, sym, ap, ◌∙◌, arith}
use Rattle.std.proofs.Math.Nat.{div-add-mod}
use Rattle.rule_gates.proofs.Blocks.{block-has, network-tells, same_bits}
use Rattle.rule_gates.proofs.addresses.network.Goals as goal

pub returns-clause-covers : goal.returns-clause-covers
returns-clause-covers c number same =
    let host = c.args.host_bits in
    let bits : 32 * (host / 32) + host % 32 ≡ host = div-add-mod host 32 in
    let few : host % 32 ≤ 32 = omega arith in
    let words = same_bits number c.args.address host (host / 32) (host % 32) bits few same in
    let chosen = ap (λ x. x / 2 ^ (host % 32)) c.word.ensures in
    block-has c.block.result _ c.word.result (host % 32) c.block.ensures.low c.block.ensures.span (words ∙ sym chosen)

pub returns-clause-tells : goal.returns-clause-tells
returns-clause-tells c number few address_fits number_fits has =
    network-tells c.block.result number c.args.address c.args.host_bits c.word.result few number_fits address_fits c.word.ensures c.block.ensures.low c.block.ensures.span has
