use Rattle.std.proofs.Common.{◌≡◌, true, List, get_or, length, ap, subst, arith}
use Rattle.rule_gates.specs.Gates.{admits}
use Rattle.rule_gates.specs.Hulls.{AreShut}
use Rattle.rule_gates.specs.declared.gate.Gate.{Gate}
use Rattle.rule_gates.proofs.Hulled.{next_is, shut_on}
use Rattle.rule_gates.proofs.search.next_admitted.Goals as goal

pub returns-then-found-end : goal.returns-then-found-end
returns-then-found-end c =
    rw (← c.as_slice-all.ensures)
    (next_is c.args.key.now c.as_slice-all.result.now c.args.from c.scan-found.result c.scan-found.ensures.least (omega arith) c.scan-found.ensures.shut
    (λ within. c.scan-found.ensures.open c.if-found-end.true))

pub returns-then-place-covered : goal.returns-then-place-covered
returns-then-place-covered c =
    let near = subst (λ (gates : List Gate). AreShut c.args.key.now gates c.args.from c.scan-found.result) c.as_slice-all.ensures c.scan-found.ensures.shut in
    let fewer = c.covered.ensures.fewer in
    let within = c.if-place-covered.true in
    next_is c.args.key.now c.args.gates.now c.args.from c.next_covered-place.result (omega arith) (omega arith)
    (shut_on c.args.key.now c.args.gates.now c.args.from c.scan-found.result c.next_covered-place.result near c.next_covered-place.ensures.shut)
    (λ there. c.next_covered-place.ensures.open (omega arith))

pub returns : goal.returns
returns c =
    let at = c.scan-found.result in
    let place = c.next_covered-place.result in
    let near = subst (λ (gates : List Gate). AreShut c.args.key.now gates c.args.from at) c.as_slice-all.ensures c.scan-found.ensures.shut in
    let rest = subst (λ (gates : List Gate). AreShut c.args.key.now gates place c.scan.result) c.as_slice-all.ensures c.scan.ensures.shut in
    let over = shut_on c.args.key.now c.args.gates.now c.args.from at place near c.next_covered-place.ensures.shut in
    let same : length c.as_slice-all.result.now ≡ length c.args.gates.now = ap (λ (gates : List Gate). length gates) c.as_slice-all.ensures in
    next_is c.args.key.now c.args.gates.now c.args.from c.scan.result (omega arith) (omega arith)
    (shut_on c.args.key.now c.args.gates.now c.args.from place c.scan.result over rest)
    (λ there. subst (λ (gates : List Gate). (any : Gate) → admits (get_or gates c.scan.result any) c.args.key.now ≡ true) c.as_slice-all.ensures (c.scan.ensures.open (omega arith)))
