use Rattle.std.proofs.Common.{refl, ap, ◌∙◌}
use Rattle.rule_gates.specs.Covers.{narrower}
use Rattle.rule_gates.proofs.Admitted.{body_admits, body_exact, body_tells}
use Rattle.rule_gates.proofs.gate_making.body_gate.Goals as goal

pub returns-clause-covers : goal.returns-clause-covers
returns-clause-covers c =
    body_admits c.args.body.now _ c.addresses-source.result c.addresses-destination.result c.addresses-source.ensures.covers c.addresses-destination.ensures.covers c.ports-source_ports.ensures.covers c.ports-destination_ports.ensures.covers
    refl refl refl refl refl (c.narrower-family.ensures ∙ ap (λ other. narrower c.args.body.now.family other) c.narrower.ensures)

pub returns-clause-tells : goal.returns-clause-tells
returns-clause-tells c =
    body_tells c.args.body.now _ c.addresses-source.result c.addresses-destination.result c.addresses-source.ensures.tells c.addresses-destination.ensures.tells c.ports-source_ports.ensures.tells c.ports-destination_ports.ensures.tells refl
    refl refl refl refl (c.narrower-family.ensures ∙ ap (λ other. narrower c.args.body.now.family other) c.narrower.ensures)

pub returns-clause-exact : goal.returns-clause-exact
returns-clause-exact c =
    body_exact c.args.body.now _ c.addresses-source.result c.addresses-destination.result c.ports-source_ports.result c.ports-destination_ports.result c.addresses-source.ensures.exact c.addresses-destination.ensures.exact c.ports-source_ports.ensures.exact c.ports-destination_ports.ensures.exact
    refl refl refl refl refl refl refl (c.narrower-family.ensures ∙ ap (λ other. narrower c.args.body.now.family other) c.narrower.ensures) c.addresses-source.ensures.beside c.addresses-destination.ensures.beside c.is_told.ensures
