use Rattle.std.proofs.Common.{refl, [], ◌∷◌}
use Rattle.fw_base.proofs.Texts.{starts}
use Rattle.rule_text.proofs.WriteSteps.{goes, breaks_off, finishes}
use Rattle.std.specs.Fmt.{decimal}
use Rattle.rule_text.specs.Address6Text.{address6_text}
use Rattle.rule_text.specs.Canonical.{protocol_word}
use Rattle.rule_text.proofs.Lists.{spaced-append}
use Rattle.view_driver.proofs.flows_text.write_flow6.Goals as goal

pub returns-in_err-write_protocol : goal.returns-in_err-write_protocol
returns-in_err-write_protocol g c =
    let f = c.args.flow.now in
    let split = spaced-append (protocol_word f.protocol ∷ []) (address6_text f.source.0 ∷ decimal f.source_port ∷ address6_text f.destination.0 ∷ decimal f.destination_port ∷ []) in
    breaks_off _ _ _ (starts _ _) split c.in_err-write_protocol.was c.write_protocol.ensures c.from_residual.ensures.1

pub returns-in_err-write_end6 : goal.returns-in_err-write_end6
returns-in_err-write_end6 g c =
    let f = c.args.flow.now in
    let split = spaced-append (protocol_word f.protocol ∷ []) (address6_text f.source.0 ∷ decimal f.source_port ∷ address6_text f.destination.0 ∷ decimal f.destination_port ∷ []) in
    let ends = spaced-append (address6_text f.source.0 ∷ decimal f.source_port ∷ []) (address6_text f.destination.0 ∷ decimal f.destination_port ∷ []) in
    breaks_off _ _ _ (goes _ (starts _ _)
    split c.in_ok-write_protocol.was c.write_protocol.ensures)
    ends c.in_err-write_end6.was c.write_end6.ensures c.from_residual-in_err-write_end6.ensures.1

pub returns : goal.returns
returns g c =
    let f = c.args.flow.now in
    let split = spaced-append (protocol_word f.protocol ∷ []) (address6_text f.source.0 ∷ decimal f.source_port ∷ address6_text f.destination.0 ∷ decimal f.destination_port ∷ []) in
    let ends = spaced-append (address6_text f.source.0 ∷ decimal f.source_port ∷ []) (address6_text f.destination.0 ∷ decimal f.destination_port ∷ []) in
    finishes _ (goes _ (goes _ (starts _ _) split c.in_ok-write_protocol.was c.write_protocol.ensures) ends c.in_ok-write_end6.was c.write_end6.ensures) refl c.write_end6-2.ensures
