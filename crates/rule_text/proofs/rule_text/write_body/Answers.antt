use Rattle.std.proofs.Common.{◌∷◌, [], refl, codes}
use Rattle.fw_base.proofs.Texts.{starts}
use Rattle.rule_text.specs.Canonical.{family_word, addr_words, port_words, options_words}
use Rattle.rule_text.proofs.Lists.{body-split}
use Rattle.rule_text.proofs.WriteSteps.{goes, breaks_off, finishes}
use Rattle.rule_text.proofs.rule_text.write_body.Goals as goal

pub returns-in_err-write_family : goal.returns-in_err-write_family
returns-in_err-write_family g c =
    let split = body-split (family_word c.args.body.now.family c.args.body.now.protocol ∷ []) (codes "from" ∷ []) (codes "to" ∷ []) (addr_words c.args.body.now.source) (port_words c.args.body.now.source_ports) (addr_words c.args.body.now.destination) (port_words c.args.body.now.destination_ports) (options_words c.args.body.now) in
    breaks_off _ _ _ (starts _ _) split c.in_err-write_family.was c.write_family.ensures c.from_residual.ensures.1

pub returns-in_err-write_end : goal.returns-in_err-write_end
returns-in_err-write_end g c =
    let split = body-split (family_word c.args.body.now.family c.args.body.now.protocol ∷ []) (codes "from" ∷ []) (codes "to" ∷ []) (addr_words c.args.body.now.source) (port_words c.args.body.now.source_ports) (addr_words c.args.body.now.destination) (port_words c.args.body.now.destination_ports) (options_words c.args.body.now) in
    breaks_off _ _ _ (goes _ (starts _ _) split c.in_ok-write_family.was c.write_family.ensures) refl c.in_err-write_end.was c.write_end.ensures c.from_residual-in_err-write_end.ensures.1

pub returns-in_err-write_end-2 : goal.returns-in_err-write_end-2
returns-in_err-write_end-2 g c =
    let split = body-split (family_word c.args.body.now.family c.args.body.now.protocol ∷ []) (codes "from" ∷ []) (codes "to" ∷ []) (addr_words c.args.body.now.source) (port_words c.args.body.now.source_ports) (addr_words c.args.body.now.destination) (port_words c.args.body.now.destination_ports) (options_words c.args.body.now) in
    breaks_off _ _ _ (goes _ (goes _ (starts _ _) split c.in_ok-write_family.was c.write_family.ensures) refl c.in_ok-write_end.was c.write_end.ensures) refl c.in_err-write_end-2.was c.write_end-2.ensures c.from_residual-in_err-write_end-2.ensures.1

pub returns : goal.returns
returns g c =
    let split = body-split (family_word c.args.body.now.family c.args.body.now.protocol ∷ []) (codes "from" ∷ []) (codes "to" ∷ []) (addr_words c.args.body.now.source) (port_words c.args.body.now.source_ports) (addr_words c.args.body.now.destination) (port_words c.args.body.now.destination_ports) (options_words c.args.body.now) in
    finishes _ (goes _ (goes _ (goes _ (starts _ _) split c.in_ok-write_family.was c.write_family.ensures) refl c.in_ok-write_end.was c.write_end.ensures) refl c.in_ok-write_end-2.was c.write_end-2.ensures) refl c.write_body_options.ensures
