use Rattle.std.proofs.Common.{refl}
use Rattle.rule_text.proofs.Lists.{spaced-append}
use Rattle.fw_base.proofs.Texts.{starts}
use Rattle.rule_text.specs.Canonical.{addr_words, port_words}
use Rattle.rule_text.proofs.WriteSteps.{goes, breaks_off, finishes}
use Rattle.rule_text.proofs.rule_text.write_end.Goals as goal

pub returns-in_err-write_text : goal.returns-in_err-write_text
returns-in_err-write_text g c = breaks_off _ _ _ (starts _ _) refl c.in_err-write_text.was c.write_text.ensures c.from_residual.ensures.1

pub returns-in_err-write_addresses : goal.returns-in_err-write_addresses
returns-in_err-write_addresses g c =
    breaks_off _ _ _ (goes _ (starts _ _) refl c.in_ok-write_text.was c.write_text.ensures) (spaced-append (addr_words c.args.addresses.now) (port_words c.args.ports.now)) c.in_err-write_addresses.was c.write_addresses.ensures c.from_residual-in_err-write_addresses.ensures.1

pub returns : goal.returns
returns g c =
    finishes _ (goes _ (goes _ (starts _ _) refl c.in_ok-write_text.was c.write_text.ensures) (spaced-append (addr_words c.args.addresses.now) (port_words c.args.ports.now)) c.in_ok-write_addresses.was c.write_addresses.ensures) refl c.write_ports.ensures
