use Rattle.std.proofs.Common.{refl, subst}
use Rattle.pcap_read.specs.declared.capture_fault.Stop.TheVariants.{End, Fault}
use Rattle.pcap_read.specs.Window.{Grows}
use Rattle.pcap_read.proofs.Advancing.{advances_to_record, advances_to_stop}
use Rattle.pcap_read.proofs.capture.Capture.advance.Goals as goal

pub returns-in-Ok-Some-clause-advances : goal.returns-in-Ok-Some-clause-advances
returns-in-Ok-Some-clause-advances g c =
    let grows = c.in-Ok-Some.ensures.grows in
    let held = subst (λ l. Grows (g.S.Source.left c.args.self.now.source) (g.S.Source.left c.find_record.new.source) l c.find_record.new.window) c.skip.ensures grows in
    advances_to_record g.S.Source.left g.S.Source.faults c.args.self.now _ c.in-None.is refl refl refl refl held (rw c.in-Ok-Some.field-0-is at c.in-Ok-Some.ensures.finds) (c.in-Ok-Some.ensures.cause.steady (λ e. absurd (cc)))

pub returns-in-Ok-None-clause-advances : goal.returns-in-Ok-None-clause-advances
returns-in-Ok-None-clause-advances g c =
    let held = subst (λ l. Grows (g.S.Source.left c.args.self.now.source) (g.S.Source.left c.find_record.new.source) l c.find_record.new.window) c.skip.ensures c.in-Ok-None.ensures.grows in
    advances_to_stop g.S.Source.left g.S.Source.faults c.args.self.now _ End c.in-None.is refl refl refl refl refl held (rw c.in-Ok-None.field-0-is at c.in-Ok-None.ensures.finds) (record { failed_read = λ e. absurd (cc); steady = λ _. c.in-Ok-None.ensures.cause.steady (λ e. absurd (cc)); has_memory = λ e. absurd (cc) }) c.in-Ok-None.ensures.later

pub returns-in-Err-clause-advances : goal.returns-in-Err-clause-advances
returns-in-Err-clause-advances g c =
    let held = subst (λ l. Grows (g.S.Source.left c.args.self.now.source) (g.S.Source.left c.find_record.new.source) l c.find_record.new.window) c.skip.ensures c.in-Err.ensures.grows in
    advances_to_stop g.S.Source.left g.S.Source.faults c.args.self.now _ (Fault c.in-Err.fault) c.in-None.is refl refl refl refl refl held c.in-Err.ensures.finds (record { failed_read = λ e. c.in-Err.ensures.cause.failed_read (cc); steady = λ other. c.in-Err.ensures.cause.steady (λ e. other (cc)); has_memory = λ e. c.in-Err.ensures.cause.has_memory (cc) }) c.in-Err.ensures.later
