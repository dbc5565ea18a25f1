use Rattle.std.proofs.Common.{inr}
use Rattle.pcap_read.proofs.Advancing.{told_by_fault}
use Rattle.pcap_read.proofs.capture.Capture.begin.Goals as goal

pub returns-in-Err : goal.returns-in-Err
returns-in-Err g c =
    let take = c.in-Err.ensures in
    let told = told_by_fault _ _ c.in-Err.fault take.cause in
    record {
      cause = inr (take.takes.0, record { taken = take.takes.1; behind = take.takes.2 c.args.limit; cause = told });
      no_memory = λ e. absurd (take.cause.has_memory (cc));
      failed_read = told;
      later = take.later;
    }
