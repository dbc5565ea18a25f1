use Rattle.std.proofs.Common.{◌≡◌, ◌*◌, ◌≤◌, take}
use Rattle.report_texts.specs.Summary.{is_allow, is_deny, records_in, judged_in}
use Rattle.fw_report.proofs.summary.add_up.Given as goal

abbrev pub invariant-loop-docket : goal.invariant-loop-docket
invariant-loop-docket l = record {
  records : l.records ≡ records_in (take l.docket-index l.dockets);
  allows : l.allows ≡ judged_in is_allow (take l.docket-index l.dockets);
  denies : l.denies ≡ judged_in is_deny (take l.docket-index l.dockets);
  records_fit : l.records ≤ l.docket-index * 18446744073709551615;
  allows_fit : l.allows ≤ l.docket-index * 18446744073709551615;
  denies_fit : l.denies ≤ l.docket-index * 18446744073709551615;
}
