use Rattle.std.proofs.Common.{append-nil}
use Rattle.view_driver.proofs.script_text.write_finding.Goals as goal

pub returns-in-UnusedTable : goal.returns-in-UnusedTable
returns-in-UnusedTable g c =
    rw c.in-UnusedTable.is (rw (c.bytes-in-UnusedTable.ensures, append-nil c.in-UnusedTable.name) at c.write_told-in-UnusedTable.ensures)
