use Rattle.std.proofs.Common.{◌≡◌, None, length, sym, ap, ◌∙◌, arith}
use Rattle.run_audit.specs.JudgingValues.{entries_of_each}
use Rattle.run_audit.specs.LeftOver.{first_behind}
use Rattle.run_audit.specs.ToldReport.{lines_told}
use Rattle.run_audit.proofs.LaneSections.{each_named}
use Rattle.run_audit.proofs.closing.rebuilt_of.Goals as goal

pub sections_told-requires : goal.sections_told-requires
sections_told-requires c = λ lane first last.
    let none : first_behind c.args.told (lines_told c.deref.result.now) (entries_of_each c.deref-2.result.now) ≡ None = sym c.first_behind.ensures ∙ c.in_default.is in
    let many : length c.deref-2.result.now ≡ length c.args.judging.dockets.items = ap length c.deref-2.ensures.value in
    each_named c.args.told (lines_told c.deref.result.now) c.deref-2.result.now none lane first (omega (arith, last, many))
