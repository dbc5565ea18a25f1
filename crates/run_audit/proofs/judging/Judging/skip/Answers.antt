use Rattle.std.proofs.Common.{◌≡◌, ℕ, ◌-◌, ◌<◌, [], ◌∷◌, ◌++◌, length, ap, subst, arith}
use Rattle.std.specs.Prelude.{IsSomeAnd, slice_set}
use Rattle.eval_engine.specs.declared.docket_entry.DocketEntry.{DocketEntry}
use Rattle.fw_world.specs.Skips.{entry_for}
use Rattle.report_reading.specs.RecordLines.{printed}
use Rattle.run_audit.specs.Judging.{line_naming}
use Rattle.run_audit.specs.JudgingValues.{entries_at, entries_of_each}
use Rattle.run_audit.specs.declared.told_report.ToldRecord.{ToldRecord}
use Rattle.run_audit.proofs.JudgingSteps.{skipped_enters}
use Rattle.run_audit.proofs.judging.Judging.skip.Goals as goal

pub returns-clause-entered : goal.returns-clause-entered
returns-clause-entered c =
    let told = c.args.told.now in
    let number : ℕ = c.next_name-name.result.at in
    let place : ℕ = c.from.result - 1 in
    let placed : place ≡ c.args.lane - 1 = ap (λ (n : ℕ). n - 1) c.from.ensures in
    let within : place < length c.args.self.now.dockets.items = omega (arith, placed, c.requires.first, c.requires.last) in
    let paired : place < length c.args.self.now.tallies.items = omega (arith, within, c.requires.paired) in
    let named : IsSomeAnd (line_naming told c.args.lane number) (λ (one : ToldRecord). one.told.entry ≡ printed (entry_for c.args.skipped)) =
    subst (λ (e : DocketEntry). IsSomeAnd (line_naming told c.args.lane number) (λ (one : ToldRecord). one.told.entry ≡ printed e)) c.skipped_entry-entry.ensures
    (subst (λ (n : ℕ). IsSomeAnd (line_naming told n number) (λ (one : ToldRecord). one.told.entry ≡ printed c.skipped_entry-entry.result)) c.next_name-name.ensures.lane (c.is_line_of.ensures.told c.if-not-is_line_of.false)) in
    let entered : entries_of_each c.enter_at.new.dockets.items ≡ slice_set (entries_of_each c.args.self.now.dockets.items) place (entries_at c.args.self.now.dockets.items place ++ entry_for c.args.skipped ∷ []) =
    subst (λ (e : DocketEntry). entries_of_each c.enter_at.new.dockets.items ≡ slice_set (entries_of_each c.args.self.now.dockets.items) place (entries_at c.args.self.now.dockets.items place ++ e ∷ [])) c.skipped_entry-entry.ensures
    c.in_ok-enter_at.ensures.entered in
    skipped_enters told c.args.lane c.args.skipped c.args.self.now.dockets.items c.args.self.now.tallies.items number place placed within c.next_name-name.ensures.at c.enter_at.new.dockets.items paired named entered
