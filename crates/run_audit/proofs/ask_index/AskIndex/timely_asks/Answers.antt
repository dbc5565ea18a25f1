use Rattle.std.proofs.Common.{◌≡◌, ◌<◌, true, List, [], refl, sym, ap, ◌∙◌, arith}
use Rattle.std.specs.List.{list_all}
use Rattle.state_journal.specs.Journal.{Journal}
use Rattle.state_journal.specs.declared.entry.Entry.{Entry}
use Rattle.run_audit.specs.AskStands.{asked_by_each, is_timely, most_lanes, no_sweep}
use Rattle.run_audit.proofs.OwnAsks.{are_timely_so, own_asked, so_are_timely}
use Rattle.run_audit.proofs.ask_index.AskIndex.timely_asks.Goals as goal

pub returns-then-not-are_timely-clause-late : goal.returns-then-not-are_timely-clause-late
returns-then-not-are_timely-clause-late c = λ ok are.
    let less : c.args.lane < 65536 = omega arith in
    let tested = c.are_timely.ensures ∙ ap (list_all (is_timely c.args.edition)) (c.deref.ensures.value ∙ c.in_ok-own.ensures) in
    let so = so_are_timely c.args.lane c.args.at c.args.edition c.args.self.now.entries less are in
    let told : c.are_timely.result ≡ true = tested ∙ so in
    let other = c.if-not-are_timely.true in
    absurd (cc)

pub returns-clause-asked : goal.returns-clause-asked
returns-clause-asked c =
    let entries : List Entry = c.args.self.now.entries in
    c.in_ok-asked_by_each.ensures
    ∙ ap (λ (es : List Entry). asked_by_each es c.deref-2.result.now) (c.entries.ensures.value ∙ ap (λ (j : Journal). j.entries) c.self.view_is)
    ∙ ap (asked_by_each entries) (c.deref-2.ensures.value ∙ c.in_ok-own.ensures)
    ∙ own_asked c.args.lane c.args.at entries [] entries 0 (no_sweep most_lanes) refl refl

pub returns-clause-timely : goal.returns-clause-timely
returns-clause-timely c =
    let less : c.args.lane < 65536 = omega arith in
    let tested = c.are_timely.ensures ∙ ap (list_all (is_timely c.args.edition)) (c.deref.ensures.value ∙ c.in_ok-own.ensures) in
    let so : c.are_timely.result ≡ true = c.if-not-are_timely.false in
    are_timely_so c.args.lane c.args.at c.args.edition c.args.self.now.entries less (sym tested ∙ so)
