use Rattle.view_driver.proofs.Unlike.{unlike_answer}
use Rattle.view_driver.proofs.OutcomesTold.{compares_texts}
use Rattle.view_driver.proofs.moves_view.compared_texts.Goals as goal

pub returns-clause-cause : goal.returns-clause-cause
returns-clause-cause c =
    unlike_answer c.args.names.0.now c.args.old.now c.args.names.1.now c.args.new.now c.in_ok-old_report.old_report.captures.items c.in_ok-new_report.new_report.captures.items c.in_ok-old_report.old_report.behind.now
    c.in_ok-new_report.new_report.behind.now c.in_ok-old_report.ensures.report c.in_ok-new_report.ensures.report
    c.compare.result c.compare.ensures.cause

pub returns-clause-outcomes : goal.returns-clause-outcomes
returns-clause-outcomes c =
    compares_texts c.args.old.now c.args.new.now c.in_ok-old_report.old_report.captures.items c.in_ok-new_report.new_report.captures.items c.in_ok-old_report.old_report.behind.now
    c.in_ok-new_report.new_report.behind.now c.in_ok-old_report.ensures.report c.in_ok-new_report.ensures.report
    c.compare.result c.compare.ensures.compared c.compare.ensures.outcomes
