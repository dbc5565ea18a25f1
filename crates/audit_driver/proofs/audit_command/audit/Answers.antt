use Rattle.audit_driver.specs.AuditNames.{words_named}
use Rattle.audit_driver.proofs.Accepted.{audit_accepts, few_names}
use Rattle.audit_driver.proofs.Promised.{audit_keeps_none, audit_never_1, audit_never_3, audit_no, audit_openings, audit_quiet, audit_risen, audit_silent, audit_unread, audit_unready, audit_yes}
use Rattle.audit_driver.proofs.audit_command.audit.Goals as goal

pub returns-clause-yes : goal.returns-clause-yes
returns-clause-yes g c = audit_yes _ _ (words_named c.args.words) c.args.library.now c.audit_words.new.library c.args.out.now c.audit_words.new.out c.audit_words.result c.audit_words.ensures

pub returns-clause-no : goal.returns-clause-no
returns-clause-no g c = audit_no _ _ (words_named c.args.words) c.args.library.now c.audit_words.new.library c.args.out.now c.audit_words.new.out c.audit_words.result c.audit_words.ensures

pub returns-clause-unready : goal.returns-clause-unready
returns-clause-unready g c = audit_unready _ _ (words_named c.args.words) c.args.library.now c.audit_words.new.library c.args.out.now c.audit_words.new.out c.audit_words.result c.audit_words.ensures

pub returns-clause-unread : goal.returns-clause-unread
returns-clause-unread g c = audit_unread _ _ (words_named c.args.words) c.args.library.now c.audit_words.new.library c.args.out.now c.audit_words.new.out c.audit_words.result c.audit_words.ensures

pub returns-clause-never_1 : goal.returns-clause-never_1
returns-clause-never_1 g c = audit_never_1 _ _ (words_named c.args.words) c.args.library.now c.audit_words.new.library c.args.out.now c.audit_words.new.out c.audit_words.result c.audit_words.ensures

pub returns-clause-never_3 : goal.returns-clause-never_3
returns-clause-never_3 g c = audit_never_3 _ _ (words_named c.args.words) c.args.library.now c.audit_words.new.library c.args.out.now c.audit_words.new.out c.audit_words.result c.audit_words.ensures

pub returns-clause-status_5_cause : goal.returns-clause-status_5_cause
returns-clause-status_5_cause g c = audit_risen _ _ (words_named c.args.words) c.args.library.now c.audit_words.new.library c.args.out.now c.audit_words.new.out c.audit_words.result c.audit_words.ensures

pub returns-clause-status_6_silent : goal.returns-clause-status_6_silent
returns-clause-status_6_silent g c = audit_silent _ _ (words_named c.args.words) c.args.library.now c.audit_words.new.library c.args.out.now c.audit_words.new.out c.audit_words.result c.audit_words.ensures

pub returns-clause-nothing_kept : goal.returns-clause-nothing_kept
returns-clause-nothing_kept g c = audit_keeps_none _ _ (words_named c.args.words) c.args.library.now c.audit_words.new.library c.args.out.now c.audit_words.new.out c.audit_words.result c.audit_words.ensures

pub returns-clause-complete : goal.returns-clause-complete
returns-clause-complete g c = audit_quiet _ _ (words_named c.args.words) c.args.library.now c.audit_words.new.library c.args.out.now c.audit_words.new.out c.audit_words.result c.audit_words.ensures

pub returns-clause-openings : goal.returns-clause-openings
returns-clause-openings g c = λ pairs told other. audit_openings _ _ (words_named c.args.words) c.args.library.now c.audit_words.new.library c.args.out.now c.audit_words.new.out c.audit_words.result c.audit_words.ensures other pairs told

pub returns-clause-accepts : goal.returns-clause-accepts
returns-clause-accepts g c =
    λ printed. audit_accepts _ _ (words_named c.args.words) c.args.library.now c.audit_words.new.library c.args.out.now c.audit_words.new.out c.audit_words.result (few_names c.args.words.captures.now c.requires.few) printed c.audit_words.ensures
