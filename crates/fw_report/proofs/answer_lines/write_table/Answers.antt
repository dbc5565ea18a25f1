use Rattle.std.proofs.Common.{refl, ◌++◌, ℕ, List, ap, sym}
use Rattle.fw_base.proofs.Texts.{starts}
use Rattle.rule_text.proofs.WriteSteps.{goes, breaks_off, finishes}
use Rattle.report_texts.specs.AnswerText.{table_listing, table_size, origin, table_lines}
use Rattle.fw_report.proofs.answer_lines.write_table.Goals as goal

pub returns-in_err-write_text : goal.returns-in_err-write_text
unfolding table_listing
returns-in_err-write_text g c = breaks_off _ _ _ (starts _ _) refl c.in_err-write_text.was c.write_text.ensures c.from_residual.ensures.1

pub returns-in_err-write_text-2 : goal.returns-in_err-write_text-2
unfolding table_listing
returns-in_err-write_text-2 g c = breaks_off _ _ (table_size c.args.table.now ++ (origin c.args.line c.args.edition ++ table_lines c.args.table.now)) (goes _ (starts _ _) refl c.in_ok-write_text.was c.write_text.ensures) (ap (λ (n : List ℕ). n ++ (table_size c.args.table.now ++ (origin c.args.line c.args.edition ++ table_lines c.args.table.now))) (sym c.bytes.ensures)) c.in_err-write_text-2.was c.write_text-2.ensures c.from_residual-in_err-write_text-2.ensures.1

pub returns-in_err-write_table_size : goal.returns-in_err-write_table_size
unfolding table_listing
returns-in_err-write_table_size g c = breaks_off _ _ (origin c.args.line c.args.edition ++ table_lines c.args.table.now) (goes (table_size c.args.table.now ++ (origin c.args.line c.args.edition ++ table_lines c.args.table.now)) (goes _ (starts _ _) refl c.in_ok-write_text.was c.write_text.ensures) (ap (λ (n : List ℕ). n ++ (table_size c.args.table.now ++ (origin c.args.line c.args.edition ++ table_lines c.args.table.now))) (sym c.bytes.ensures)) c.in_ok-write_text-2.was c.write_text-2.ensures) refl c.in_err-write_table_size.was c.write_table_size.ensures c.from_residual-in_err-write_table_size.ensures.1

pub returns-in_err-write_origin : goal.returns-in_err-write_origin
unfolding table_listing
returns-in_err-write_origin g c = breaks_off _ _ (table_lines c.args.table.now) (goes (origin c.args.line c.args.edition ++ table_lines c.args.table.now) (goes (table_size c.args.table.now ++ (origin c.args.line c.args.edition ++ table_lines c.args.table.now)) (goes _ (starts _ _) refl c.in_ok-write_text.was c.write_text.ensures) (ap (λ (n : List ℕ). n ++ (table_size c.args.table.now ++ (origin c.args.line c.args.edition ++ table_lines c.args.table.now))) (sym c.bytes.ensures)) c.in_ok-write_text-2.was c.write_text-2.ensures) refl c.in_ok-write_table_size.was c.write_table_size.ensures) refl c.in_err-write_origin.was c.write_origin.ensures c.from_residual-in_err-write_origin.ensures.1

pub returns : goal.returns
unfolding table_listing
returns g c = finishes _ (goes (table_lines c.args.table.now) (goes (origin c.args.line c.args.edition ++ table_lines c.args.table.now) (goes (table_size c.args.table.now ++ (origin c.args.line c.args.edition ++ table_lines c.args.table.now)) (goes _ (starts _ _) refl c.in_ok-write_text.was c.write_text.ensures) (ap (λ (n : List ℕ). n ++ (table_size c.args.table.now ++ (origin c.args.line c.args.edition ++ table_lines c.args.table.now))) (sym c.bytes.ensures)) c.in_ok-write_text-2.was c.write_text-2.ensures) refl c.in_ok-write_table_size.was c.write_table_size.ensures) refl c.in_ok-write_origin.was c.write_origin.ensures) refl c.write_table_lines.ensures
