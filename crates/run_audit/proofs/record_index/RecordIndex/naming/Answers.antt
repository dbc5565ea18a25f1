use Rattle.std.proofs.Common.{List, [], refl, ap, ◌∙◌, ◌==◌}
use Rattle.std.specs.List.{find, filter}
use Rattle.run_audit.specs.Indexes.{record_number, is_of_capture}
use Rattle.run_audit.specs.Judging.{names_record}
use Rattle.run_audit.specs.Numbering.{is_numbered, picked}
use Rattle.run_audit.specs.declared.numbered.Numbered.{Numbered}
use Rattle.run_audit.specs.declared.told_report.ToldRecord.{ToldRecord}
use Rattle.run_audit.proofs.Picked.{picked_numbered, find-filter}
use Rattle.run_audit.proofs.record_index.RecordIndex.naming.Goals as goal

pub returns : goal.returns
returns c =
    let records : List ToldRecord = c.self.inside.records.items in
    c.first_of_capture.ensures
    ∙ ap (λ (xs : List ToldRecord). find (is_of_capture c.args.capture) (picked xs c.of_number.result.now)) c.deref.ensures.value
    ∙ ap (λ (places : List Numbered). find (is_of_capture c.args.capture) (picked records places))
    (c.of_number.ensures ∙ ap (filter (is_numbered c.args.at)) c.deref-2.ensures.value ∙ c.self.invariant.same c.args.at)
    ∙ ap (find (is_of_capture c.args.capture)) (picked_numbered record_number c.args.at records [] records 0 refl refl)
    ∙ find-filter (λ (one : ToldRecord). record_number one == c.args.at) (is_of_capture c.args.capture) records
    ∙ ap (find (names_record c.args.capture c.args.at)) c.self.view_is
