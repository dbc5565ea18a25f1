use Rattle.std.proofs.Common.{ap, sym, ◌∙◌, Some}
use Rattle.std.specs.Arc.{arc_value}
use Rattle.generation_store.specs.Published.{Published}
use Rattle.report_texts.proofs.Sections.{last_at}
use Rattle.fw_report.proofs.report.last_of.Goals as goal

pub returns : goal.returns
returns c = last_at arc_value c.args.editions.now c.index-editions-editions.result c.requires c.index-editions-editions.is ∙ ap (λ (e : Published). Some e) (sym c.deref.ensures)
