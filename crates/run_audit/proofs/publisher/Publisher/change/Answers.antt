use Rattle.std.proofs.Common.{List, ◌∙◌, ap, subst, inl}
use Rattle.std.specs.Arc.{arc_value}
use Rattle.capture_tracks.specs.Operator.{OperatorValue}
use Rattle.fw_world.specs.Editions.{IsNextEdition}
use Rattle.generation_store.specs.Published.{Published}
use Rattle.run_audit.proofs.Publishing.{adds_edition, ok_both}
use Rattle.run_audit.proofs.publisher.Publisher.change.Goals as goal

pub returns-in-Ok : goal.returns-in-Ok
returns-in-Ok c =
    let edition : Published = arc_value c.in-Ok.edition in
    let next : IsNextEdition c.args.self.now.editions c.args.line.now.command edition =
    subst (λ (all : List Published). IsNextEdition all c.args.line.now.command edition) (c.all.ensures ∙ ap (λ (v : OperatorValue). v.editions) c.self.view_is) c.in-Ok.ensures.next in
    ok_both c.push.result (λ editions answers. inl (adds_edition c.args.self.now c.push.new.self c.args.line.now.command edition next editions answers)) c.push.ensures.editions c.push.ensures.answers
