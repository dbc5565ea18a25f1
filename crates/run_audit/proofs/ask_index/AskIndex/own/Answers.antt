use Rattle.std.proofs.Common.{◌≡◌, ◌==◌, IfOk, List, [], refl, ap, subst, ◌∙◌}
use Rattle.std.specs.List.{filter}
use Rattle.run_audit.specs.AskStands.{is_asked_for, stands_of}
use Rattle.run_audit.specs.Indexes.{stand_number, is_of_lane}
use Rattle.run_audit.specs.Numbering.{is_numbered, picked}
use Rattle.run_audit.specs.declared.numbered.Numbered.{Numbered}
use Rattle.run_audit.specs.declared.ask_stands.AskStand.{AskStand}
use Rattle.run_audit.proofs.Picked.{picked_numbered, filter-both}
use Rattle.run_audit.proofs.ask_index.AskIndex.own.Goals as goal

pub returns : goal.returns
returns c =
    let stands : List AskStand = c.self.inside.stands.items in
    let found : filter (is_of_lane c.args.lane) (picked c.deref.result.now c.of_number.result.now) ≡ filter (is_asked_for c.args.lane c.args.at) (stands_of c.args.self.now.entries) =
    ap (λ (xs : List AskStand). filter (is_of_lane c.args.lane) (picked xs c.of_number.result.now)) c.deref.ensures.value
    ∙ ap (λ (places : List Numbered). filter (is_of_lane c.args.lane) (picked stands places))
    (c.of_number.ensures ∙ ap (filter (is_numbered c.args.at)) c.deref-2.ensures.value ∙ c.self.invariant.1.same c.args.at)
    ∙ ap (filter (is_of_lane c.args.lane)) (picked_numbered stand_number c.args.at stands [] stands 0 refl refl)
    ∙ filter-both (λ (one : AskStand). stand_number one == c.args.at) (is_of_lane c.args.lane) stands
    ∙ ap (filter (is_asked_for c.args.lane c.args.at)) (c.self.invariant.0 ∙ ap (λ j. stands_of j.entries) c.self.view_is) in
    subst (λ (wanted : List AskStand). IfOk c.asks_of_lane.result (λ own. own.items ≡ wanted)) found c.asks_of_lane.ensures
