use Rattle.std.proofs.Common.{◌≡◌, ℕ, ◌+◌, ◌++◌, ◌∷◌, [], List, length, refl, sym, ap, ◌∙◌, subst, arith}
use Rattle.std.specs.Prelude.{IsSomeAnd}
use Rattle.eval_engine.specs.Dockets.{DocketValue}
use Rattle.report_reading.specs.declared.lane_lines.LaneLine.{LaneLine}
use Rattle.run_audit.specs.Audit.{AreSectionsTold}
use Rattle.run_audit.specs.OtherLines.{lane_naming}
use Rattle.run_audit.specs.declared.told_report.ToldLane.{ToldLane}
use Rattle.run_audit.proofs.LaneSections.{sections_more, tells_both}
use Rattle.run_audit.proofs.closing.add_lane.Goals as goal

pub returns-clause-told : goal.returns-clause-told
returns-clause-told c = λ so.
    let told = c.args.told.now in
    let dockets : List DocketValue = c.args.sections.now.dockets.items in
    let trackers : List ℕ = c.args.sections.now.trackers.items in
    let line : LaneLine = c.section_line-line.result in
    let docket : DocketValue = record c.args.docket { refused = line.refused } in
    let place : c.len.result + 1 ≡ 1 + length trackers = omega arith in
    let named : IsSomeAnd (lane_naming told (1 + length trackers)) (λ (one : ToldLane). one.told ≡ line) =
    subst (λ (n : ℕ). IsSomeAnd (lane_naming told n) (λ (one : ToldLane). one.told ≡ line)) place c.section_line-line.ensures in
    let more : AreSectionsTold told 1 (dockets ++ docket ∷ []) (trackers ++ line.tracker ∷ []) =
    sections_more told 1 dockets trackers docket line.tracker so (tells_both told (1 + length trackers) line docket named refl) in
    let added : c.push-2.new.self.items ≡ dockets ++ docket ∷ [] = c.in_ok-push-2.ensures.items ∙ ap (λ (d : DocketValue). dockets ++ d ∷ []) c.with_refused.ensures in
    subst (λ (ts : List ℕ). AreSectionsTold told 1 c.push-2.new.self.items ts) (sym c.in_ok-push.ensures.items)
    (subst (λ (ds : List DocketValue). AreSectionsTold told 1 ds (trackers ++ line.tracker ∷ [])) (sym added) more)
