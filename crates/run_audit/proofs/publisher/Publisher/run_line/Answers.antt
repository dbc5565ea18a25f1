use Rattle.std.proofs.Common.{sym}
use Rattle.std.proofs.lemmas.Result.{on_ok_weaker}
use Rattle.capture_tracks.specs.Listings.{listing_in}
use Rattle.capture_tracks.proofs.Listings.{changing-of}
use Rattle.capture_tracks.proofs.Operator.{stands-listed}
use Rattle.run_audit.proofs.Publishing.{changed}
use Rattle.run_audit.proofs.publisher.Publisher.run_line.Goals as goal

pub change-requires-clause-changing : goal.change-requires-clause-changing
change-requires-clause-changing c = changing-of c.args.line.now.command (sym c.in-None.ensures)

pub returns-in_ok-answer-in-Some : goal.returns-in_ok-answer-in-Some
returns-in_ok-answer-in-Some c =
    on_ok_weaker _ (λ h. stands-listed c.args.self.now _ c.args.line.now (listing_in c.in-Some.listing) c.in_ok-answer-in-Some.answer (sym c.in-Some.ensures) c.in_ok-answer-in-Some.ensures h) c.answer.ensures

pub returns-in-None : goal.returns-in-None
returns-in-None c = on_ok_weaker _ (λ h. changed c.args.self.now _ c.args.line.now (sym c.in-None.ensures) h) c.change.ensures
