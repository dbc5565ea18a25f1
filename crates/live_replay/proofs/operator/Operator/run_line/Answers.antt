use Rattle.std.proofs.Common.{sym}
use Rattle.std.proofs.lemmas.Result.{IfOk-weaker}
use Rattle.capture_tracks.proofs.Listings.{changing-of}
use Rattle.capture_tracks.specs.Listings.{listing_in}
use Rattle.live_replay.proofs.Lines.{runs_listed, runs_command}
use Rattle.live_replay.proofs.operator.Operator.run_line.Goals as goal

pub commit-requires-clause-changing : goal.commit-requires-clause-changing
commit-requires-clause-changing g c = changing-of c.args.line.now.command (sym c.in-None.ensures)

pub returns-in_ok-answer-in-Some : goal.returns-in_ok-answer-in-Some
returns-in_ok-answer-in-Some g c =
    IfOk-weaker _ _ _ (λ new h. runs_listed c.args.self new c.args.line.now (listing_in c.in-Some.listing) c.in_ok-answer-in-Some.answer (sym c.in-Some.ensures) c.in_ok-answer-in-Some.ensures h) c.answer.ensures

pub returns-in-None : goal.returns-in-None
returns-in-None g c = IfOk-weaker _ _ _ (λ new h. runs_command c.args.self new c.args.line.now (sym c.in-None.ensures) h) c.commit.ensures
