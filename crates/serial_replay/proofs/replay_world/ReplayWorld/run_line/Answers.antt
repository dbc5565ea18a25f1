use Rattle.std.proofs.Common.{sym}
use Rattle.capture_tracks.specs.Listings.{listing_in}
use Rattle.capture_tracks.proofs.Listings.{changing-of}
use Rattle.serial_replay.proofs.Lines.{ok-then, runs-listed, runs-command}
use Rattle.serial_replay.proofs.replay_world.ReplayWorld.run_line.Goals as goal

pub commit-requires-clause-changing : goal.commit-requires-clause-changing
commit-requires-clause-changing c = changing-of c.args.line.now.command (sym c.in-None.ensures)

pub returns-in_ok-answer-in-Some : goal.returns-in_ok-answer-in-Some
returns-in_ok-answer-in-Some c =
    ok-then _ _ _ (λ h. runs-listed c.args.self.now _ c.args.line.now (listing_in c.in-Some.listing) c.in_ok-answer-in-Some.answer (sym c.in-Some.ensures) c.in_ok-answer-in-Some.ensures h) c.answer.ensures

pub returns-in-None : goal.returns-in-None
returns-in-None c = ok-then _ _ _ (λ h. runs-command c.args.self.now _ c.args.line.now (sym c.in-None.ensures) h) c.commit.ensures
