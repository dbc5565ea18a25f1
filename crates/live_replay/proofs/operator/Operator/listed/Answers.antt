use Rattle.std.proofs.lemmas.Result.{IfOk-weaker}
use Rattle.capture_tracks.proofs.Listings.{desk-listed}
use Rattle.capture_tracks.specs.Listings.{listing_in}
use Rattle.live_replay.proofs.operator.Operator.listed.Goals as goal

pub returns : goal.returns
returns c =
    IfOk-weaker _ _ _ (λ answer told. desk-listed c.args.self.now.desk.editions c.config.result.now c.number-edition.result (listing_in c.args.listing) answer c.config.ensures c.number-edition.ensures told) c.answer_listing.ensures
