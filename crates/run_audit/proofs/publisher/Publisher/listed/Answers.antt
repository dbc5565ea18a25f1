use Rattle.std.proofs.lemmas.Result.{IfOk-weaker}
use Rattle.capture_tracks.specs.Listings.{listing_in}
use Rattle.capture_tracks.proofs.Listings.{desk-listed}
use Rattle.run_audit.proofs.publisher.Publisher.listed.Goals as goal

pub returns : goal.returns
returns c =
    IfOk-weaker _ _ _ (λ answer told. desk-listed c.args.self.now.editions c.config.result.now c.number-number.result (listing_in c.args.listing) answer c.config.ensures c.number-number.ensures told) c.answer_listing.ensures
