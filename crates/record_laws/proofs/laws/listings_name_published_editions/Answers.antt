use Rattle.record_laws.proofs.ListedEditions.{listings_name_published}
use Rattle.record_laws.proofs.laws.listings_name_published_editions.Goals as goal

pub returns : goal.returns
returns g c = listings_name_published _ _
