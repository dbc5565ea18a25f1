-- A listing in the program, as the definitions have it.
use Rattle.capture_tracks.specs.Commands as commands
use Rattle.capture_tracks.specs.declared.listing.Listing.{Listing}
use Rattle.capture_tracks.specs.declared.listing.Listing.TheVariants.{Rules, Entries}

-- the listing as a plain value
abbrev pub listing_in : Listing → commands.Listing
listing_in Rules = commands.Rules
listing_in (Entries name) = commands.Entries name.now
