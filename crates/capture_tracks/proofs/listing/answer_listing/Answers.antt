use Rattle.std.proofs.Common.{refl, sym, ap, ◌∙◌}
use Rattle.capture_tracks.specs.Commands.{listed_answer}
use Rattle.capture_tracks.specs.Listings.{listing_in}
use Rattle.capture_tracks.specs.declared.listing.Listing.{Listing}
use Rattle.capture_tracks.proofs.Listings.{listed-entries, listed-refused}
use Rattle.capture_tracks.proofs.listing.answer_listing.Goals as goal

pub returns-in-Rules : goal.returns-in-Rules
returns-in-Rules c = ap (λ (l : Listing). listed_answer c.args.config.now c.args.edition (listing_in l)) (sym c.in-Rules.is)

pub returns-in_ok-copy_name-in-Entries : goal.returns-in_ok-copy_name-in-Entries
returns-in_ok-copy_name-in-Entries c =
    listed-entries c.args.config.now c.args.edition c.in-Entries.name.now c.in_ok-copy_name-in-Entries.field-0 c.table.result c.table.ensures (sym c.is_some.ensures ∙ c.if-is_some.true) c.in_ok-copy_name-in-Entries.ensures
    ∙ ap (λ (l : Listing). listed_answer c.args.config.now c.args.edition (listing_in l)) (sym c.in-Entries.is)

pub returns-else-is_some : goal.returns-else-is_some
returns-else-is_some c =
    listed-refused c.args.config.now c.args.edition c.in-Entries.name.now c.table.result c.table.ensures (sym c.is_some.ensures ∙ c.if-is_some.false)
    ∙ ap (λ (l : Listing). listed_answer c.args.config.now c.args.edition (listing_in l)) (sym c.in-Entries.is)
