use Rattle.ficus_names.specs.ListingLaws.{same_listing}
use Rattle.ficus_names.proofs.listing.same_listing.Goals as goal

pub returns : goal.returns
returns c = λ entries others dir other_dir items other_items same. same_listing same items other_items
