use Rattle.std.proofs.lemmas.Result.{IfOk-weaker}
use Rattle.ficus_names.specs.Binding.{Binds}
use Rattle.ficus_names.specs.Binds.{BindsIn}
use Rattle.ficus_names.specs.Listing.{IsListing}
use Rattle.ficus_names.specs.ListingLaws.{IsListing-along}
use Rattle.ficus_names.proofs.listing.shown.Goals as goal

pub returns : goal.returns
returns c =
    IfOk-weaker c.listing_of.result (λ names. IsListing (Binds c.in_ok-bindings_in.field-0.items) names.items)
    (λ names. IsListing (BindsIn c.args.entries.now c.args.dir) names.items)
    (λ names listing. IsListing-along c.in_ok-bindings_in.ensures listing) c.listing_of.ensures
