use Rattle.std.proofs.Common.{◌↔◌, ℕ, List}
use Rattle.std.proofs.lemmas.Result.{IfOk-weaker}
use Rattle.ficus_ids.specs.Id.{id_cmp}
use Rattle.ficus_ids.specs.declared.id.Id.{Id}
use Rattle.ficus_names.specs.Binding.{Binds}
use Rattle.ficus_names.specs.Listing.{IsListing}
use Rattle.ficus_names.specs.ListingLaws.{IsListing-along}
use Rattle.ficus_names.proofs.Order.{binding_cmp-Equal}
use Rattle.ficus_names.proofs.listing.listing_of.Goals as goal

pub once_each-bindings-requires : goal.once_each-bindings-requires
unfolding id_cmp
once_each-bindings-requires c = record { exact = binding_cmp-Equal }

pub listed-requires : goal.listed-requires
unfolding id_cmp
listed-requires c = rw c.deref.ensures.value c.once_each-bindings.ensures.rising

pub returns : goal.returns
returns c =
    let kept : (name : List ℕ) (target : Id) →
    Binds c.once_each-bindings.result.items name target ↔ Binds c.args.bindings.items name target = λ name target.
    c.once_each-bindings.ensures.same (record { name = name; target = target }) in
    IfOk-weaker c.listed.result (λ names. IsListing (Binds c.deref.result.now) names.items)
    (λ names. IsListing (Binds c.args.bindings.items) names.items)
    (λ names listing. IsListing-along (rw c.deref.ensures.value kept) listing) c.listed.ensures
