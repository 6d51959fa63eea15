-- Laws of listings, for the proofs of this crate and of those above it.
use Rattle.std.specs.Prelude.{◌≡◌, ◌↔◌, ℕ, Bool, List, Contains}
use Rattle.std.specs.Cmp.{IsTotalOrder, both_ways}
use Rattle.std.specs.declared.cmp.Ordering.TheVariants.{Less}
use Rattle.std.proofs.Common.{subst}
use Rattle.std.proofs.lemmas.Cmp.{then_total, on_total, nat_list_cmp_total, tied_itself}
use Rattle.std.proofs.lemmas.List.Elements.{All-weaker, All-contains}
use Rattle.ficus_ids.specs.declared.id.Id.{Id}
use Rattle.ficus_model.specs.ShownNames.{HasOther, IsShownAs}
use Rattle.ficus_ids.specs.IdLaws.{id_cmp_total}
use Rattle.ficus_ids.specs.ListLaws.{same_rising}
use Rattle.ficus_names.specs.Listing.{shown_cmp, IsListing}
use Rattle.ficus_names.specs.declared.listing.ShownName.{ShownName}

pub shown_cmp_total : IsTotalOrder shown_cmp
shown_cmp_total = then_total (on_total (λ item. item.name) nat_list_cmp_total)
    (on_total (λ item. item.target) id_cmp_total)

-- ways of binding that agree everywhere show the same
module _ {binds others : List ℕ → Id → Type 0}
    (same : (name : List ℕ) (target : Id) → binds name target ↔ others name target) where
  pub HasOther-along : {name : List ℕ} {target : Id} → HasOther binds name target → HasOther others name target
  HasOther-along {name} shared =
      record { other = shared.other; bound = (same name shared.other).0 shared.bound; differs = shared.differs }

  HasOther-back : {name : List ℕ} {target : Id} → HasOther others name target → HasOther binds name target
  HasOther-back {name} shared =
      record { other = shared.other; bound = (same name shared.other).1 shared.bound; differs = shared.differs }

  pub IsShownAs-along : (item : ShownName) → IsShownAs binds item.name item.target item.suffixed →
      IsShownAs others item.name item.target item.suffixed
  IsShownAs-along item shown = record {
    bound = (same item.name item.target).0 shown.bound;
    several = (λ suffixed. HasOther-along (shown.several.0 suffixed), λ shared. shown.several.1 (HasOther-back shared));
  }

  pub IsListing-along : {items : List ShownName} → IsListing binds items → IsListing others items
  IsListing-along {items} listing = record {
    shown = All-weaker (λ item. IsShownAs binds item.name item.target item.suffixed)
        (λ item. IsShownAs others item.name item.target item.suffixed) IsShownAs-along items listing.shown;
    complete = λ name target bound. listing.complete name target ((same name target).1 bound);
    rising = listing.rising;
  }

module _ {binds : List ℕ → Id → Type 0} where
  -- a name and an object are shown in one way
  pub one_suffix : {name other_name : List ℕ} {target other_target : Id} (suffixed other_suffixed : Bool) →
      IsShownAs binds name target suffixed → IsShownAs binds other_name other_target other_suffixed →
      other_name ≡ name → other_target ≡ target → other_suffixed ≡ suffixed
  one_suffix {name} {other_name} {target} {other_target} suffixed other_suffixed shown other same_name same_target =
      let there : IsShownAs binds name other_target other_suffixed =
      subst (λ n. IsShownAs binds n other_target other_suffixed) same_name other in
      let here : IsShownAs binds name target other_suffixed =
      subst (λ t. IsShownAs binds name t other_suffixed) same_target there in
      both_ways other_suffixed suffixed (λ is. shown.several.1 (here.several.0 is))
      (λ is. here.several.1 (shown.several.0 is))

  -- an item of one listing is an item of any other
  item_inside : (items others : List ShownName) → IsListing binds items → IsListing binds others →
      (item : ShownName) → Contains items item → Contains others item
  item_inside items others listing listing_too item inside =
      let IsRight : ShownName → Type 0 = λ i. IsShownAs binds i.name i.target i.suffixed in
      let shown = All-contains IsRight items item listing.shown inside in
      let found = listing_too.complete item.name item.target shown.bound in
      let shown_too = All-contains IsRight others found.item listing_too.shown found.inside in
      let suffixed = one_suffix item.suffixed found.item.suffixed shown shown_too found.named found.leads in
      let same : found.item ≡ item =
      λ i. record { name = found.named i; target = found.leads i; suffixed = suffixed i } in
      subst (Contains others) same found.inside

-- the items of a listing follow from what is bound
pub same_listing : {binds others : List ℕ → Id → Type 0} →
    ((name : List ℕ) (target : Id) → binds name target ↔ others name target) →
    (items other_items : List ShownName) → IsListing binds items → IsListing others other_items →
    items ≡ other_items
same_listing same items other_items listing listing_too =
    let along = IsListing-along same listing in
    same_rising (λ a b. shown_cmp a b ≡ Less)
    (λ item below. cc (below, tied_itself shown_cmp_total item)) shown_cmp_total.trans items other_items
    listing.rising listing_too.rising
    (item_inside items other_items along listing_too) (item_inside other_items items listing_too along)
