-- What a binary search by identifier finds.
use Rattle.std.proofs.Common.{◌≡◌, ℕ, Bool, length, ap, sym, ◌∙◌}
use Rattle.std.specs.Prelude.{◌↔◌, List, Result, Ok, Err, IsTrue}
use Rattle.std.specs.Result.{is_ok}
use Rattle.std.specs.List.Sorted.{IsBinarySearchResult, IsSearchInRange}
use Rattle.std.proofs.lemmas.Bool.{both_ways}
use Rattle.ficus_ids.specs.declared.id.Id.{Id}
use Rattle.ficus_ids.specs.Id.{id_cmp}
use Rattle.ficus_ids.specs.Rising.{IsRisingBy, HoldsBy}
use Rattle.ficus_ids.specs.RisingLaws.{found_by_search, place_by_search, none_at_place, item_at}

pub holds_by : {X : Type 0} (id_of : X → Id) (items : List X) (id : Id) (answer : Result ℕ ℕ) (found : Bool) →
    IsRisingBy id_of items → found ≡ is_ok answer → IsSearchInRange answer (length items) →
    IsBinarySearchResult (λ item. id_cmp (id_of item) id) items answer → IsTrue found ↔ HoldsBy id_of items id
holds_by id_of items id (Ok index) found rising is within result =
    let at = found_by_search id_of items id (Ok index) within result in
    let item = item_at items index at.0 in (
      λ _. record {
        item = item.0;
        inside = (index, at.0, item.1);
        has_id = ap id_of (sym item.1) ∙ at.1 item.0;
      },
      λ _. is,
    )
holds_by id_of items id (Err index) found rising is within result = (
  λ true_too. absurd (both_ways found is true_too),
  λ held. absurd
      (none_at_place id_of items id index (place_by_search id_of items id (Err index) rising within result) held),
)
