-- What a binary search for an identifier finds.
use Rattle.std.specs.Prelude.{◌↔◌, List, Contains, Result, Ok, Err, IsTrue}
use Rattle.std.specs.Result.{is_ok}
use Rattle.std.specs.List.Sorted.{IsBinarySearchResult, IsSearchInRange}
use Rattle.std.proofs.Common.{◌≡◌, ℕ, Bool, length, refl}
use Rattle.std.proofs.lemmas.Bool.{both_ways}
use Rattle.ficus_ids.specs.declared.id.Id.{Id}
use Rattle.ficus_ids.specs.Id.{id_cmp}
use Rattle.ficus_ids.specs.Rising.{IsRisingBy}
use Rattle.ficus_ids.specs.RisingLaws.{found_by_search, place_by_search, none_at_place}

pub among_by : (ids : List Id) (id : Id) (answer : Result ℕ ℕ) (found : Bool) → IsRisingBy (λ other. other) ids →
    found ≡ is_ok answer → IsSearchInRange answer (length ids) →
    IsBinarySearchResult (λ other. id_cmp other id) ids answer → IsTrue found ↔ Contains ids id
among_by ids id (Ok index) found rising is within result =
    let at = found_by_search (λ other. other) ids id (Ok index) within result in
    (λ _. (index, at.0, at.1 id), λ _. is)
among_by ids id (Err index) found rising is within result = (
  λ true_too. absurd (both_ways found is true_too),
  λ inside. absurd
      (none_at_place (λ other. other) ids id index (place_by_search (λ other. other) ids id (Err index) rising within result)
      (record { item = id; inside = inside; has_id = refl })),
)
