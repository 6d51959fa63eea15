-- What a binary search says of a sorted list of identifiers.
use Rattle.std.specs.Prelude.{◌≡◌, ◌↔◌, ℕ, Bool, List, length, Contains, Result, Ok, Err, IsTrue}
use Rattle.std.specs.Result.{is_ok}
use Rattle.std.specs.List.Sorted.{IsBinarySearchResult, IsSearchInRange, IsSorted}
use Rattle.std.specs.declared.cmp.Ordering.TheVariants.{Equal}
use Rattle.std.proofs.Common.{get_or, ap, ◌∙◌, inl, inr, arith}
use Rattle.std.proofs.lemmas.Bool.{both_ways, cases_lt}
use Rattle.std.proofs.lemmas.List.Sorted.{searchable_from_sorted}
use Rattle.ficus_ids.specs.Id.{id_cmp}
use Rattle.ficus_ids.specs.IdLaws.{id_cmp_total, id_cmp-Equal, id_cmp-self}
use Rattle.ficus_ids.specs.declared.id.Id.{Id}

pub sorted_has : (ids : List Id) (id : Id) (answer : Result ℕ ℕ) (found : Bool) → IsSorted id_cmp ids →
    found ≡ is_ok answer → IsSearchInRange answer (length ids) →
    IsBinarySearchResult (λ other. id_cmp other id) ids answer → IsTrue found ↔ Contains ids id
sorted_has ids id (Ok index) found sorted is within result =
    (λ _. (index, within, id_cmp-Equal (get_or ids index id) id (result id)), λ _. is)
sorted_has ids id (Err index) found sorted is within result =
    let parts = result (searchable_from_sorted id_cmp_total (λ other. other) ids id sorted) in (
      λ flag. absurd (both_ways found is flag),
      λ inside.
          let place = inside.0 in
          let equal : id_cmp (get_or ids place id) id ≡ Equal =
          ap (λ other. id_cmp other id) inside.2 ∙ id_cmp-self id in
          elim (cases_lt place index) [
            | inl before ↦ absurd (cc (equal, parts.0 place id (omega arith) before))
            | inr behind ↦ absurd (cc (equal, parts.1 place id behind inside.1))
          ],
    )
