-- Where the disks of a volume lie, with those of one more replica.
use Rattle.std.proofs.Common.{◌≡◌, ℕ, ◌+◌, List, [], ◌∷◌, ◌++◌, ap, sym, ◌∙◌, arith}
use Rattle.std.specs.Prelude.{map}
use Rattle.std.proofs.lemmas.List.{map-append}
use Rattle.std.proofs.lemmas.List.FromFn.{map-range_with_len_more}
use Rattle.ficus_disk.specs.declared.pair.Pair.{Pair}
use Rattle.ficus_file_disk.specs.Place.{Placed, Places, all_places, places_in, places_of}

pub all_places_more : (root : List ℕ) (before : ℕ) (pairs more : List (Pair Placed)) (pair : Pair Placed)
    → more ≡ pairs ++ pair ∷ [] → map places_of pairs ≡ all_places root before
    → places_of pair ≡ places_in root (before + 1) → map places_of more ≡ all_places root (before + 1)
all_places_more root before pairs more pair is so next =
    ap (map places_of) is
    ∙ map-append places_of pairs (pair ∷ [])
    ∙ ap (λ (places : List Places). places ++ places_of pair ∷ []) so
    ∙ ap (λ (last : Places). all_places root before ++ last ∷ []) next
    ∙ sym (map-range_with_len_more (places_in root) 1 before (before + 1) (omega arith))
