-- The live entry that a search finds.
use Rattle.std.proofs.Common.{◌≡◌, ℕ, List, slice_get, Some, ◌∙◌, sym, ap}
use Rattle.std.specs.Prelude.{Contains}
use Rattle.std.proofs.lemmas.Option.{slice_get_within, get_or_from_slice_get}
use Rattle.ficus_ids.specs.declared.id.Id.{Id}
use Rattle.ficus_ids.specs.Rising.{IsFoundAtBy, IsPlaceBy}
use Rattle.ficus_ids.specs.RisingLaws.{one_item, none_at_place}
use Rattle.ficus_entry.specs.declared.entry.Entry.{Entry}
use Rattle.ficus_entry.specs.declared.entry.State.TheVariants.{Live}
use Rattle.ficus_entry.specs.Entry.{IsRising}
use Rattle.ficus_entry.specs.Kill.{HoldsLive}

pub contains_at : (entries : List Entry) (i : ℕ) (entry : Entry) → slice_get entries i ≡ Some entry →
    Contains entries entry
contains_at entries i entry at =
    (i, slice_get_within entries i entry at, get_or_from_slice_get entries i entry entry at)

pub not_missing : (entries : List Entry) (id : Id) (place : ℕ) → HoldsLive entries id →
    IsPlaceBy (λ (e : Entry). e.id) entries id place → ⊥
not_missing entries id place live is_place =
    none_at_place (λ entry. entry.id) entries id place is_place
    (record { item = live.entry; inside = live.inside; has_id = live.has_id })

-- the entry that a search finds is the live one
pub found_is_live : (entries : List Entry) (id : Id) (i : ℕ) (entry : Entry) → IsRising entries →
    HoldsLive entries id → IsFoundAtBy (λ (e : Entry). e.id) entries id i → slice_get entries i ≡ Some entry →
    (entry.id ≡ id) × (entry.state ≡ Live)
found_is_live entries id i entry rising live found at =
    let has_id : entry.id ≡ id =
    ap (λ (e : Entry). e.id) (sym (get_or_from_slice_get entries i entry entry at)) ∙ found.1 entry in
    let one : entry ≡ live.entry =
    one_item (λ e. e.id) entries entry live.entry rising (contains_at entries i entry at) live.inside
    (has_id ∙ sym live.has_id) in
    (has_id, ap (λ (e : Entry). e.state) one ∙ live.live)
