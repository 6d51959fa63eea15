-- What the index notes where only removed entries leave.
use Rattle.std.proofs.Common.{◌≡◌, true, List, refl}
use Rattle.std.proofs.lemmas.Bool.{false≢true}
use Rattle.std.proofs.lemmas.List.Elements.{All-contains, All-contains_itself, All-filter, filter_passes}
use Rattle.std.proofs.lemmas.List.Kept.{AllPairs-filter}
use Rattle.std.specs.Prelude.{Contains}
use Rattle.std.specs.List.{filter}
use Rattle.std.specs.declared.cmp.Ordering.TheVariants.{Less}
use Rattle.ficus_ids.specs.Id.{id_cmp}
use Rattle.ficus_ids.specs.Rising.{LeavesOutBy}
use Rattle.ficus_ids.specs.RisingLaws.{same_items}
use Rattle.ficus_ids.specs.declared.id.Id.{Id}
use Rattle.ficus_index.specs.NoteLaws.{into_filter}
use Rattle.ficus_index.specs.declared.place.Note.{Note}
use Rattle.ficus_entry.specs.Entry.{IsRising}
use Rattle.ficus_entry.specs.Kill.{is_live, NoneIsLive}
use Rattle.ficus_entry.specs.Place.{note_of, AreNoted}
use Rattle.ficus_entry.specs.declared.entry.Entry.{Entry}
use Rattle.ficus_entry.specs.declared.entry.State.{State}
use Rattle.ficus_entry.specs.declared.entry.State.TheVariants.{Live, Dead}

live_state : (entry : Entry) → is_live entry ≡ true → entry.state ≡ Live
live_state entry passes = by entry.state passes
  where
    by : (state : State) → is_live (record entry { state = state }) ≡ true → state ≡ Live
    by Live _ = refl
    by (Dead one two) fails = absurd (false≢true fails)

abbrev live_of : List Entry → List Entry
live_of entries = filter is_live entries

live_rise : (entries : List Entry) → IsRising entries → IsRising (live_of entries)
live_rise entries rising =
    record { each = AllPairs-filter (λ (a b : Entry). id_cmp a.id b.id ≡ Less) is_live entries rising.each }

from_live : (entries : List Entry) (entry : Entry) → Contains (live_of entries) entry →
    Contains entries entry × (is_live entry ≡ true)
from_live entries entry inside = (
  All-contains (Contains entries) (live_of entries) entry
      (All-filter is_live (Contains entries) entries (All-contains_itself entries)) inside,
  All-contains (λ (e : Entry). is_live e ≡ true) (live_of entries) entry (filter_passes is_live entries) inside,
)

module _ (entries fewer : List Entry) (ids : List Id) (rising : IsRising entries) (rises : IsRising fewer)
    (left : LeavesOutBy (λ (e : Entry). e.id) entries ids fewer) (none : NoneIsLive entries ids) where
  same_live : live_of fewer ≡ live_of entries
  same_live =
      same_items (λ (e : Entry). e.id) (live_of fewer) (live_of entries) (live_rise fewer rises)
      (live_rise entries rising) (λ entry. (
        λ inside.
            let found = from_live fewer entry inside in
            into_filter is_live note_of entries entry ((left entry).0 found.0).0 found.1,
        λ inside.
            let found = from_live entries entry inside in
            into_filter is_live note_of fewer entry ((left entry).1 (
              found.0,
              λ named. none entry.id named
                  (record { entry = entry; inside = found.0; has_id = refl; live = live_state entry found.1 }),
            )) found.1,
      ))

  -- the notes stay as they are
  pub noted_left : (notes : List Note) → AreNoted entries notes → AreNoted fewer notes
  noted_left notes noted = rw same_live noted
