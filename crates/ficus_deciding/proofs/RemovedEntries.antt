-- The removed entries of tables are those that they show, with the same marks.
use Rattle.std.proofs.Common.{◌≡◌, ℕ, ◌+◌, ◌<◌, List, [], ◌∷◌, ◌++◌, length, take, Some, Bool, true, false, if◌then◌else◌, refl, sym, ap, subst, ◌∙◌, inl, inr}
use Rattle.std.specs.Prelude.{Contains, filter, slice_get}
use Rattle.std.proofs.lemmas.Bool.{true≢false}
use Rattle.std.proofs.lemmas.List.Elements.{All-contains, All-contains_itself, All-filter, filter_more, filter_passes}
use Rattle.std.proofs.lemmas.List.{append-nil}
use Rattle.std.proofs.lemmas.Option.{get_or_from_slice_get}
use Rattle.std.proofs.lemmas.List.Kept.{AllPairs-filter}
use Rattle.std.specs.declared.cmp.Ordering.TheVariants.{Less}
use Rattle.ficus_ids.specs.Id.{id_cmp}
use Rattle.ficus_ids.specs.ListLaws.{here, there, here_or_there}
use Rattle.ficus_entry.specs.Entry.{IsRising}
use Rattle.ficus_entry.specs.declared.entry.Entry.{Entry}
use Rattle.ficus_entry.specs.declared.entry.State.{State}
use Rattle.ficus_entry.specs.declared.entry.State.TheVariants.{Live, Dead}
use Rattle.ficus_model.specs.Live.{ModelEntry}
use Rattle.ficus_durable_state.specs.declared.saved.Saved.{Saved}
use Rattle.ficus_rules.specs.Marks.{IsMarkedIn, AreMarksIn, without_state}
use Rattle.ficus_deciding.specs.Entries.{is_removed}
use Rattle.ficus_deciding.specs.View.{held_as, tables_view}

-- what passes is kept
kept_with : {X : Type 0} (p : X → Bool) (y x : X) (xs : List X) (kept : Bool) → p y ≡ kept → p x ≡ true →
    (Contains xs x → Contains (filter p xs) x) → Contains (y ∷ xs) x →
    Contains (if kept then y ∷ filter p xs else filter p xs) x
kept_with p y x xs true is passes rest inside = elim (here_or_there y x xs inside) [
  | inl same ↦ subst (Contains (y ∷ filter p xs)) (sym same) (here y (filter p xs))
  | inr later ↦ there y x (filter p xs) (rest later)
]
kept_with p y x xs false is passes rest inside = elim (here_or_there y x xs inside) [
  | inl same ↦ absurd (true≢false (sym passes ∙ subst (λ z. p z ≡ false) (sym same) is))
  | inr later ↦ rest later
]

pub into_filter : {X : Type 0} (p : X → Bool) (xs : List X) (x : X) → Contains xs x → p x ≡ true →
    Contains (filter p xs) x
into_filter p [] x inside passes = inside
into_filter p (y ∷ xs) x inside passes =
    kept_with p y x xs (p y) refl passes (λ later. into_filter p xs x later passes) inside

dead_is : (entry : Entry) (state : State) → entry.state ≡ state → (entry.state ≡ Live → ⊥) → is_removed entry ≡ true
dead_is entry Live is not_live = absurd (not_live is)
dead_is entry (Dead knowing knowing_all_know) is not_live = rw is refl

live_is : (entry : Entry) → entry.state ≡ Live → is_removed entry ≡ false
live_is entry is = rw is refl

-- one entry further
module _ (entries : List Entry) (index : ℕ) (entry : Entry) (at : slice_get entries index ≡ Some entry)
    (within : index < length entries) where
  abbrev before : List Entry
  before = filter is_removed (take index entries)

  further : (kept : Bool) → is_removed entry ≡ kept →
      filter is_removed (take (index + 1) entries) ≡ before ++ (if kept then entry ∷ [] else [])
  further kept is =
      filter_more is_removed entries index entry within
      ∙ ap (λ (x : Entry). before ++ (if is_removed x then x ∷ [] else [])) (get_or_from_slice_get entries index entry entry at)
      ∙ ap (λ (b : Bool). before ++ (if b then entry ∷ [] else [])) is

  pub removed_push : (so_far : List Entry) → (entry.state ≡ Live → ⊥) → so_far ≡ before →
      so_far ++ entry ∷ [] ≡ filter is_removed (take (index + 1) entries)
  removed_push so_far not_live is =
      ap (λ (some : List Entry). some ++ entry ∷ []) is ∙ sym (further true (dead_is entry entry.state refl not_live))

  pub removed_stay : (so_far : List Entry) → entry.state ≡ Live → so_far ≡ before →
      so_far ≡ filter is_removed (take (index + 1) entries)
  removed_stay so_far live is = is ∙ sym (further false (live_is entry live) ∙ append-nil before)

module _ (saved : Saved) where
  -- an entry of the tables with a state, and what they show of it
  shown_mark : (entry : ModelEntry) (state : State) → Contains saved.entries (held_as entry state) →
      is_removed (held_as entry state) ≡ true → IsMarkedIn (tables_view saved) entry state
  shown_mark entry Live inside removed = absurd (true≢false (sym removed))
  shown_mark entry (Dead knowing knowing_all_know) inside removed = inside

  held_mark : (entry : ModelEntry) (state : State) → IsMarkedIn (tables_view saved) entry state →
      Contains saved.entries (held_as entry state) × (is_removed (held_as entry state) ≡ true)
  held_mark entry Live none = absurd none
  held_mark entry (Dead knowing knowing_all_know) marked = (marked, refl)

  pub marks_tables : IsRising saved.entries → AreMarksIn (tables_view saved) (filter is_removed saved.entries)
  marks_tables rising = record {
    all = λ entry. (
      λ inside.
          shown_mark (without_state entry) entry.state
          (All-contains (Contains saved.entries) (filter is_removed saved.entries) entry
          (All-filter is_removed (Contains saved.entries) saved.entries (All-contains_itself saved.entries)) inside)
          (All-contains (λ (e : Entry). is_removed e ≡ true) (filter is_removed saved.entries) entry
          (filter_passes is_removed saved.entries) inside),
      λ marked.
          let held = held_mark (without_state entry) entry.state marked in
          into_filter is_removed saved.entries entry held.0 held.1,
    );
    rising = record {
      each = AllPairs-filter (λ (a b : Entry). id_cmp a.id b.id ≡ Less) is_removed saved.entries rising.each;
    };
  }
