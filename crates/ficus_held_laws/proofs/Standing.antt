-- When an entry stands at a replica after one history as after another.
use Rattle.std.proofs.Common.{◌≡◌, ◌≢◌, ◌↔◌, ◌⊎◌, ℕ, Bool, true, false, List, [], ◌∷◌, ◌++◌, Some, None, Option, refl, sym, ap, ap₂, subst, inl, inr}
use Rattle.std.specs.Prelude.{IsTrue, Contains}
use Rattle.ficus_ids.specs.IdLaws.{same_id_or_not}
use Rattle.ficus_ids.specs.ListLaws.{there, contained_or_not}
use Rattle.ficus_ids.specs.Marks.{has}
use Rattle.ficus_ids.specs.MarksLaws.{same_marks}
use Rattle.ficus_ids.specs.Members.{IsMember}
use Rattle.ficus_ids.specs.declared.id.Id.{Id}
use Rattle.ficus_entry.specs.declared.entry.Entry.{Entry as Kept}
use Rattle.ficus_entry.specs.declared.entry.State.{State}
use Rattle.ficus_entry.specs.declared.entry.State.TheVariants.{Live, Dead}
use Rattle.ficus_model.specs.declared.event.Event.{Event}
use Rattle.ficus_model.specs.declared.event.Event.TheVariants.{Update, Collect}
use Rattle.ficus_model.specs.Events.{actor}
use Rattle.ficus_model.specs.Known.{Knows}
use Rattle.ficus_model.specs.Live.{ModelEntry, IsEntered, IsRemoved}
use Rattle.ficus_model.specs.Held.{IsDropped}
use Rattle.ficus_laws.specs.Updates.{SameUpdates, IsQuiet}
use Rattle.ficus_laws.proofs.Deciding.{Decided}
use Rattle.ficus_laws.proofs.Issued.{entered_once}
use Rattle.ficus_laws.proofs.OneMore.{same_of_other, same_quiet}
use Rattle.ficus_laws.proofs.Shown.{entered_within, removed_within}
use Rattle.ficus_removal_laws.specs.Marks.{IsEnteredAs, LeavesEntry, SameMarks}
use Rattle.ficus_removal_laws.proofs.Dropping.{dropped_more}
use Rattle.ficus_removal_laws.proofs.Marking.{marks_kept}
use Rattle.ficus_merge_laws.specs.States.{StandsAs}
use Rattle.ficus_merge_laws.proofs.Following.{undropped}
use Rattle.ficus_held_laws.specs.Entries.{IsKeptEntry, IsIdle, place_of}

-- an identifier is in a list, or it isn't
pub inside_decided : (ids : List Id) (id : Id) → Decided (Contains ids id)
inside_decided ids id = contained_or_not same_id_or_not ids id

-- after both histories the same is known of the entry with this identifier
pub record SameEntry (members : ℕ) (H K : List Event) (replica : ℕ) (id : Id) : Type 0 where
  pub marks : SameMarks members H K replica id
  pub entered : (entry : ModelEntry) → entry.id ≡ id →
      IsEntered H (Knows H replica) entry ↔ IsEntered K (Knows K replica) entry
  pub removed : IsRemoved H (Knows H replica) id ↔ IsRemoved K (Knows K replica) id
  pub dropped : IsDropped members H replica id ↔ IsDropped members K replica id

pub same_entry_back : {members : ℕ} {H K : List Event} {replica : ℕ} {id : Id} → SameEntry members H K replica id →
    SameEntry members K H replica id
same_entry_back s = record {
  marks = record {
    one = λ peer. ((s.marks.one peer).1, (s.marks.one peer).0);
    two = λ peer. ((s.marks.two peer).1, (s.marks.two peer).0);
  };
  entered = λ entry named. ((s.entered entry named).1, (s.entered entry named).0);
  removed = (s.removed.1, s.removed.0);
  dropped = (s.dropped.1, s.dropped.0);
}

-- then it stands in the same state
module _ {members : ℕ} {H K : List Event} {replica : ℕ} {id : Id} (s : SameEntry members H K replica id) where
  entered_as_same : IsEnteredAs H (Knows H replica) id → IsEnteredAs K (Knows K replica) id
  entered_as_same e = record { entry = e.entry; entered = (s.entered e.entry e.named).0 e.entered; named = e.named }

  entered_as_back : IsEnteredAs K (Knows K replica) id → IsEnteredAs H (Knows H replica) id
  entered_as_back e = record { entry = e.entry; entered = (s.entered e.entry e.named).1 e.entered; named = e.named }

  pub stands_same : (state : Option State) → StandsAs members H replica id state → StandsAs members K replica id state
  stands_same None absent = λ e. s.dropped.0 (absent (entered_as_back e))
  stands_same (Some Live) alive =
      record { entered = entered_as_same alive.entered; not_removed = λ r. alive.not_removed (s.removed.1 r) }
  stands_same (Some (Dead one two)) marked = record {
    entered = entered_as_same marked.entered;
    removed = s.removed.0 marked.removed;
    held = λ d. marked.held (s.dropped.1 d);
    first = λ peer. (
      λ inside. (s.marks.one peer).0 ((marked.first peer).0 inside),
      λ o. (marked.first peer).1 ((s.marks.one peer).1 o),
    );
    second = λ peer. (
      λ inside. (s.marks.two peer).0 ((marked.second peer).0 inside),
      λ t. (marked.second peer).1 ((s.marks.two peer).1 t),
    );
  }

pub kept_same : {members : ℕ} {H K : List Event} {replica : ℕ} {entry : Kept} → SameEntry members H K replica entry.id →
    IsKeptEntry members H replica entry → IsKeptEntry members K replica entry
kept_same {entry = entry} s k = record {
  held = record {
    entered = (s.entered (place_of entry) refl).0 k.held.entered;
    held = λ d. k.held.held (s.dropped.1 d);
  };
  state = stands_same s (Some entry.state) k.state;
}

-- the same updates and marks, and nothing dropped by one more event
pub same_from_updates : {members : ℕ} {H : List Event} {replica : ℕ} {id : Id} (event : Event) →
    SameUpdates H (Knows H replica) (H ++ event ∷ []) (Knows (H ++ event ∷ []) replica) →
    SameMarks members H (H ++ event ∷ []) replica id →
    (IsDropped members (H ++ event ∷ []) replica id → IsDropped members H replica id) →
    SameEntry members H (H ++ event ∷ []) replica id
same_from_updates event same marks undropped = record {
  marks = marks;
  entered = λ entry named. (entered_within same.there, entered_within same.back);
  removed = (removed_within same.there, removed_within same.back);
  dropped = (dropped_more (event ∷ []), undropped);
}

pub idle_quiet : (event : Event) → IsIdle event → IsQuiet event
idle_quiet (Collect by) idle = absurd idle
idle_quiet event idle = idle

idle_leaves : (H : List Event) (event : Event) (id : Id) → IsIdle event → LeavesEntry H event id
idle_leaves H (Update by op) id idle = absurd idle
idle_leaves H (Collect by) id idle = absurd idle
idle_leaves H event id idle = idle

pub others_same_updates : (H : List Event) (event : Event) (replica : ℕ) → (actor event ≢ replica) ⊎ IsIdle event →
    SameUpdates H (Knows H replica) (H ++ event ∷ []) (Knows (H ++ event ∷ []) replica)
others_same_updates H event replica (inl other) = same_of_other H event replica other
others_same_updates H event replica (inr idle) = same_quiet H event replica (idle_quiet event idle)

-- such an event is no Collect of the replica
pub others_collect_not : {event : Event} {replica : ℕ} → (actor event ≢ replica) ⊎ IsIdle event →
    event ≢ Collect replica
others_collect_not (inl other) is = other (ap actor is)
others_collect_not (inr idle) is = subst IsIdle is idle

others_marks : (members : ℕ) (H : List Event) (event : Event) (replica : ℕ) (id : Id) → IsMember members replica →
    (actor event ≢ replica) ⊎ IsIdle event → SameMarks members H (H ++ event ∷ []) replica id
others_marks members H event replica id m (inl other) = marks_kept members H event replica id m (inl other)
others_marks members H event replica id m (inr idle) =
    marks_kept members H event replica id m (inr (idle_leaves H event id idle))

-- an event of another replica, and an idle one, leaves each entry
pub others_same_entry : (members : ℕ) (H : List Event) (event : Event) (replica : ℕ) (id : Id) →
    IsMember members replica → (actor event ≢ replica) ⊎ IsIdle event →
    SameEntry members H (H ++ event ∷ []) replica id
others_same_entry members H event replica id m other =
    same_from_updates event
    (others_same_updates H event replica other)
    (others_marks members H event replica id m other)
    (undropped event (others_collect_not other))

-- tests that agree are equal
same_test : (a b : Bool) → (IsTrue a → IsTrue b) → (IsTrue b → IsTrue a) → a ≡ b
same_test true true there back = refl
same_test true false there back = cc (there refl)
same_test false true there back = cc (back refl)
same_test false false there back = refl

-- an identifier stands in one state at most
pub one_state : (members : ℕ) (H : List Event) (replica : ℕ) (id : Id) (state other : State) →
    StandsAs members H replica id (Some state) → StandsAs members H replica id (Some other) → state ≡ other
one_state members H replica id Live Live a b = refl
one_state members H replica id Live (Dead one two) a b = absurd (a.not_removed b.removed)
one_state members H replica id (Dead one two) Live a b = absurd (b.not_removed a.removed)
one_state members H replica id (Dead one two) (Dead first second) a b = ap₂ Dead
    (same_marks one first (λ peer. same_test (has one peer) (has first peer)
    (λ inside. (b.first peer).1 ((a.first peer).0 inside)) (λ inside. (a.first peer).1 ((b.first peer).0 inside))))
    (same_marks two second (λ peer. same_test (has two peer) (has second peer)
    (λ inside. (b.second peer).1 ((a.second peer).0 inside)) (λ inside. (a.second peer).1 ((b.second peer).0 inside))))

abbrev pub kept_of : ModelEntry → State → Kept
kept_of place state = record { id = place.id; dir = place.dir; name = place.name; target = place.target; state = state }

-- entries with one place and one state are one
pub same_kept : {entry other : Kept} → place_of entry ≡ place_of other → entry.state ≡ other.state → entry ≡ other
same_kept place state = ap₂ kept_of place state

-- and is kept as one entry
pub kept_once : {members : ℕ} {H : List Event} {replica : ℕ} {entry other : Kept} →
    IsKeptEntry members H replica entry → IsKeptEntry members H replica other → entry.id ≡ other.id → entry ≡ other
kept_once {members} {H} {replica} {entry} {other} k l same = same_kept
    (entered_once k.held.entered l.held.entered same)
    (one_state members H replica entry.id entry.state other.state k.state
    (subst (λ id. StandsAs members H replica id (Some other.state)) (sym same) l.state))
