-- The laws of the objects that a replica keeps, as the law functions state them.
use Rattle.std.specs.Prelude.{◌≢◌, ◌⊎◌, ℕ, List, [], ◌∷◌, ◌++◌}
use Rattle.ficus_ids.specs.declared.id.Id.{Id}
use Rattle.ficus_ids.specs.declared.kind.Kind.{Kind}
use Rattle.ficus_entry.specs.declared.entry.Entry.{Entry as Kept}
use Rattle.ficus_model.specs.declared.event.Event.{Event}
use Rattle.ficus_model.specs.declared.event.Event.TheVariants.{Update, Accept, Collect}
use Rattle.ficus_model.specs.declared.event.Op.{Op}
use Rattle.ficus_model.specs.Events.{actor, through}
use Rattle.ficus_model.specs.Held.{IsDone, IsHeldObject}
use Rattle.ficus_model.specs.Lawful.{Volume, IsLawful}
use Rattle.ficus_laws.specs.Updates.{next_number}
use Rattle.ficus_removal_laws.specs.Laws.{IsAnswer}
use Rattle.ficus_held_laws.specs.Entries.{AreKeptEntries, IsIdle}
use Rattle.ficus_held_laws.specs.Objects.{KeptObject, HasKind, IsKeptObject, AreKeptObjects, AreObjectsStepped, AreOrphans, AreLeft, AreObjectsMerged}

-- what is kept isn't done
abbrev pub KeptIsNotDone : Type 0
KeptIsNotDone = (members : ℕ) (H : List Event) (replica : ℕ) (object : KeptObject) (position : ℕ) →
    IsKeptObject members H replica object → IsDone members H replica object.id position → ⊥

-- at the start no replica keeps an object
abbrev pub NoObjectsAtStart : Type 0
NoObjectsAtStart = (members replica : ℕ) → AreKeptObjects members [] replica []

-- each object that a replica holds is in a list of those that it keeps, with its kind
abbrev pub HeldObjectsAreListed : Type 0
HeldObjectsAreListed = (members : ℕ) (H : List Event) (replica : ℕ) (objects : List KeptObject) (id : Id)
    (kind : Kind) →
    AreKeptObjects members H replica objects → IsHeldObject members H replica id kind → HasKind objects id kind

-- an event of another replica, and an idle one, leaves the objects that a replica keeps
abbrev pub OthersKeepObjects : Type 0
OthersKeepObjects = (members : ℕ) (H : List Event) (event : Event) (replica : ℕ) (objects : List KeptObject) →
    (actor event ≢ replica) ⊎ IsIdle event →
    AreKeptObjects members H replica objects → AreKeptObjects members (H ++ event ∷ []) replica objects

-- after an update its replica keeps what it kept and the object that the update makes, as the update leaves them
abbrev pub UpdateStepsObjects : Type 0
UpdateStepsObjects = (volume : Volume) (H : List Event) (replica : ℕ) (op : Op) (objects after : List KeptObject) →
    IsLawful volume H → AreKeptObjects volume.members H replica objects →
    AreObjectsStepped replica (next_number replica H) op objects after →
    AreKeptObjects volume.members (H ++ Update replica op ∷ []) replica after

-- after a Collect its replica keeps, of the objects that it kept, those that an entry then kept touches and the orphans
abbrev pub CollectLeavesObjects : Type 0
CollectLeavesObjects = (members : ℕ) (H : List Event) (replica : ℕ) (entries : List Kept) (orphans : List Id)
    (objects after : List KeptObject) → AreKeptEntries members (H ++ Collect replica ∷ []) replica entries →
    AreOrphans H replica orphans → AreKeptObjects members H replica objects → AreLeft objects entries orphans after →
    AreKeptObjects members (H ++ Collect replica ∷ []) replica after

-- after an Accept its replica keeps the merge of its objects and those that the server kept when it served
abbrev pub AcceptMergesObjects : Type 0
AcceptMergesObjects = (volume : Volume) (H : List Event) (replica served piece server : ℕ) (entries : List Kept)
    (mine theirs after : List KeptObject) → IsAnswer volume H replica served piece server →
    AreKeptEntries volume.members (H ++ Accept replica served piece ∷ []) replica entries →
    AreKeptObjects volume.members H replica mine → AreKeptObjects volume.members (through served H) server theirs →
    AreObjectsMerged volume.members mine theirs entries after →
    AreKeptObjects volume.members (H ++ Accept replica served piece ∷ []) replica after
