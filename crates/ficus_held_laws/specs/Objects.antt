-- The objects that a replica keeps, each with its versions and its cover, and what each event makes of them.
use Rattle.std.specs.Prelude.{◌≡◌, ◌⊎◌, ◌↔◌, ℕ, List, [], Contains}
use Rattle.ficus_ids.specs.declared.id.Id.{Id}
use Rattle.ficus_ids.specs.Kind.{sort_of}
use Rattle.ficus_ids.specs.declared.kind.Kind.{Kind}
use Rattle.ficus_ids.specs.declared.kind.Sort.{Sort}
use Rattle.ficus_ids.specs.declared.kind.Sort.TheVariants.{Directory, Versioned, Fixed}
use Rattle.ficus_entry.specs.declared.entry.Entry.{Entry as Kept}
use Rattle.ficus_model.specs.declared.event.Event.{Event}
use Rattle.ficus_model.specs.declared.event.Op.{Op}
use Rattle.ficus_model.specs.declared.event.Op.TheVariants.{Make}
use Rattle.ficus_model.specs.Known.{Knows}
use Rattle.ficus_model.specs.Live.{IsMade}
use Rattle.ficus_model.specs.Held.{Touches, IsDone, IsHeldObject}
use Rattle.ficus_model.specs.Vectors.{IsCoverOf}
use Rattle.ficus_model.specs.View.{IsOrphan}
use Rattle.ficus_version_laws.specs.Compared.{join}
use Rattle.ficus_version_laws.specs.Listed.{Item, AreShown, AreMerged, join_all, advanced}
use Rattle.ficus_version_laws.specs.Operations.{Writes, GivesUp}
use Rattle.ficus_held_laws.specs.Entries.{place_of}

-- an object as a replica keeps it: its kind, its versions and its cover
pub record KeptObject : Type 0 where
  pub id : Id
  pub kind : Kind
  pub versions : List Item
  pub cover : ℕ → ℕ

-- the replica holds the object, and it has the versions that are shown and the cover that the history gives
pub record IsKeptObject (members : ℕ) (H : List Event) (replica : ℕ) (object : KeptObject) : Type 0 where
  pub held : IsHeldObject members H replica object.id object.kind
  pub versions : AreShown H (Knows H replica) object.id object.versions
  pub cover : IsCoverOf H (Knows H replica) object.id object.cover

-- the list has an object with this identifier
pub record HasObject (objects : List KeptObject) (id : Id) : Type 0 where
  pub object : KeptObject
  pub inside : Contains objects object
  pub named : object.id ≡ id

-- and it has this kind
pub record HasKind (objects : List KeptObject) (id : Id) (kind : Kind) : Type 0 where
  pub has : HasObject objects id
  pub of : has.object.kind ≡ kind

-- the replica has the object done
pub record HasDone (members : ℕ) (H : List Event) (replica : ℕ) (object : Id) : Type 0 where
  pub position : ℕ
  pub done : IsDone members H replica object position

-- the list has only objects that the replica keeps, and each that it knows and the list doesn't have is done
pub record AreKeptObjects (members : ℕ) (H : List Event) (replica : ℕ) (objects : List KeptObject) : Type 0 where
  pub each : (object : KeptObject) → Contains objects object → IsKeptObject members H replica object
  pub absent : (id : Id) (kind : Kind) → IsMade H (Knows H replica) id kind → (HasObject objects id → ⊥) →
      HasDone members H replica id

-- What the update of the replica with this number makes of an object that was kept: one version in place of all
-- where it writes the file, the versions covered where it gives the object up, and the rest as before.
pub record IsObjectStepped (replica : ℕ) (number : Id) (op : Op) (object after : KeptObject) : Type 0 where
  pub id : after.id ≡ object.id
  pub kind : after.kind ≡ object.kind
  pub written : (bytes : List ℕ) → Writes number op object.id bytes →
      after.versions ≡ advanced replica bytes object.versions
  pub unwritten : ((bytes : List ℕ) → Writes number op object.id bytes → ⊥) → after.versions ≡ object.versions
  pub covered : GivesUp op object.id → after.cover ≡ join object.cover (join_all object.versions)
  pub uncovered : (GivesUp op object.id → ⊥) → after.cover ≡ object.cover

-- the versions of an object for this that was just made with a text: a directory has none, and all else the first one
abbrev pub first_of : ℕ → List ℕ → Sort → List Item
first_of replica text Directory = []
first_of replica text Versioned = advanced replica text []
first_of replica text Fixed = advanced replica text []

-- and where the object is of this kind
abbrev pub first_versions : ℕ → List ℕ → Kind → List Item
first_versions replica text kind = first_of replica text (sort_of kind)

-- an object that the update with this number makes
pub record IsObjectMade (replica : ℕ) (number : Id) (op : Op) (object : KeptObject) : Type 0 where
  pub dir : Id
  pub name : List ℕ
  pub text : List ℕ
  pub makes : op ≡ Make dir name object.kind text
  pub id : object.id ≡ number
  pub versions : object.versions ≡ first_versions replica text object.kind
  pub cover : object.cover ≡ (λ by. 0)

-- an object of the list, as the update leaves it
pub record IsFromObject (replica : ℕ) (number : Id) (op : Op) (objects : List KeptObject)
    (after : KeptObject) : Type 0 where
  pub object : KeptObject
  pub inside : Contains objects object
  pub stepped : IsObjectStepped replica number op object after

-- the list has the object, as the update leaves it
pub record HasStepped (replica : ℕ) (number : Id) (op : Op) (object : KeptObject)
    (after : List KeptObject) : Type 0 where
  pub next : KeptObject
  pub inside : Contains after next
  pub stepped : IsObjectStepped replica number op object next

-- the new list is what the update of the replica with this number makes of the old
pub record AreObjectsStepped (replica : ℕ) (number : Id) (op : Op) (objects after : List KeptObject) : Type 0 where
  pub from : (object : KeptObject) → Contains after object →
      IsFromObject replica number op objects object ⊎ IsObjectMade replica number op object
  pub kept : (object : KeptObject) → Contains objects object → HasStepped replica number op object after
  pub made : (dir : Id) (name : List ℕ) (kind : Kind) (text : List ℕ) → op ≡ Make dir name kind text →
      HasObject after number

-- an entry of the list leads to the object or lies in it
pub record IsTouched (entries : List Kept) (object : Id) : Type 0 where
  pub entry : Kept
  pub inside : Contains entries entry
  pub touches : Touches (place_of entry) object

-- the list has the orphans of the replica, and no others
abbrev pub AreOrphans : List Event → ℕ → List Id → Type 0
AreOrphans H replica orphans = (object : Id) → Contains orphans object ↔ IsOrphan H (Knows H replica) object

-- of the objects are left those that an entry of the list touches, and the orphans
abbrev pub AreLeft : List KeptObject → List Kept → List Id → List KeptObject → Type 0
AreLeft objects entries orphans after = (object : KeptObject) → Contains after object ↔
    (Contains objects object × (IsTouched entries object.id ⊎ Contains orphans object.id))

-- what the taker makes of an object that both keep: the latest versions of both, and the join of the covers
pub record IsObjectMerged (members : ℕ) (mine theirs after : KeptObject) : Type 0 where
  pub id : after.id ≡ mine.id
  pub kind : after.kind ≡ mine.kind
  pub versions : AreMerged members mine.versions theirs.versions after.versions
  pub cover : after.cover ≡ join mine.cover theirs.cover

-- the merge of an object of the one list and of the same object of the other
pub record IsOfBoth (members : ℕ) (mine theirs : List KeptObject) (after : KeptObject) : Type 0 where
  pub own : KeptObject
  pub his : KeptObject
  pub inside : Contains mine own
  pub inside_theirs : Contains theirs his
  pub same : his.id ≡ own.id
  pub merged : IsObjectMerged members own his after

-- an object of the first list which the second doesn't have
pub record IsOnlyOf (objects others : List KeptObject) (object : KeptObject) : Type 0 where
  pub inside : Contains objects object
  pub alone : HasObject others object.id → ⊥

-- an object of the peer alone, which one of the entries touches
pub record IsTaken (mine theirs : List KeptObject) (entries : List Kept) (object : KeptObject) : Type 0 where
  pub only : IsOnlyOf theirs mine object
  pub touched : IsTouched entries object.id

-- the list has the merge of the two objects
pub record HasMerged (members : ℕ) (mine theirs : KeptObject) (after : List KeptObject) : Type 0 where
  pub object : KeptObject
  pub inside : Contains after object
  pub merged : IsObjectMerged members mine theirs object

-- What the taker makes of its list and the peer's, where these are its entries then: its own objects stay, those of
-- both are merged, and those of the peer alone are taken exactly where one of the entries touches them.
pub record AreObjectsMerged (members : ℕ) (mine theirs : List KeptObject) (entries : List Kept)
    (after : List KeptObject) : Type 0 where
  pub from : (object : KeptObject) → Contains after object →
      IsOnlyOf mine theirs object ⊎ (IsOfBoth members mine theirs object ⊎ IsTaken mine theirs entries object)
  pub own : (object : KeptObject) → IsOnlyOf mine theirs object → Contains after object
  pub both : (own his : KeptObject) → Contains mine own → Contains theirs his → his.id ≡ own.id →
      HasMerged members own his after
  pub taken : (object : KeptObject) → IsTaken mine theirs entries object → Contains after object
