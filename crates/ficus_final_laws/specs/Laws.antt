-- The laws, as the law functions state them.
use Rattle.std.specs.Prelude.{◌≡◌, ◌↔◌, ◌⊎◌, ℕ, List, [], ◌∷◌, ◌++◌, length}
use Rattle.ficus_ids.specs.Members.{IsMember}
use Rattle.ficus_ids.specs.declared.id.Id.{Id}
use Rattle.ficus_ids.specs.declared.kind.Kind.{Kind}
use Rattle.ficus_model.specs.declared.event.Event.{Event}
use Rattle.ficus_model.specs.declared.event.Event.TheVariants.{Update, Collect}
use Rattle.ficus_model.specs.declared.event.Op.TheVariants.{Remove, Move}
use Rattle.ficus_model.specs.Events.{before}
use Rattle.ficus_model.specs.Known.{Knows}
use Rattle.ficus_model.specs.Live.{ModelEntry, IsEntered, IsRemoved, IsBound, IsMade}
use Rattle.ficus_model.specs.Versions.{IsVersion, IsCovering}
use Rattle.ficus_model.specs.View.{IsOrphan, IsInReach}
use Rattle.ficus_model.specs.Lawful.{Volume, AreNames, IsLawful}
use Rattle.ficus_model.specs.Held.{IsDropped, Touches, IsDone}
use Rattle.ficus_model.specs.Final.{IsFinal}
use Rattle.ficus_removal_laws.specs.Marks.{IsTwoFull}
use Rattle.ficus_final_laws.specs.Uses.{IsUse, IsAlive}

-- an update that uses an object makes it, or the object was alive for the replica of the update before
abbrev pub UsersSeeLife : Type 0
UsersSeeLife = (volume : Volume) (H : List Event) (object : Id) (position : ℕ) → IsLawful volume H →
    IsMember volume.members object.replica → (used : IsUse H object position) →
    (used.number ≡ object) ⊎ IsAlive (before position H) (Knows (before position H) used.number.replica) object

-- what is given up in a lawful history is given up for good
abbrev pub Finality : Type 0
Finality = (volume : Volume) (H : List Event) → IsLawful volume H → IsFinal volume.members H

-- At a position a replica knew all of the object that there ever is: its Make, each version of it, each Remove and
-- Discard of it, and a removal of each entry that leads to it or lies in it.
pub record KnowsAllOf (H : List Event) (position replica : ℕ) (object : Id) : Type 0 where
  pub made : (kind : Kind) × IsMade H (Knows (before position H) replica) object kind
  pub versions : (version : ℕ) → IsVersion H object version → Knows (before position H) replica version
  pub removals : (removal : ℕ) → IsCovering H object removal → Knows (before position H) replica removal
  pub entries : (reader : ℕ) (entry : ModelEntry) → IsEntered H (Knows H reader) entry → Touches entry object →
      IsRemoved H (Knows (before position H) replica) entry.id

-- where a member has an object done, each member knew all of it
abbrev pub DoneIsKnown : Type 0
DoneIsKnown = (volume : Volume) (H : List Event) (replica position member : ℕ) (object : Id) → IsLawful volume H →
    IsDone volume.members H replica object position → IsMember volume.members member →
    KnowsAllOf H position member object

-- and the member that has it done knew each use of it
abbrev pub UsesAreKnown : Type 0
UsesAreKnown = (volume : Volume) (H : List Event) (replica position used : ℕ) (object : Id) → IsLawful volume H →
    IsDone volume.members H replica object position → IsUse H object used → Knows (before position H) replica used

-- an orphan is in reach, so it can be written, filled and given a name
abbrev pub OrphansAreInReach : Type 0
OrphansAreInReach = (H : List Event) (replica : ℕ) (object : Id) → IsOrphan H (Knows H replica) object →
    IsInReach H (Knows H replica) object

-- after a Remove of names of an object its replica has none of them: the directory no longer binds the name to it
abbrev pub RemoveUnbinds : Type 0
RemoveUnbinds = (H : List Event) (replica : ℕ) (entries : List Id) (target : Id) →
    (names : AreNames H (Knows H replica) entries target) →
    let K = H ++ Update replica (Remove entries target) ∷ [] in
    IsBound K (Knows K replica) names.dir names.name target → ⊥

-- nor after a Move of them
abbrev pub MoveUnbinds : Type 0
MoveUnbinds = (volume : Volume) (H : List Event) (replica : ℕ) (entries : List Id) (dir : Id) (name : List ℕ)
    (target : Id) → (names : AreNames H (Knows H replica) entries target) →
    let K = H ++ Update replica (Move entries dir name target) ∷ [] in
    IsLawful volume K → IsBound K (Knows K replica) names.dir names.name target → ⊥

-- what a Collect of the replica would give up: a known object of which each known entry is dropped or would be, and
-- that is no orphan
pub record IsGivenUp (members : ℕ) (H : List Event) (replica : ℕ) (object : Id) : Type 0 where
  pub kind : Kind
  pub made : IsMade H (Knows H replica) object kind
  pub dropped : (entry : ModelEntry) → IsEntered H (Knows H replica) entry → Touches entry object →
      IsDropped members H replica entry.id ⊎ IsTwoFull members H replica entry.id
  pub no_orphan : IsOrphan H (Knows H replica) object → ⊥

-- an object stays done, a Collect gives these up, and no other event gives any up
abbrev pub CollectGivesUp : Type 0
CollectGivesUp = (members : ℕ) (H : List Event) (event : Event) (replica position : ℕ) (object : Id) →
    IsDone members (H ++ event ∷ []) replica object position ↔
    (IsDone members H replica object position ⊎
    ((position ≡ length H) × (event ≡ Collect replica) × IsGivenUp members H replica object))
