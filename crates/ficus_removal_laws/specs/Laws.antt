-- The laws, as the law functions state them.
use Rattle.std.specs.Prelude.{◌≡◌, ◌≢◌, ◌↔◌, ◌⊎◌, ℕ, ◌≤◌, List, [], ◌∷◌, ◌++◌, Contains}
use Rattle.ficus_ids.specs.Members.{IsMember}
use Rattle.ficus_ids.specs.declared.id.Id.{Id}
use Rattle.ficus_model.specs.declared.event.Event.{Event}
use Rattle.ficus_model.specs.declared.event.Event.TheVariants.{Update, Accept, Collect}
use Rattle.ficus_model.specs.declared.event.Op.{Op}
use Rattle.ficus_model.specs.declared.event.Op.TheVariants.{Remove, Move, Discard}
use Rattle.ficus_model.specs.Events.{IsOf, IsUpdate, through, actor}
use Rattle.ficus_model.specs.Known.{Knows}
use Rattle.ficus_model.specs.Lawful.{Volume, MayCome, IsLawful}
use Rattle.ficus_model.specs.Live.{ModelEntry, entry_of, removed_by, IsRemoved, IsLive}
use Rattle.ficus_model.specs.Held.{IsDropped}
use Rattle.ficus_model.specs.Knowledge.{IsHeard, IsInOne, IsInTwo, KnowsThatKnows, KnowsThatAllKnow}
use Rattle.ficus_laws.specs.Updates.{next_number}
use Rattle.ficus_removal_laws.specs.Marks.{IsOneFull, IsTwoFull, LeavesEntry, SameMarks, IsEnteredAs, IsAbsent, IsBegun, IsLaterHeard}

-- a replica knows a position, or it doesn't
abbrev pub KnowledgeIsDecided : Type 0
KnowledgeIsDecided = (H : List Event) (replica position : ℕ) → Knows H replica position ⊎ (Knows H replica position → ⊥)

-- who knows an event of a peer knows a last one
abbrev pub LastIsHeard : Type 0
LastIsHeard = (H : List Event) (replica peer position : ℕ) → Knows H replica position → IsOf H position peer →
    (last : ℕ) × IsHeard H replica peer last × (position ≤ last)

-- where an event of a peer is known, so is all that the peer knew through it
abbrev pub PeersKnowledgeIsKnown : Type 0
PeersKnowledgeIsKnown = (H : List Event) (replica peer position earlier : ℕ) → Knows H replica position →
    IsOf H position peer → Knows (through position H) peer earlier → Knows H replica earlier

-- the last known event of a peer tells of a removal what any known event of it tells
abbrev pub OneIsKnowledge : Type 0
OneIsKnowledge = (H : List Event) (replica peer : ℕ) (entry : Id) →
    IsInOne H replica peer entry ↔ KnowsThatKnows H replica peer entry

-- and of the knowledge that all know
abbrev pub TwoIsKnowledge : Type 0
TwoIsKnowledge = (members : ℕ) (H : List Event) (replica peer : ℕ) (entry : Id) →
    IsInTwo members H replica peer entry ↔ KnowsThatAllKnow members H replica peer entry

-- a replica is in its own first set exactly where it knows a removal
abbrev pub OneOfItself : Type 0
OneOfItself = (H : List Event) (replica : ℕ) (entry : Id) →
    IsInOne H replica replica entry ↔ IsRemoved H (Knows H replica) entry

-- and in its own second set exactly where its first set is full
abbrev pub TwoOfItself : Type 0
TwoOfItself = (members : ℕ) (H : List Event) (replica : ℕ) (entry : Id) → IsMember members replica →
    IsInTwo members H replica replica entry ↔ IsOneFull members H replica entry

-- who knows a removal in a lawful history knows the entry
abbrev pub RemovedIsEntered : Type 0
RemovedIsEntered = (volume : Volume) (H : List Event) (replica : ℕ) (entry : Id) → IsLawful volume H →
    IsRemoved H (Knows H replica) entry → IsEnteredAs H (Knows H replica) entry

-- who knows that a replica knows an entry to be removed knows each removal of the entry by that replica
abbrev pub RemovalsAreKnown : Type 0
RemovalsAreKnown = (volume : Volume) (H : List Event) (replica position : ℕ) (number entry : Id) (op : Op) →
    IsLawful volume H → IsUpdate H position number op → Contains (removed_by number op) entry →
    IsInOne H replica number.replica entry → Knows H replica position

-- after a Remove its replica has alive what it had, but for the entries that the Remove names
abbrev pub RemoveTakes : Type 0
RemoveTakes = (H : List Event) (replica : ℕ) (entries : List Id) (target : Id) (entry : ModelEntry) →
    let K = H ++ Update replica (Remove entries target) ∷ [] in
    IsLive K (Knows K replica) entry ↔ (IsLive H (Knows H replica) entry × (Contains entries entry.id → ⊥))

-- after a Move too, and the entry that the Move enters
abbrev pub MoveTakes : Type 0
MoveTakes = (volume : Volume) (H : List Event) (replica : ℕ) (entries : List Id) (dir : Id) (name : List ℕ)
    (target : Id) (entry : ModelEntry) → let K = H ++ Update replica (Move entries dir name target) ∷ [] in
    IsLawful volume K → IsLive K (Knows K replica) entry ↔
    ((IsLive H (Knows H replica) entry × (Contains entries entry.id → ⊥)) ⊎
    (entry ≡ entry_of (next_number replica H) dir name target))

-- after a Discard what it had: the entry that a Discard enters is removed at once
abbrev pub DiscardTakes : Type 0
DiscardTakes = (H : List Event) (replica : ℕ) (file : Id) (entry : ModelEntry) →
    let K = H ++ Update replica (Discard file) ∷ [] in
    IsLive K (Knows K replica) entry ↔ IsLive H (Knows H replica) entry

-- an event of another replica leaves all marks, and so does an own one that takes nothing and doesn't remove the entry
abbrev pub KeepsMarks : Type 0
KeepsMarks = (members : ℕ) (H : List Event) (event : Event) (replica : ℕ) (entry : Id) → IsMember members replica →
    (actor event ≢ replica) ⊎ LeavesEntry H event entry →
    SameMarks members H (H ++ event ∷ []) replica entry

-- a Remove, Move or Discard begins the removal of each entry that it removes
abbrev pub RemovalBegins : Type 0
RemovalBegins = (volume : Volume) (H : List Event) (replica : ℕ) (op : Op) (entry : Id) → 2 ≤ volume.members →
    IsLawful volume (H ++ Update replica op ∷ []) → Contains (removed_by (next_number replica H) op) entry →
    IsBegun volume.members (H ++ Update replica op ∷ []) replica entry

-- after an Accept its replica knows an entry exactly where it did or the server did when it served
abbrev pub AcceptJoinsEntered : Type 0
AcceptJoinsEntered = (H : List Event) (replica served piece server : ℕ) (entry : Id) → IsOf H served server →
    let K = H ++ Accept replica served piece ∷ [] in
    let T = through served H in
    IsEnteredAs K (Knows K replica) entry ↔
    (IsEnteredAs H (Knows H replica) entry ⊎ IsEnteredAs T (Knows T server) entry)

-- and so with removals
abbrev pub AcceptJoinsRemoved : Type 0
AcceptJoinsRemoved = (H : List Event) (replica served piece server : ℕ) (entry : Id) → IsOf H served server →
    let K = H ++ Accept replica served piece ∷ [] in
    let T = through served H in
    IsRemoved K (Knows K replica) entry ↔ (IsRemoved H (Knows H replica) entry ⊎ IsRemoved T (Knows T server) entry)

-- of another replica it has heard the later of what both had heard
abbrev pub AcceptHearsLater : Type 0
AcceptHearsLater = (H : List Event) (replica served piece server peer position : ℕ) → IsOf H served server →
    peer ≢ replica →
    let K = H ++ Accept replica served piece ∷ [] in
    IsHeard K replica peer position ↔ IsLaterHeard H replica (through served H) server peer position

-- so another replica is in its first set exactly where it was in that of one of both
abbrev pub AcceptJoinsOne : Type 0
AcceptJoinsOne = (H : List Event) (replica served piece server peer : ℕ) (entry : Id) → IsOf H served server →
    peer ≢ replica →
    let K = H ++ Accept replica served piece ∷ [] in
    IsInOne K replica peer entry ↔ (IsInOne H replica peer entry ⊎ IsInOne (through served H) server peer entry)

-- and so with the second sets
abbrev pub AcceptJoinsTwo : Type 0
AcceptJoinsTwo = (members : ℕ) (H : List Event) (replica served piece server peer : ℕ) (entry : Id) →
    IsOf H served server →
    peer ≢ replica →
    let K = H ++ Accept replica served piece ∷ [] in
    let T = through served H in
    IsInTwo members K replica peer entry ↔ (IsInTwo members H replica peer entry ⊎ IsInTwo members T server peer entry)

-- a Collect drops exactly the entries for which its replica's second set is full, and no other event drops any
abbrev pub CollectDrops : Type 0
CollectDrops = (members : ℕ) (H : List Event) (event : Event) (replica : ℕ) (entry : Id) →
    IsDropped members (H ++ event ∷ []) replica entry ↔
    (IsDropped members H replica entry ⊎ ((event ≡ Collect replica) × IsTwoFull members H replica entry))

-- where a replica has dropped an entry, its second set is full
abbrev pub DroppedIsInTwo : Type 0
DroppedIsInTwo = (members : ℕ) (H : List Event) (replica : ℕ) (entry : Id) → IsDropped members H replica entry →
    IsTwoFull members H replica entry

-- and the first set of each member
abbrev pub DroppedIsInOne : Type 0
DroppedIsInOne = (members : ℕ) (H : List Event) (replica member : ℕ) (entry : Id) →
    IsDropped members H replica entry → IsMember members member → IsOneFull members H member entry

-- and each member knows a removal
abbrev pub DroppedIsRemoved : Type 0
DroppedIsRemoved = (members : ℕ) (H : List Event) (replica member : ℕ) (entry : Id) →
    IsDropped members H replica entry → IsMember members member → IsRemoved H (Knows H member) entry

-- what is alive for a member nobody has dropped
abbrev pub LiveIsNotDropped : Type 0
LiveIsNotDropped = (members : ℕ) (H : List Event) (replica member : ℕ) (entry : ModelEntry) →
    IsLive H (Knows H member) entry → IsMember members member → IsDropped members H replica entry.id → ⊥

-- nor what isn't in the first set of a member for some member
abbrev pub UnmarkedIsNotDropped : Type 0
UnmarkedIsNotDropped = (members : ℕ) (H : List Event) (replica member peer : ℕ) (entry : Id) →
    IsMember members member → IsMember members peer → (IsInOne H member peer entry → ⊥) →
    IsDropped members H replica entry → ⊥

-- after a lawful history the replica may take what this server served at this position
pub record IsAnswer (volume : Volume) (H : List Event) (replica served piece server : ℕ) : Type 0 where
  pub lawful : IsLawful volume H
  pub may : MayCome volume H (Accept replica served piece)
  pub by : IsOf H served server

-- of an entry that the replica doesn't hold: it has dropped it exactly where it is in the first set that is served
abbrev pub AbsentWasDropped : Type 0
AbsentWasDropped = (volume : Volume) (H : List Event) (replica served piece server : ℕ) (entry : Id) →
    IsAnswer volume H replica served piece server → IsAbsent volume.members H replica entry →
    IsDropped volume.members H replica entry ↔ IsInOne (through served H) server replica entry

-- and where it has dropped it, the server isn't served as alive: the server knew a removal
abbrev pub DroppedIsServed : Type 0
DroppedIsServed = (volume : Volume) (H : List Event) (replica served piece server : ℕ) (entry : Id) →
    IsAnswer volume H replica served piece server → IsDropped volume.members H replica entry →
    let T = through served H in
    IsRemoved T (Knows T server) entry

-- of an entry that the server didn't hold: it had dropped it exactly where the replica's first set is full
abbrev pub AbsentIsFull : Type 0
AbsentIsFull = (volume : Volume) (H : List Event) (replica served piece server : ℕ) (entry : Id) →
    IsAnswer volume H replica served piece server → IsAbsent volume.members (through served H) server entry →
    IsDropped volume.members (through served H) server entry ↔ IsOneFull volume.members H replica entry

-- and where it had dropped it, the replica's second set is full once it has taken the answer
abbrev pub DroppedThereFills : Type 0
DroppedThereFills = (members : ℕ) (H : List Event) (replica served piece server : ℕ) (entry : Id) →
    IsOf H served server →
    IsDropped members (through served H) server entry →
    IsTwoFull members (H ++ Accept replica served piece ∷ []) replica entry
