-- The laws, as the law functions state them.
use Rattle.std.specs.Prelude.{◌≡◌, ◌≢◌, ◌↔◌, ◌⊎◌, ℕ, ◌<◌, List, [], ◌∷◌, ◌++◌, length, codes}
use Rattle.ficus_ids.specs.Members.{IsMember}
use Rattle.ficus_ids.specs.declared.id.Id.{Id}
use Rattle.ficus_ids.specs.declared.id.TheConstants.{ROOT}
use Rattle.ficus_ids.specs.declared.kind.Kind.{Kind}
use Rattle.ficus_ids.specs.declared.kind.Kind.TheVariants.{Plain}
use Rattle.ficus_model.specs.declared.event.Event.{Event}
use Rattle.ficus_model.specs.declared.event.Event.TheVariants.{Update, Ask, Serve, Accept}
use Rattle.ficus_model.specs.declared.event.Op.{Op}
use Rattle.ficus_model.specs.declared.event.Op.TheVariants.{Make}
use Rattle.ficus_model.specs.Events.{IsOf, IsUpdate, through, actor, count_of}
use Rattle.ficus_model.specs.Known.{Knows}
use Rattle.ficus_model.specs.Live.{ModelEntry, entry_of, IsLive, IsRemoved, IsBound, IsMade, IsDirectory}
use Rattle.ficus_model.specs.Reached.{IsInTree}
use Rattle.ficus_model.specs.Lawful.{Volume, MayCome, IsLawful}
use Rattle.ficus_laws.specs.Accepts.{IsLiveJoined}
use Rattle.ficus_laws.specs.Updates.{next_number, made_entry, IsQuiet}

-- the same entries are alive, the same objects are made, and the same ones are reached from the root
pub record ShowSame (H : List Event) (U : ℕ → Type 0) (K : List Event) (V : ℕ → Type 0) : Type 0 where
  pub live : (entry : ModelEntry) → IsLive H U entry ↔ IsLive K V entry
  pub bound : (dir : Id) (name : List ℕ) (target : Id) → IsBound H U dir name target ↔ IsBound K V dir name target
  pub made : (object : Id) (kind : Kind) → IsMade H U object kind ↔ IsMade K V object kind
  pub tree : (object : Id) → IsInTree H U object ↔ IsInTree K V object

-- one more event leaves a history lawful exactly where it may come
abbrev pub LawfulBySteps : Type 0
LawfulBySteps =
    (volume : Volume) (H : List Event) (event : Event) →
    IsLawful volume (H ++ event ∷ []) ↔ (IsLawful volume H × MayCome volume H event)

-- a number names one update
abbrev pub NumbersNameOne : Type 0
NumbersNameOne =
    (H : List Event) (position again : ℕ) (number : Id) (op other : Op) → IsUpdate H position number op →
    IsUpdate H again number other → (position ≡ again) × (op ≡ other)

-- an identifier names one entry, whoever is shown it
abbrev pub IdsNameOneEntry : Type 0
IdsNameOneEntry =
    (H : List Event) (replica reader : ℕ) (entry other : ModelEntry) → IsLive H (Knows H replica) entry →
    IsLive H (Knows H reader) other → entry.id ≡ other.id → entry ≡ other

-- what is alive lies in a directory and names an object that is made
abbrev pub EntriesHavePlaces : Type 0
EntriesHavePlaces =
    (volume : Volume) (H : List Event) (replica : ℕ) (entry : ModelEntry) → IsLawful volume H →
    IsLive H (Knows H replica) entry →
    IsDirectory H (Knows H replica) entry.dir × (kind : Kind) × IsMade H (Knows H replica) entry.target kind

-- an object was made by a member
abbrev pub ObjectsAreMembers : Type 0
ObjectsAreMembers = (volume : Volume) (H : List Event) (replica : ℕ) (object : Id) (kind : Kind) → IsLawful volume H →
    IsMade H (Knows H replica) object kind → IsMember volume.members object.replica

-- an event of another replica, and one that is no update and takes nothing, changes nothing of what a replica is shown
abbrev pub KeepsShown : Type 0
KeepsShown =
    (H : List Event) (event : Event) (replica : ℕ) → (actor event ≢ replica) ⊎ IsQuiet event →
    ShowSame H (Knows H replica) (H ++ event ∷ []) (Knows (H ++ event ∷ []) replica)

-- after a Make one more entry is alive for its replica
abbrev pub MakeEnters : Type 0
MakeEnters =
    (volume : Volume) (H : List Event) (replica : ℕ) (dir : Id) (name : List ℕ) (kind : Kind) (text : List ℕ)
    (entry : ModelEntry) →
    IsLawful volume H →
    let K = H ++ Update replica (Make dir name kind text) ∷ [] in
    IsLive K (Knows K replica) entry ↔ (IsLive H (Knows H replica) entry ⊎ (entry ≡ made_entry replica H dir name))

-- and one more object is made
abbrev pub MakeMakes : Type 0
MakeMakes = (H : List Event) (replica : ℕ) (dir : Id) (name : List ℕ) (kind : Kind) (text : List ℕ) (object : Id)
    (made : Kind) →
    let K = H ++ Update replica (Make dir name kind text) ∷ [] in
    IsMade K (Knows K replica) object made ↔
    (IsMade H (Knows H replica) object made ⊎ ((object ≡ next_number replica H) × (made ≡ kind)))

-- where an answer may be taken, its replica has heard of no event of the server from the Serve on
abbrev pub AnswersAreNewer : Type 0
AnswersAreNewer =
    (volume : Volume) (H : List Event) (replica served piece server position : ℕ) → IsLawful volume H →
    MayCome volume H (Accept replica served piece) → IsOf H served server →
    Knows H replica position → IsOf H position server → position < served

-- after an Accept its replica knows, of the earlier positions, what it knew and what the server knew through the Serve
abbrev pub AcceptJoinsKnown : Type 0
AcceptJoinsKnown = (H : List Event) (replica served piece server position : ℕ) → IsOf H served server →
    position < length H →
    let K = H ++ Accept replica served piece ∷ [] in
    Knows K replica position ↔ (Knows H replica position ⊎ Knows (through served H) server position)

-- and for it is alive what was entered for one of the two and is removed for neither
abbrev pub AcceptJoinsLive : Type 0
AcceptJoinsLive = (H : List Event) (replica served piece server : ℕ) (entry : ModelEntry) → IsOf H served server →
    let K = H ++ Accept replica served piece ∷ [] in
    IsLive K (Knows K replica) entry ↔
    IsLiveJoined H (Knows H replica) (through served H) (Knows (through served H) server) entry

-- and made what was made for one of the two
abbrev pub AcceptJoinsMade : Type 0
AcceptJoinsMade = (H : List Event) (replica served piece server : ℕ) (object : Id) (kind : Kind) →
    IsOf H served server →
    let K = H ++ Accept replica served piece ∷ [] in
    IsMade K (Knows K replica) object kind ↔
    (IsMade H (Knows H replica) object kind ⊎ IsMade (through served H) (Knows (through served H) server) object kind)

-- two members, one of which pulls from the other after a lawful history
pub record IsPull (volume : Volume) (H : List Event) (replica server : ℕ) : Type 0 where
  pub lawful : IsLawful volume H
  pub replica_is : IsMember volume.members replica
  pub server_is : IsMember volume.members server
  pub differ : replica ≢ server

-- what a pull leaves
pub record IsPulled (H : List Event) (replica server : ℕ) (K : List Event) : Type 0 where
  pub known : (position : ℕ) → position < length H →
      Knows K replica position ↔ (Knows H replica position ⊎ Knows H server position)
  pub live : (entry : ModelEntry) →
      IsLive K (Knows K replica) entry ↔ IsLiveJoined H (Knows H replica) H (Knows H server) entry
  pub made : (object : Id) (kind : Kind) →
      IsMade K (Knows K replica) object kind ↔
      (IsMade H (Knows H replica) object kind ⊎ IsMade H (Knows H server) object kind)
  pub others_know : (other position : ℕ) → other ≢ replica → position < length H →
      Knows K other position ↔ Knows H other position
  pub others_shown : (other : ℕ) → other ≢ replica → ShowSame H (Knows H other) K (Knows K other)
  pub counts : (other : ℕ) → count_of other K ≡ count_of other H

-- both replicas know the same updates
abbrev pub KnowSameUpdates : List Event → ℕ → ℕ → Type 0
KnowSameUpdates H replica other =
    (position : ℕ) (number : Id) (op : Op) → IsUpdate H position number op →
    Knows H replica position ↔ Knows H other position

-- what a replica knows to be removed is never alive for it again
abbrev pub NoReturn : Type 0
NoReturn =
    (H later : List Event) (replica : ℕ) (entry : ModelEntry) → IsRemoved H (Knows H replica) entry.id →
    IsLive (H ++ later) (Knows (H ++ later) replica) entry → ⊥

-- a history of two members: the second makes a file, and the first asks it and takes its answer
abbrev pub small_volume : Volume
small_volume = record { members = 2; ids = 1; bytes = 0 }

abbrev pub small_history : List Event
small_history = Update 2 (Make ROOT (codes "a") Plain []) ∷ Ask 1 2 ∷ Serve 2 1 1 1 ∷ Accept 1 2 0 ∷ []

abbrev pub small_entry : ModelEntry
small_entry = entry_of (record { replica = 2; number = 1 }) ROOT (codes "a") (record { replica = 2; number = 1 })
