-- The laws, as the law functions state them.
use Rattle.std.specs.Prelude.{◌≡◌, ◌≢◌, ◌↔◌, ◌⊎◌, ℕ, ◌<◌, List, [], ◌∷◌, ◌++◌, length, ◌≤◌, Contains, AllPairs}
use Rattle.ficus_ids.specs.declared.id.Id.{Id}
use Rattle.ficus_ids.specs.Kind.{sort_of}
use Rattle.ficus_ids.specs.declared.kind.Kind.{Kind}
use Rattle.ficus_ids.specs.declared.kind.Kind.TheVariants.{Dir}
use Rattle.ficus_ids.specs.declared.kind.Sort.TheVariants.{Fixed}
use Rattle.ficus_model.specs.declared.event.Event.{Event}
use Rattle.ficus_model.specs.declared.event.Event.TheVariants.{Update, Accept}
use Rattle.ficus_model.specs.declared.event.Op.{Op}
use Rattle.ficus_model.specs.declared.event.Op.TheVariants.{Make}
use Rattle.ficus_model.specs.Live.{IsFile, IsMade, HasName}
use Rattle.ficus_model.specs.Events.{IsOf, through, actor, count_of}
use Rattle.ficus_model.specs.Known.{Knows, HasInPast}
use Rattle.ficus_model.specs.Lawful.{Volume, IsLawful}
use Rattle.ficus_model.specs.Versions.{IsVersion, IsCovering, IsShown, IsInConflict}
use Rattle.ficus_model.specs.Vectors.{IsVectorOf, IsCoverOf}
use Rattle.ficus_model.specs.View.{IsOrphan, HasUnseen}
use Rattle.ficus_laws.specs.Views.{ShowSameView}
use Rattle.ficus_laws.specs.Updates.{next_number, IsQuiet}
use Rattle.ficus_version_laws.specs.Compared.{IsAtMost, CompareAsPasts, join}
use Rattle.ficus_version_laws.specs.Listed.{Item, AreShown, IsLatestOfBoth, AreMerged, join_all, advanced}
use Rattle.ficus_version_laws.specs.Operations.{Writes, GivesUp}
use Rattle.ficus_version_laws.specs.Covers.{HasCover, ShowsUncovered, HasBeyond, HasTwoTexts}
use Rattle.ficus_version_laws.specs.Views.{IsSameFile}

-- in a lawful history the vectors of two versions of a file stand to each other as their pasts
abbrev pub VectorsTellPasts : Type 0
VectorsTellPasts = (volume : Volume) (H : List Event) (file : Id) (position other : ℕ) (vector again : ℕ → ℕ) →
    IsLawful volume H → IsVersion H file position → IsVersion H file other →
    IsVectorOf H file position vector → IsVectorOf H file other again →
    CompareAsPasts volume.members H position other vector again

-- the count of a version's own replica alone tells whether another version is it or has it in its past
abbrev pub OwnCountTellsPast : Type 0
OwnCountTellsPast = (H : List Event) (file : Id) (position other replica : ℕ) (vector again : ℕ → ℕ) →
    IsVersion H file position → IsVersion H file other → IsOf H position replica →
    IsVectorOf H file position vector → IsVectorOf H file other again →
    (vector replica ≤ again replica) ↔ ((position ≡ other) ⊎ HasInPast H other position)

-- a version has one vector
abbrev pub OneVector : Type 0
OneVector = (H : List Event) (file : Id) (position : ℕ) (vector again : ℕ → ℕ) →
    IsVectorOf H file position vector → IsVectorOf H file position again →
    (replica : ℕ) → vector replica ≡ again replica

-- a vector counts no more than the updates of each replica
abbrev pub VectorsFit : Type 0
VectorsFit = (H : List Event) (file : Id) (position : ℕ) (vector : ℕ → ℕ) → IsVectorOf H file position vector →
    (replica : ℕ) → vector replica ≤ count_of replica H

-- a version's vector is the same in every longer history
abbrev pub VectorsStay : Type 0
VectorsStay = (H later : List Event) (file : Id) (position : ℕ) (vector : ℕ → ℕ) → position < length H →
    IsVectorOf H file position vector ↔ IsVectorOf (H ++ later) file position vector

-- of each replica at most one version of a file is shown
abbrev pub OneShownOfEach : Type 0
OneShownOfEach = (H : List Event) (reader : ℕ) (file : Id) (position other replica : ℕ) →
    IsShown H (Knows H reader) file position → IsShown H (Knows H reader) file other →
    IsOf H position replica → IsOf H other replica → position ≡ other

-- of a file at most as many versions are shown as the volume has members
abbrev pub FewVersionsShown : Type 0
FewVersionsShown = (volume : Volume) (H : List Event) (reader : ℕ) (file : Id) (positions : List ℕ) →
    IsLawful volume H →
    ((position : ℕ) → Contains positions position → IsShown H (Knows H reader) file position) →
    AllPairs (λ position other. position ≢ other) positions → length positions ≤ volume.members

-- after an Accept its replica is shown the latest of what it and the server were shown
abbrev pub AcceptShowsLatest : Type 0
AcceptShowsLatest = (H : List Event) (replica served piece server : ℕ) (file : Id) (position : ℕ) →
    IsOf H served server →
    let K = H ++ Accept replica served piece ∷ [] in
    IsShown K (Knows K replica) file position ↔
    IsLatestOfBoth H (Knows H replica) (through served H) (Knows (through served H) server) file position

-- and the list of its versions is the two lists without what is under another, by the vectors alone
abbrev pub AcceptMergesVersions : Type 0
AcceptMergesVersions = (volume : Volume) (H : List Event) (replica served piece server : ℕ) (file : Id)
    (versions others merged : List Item) → IsLawful volume H → IsOf H served server →
    AreShown H (Knows H replica) file versions →
    AreShown (through served H) (Knows (through served H) server) file others →
    AreMerged volume.members versions others merged →
    let K = H ++ Accept replica served piece ∷ [] in
    AreShown K (Knows K replica) file merged

-- where the replica knew each version of a file that the server knew, its list stays
abbrev pub AcceptKeepsList : Type 0
AcceptKeepsList = (H : List Event) (replica served piece server : ℕ) (file : Id) (versions : List Item) →
    IsOf H served server →
    ((position : ℕ) → IsVersion H file position → Knows (through served H) server position → Knows H replica position) →
    AreShown H (Knows H replica) file versions →
    let K = H ++ Accept replica served piece ∷ [] in
    AreShown K (Knows K replica) file versions

-- where the server knew each version that the replica knew, the server's list is taken
abbrev pub AcceptTakesList : Type 0
AcceptTakesList = (H : List Event) (replica served piece server : ℕ) (file : Id) (others : List Item) →
    IsOf H served server →
    ((position : ℕ) → IsVersion H file position → Knows H replica position → Knows (through served H) server position) →
    AreShown (through served H) (Knows (through served H) server) file others →
    let K = H ++ Accept replica served piece ∷ [] in
    AreShown K (Knows K replica) file others

-- after an update that gives a file a version its replica is shown that version and no other
abbrev pub VersionReplacesAll : Type 0
VersionReplacesAll = (H : List Event) (replica : ℕ) (op : Op) (file : Id) (bytes : List ℕ) (position : ℕ) →
    Writes (next_number replica H) op file bytes →
    let K = H ++ Update replica op ∷ [] in
    IsShown K (Knows K replica) file position ↔ (position ≡ length H)

-- whose vector is the join of those shown before, with one more for the replica
abbrev pub VersionAdvances : Type 0
VersionAdvances = (H : List Event) (replica : ℕ) (op : Op) (file : Id) (bytes : List ℕ) (versions : List Item) →
    Writes (next_number replica H) op file bytes → AreShown H (Knows H replica) file versions →
    let K = H ++ Update replica op ∷ [] in
    AreShown K (Knows K replica) file (advanced replica bytes versions)

-- then the file isn't in conflict
abbrev pub VersionEndsConflict : Type 0
VersionEndsConflict = (H : List Event) (replica : ℕ) (op : Op) (file : Id) (bytes : List ℕ) →
    Writes (next_number replica H) op file bytes →
    let K = H ++ Update replica op ∷ [] in
    IsInConflict K (Knows K replica) file → ⊥

-- any other update leaves the versions of the file
abbrev pub OthersKeepVersions : Type 0
OthersKeepVersions = (H : List Event) (replica : ℕ) (op : Op) (file : Id) (versions : List Item) →
    ((bytes : List ℕ) → Writes (next_number replica H) op file bytes → ⊥) →
    let K = H ++ Update replica op ∷ [] in
    AreShown H (Knows H replica) file versions ↔ AreShown K (Knows K replica) file versions

-- where a version is known, its file is known, and it is no directory
abbrev pub VersionsAreOfFiles : Type 0
VersionsAreOfFiles = (volume : Volume) (H : List Event) (replica : ℕ) (file : Id) (position : ℕ) →
    IsLawful volume H → IsVersion H file position → Knows H replica position → IsFile H (Knows H replica) file

-- after a Make of a file its replica is shown one version of it, whose own count is 1, with its text as bytes
abbrev pub MakeShowsFirst : Type 0
MakeShowsFirst = (volume : Volume) (H : List Event) (replica : ℕ) (dir : Id) (name : List ℕ) (kind : Kind)
    (text : List ℕ) →
    IsLawful volume H → kind ≢ Dir →
    let K = H ++ Update replica (Make dir name kind text) ∷ [] in
    AreShown K (Knows K replica) (next_number replica H) (advanced replica text [])

-- and of an object just made nothing is covered
abbrev pub MakeCoversNothing : Type 0
MakeCoversNothing = (volume : Volume) (H : List Event) (replica : ℕ) (dir : Id) (name : List ℕ) (kind : Kind)
    (text : List ℕ) →
    IsLawful volume H →
    let K = H ++ Update replica (Make dir name kind text) ∷ [] in
    IsCoverOf K (Knows K replica) (next_number replica H) (λ by. 0)

-- each file has a list of its shown versions
abbrev pub ListsExist : Type 0
ListsExist = (H : List Event) (replica : ℕ) (file : Id) →
    (versions : List Item) × AreShown H (Knows H replica) file versions

-- and a cover
abbrev pub CoversExist : Type 0
CoversExist = (H : List Event) (replica : ℕ) (file : Id) → (cover : ℕ → ℕ) × IsCoverOf H (Knows H replica) file cover

-- some shown version of each known file
abbrev pub FilesShowVersions : Type 0
FilesShowVersions = (H : List Event) (replica : ℕ) (file : Id) → IsFile H (Knows H replica) file →
    (position : ℕ) × IsShown H (Knows H replica) file position

-- a version's vector is at most the cover exactly where a known Remove or Discard of the file has it in its past
abbrev pub CoversTellPasts : Type 0
CoversTellPasts = (volume : Volume) (H : List Event) (replica : ℕ) (file : Id) (position : ℕ) (vector cover : ℕ → ℕ) →
    IsLawful volume H → IsVersion H file position → IsVectorOf H file position vector →
    IsCoverOf H (Knows H replica) file cover →
    IsAtMost volume.members vector cover ↔ HasCover H (Knows H replica) file position

-- a file has one cover
abbrev pub OneCover : Type 0
OneCover = (H : List Event) (reader : ℕ) (file : Id) (cover again : ℕ → ℕ) →
    IsCoverOf H (Knows H reader) file cover → IsCoverOf H (Knows H reader) file again →
    (replica : ℕ) → cover replica ≡ again replica

-- a cover counts no more than the updates of each replica
abbrev pub CoversFit : Type 0
CoversFit = (H : List Event) (reader : ℕ) (file : Id) (cover : ℕ → ℕ) → IsCoverOf H (Knows H reader) file cover →
    (replica : ℕ) → cover replica ≤ count_of replica H

-- after an Accept the cover is the join of the two
abbrev pub AcceptJoinsCovers : Type 0
AcceptJoinsCovers = (H : List Event) (replica served piece server : ℕ) (file : Id) (cover other : ℕ → ℕ) →
    IsOf H served server →
    IsCoverOf H (Knows H replica) file cover →
    IsCoverOf (through served H) (Knows (through served H) server) file other →
    let K = H ++ Accept replica served piece ∷ [] in
    IsCoverOf K (Knows K replica) file (join cover other)

-- where the replica knew each Remove and Discard of a file that the server knew, its cover stays
abbrev pub AcceptKeepsCover : Type 0
AcceptKeepsCover = (H : List Event) (replica served piece server : ℕ) (file : Id) (cover : ℕ → ℕ) →
    IsOf H served server →
    ((position : ℕ) → IsCovering H file position →
    Knows (through served H) server position → Knows H replica position) →
    IsCoverOf H (Knows H replica) file cover →
    let K = H ++ Accept replica served piece ∷ [] in
    IsCoverOf K (Knows K replica) file cover

-- where the server knew each Remove and Discard that the replica knew, the server's cover is taken
abbrev pub AcceptTakesCover : Type 0
AcceptTakesCover = (H : List Event) (replica served piece server : ℕ) (file : Id) (other : ℕ → ℕ) →
    IsOf H served server →
    ((position : ℕ) → IsCovering H file position →
    Knows H replica position → Knows (through served H) server position) →
    IsCoverOf (through served H) (Knows (through served H) server) file other →
    let K = H ++ Accept replica served piece ∷ [] in
    IsCoverOf K (Knows K replica) file other

-- after a Remove or a Discard of a file the cover is joined with the vectors of the shown versions
abbrev pub RemovalCoversShown : Type 0
RemovalCoversShown = (H : List Event) (replica : ℕ) (op : Op) (file : Id) (versions : List Item) (cover : ℕ → ℕ) →
    GivesUp op file → AreShown H (Knows H replica) file versions → IsCoverOf H (Knows H replica) file cover →
    let K = H ++ Update replica op ∷ [] in
    IsCoverOf K (Knows K replica) file (join cover (join_all versions))

-- then none of its known versions is uncovered
abbrev pub RemovalCoversAll : Type 0
RemovalCoversAll = (H : List Event) (replica : ℕ) (op : Op) (file : Id) → GivesUp op file →
    let K = H ++ Update replica op ∷ [] in
    HasUnseen K (Knows K replica) file → ⊥

-- any other update leaves the cover of the file
abbrev pub OthersKeepCover : Type 0
OthersKeepCover = (H : List Event) (replica : ℕ) (op : Op) (file : Id) (cover : ℕ → ℕ) → (GivesUp op file → ⊥) →
    let K = H ++ Update replica op ∷ [] in
    IsCoverOf H (Knows H replica) file cover ↔ IsCoverOf K (Knows K replica) file cover

-- a file is in conflict exactly where two versions of its list differ in bytes
abbrev pub ConflictsDifferInBytes : Type 0
ConflictsDifferInBytes = (H : List Event) (replica : ℕ) (file : Id) (versions : List Item) →
    AreShown H (Knows H replica) file versions →
    IsInConflict H (Knows H replica) file ↔ HasTwoTexts versions

-- a file is an orphan exactly where it has no live name, and the vector of a shown version isn't at most the cover
abbrev pub OrphansHaveUncovered : Type 0
OrphansHaveUncovered = (volume : Volume) (H : List Event) (replica : ℕ) (file : Id) (versions : List Item)
    (cover : ℕ → ℕ) → IsLawful volume H → IsFile H (Knows H replica) file →
    AreShown H (Knows H replica) file versions → IsCoverOf H (Knows H replica) file cover →
    IsOrphan H (Knows H replica) file ↔
    ((HasName H (Knows H replica) file → ⊥) × HasBeyond volume.members versions cover)

-- where a version is uncovered, one that is shown is
abbrev pub UncoveredAreShown : Type 0
UncoveredAreShown = (H : List Event) (replica : ℕ) (file : Id) →
    HasUnseen H (Knows H replica) file ↔ (IsFile H (Knows H replica) file × ShowsUncovered H (Knows H replica) file)

-- an event of another replica, and one that is no update and takes nothing, changes nothing of a replica's view
abbrev pub OthersKeepView : Type 0
OthersKeepView = (H : List Event) (event : Event) (replica : ℕ) → (actor event ≢ replica) ⊎ IsQuiet event →
    let K = H ++ event ∷ [] in
    ShowSameView H (Knows H replica) K (Knows K replica)

-- nor of the versions, the conflict and the cover of any file
abbrev pub OthersKeepFile : Type 0
OthersKeepFile = (H : List Event) (event : Event) (replica : ℕ) (file : Id) → (actor event ≢ replica) ⊎ IsQuiet event →
    let K = H ++ event ∷ [] in
    IsSameFile H (Knows H replica) K (Knows K replica) file

-- what a replica knew at some time shows the same in every longer history
abbrev pub ViewsStay : Type 0
ViewsStay = (H later : List Event) (replica : ℕ) → ShowSameView H (Knows H replica) (H ++ later) (Knows H replica)

-- an object whose text stays is never in conflict
abbrev pub LinksNeverConflict : Type 0
LinksNeverConflict = (volume : Volume) (H : List Event) (replica : ℕ) (object : Id) (kind : Kind) →
    IsLawful volume H → sort_of kind ≡ Fixed → IsMade H (Knows H replica) object kind →
    IsInConflict H (Knows H replica) object → ⊥

-- and never an orphan: who removes its last name has heard of its one version
abbrev pub LinksNeverOrphan : Type 0
LinksNeverOrphan = (volume : Volume) (H : List Event) (replica : ℕ) (object : Id) (kind : Kind) →
    IsLawful volume H → sort_of kind ≡ Fixed → IsMade H (Knows H replica) object kind →
    IsOrphan H (Knows H replica) object → ⊥
