-- The laws, as the law functions state them.
use Rattle.std.specs.Prelude.{◌≡◌, ◌↔◌, ℕ, ◌≤◌, List, ◌∷◌, ◌++◌, [], length, Contains}
use Rattle.ficus_ids.specs.declared.id.Id.{Id}
use Rattle.ficus_vectors.specs.Vector.{Counts, count_of, join as join_counts}
use Rattle.ficus_file.specs.declared.version.Version.{Version}
use Rattle.ficus_file.specs.File.{over_all}
use Rattle.ficus_file.specs.Version.{HasTwoTexts}
use Rattle.ficus_model.specs.declared.event.Event.{Event}
use Rattle.ficus_model.specs.declared.event.Event.TheVariants.{Update, Accept}
use Rattle.ficus_model.specs.declared.event.Op.TheVariants.{Resolve}
use Rattle.ficus_model.specs.Events.{IsOf, through}
use Rattle.ficus_model.specs.Known.{Knows}
use Rattle.ficus_model.specs.Lawful.{Volume, IsLawful}
use Rattle.ficus_model.specs.Vectors.{IsVectorOf}
use Rattle.ficus_model.specs.Versions.{IsVersion, IsInConflict}
use Rattle.ficus_merge_files.specs.Merge.{AgreeOnBytes}
use Rattle.ficus_merge_files.specs.Versions.{AreMerged}
use Rattle.ficus_version_laws.specs.Compared.{join}
use Rattle.ficus_version_laws.specs.Listed as listed
use Rattle.ficus_file_laws.specs.Items.{items_of, AreVersionsOf, CountMembersOnly}
use Rattle.ficus_file_laws.specs.Pasts.{StandAsPasts}

-- a file has one list of versions
abbrev pub OneListOfVersions : Type 0
OneListOfVersions = (H : List Event) (reader : ℕ) (file : Id) (versions others : List Version) →
    AreVersionsOf H (Knows H reader) file versions → AreVersionsOf H (Knows H reader) file others → versions ≡ others

-- a file is in conflict exactly where two versions of its list differ in bytes
abbrev pub ConflictsAreListed : Type 0
ConflictsAreListed = (H : List Event) (reader : ℕ) (file : Id) (versions : List Version) →
    AreVersionsOf H (Knows H reader) file versions → IsInConflict H (Knows H reader) file ↔ HasTwoTexts versions

-- a write by a replica leaves, in the terms of both, the one version over all
abbrev pub WritesAdvance : Type 0
WritesAdvance = (by : ℕ) (bytes : List ℕ) (versions : List Version) → 1 ≤ by → by ≤ 8 →
    items_of (over_all by bytes versions ∷ []) ≡ listed.advanced by bytes (items_of versions)

-- covers are joined, in the terms of both, count by count
abbrev pub JoinsAreCounted : Type 0
JoinsAreCounted = (vector other : Counts) →
    count_of (join_counts vector other) ≡ join (count_of vector) (count_of other)

-- in a lawful history the vectors of what is shown count members alone
abbrev pub VectorsCountMembers : Type 0
VectorsCountMembers = (volume : Volume) (H : List Event) (reader : ℕ) (file : Id) (versions : List Version) →
    IsLawful volume H → AreVersionsOf H (Knows H reader) file versions → CountMembersOnly volume.members versions

-- what two lists make together, in the terms of both
abbrev pub MergesAgree : Type 0
MergesAgree = (members : ℕ) (mine theirs both : List Version) →
    CountMembersOnly members mine → CountMembersOnly members theirs → AreMerged mine theirs both →
    listed.AreMerged members (items_of mine) (items_of theirs) (items_of both)

-- where an answer is taken, what the two lists make together are the versions that are then shown
abbrev pub AcceptMergesLists : Type 0
AcceptMergesLists = (volume : Volume) (H : List Event) (replica served piece server : ℕ) (file : Id)
    (mine theirs both : List Version) → IsLawful volume H → IsOf H served server →
    AreVersionsOf H (Knows H replica) file mine →
    AreVersionsOf (through served H) (Knows (through served H) server) file theirs → AreMerged mine theirs both →
    let K = H ++ Accept replica served piece ∷ [] in
    AreVersionsOf K (Knows K replica) file both

-- then versions of the two lists with one vector have the same bytes
abbrev pub ListsAgree : Type 0
ListsAgree = (volume : Volume) (H : List Event) (replica served server : ℕ) (file : Id)
    (mine theirs : List Version) → IsLawful volume H → IsOf H served server →
    AreVersionsOf H (Knows H replica) file mine →
    AreVersionsOf (through served H) (Knows (through served H) server) file theirs → AgreeOnBytes mine theirs

-- and they make at most as many versions together as there are members
abbrev pub FewAreMerged : Type 0
FewAreMerged = (volume : Volume) (H : List Event) (replica served server : ℕ) (file : Id)
    (mine theirs both : List Version) → IsLawful volume H → IsOf H served server →
    AreVersionsOf H (Knows H replica) file mine →
    AreVersionsOf (through served H) (Knows (through served H) server) file theirs → AreMerged mine theirs both →
    length both ≤ volume.members

-- in a lawful history the vectors of two versions of a file, as they are compared, stand as their pasts
abbrev pub VectorsCompareAsPasts : Type 0
VectorsCompareAsPasts = (volume : Volume) (H : List Event) (file : Id) (position other : ℕ)
    (vector again : Counts) → IsLawful volume H → IsVersion H file position → IsVersion H file other →
    IsVectorOf H file position (count_of vector) → IsVectorOf H file other (count_of again) →
    StandAsPasts H position other vector again

-- after a Resolve each version that its replica is shown has the bytes that it names
abbrev pub ResolveShowsBytes : Type 0
ResolveShowsBytes = (H : List Event) (replica : ℕ) (file : Id) (bytes : List ℕ) (versions : List Version) →
    let K = H ++ Update replica (Resolve file bytes) ∷ [] in
    AreVersionsOf K (Knows K replica) file versions →
    (version : Version) → Contains versions version → version.bytes ≡ bytes

-- so what two replicas have after Resolves to the same bytes makes no conflict together, whenever each was done
abbrev pub ResolvesMerge : Type 0
ResolvesMerge = (H G : List Event) (replica other : ℕ) (file : Id) (bytes : List ℕ)
    (mine theirs both : List Version) →
    let K = H ++ Update replica (Resolve file bytes) ∷ [] in
    let L = G ++ Update other (Resolve file bytes) ∷ [] in
    AreVersionsOf K (Knows K replica) file mine → AreVersionsOf L (Knows L other) file theirs →
    AreMerged mine theirs both → HasTwoTexts both → ⊥

-- and where an answer is taken and all versions of both have the same bytes, the file isn't in conflict then
abbrev pub TakenAlikeEndsConflict : Type 0
TakenAlikeEndsConflict = (H : List Event) (replica served piece server : ℕ) (file : Id) (bytes : List ℕ)
    (mine theirs : List Version) → IsOf H served server →
    AreVersionsOf H (Knows H replica) file mine →
    AreVersionsOf (through served H) (Knows (through served H) server) file theirs →
    ((version : Version) → Contains mine version → version.bytes ≡ bytes) →
    ((version : Version) → Contains theirs version → version.bytes ≡ bytes) →
    let K = H ++ Accept replica served piece ∷ [] in
    IsInConflict K (Knows K replica) file → ⊥
