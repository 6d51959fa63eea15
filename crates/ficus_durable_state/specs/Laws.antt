-- The laws of tables that fit, as the law functions state them.
use Rattle.std.specs.Prelude.{◌≡◌, ◌≢◌, ℕ, ◌+◌, ◌^◌, ◌<◌, ◌≤◌, List, length}
use Rattle.ficus_ids.specs.Members.{IsCount, IsMember}
use Rattle.ficus_ids.specs.Name.{IsName}
use Rattle.ficus_ids.specs.declared.id.Id.{Id}
use Rattle.ficus_ids.specs.declared.id.TheConstants.{ATTIC}
use Rattle.ficus_ids.specs.Kind.{sort_of, FitsKind}
use Rattle.ficus_ids.specs.declared.kind.Kind.{Kind}
use Rattle.ficus_ids.specs.declared.kind.Sort.TheVariants.{Versioned}
use Rattle.ficus_ids.specs.Rising.{Adds}
use Rattle.ficus_entry.specs.Entry.{IsRising, AddsEntry}
use Rattle.ficus_entry.specs.Kill.{AreKilled}
use Rattle.ficus_entry.specs.declared.entry.Entry.{Entry}
use Rattle.ficus_entry.specs.declared.entry.State.{State}
use Rattle.ficus_entry.specs.declared.entry.State.TheVariants.{Live}
use Rattle.ficus_file.specs.File.{made_file, advanced, covered_file}
use Rattle.ficus_file.specs.Files.{AreFiles, Holds, IsChanged, HoldsFile}
use Rattle.ficus_file.specs.declared.file.FileReplica.{FileReplica}
use Rattle.ficus_file.specs.declared.orphan.Orphan.{Orphan}
use Rattle.ficus_collection.specs.Reclaim.{IsReclaimed}
use Rattle.ficus_collection.specs.declared.reclaiming.Reclaimed.{Reclaimed}
use Rattle.ficus_merge_entries.specs.Merge.{MergesEntries}
use Rattle.ficus_merge_files.specs.Merge.{AreMergedFiles}
use Rattle.ficus_durable_state.specs.Limits.{update_limit, file_limit}
use Rattle.ficus_durable_state.specs.Saved.{HasOwnPast}
use Rattle.ficus_durable_state.specs.Tables.{FitsTables, FitsState, FitsAttic, IsPlaceIn}
use Rattle.ficus_mentions.specs.Touched.{touched_by}

-- the tables fit, and hold nothing of the replica's own that it hasn't made
pub record FitsReplica (members me next : ℕ) (entries : List Entry) (files : List FileReplica) : Type 0 where
  pub tables : FitsTables members entries files
  pub past : HasOwnPast me next entries files

-- what two replicas' tables make together fits where both fit
abbrev pub MergedTablesFit : Type 0
MergedTablesFit = (members me next : ℕ) (mine theirs merged : List Entry) (files others both : List FileReplica) →
    IsMember members me → FitsReplica members me next mine files → FitsReplica members me next theirs others →
    IsRising merged → MergesEntries me members mine theirs merged →
    AreFiles both → AreMergedFiles (touched_by merged) files others both →
    FitsReplica members me next merged both

-- what a collection leaves of tables that fit fits
abbrev pub ReclaimedTablesFit : Type 0
ReclaimedTablesFit = (members me next : ℕ) (entries : List Entry) (files : List FileReplica) (orphans : List Orphan)
    (reclaimed : Reclaimed) →
    FitsReplica members me next entries files → IsReclaimed members entries files orphans reclaimed →
    FitsReplica members me next reclaimed.entries reclaimed.files

-- with one more object and an entry for it fits what fits, for the next update of the replica
abbrev pub MadeTablesFit : Type 0
MadeTablesFit = (members me next : ℕ) (dir : Id) (name : List ℕ) (kind : Kind) (text : List ℕ)
    (entries after : List Entry) (files more : List FileReplica) →
    let number : Id = record { replica = me; number = next } in
    IsMember members me → 1 ≤ next → next ≤ update_limit → IsName name → FitsKind kind text → IsPlaceIn files dir →
    dir ≢ ATTIC → FitsReplica members me next entries files →
    IsRising after →
    AddsEntry entries after (record { id = number; dir = dir; name = name; target = number; state = Live }) →
    AreFiles more → Adds files more (made_file number kind me text) →
    FitsReplica members me (next + 1) after more

-- with one more entry, of an object that is held, in a state that fits, fits what fits, for the next update of the
-- replica
abbrev pub EnteredTablesFit : Type 0
EnteredTablesFit = (members me next : ℕ) (dir : Id) (name : List ℕ) (target : Id) (state : State)
    (entries after : List Entry) (files : List FileReplica) →
    let number : Id = record { replica = me; number = next } in
    IsMember members me → 1 ≤ next → next ≤ update_limit → IsName name → IsPlaceIn files dir →
    FitsState members state → FitsAttic dir state → Holds files target →
    FitsReplica members me next entries files →
    IsRising after →
    AddsEntry entries after (record { id = number; dir = dir; name = name; target = target; state = state }) →
    FitsReplica members me (next + 1) after files

-- with entries removed by a member fits what fits
abbrev pub KilledTablesFit : Type 0
KilledTablesFit = (members me next : ℕ) (ids : List Id) (entries after : List Entry) (files : List FileReplica) →
    IsMember members me → FitsReplica members me next entries files → IsRising after → AreKilled entries after ids me →
    FitsReplica members me next after files

-- and with one version by the replica in place of all those of a file
abbrev pub WrittenTablesFit : Type 0
WrittenTablesFit = (members me next : ℕ) (file : Id) (bytes : List ℕ) (entries : List Entry)
    (files after : List FileReplica) →
    IsMember members me → 1 ≤ next → next ≤ update_limit → length bytes ≤ file_limit →
    HoldsFile files file (λ held. sort_of held.kind ≡ Versioned) →
    FitsReplica members me next entries files →
    AreFiles after → IsChanged files after file (advanced me bytes) →
    FitsReplica members me (next + 1) entries after

-- and with the versions of a file covered
abbrev pub CoveredTablesFit : Type 0
CoveredTablesFit = (members me next : ℕ) (file : Id) (entries : List Entry) (files after : List FileReplica) →
    IsMember members me → 1 ≤ next → next ≤ update_limit →
    FitsReplica members me next entries files →
    AreFiles after → IsChanged files after file covered_file →
    FitsReplica members me (next + 1) entries after

-- so many entries and files that their number takes four bytes at most
pub record AreCountable (entries : List Entry) (files : List FileReplica) : Type 0 where
  pub few_entries : length entries < 2 ^ 32
  pub few_files : length files < 2 ^ 32

-- tables that fit have no more
abbrev pub TablesAreCountable : Type 0
TablesAreCountable = (members : ℕ) (entries : List Entry) (files : List FileReplica) → IsCount members →
    FitsTables members entries files → AreCountable entries files
