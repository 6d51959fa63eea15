-- `collect`: what it gives, and how much by the history is given up.
use Rattle.std.specs.Prelude.{◌≡◌, ◌⊎◌, ◌↔◌, ℕ, ◌+◌, List, [], ◌∷◌, ◌++◌, length, Contains}
use Rattle.ficus_ids.specs.Rising.{IsRisingBy}
use Rattle.ficus_ids.specs.declared.id.Id.{Id}
use Rattle.ficus_ids.specs.declared.kind.Kind.{Kind}
use Rattle.ficus_entry.specs.declared.entry.Entry.{Entry}
use Rattle.ficus_file.specs.declared.file.FileReplica.{FileReplica}
use Rattle.ficus_file.specs.declared.orphan.Orphan.{Orphan}
use Rattle.ficus_collection.specs.Reclaim.{IsFullyKnown, IsReclaimed}
use Rattle.ficus_collection.specs.declared.reclaiming.Reclaimed.{Reclaimed}
use Rattle.ficus_model.specs.declared.event.Event.{Event}
use Rattle.ficus_model.specs.declared.event.Event.TheVariants.{Collect}
use Rattle.ficus_model.specs.Held.{IsHeldEntry, IsHeldObject}
use Rattle.ficus_model.specs.Lawful.{Volume}
use Rattle.ficus_model.specs.Live.{ModelEntry}
use Rattle.ficus_orphan.specs.Orphan.{AreOrphans, IsOrphanIn}
use Rattle.ficus_mentions.specs.Touched.{touched_by}
use Rattle.ficus_replica.specs.declared.collect.Collected.{Collected}
use Rattle.ficus_replica.specs.declared.replica.Replica.{Replica}
use Rattle.ficus_replica.specs.SavedOf.{StandsAfter}

-- saved once more, with what is left of the tables where the orphans stay, and else as before; and how much was given
-- up
pub record CollectGives (old : Replica) (collected : Collected) : Type 0 where
  pub orphans : List Orphan
  pub are : AreOrphans old.saved.entries old.saved.files orphans
  pub reclaimed : Reclaimed
  pub left : IsReclaimed old.saved.members old.saved.entries old.saved.files orphans reclaimed
  pub is : collected ≡ record {
    replica = record old {
      saved = record old.saved {
        generation = old.saved.generation + 1;
        entries = reclaimed.entries;
        files = reclaimed.files;
      };
    };
    entries = reclaimed.dropped_entries;
    files = reclaimed.dropped_files;
  }

-- no removed entry is held of which everybody is known to know that all know; and each file is an orphan, or an entry
-- that is held names it or lies in it
pub record HoldsNoGarbage (members : ℕ) (entries : List Entry) (files : List FileReplica) : Type 0 where
  pub unknown : (entry : Entry) → Contains entries entry → IsFullyKnown members entry.state → ⊥
  pub needed : (file : FileReplica) → Contains files file →
      Contains (touched_by entries) file.id ⊎ IsOrphanIn entries files file.id

-- the replica holds an entry of this identifier, and no longer once it collects
pub record IsEntryGivenUp (members : ℕ) (H : List Event) (replica : ℕ) (id : Id) : Type 0 where
  pub entry : ModelEntry
  pub has_id : entry.id ≡ id
  pub held : IsHeldEntry members H replica entry
  pub dropped : IsHeldEntry members (H ++ Collect replica ∷ []) replica entry → ⊥

-- the replica holds the object, and no longer once it collects
pub record IsObjectGivenUp (members : ℕ) (H : List Event) (replica : ℕ) (id : Id) : Type 0 where
  pub kind : Kind
  pub held : IsHeldObject members H replica id kind
  pub done : IsHeldObject members (H ++ Collect replica ∷ []) replica id kind → ⊥

-- so many identifiers are such: that is the length of the rising list of them
pub record AreSoMany (IsSuch : Id → Type 0) (count : ℕ) : Type 0 where
  pub ids : List Id
  pub rising : IsRisingBy (λ (id : Id). id) ids
  pub exactly : (id : Id) → Contains ids id ↔ IsSuch id
  pub counted : length ids ≡ count

-- how many entries and how many objects
pub record Garbage : Type 0 where
  pub entries : ℕ
  pub objects : ℕ

-- so much the replica gives up if it collects after the history
pub record IsGarbage (members : ℕ) (H : List Event) (replica : ℕ) (garbage : Garbage) : Type 0 where
  pub entries : AreSoMany (IsEntryGivenUp members H replica) garbage.entries
  pub objects : AreSoMany (IsObjectGivenUp members H replica) garbage.objects

-- as many entries and files were given up as the history says, and the replica stands for it with the collection
pub record CollectStands (volume : Volume) (H : List Event) (r : ℕ) (collected : Collected) : Type 0 where
  pub garbage : IsGarbage volume.members H r (record { entries = collected.entries; objects = collected.files })
  pub after : StandsAfter volume H r (Collect r) collected.replica
