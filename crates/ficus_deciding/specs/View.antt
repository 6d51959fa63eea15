-- What a replica's tables show.
use Rattle.std.specs.Prelude.{◌≡◌, ◌⊎◌, ℕ, ◌+◌, ◌<◌, Contains}
use Rattle.ficus_ids.specs.declared.id.Id.{Id}
use Rattle.ficus_ids.specs.declared.id.TheConstants.{ROOT}
use Rattle.ficus_entry.specs.declared.entry.Entry.{Entry}
use Rattle.ficus_entry.specs.declared.entry.State.{State}
use Rattle.ficus_entry.specs.declared.entry.State.TheVariants.{Live, Dead}
use Rattle.ficus_file.specs.Version.{HasTwoTexts}
use Rattle.ficus_file.specs.declared.file.FileReplica.{FileReplica}
use Rattle.ficus_model.specs.Live.{ModelEntry}
use Rattle.ficus_entry.specs.Inside.{IsNamedBy}
use Rattle.ficus_orphan.specs.Orphan.{IsOrphanIn}
use Rattle.ficus_durable_state.specs.declared.saved.Saved.{Saved}
pub use Rattle.ficus_rules.specs.View.{View, SameShown, SameView, history_view}

-- an entry, as tables hold it in a state
abbrev pub held_as : ModelEntry → State → Entry
held_as entry state = record { id = entry.id; dir = entry.dir; name = entry.name; target = entry.target; state = state }

-- while it is live
abbrev pub held_live : ModelEntry → Entry
held_live entry = held_as entry Live

-- and once it is removed, with the members that are known to know, and those that are known to know that all know
abbrev pub held_dead : ModelEntry → ℕ → ℕ → Entry
held_dead entry knowing knowing_all_know = held_as entry (Dead knowing knowing_all_know)

-- a live entry leads to the object, or it is an orphan
abbrev pub IsVisibleBy : Saved → Id → Type 0
IsVisibleBy saved object = IsNamedBy saved.entries object ⊎ IsOrphanIn saved.entries saved.files object

-- the root, or a visible object
abbrev pub IsRootOrVisible : Saved → Id → Type 0
IsRootOrVisible saved object = (object ≡ ROOT) ⊎ IsVisibleBy saved object

-- the object is visible, and as a file or directory it is so
pub record HasObject (saved : Saved) (object : Id) (is : FileReplica → Type 0) : Type 0 where
  pub visible : IsVisibleBy saved object
  pub file : FileReplica
  pub inside : Contains saved.files file
  pub has_id : file.id ≡ object
  pub so : is file

-- what the tables show
abbrev pub tables_view : Saved → View
tables_view saved = record {
  members = saved.members;
  live = λ entry. Contains saved.entries (held_live entry);
  orphans = IsOrphanIn saved.entries saved.files;
  kinds = λ object kind. HasObject saved object (λ file. file.kind ≡ kind);
  conflicts = λ object. HasObject saved object (λ file. HasTwoTexts file.versions);
  versions = λ object versions. HasObject saved object (λ file. file.versions ≡ versions);
  marks = λ entry knowing knowing_all_know. Contains saved.entries (held_dead entry knowing knowing_all_know);
  spent = saved.ids < saved.next;
  over_quota = λ bytes. saved.bytes < saved.used + bytes;
}
