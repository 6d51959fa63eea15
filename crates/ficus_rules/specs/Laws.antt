-- The laws, as the law functions state them.
use Rattle.std.specs.Prelude.{◌≡◌, ◌↔◌, ℕ, List, [], ◌∷◌, ◌++◌, Result, Ok, Err}
use Rattle.ficus_ids.specs.declared.id.Id.{Id}
use Rattle.ficus_ids.specs.declared.refusal.Refusal.{Refusal}
use Rattle.ficus_file.specs.declared.version.Version.{Version}
use Rattle.ficus_file.specs.Version.{HasTwoTexts}
use Rattle.ficus_model.specs.declared.event.Event.{Event}
use Rattle.ficus_model.specs.declared.event.Event.TheVariants.{Update}
use Rattle.ficus_model.specs.declared.event.Op.TheVariants.{Resolve}
use Rattle.ficus_model.specs.Known.{Knows}
use Rattle.ficus_model.specs.Lawful.{Volume}
use Rattle.ficus_model.specs.Versions.{IsVersion}
use Rattle.ficus_path.specs.Path.{IsEntry}
use Rattle.ficus_path.specs.declared.path.Path.{Path}
use Rattle.ficus_merge_files.specs.Versions.{AreMerged}
use Rattle.ficus_file_laws.specs.Items.{AreVersionsOf}
use Rattle.ficus_rules.specs.Resolved.{ResolvedRule}
use Rattle.ficus_rules.specs.View.{history_view}
use Rattle.ficus_rules.specs.Walk.{EntryRule, Found, WalkRule}

-- the object that was found, or why none was
abbrev pub object_of : Result Found Refusal → Result Id Refusal
object_of (Ok found) = Ok found.object
object_of (Err refusal) = Err refusal

-- the walk to an entry finds what the walk along the whole path finds, and is refused as it is
abbrev pub EntriesAreWalked : Type 0
EntriesAreWalked = (volume : Volume) (H : List Event) (replica : ℕ) (path : Path) (answer : Result Found Refusal) →
    let view = history_view volume H replica in
    IsEntry path → EntryRule view path answer → WalkRule view path.base path.parts (object_of answer)

-- the one knows the same version events of the file as the other
abbrev pub KnowSameVersions : List Event → (ℕ → Type 0) → (ℕ → Type 0) → Id → Type 0
KnowSameVersions H U V file = (position : ℕ) → IsVersion H file position → U position ↔ V position

-- two replicas that know the same version events of a file resolve it alike
abbrev pub ResolversAgree : Type 0
ResolversAgree = (volume : Volume) (H : List Event) (replica other : ℕ) (file : Id)
    (one again : Result (List ℕ) Refusal) → KnowSameVersions H (Knows H replica) (Knows H other) file →
    ResolvedRule (history_view volume H replica) file one → ResolvedRule (history_view volume H other) file again →
    one ≡ again

-- so they do where the other resolves it later
abbrev pub ResolversAgreeLater : Type 0
ResolversAgreeLater = (volume : Volume) (H later : List Event) (replica other : ℕ) (file : Id)
    (one again : Result (List ℕ) Refusal) →
    let G = H ++ later in
    KnowSameVersions G (Knows H replica) (Knows G other) file →
    ResolvedRule (history_view volume H replica) file one → ResolvedRule (history_view volume G other) file again →
    one ≡ again

-- and what the two then have of the file makes no conflict together
abbrev pub ResolversEndConflict : Type 0
ResolversEndConflict = (volume : Volume) (H later : List Event) (replica other : ℕ) (file : Id) (one again : List ℕ)
    (mine theirs both : List Version) →
    let G = H ++ later in
    KnowSameVersions G (Knows H replica) (Knows G other) file →
    ResolvedRule (history_view volume H replica) file (Ok one) →
    ResolvedRule (history_view volume G other) file (Ok again) →
    let K = H ++ Update replica (Resolve file one) ∷ [] in
    let L = G ++ Update other (Resolve file again) ∷ [] in
    AreVersionsOf K (Knows K replica) file mine → AreVersionsOf L (Knows L other) file theirs →
    AreMerged mine theirs both → HasTwoTexts both → ⊥
