-- What a mailbox over folders asks of the system, and what it answers.
use Rattle.std.specs.Prelude.{◌≡◌, ◌⊎◌, ◌<◌, ℕ, Bool, true, false, List, [], ◌∷◌, ◌++◌, codes, length, Result, OnOk, OnErr}
use Rattle.std.specs.Fmt.{decimal}
use Rattle.ficus_file_disk.specs.Told.{Told, Emptied, FolderMade, FolderSynced, Gave, Measured, NotThere, OpenedToRead, Renamed, Synced, Took}
use Rattle.ficus_mailbox.specs.Letter.{Letter, letter_limit}
use Rattle.ficus_mailbox.specs.declared.found.Given.{Given}
use Rattle.ficus_mailbox.specs.declared.found.Found.{Found}
use Rattle.ficus_mailbox.specs.declared.found.Found.TheVariants.{Nothing, Oversized, Bytes}

-- a mailbox over folders: that of its member, in the runtime's own terms; how often it has failed; whether the folder
-- of what is put was made; and what the system has told, where it tells that
pub record Mailed : Type 0 where
  pub folder : List ℕ
  pub faults : ℕ
  pub is_made : Bool
  pub told : List Told

-- it tells nothing of what it gave and what was put
abbrev pub nothing_given : Mailed → List Given
nothing_given mailed = []

abbrev pub nothing_posted : Mailed → List Letter
nothing_posted mailed = []

abbrev pub faults_of : Mailed → ℕ
faults_of mailed = mailed.faults

-- in a volume's folder ROOT that of replica r is `ROOT/r`
abbrev pub folder_of : List ℕ → ℕ → List ℕ
folder_of root replica = root ++ codes "/" ++ decimal replica

-- the folders of what came for a member and of what it puts
abbrev pub inbox_of : List ℕ → List ℕ
inbox_of folder = folder ++ codes "/in"

abbrev pub outbox_of : List ℕ → List ℕ
outbox_of folder = folder ++ codes "/out"

-- a file in a folder, and one beside it, which isn't whole yet
abbrev pub file_in : List ℕ → List ℕ → List ℕ
file_in folder name = folder ++ codes "/" ++ name

abbrev pub beside : List ℕ → List ℕ → List ℕ
beside folder name = folder ++ codes "/." ++ name

-- the open file is read, and what it has is found; of one that is larger than a message its size alone
abbrev pub IsRead : List Told → List Told → Found → Type 0
IsRead old new Nothing = ⊥
IsRead old new Oversized = (size : ℕ) × (letter_limit < size) × (new ≡ old ++ Measured size ∷ [])
IsRead old new (Bytes bytes) = new ≡ old ++ Measured (length bytes) ∷ Gave bytes ∷ []

-- the file at this path is opened and read; nothing is found where it isn't there
abbrev pub IsLookedUp : List ℕ → List Told → List Told → Found → Type 0
IsLookedUp path old new Nothing = new ≡ old ++ NotThere path ∷ []
IsLookedUp path old new Oversized = IsRead (old ++ OpenedToRead path ∷ []) new Oversized
IsLookedUp path old new (Bytes bytes) = IsRead (old ++ OpenedToRead path ∷ []) new (Bytes bytes)

-- the folder of what is put is made, and the one above it synced, unless this was done
abbrev pub makes : Bool → List ℕ → List Told
makes true folder = []
makes false folder = FolderMade (outbox_of folder) ∷ FolderSynced folder ∷ []

-- it is the mailbox of the same folder, of which the part for what is put passes for made, or not, as before
pub record HasSameFolders (old new : Mailed) : Type 0 where
  pub folder : new.folder ≡ old.folder
  pub mark : new.is_made ≡ old.is_made

-- It is the mailbox of the same folder. The part for what is put passes for made after a put; and after one that failed
-- only where it did before it, or where the system has told first that it was made and the one above it synced.
pub record MarksOutbox {A E : Type 0} (tells : Type 0) (old new : Mailed) (result : Result A E) : Type 0 where
  pub folder : new.folder ≡ old.folder
  pub made : OnOk result (new.is_made ≡ true)
  pub marked : tells → OnErr result ((new.is_made ≡ old.is_made)
      ⊎ ((more : List Told) × (new.told ≡ old.told ++ (makes old.is_made old.folder ++ more))))

-- a file is written beside its place and synced, then it gets its place, and the folder is synced
abbrev pub writes : List ℕ → List ℕ → List ℕ → List Told
writes folder name message =
    Emptied (beside folder name) ∷ Took message ∷ Synced
    ∷ Renamed (beside folder name) (file_in folder name) ∷ FolderSynced folder ∷ []
