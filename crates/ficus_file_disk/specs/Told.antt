-- What the system was asked for one file and the folders above it, and what it answered.
use Rattle.std.specs.Prelude.{◌≡◌, ◌⊎◌, ◌+◌, ◌≤◌, ℕ, zero, suc, List, Bool, true, false, [], ◌∷◌, ◌++◌, codes, length, map, if◌then◌else◌, ◌==◌, option_map, unwrap_or}
use Rattle.std.specs.Path.{path_parent}

-- a call with its answer. Files and folders are named by their paths, in the runtime's own terms; a call on the open
-- file names none
pub data Told : Type 0 where
  -- the file was opened
  Opened : (path : List ℕ) → Told
  -- to open it was refused, since nothing is there
  NotThere : (path : List ℕ) → Told
  -- it was made, where nothing was, and opened
  Made : (path : List ℕ) → Told
  -- it was opened, to be read alone
  OpenedToRead : (path : List ℕ) → Told
  -- it was made, or emptied where it was there, and opened
  Emptied : (path : List ℕ) → Told
  -- the file at the first path is now at the second, in place of one that was there
  Renamed : (path : List ℕ) → (place : List ℕ) → Told
  -- it has so many bytes
  Measured : (size : ℕ) → Told
  -- reads and writes go on from this place
  Moved : (at : ℕ) → Told
  -- it gave all these bytes
  Gave : (bytes : List ℕ) → Told
  -- it took all these bytes
  Took : (bytes : List ℕ) → Told
  -- it was synced
  Synced : Told
  -- the folder is there
  FolderThere : (path : List ℕ) → Told
  -- nothing is there
  FolderMissing : (path : List ℕ) → Told
  -- it was made, with those above it that were missing
  FolderMade : (path : List ℕ) → Told
  -- it was synced
  FolderSynced : (path : List ℕ) → Told
  -- any other error
  Refused : Told

-- a folder by a path that the system takes: the one above a path of one part is the folder in which the program runs
abbrev pub named : List ℕ → List ℕ
named folder = if length folder == 0 then codes "." else folder

-- the first so many of the folders above, the nearest first
abbrev pub folders_above : ℕ → List ℕ → List (List ℕ)
folders_above zero path = []
folders_above (suc count) path =
    unwrap_or (option_map (λ folder. named folder ∷ folders_above count folder) (path_parent path)) []

-- so many of the folders above are missing, and the next one is there, or there is none
abbrev pub looked : ℕ → List ℕ → List Told
looked zero path = unwrap_or (option_map (λ folder. FolderThere (named folder) ∷ []) (path_parent path)) []
looked (suc count) path =
    unwrap_or (option_map (λ folder. FolderMissing (named folder) ∷ looked count folder) (path_parent path)) []

-- those of the file are made
abbrev pub folders_made : List ℕ → List Told
folders_made path = unwrap_or (option_map (λ folder. FolderMade (named folder) ∷ []) (path_parent path)) []

-- the file is found, where it isn't open yet
abbrev pub found : Bool → List ℕ → List Told
found true path = []
found false path = Opened path ∷ []

-- the file is made, behind so many folders that were missing
abbrev pub made : ℕ → List ℕ → List Told
made missing path = looked missing path ++ folders_made path ++ Made path ∷ []

-- some more calls, of which the last was answered by an error
abbrev pub AreRefused : List Told → List Told → Type 0
AreRefused old new = (asked : List Told) × (new ≡ old ++ (asked ++ Refused ∷ []))

-- the file isn't there, and no more was asked
abbrev pub IsMissing : Bool → List ℕ → List Told → List Told → Type 0
IsMissing is_open path old new = (is_open ≡ false) × (new ≡ old ++ NotThere path ∷ [])

-- it has so many bytes, and none where it is missing
abbrev pub IsMeasured : Bool → List ℕ → List Told → List Told → ℕ → Type 0
IsMeasured is_open path old new size =
    (new ≡ old ++ found is_open path ++ Measured size ∷ []) ⊎ ((size ≡ 0) × IsMissing is_open path old new)

-- it gave these bytes from this place on, and none where it is missing
abbrev pub IsRead : Bool → List ℕ → List Told → List Told → ℕ → List ℕ → Type 0
IsRead is_open path old new at bytes =
    (new ≡ old ++ found is_open path ++ Moved at ∷ Gave bytes ∷ [])
    ⊎ ((length bytes ≡ 0) × IsMissing is_open path old new)

-- it took these bytes from this place on, and was made where it was missing. Then the folders that were missing, and
-- the one above them, are among those to be synced
abbrev pub IsWritten : Bool → List ℕ → List Told → List Told → ℕ → List ℕ → ℕ → Type 0
IsWritten is_open path old new at bytes unsynced =
    (new ≡ old ++ found is_open path ++ Moved at ∷ Took bytes ∷ [])
    ⊎ ((missing : ℕ) × (missing + 1 ≤ unsynced) × (is_open ≡ false)
    × (new ≡ old ++ NotThere path ∷ made missing path ++ Moved at ∷ Took bytes ∷ []))

-- it was synced, and so was each folder that was to be; or it is missing
abbrev pub IsSynced : Bool → List ℕ → List Told → List Told → ℕ → ℕ → Type 0
IsSynced is_open path old new unsynced left =
    ((left ≡ 0) × (new ≡ old ++ found is_open path ++ Synced ∷ map FolderSynced (folders_above unsynced path)))
    ⊎ ((left ≡ unsynced) × IsMissing is_open path old new)
