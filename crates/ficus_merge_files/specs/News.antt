-- What of the files of a peer is new to a replica.
use Rattle.std.specs.Prelude.{◌≡◌, ◌⊎◌, ◌<◌, ℕ, List, [], ◌∷◌, ◌++◌, length, slice_get, All, Contains, Option, Some, IfSome}
use Rattle.std.specs.Borrow.{Bor}
use Rattle.std.specs.List.{flat_map}
use Rattle.std.specs.Option.{option_copied}
use Rattle.ficus_file.specs.declared.file.FileReplica.{FileReplica}
use Rattle.ficus_file.specs.Files.{AreFiles, HoldsUnder, IsRising}
use Rattle.ficus_merge_files.specs.declared.news.NewFile.{NewFile}
use Rattle.ficus_table.specs.SideBySide.{as_list}

-- the files of the replica, those of the peer, and which of the latter are new to the replica
pub record Sides : Type 0 where
  pub mine : List FileReplica
  pub theirs : List FileReplica
  pub new : List FileReplica

-- those of theirs that mine don't hold as they are, by rising identifiers
pub record AreNew (mine theirs new : List FileReplica) : Type 0 where
  pub rising : IsRising new
  pub of_theirs : (file : FileReplica) → Contains new file → Contains theirs file
  pub not_of_mine : (file : FileReplica) → Contains new file → Contains mine file → ⊥
  pub all : (file : FileReplica) → Contains theirs file → Contains new file ⊎ Contains mine file

-- the items at these places
abbrev pub at_places : {X : Type 0} → List X → List ℕ → List X
at_places items places = flat_map (λ place. as_list (slice_get items place)) places

-- the items have each of these places
abbrev pub AreInside : {X : Type 0} → List X → List ℕ → Type 0
AreInside items places = All (λ place. place < length items) places

-- beside the file of theirs stands what mine hold under its identifier
abbrev pub IsBeside : List FileReplica → NewFile → Type 0
IsBeside mine new = HoldsUnder mine new.theirs.now.id (option_copied new.mine)

-- the row, if it is known, shows the file of theirs
abbrev pub HasRow : NewFile → Type 0
HasRow new = IfSome new.row (λ row. row.now ≡ new.theirs.now)

-- both sides may be held, and those of theirs that are new stand at these places
pub record AreNews (mine theirs : List FileReplica) (places : List ℕ) : Type 0 where
  pub mine_held : AreFiles mine
  pub theirs_held : AreFiles theirs
  pub are_new : AreNew mine theirs (at_places theirs places)
  pub inside : AreInside theirs places

-- mine hold the file of theirs as it is
abbrev pub IsKnown : Option (Bor FileReplica) → FileReplica → Type 0
IsKnown mine theirs = option_copied mine ≡ Some theirs

-- the place of the file of theirs stands behind the others, unless mine hold it as it is
abbrev pub Notes : List ℕ → List ℕ → ℕ → Option (Bor FileReplica) → FileReplica → Type 0
Notes old new place mine theirs =
    (IsKnown mine theirs × (new ≡ old)) ⊎ ((IsKnown mine theirs → ⊥) × (new ≡ old ++ place ∷ []))
