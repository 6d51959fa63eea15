-- What looking for a file, and resolving one, comes to.
use Rattle.std.specs.Prelude.{◌≡◌, ◌≢◌, ℕ, ◌<◌, List, length, Result, Ok, Err}
use Rattle.std.specs.Borrow.{Bor}
use Rattle.ficus_ids.specs.declared.id.Id.{Id}
use Rattle.ficus_ids.specs.declared.kind.Kind.TheVariants.{Dir}
use Rattle.ficus_ids.specs.declared.refusal.Refusal.{Refusal}
use Rattle.ficus_ids.specs.declared.refusal.Refusal.TheVariants.{TooLong}
use Rattle.ficus_file.specs.declared.file.FileReplica.{FileReplica}
use Rattle.ficus_durable_state.specs.declared.saved.Saved.{Saved}
use Rattle.ficus_model.specs.Lawful.{most_file_bytes}
use Rattle.ficus_rules.specs.Resolved.{ResolvedRule}
use Rattle.ficus_rules.specs.Rule.{Then, Unless, Gives}
use Rattle.ficus_rules.specs.View.{View}
use Rattle.ficus_rules.specs.Walk.{Found, Places}
use Rattle.ficus_deciding.specs.declared.walk.Found.{Found as CodeFound}
use Rattle.ficus_deciding.specs.declared.walk.Places.{Places as CodePlaces}
use Rattle.ficus_deciding.specs.View.{HasObject}

-- the identifier of the file that was found
abbrev pub id_found : Result (Bor FileReplica) Refusal → Result Id Refusal
id_found (Ok file) = Ok file.now.id
id_found (Err refusal) = Err refusal

-- an entry that was found
abbrev pub found_as : CodeFound → Found
found_as found = record { dir = found.dir; object = found.object }

-- what was found at the path of an entry
abbrev pub as_found : Result CodeFound Refusal → Result Found Refusal
as_found (Ok found) = Ok (found_as found)
as_found (Err refusal) = Err refusal

-- what was found at two paths
abbrev pub places_as : CodePlaces → Places
places_as places = record { found = found_as places.found; dir = places.dir }

abbrev pub as_places : Result CodePlaces Refusal → Result Places Refusal
as_places (Ok places) = Ok (places_as places)
as_places (Err refusal) = Err refusal

-- a file, no directory, that is visible
pub record IsFileIn (saved : Saved) (file : FileReplica) : Type 0 where
  pub object : HasObject saved file.id (λ held. held ≡ file)
  pub is_file : file.kind ≢ Dir

-- what the resolver makes of the file; `declined` where it declines, `toolong` where that is more than a file may have
abbrev pub ResolvedWithin : View → Id → Result (List ℕ) Refusal → Type 0
ResolvedWithin view file =
    Then (ResolvedRule view file) (λ bytes.
    Unless (most_file_bytes < length bytes) TooLong (
    Gives bytes))
