-- The text of a file.
use Rattle.std.specs.Prelude.{◌≡◌, ◌≢◌, ℕ, List, [], Contains}
use Rattle.ficus_ids.specs.declared.id.Id.{Id}
use Rattle.ficus_file.specs.declared.version.Version.{Version}
use Rattle.ficus_rules.specs.View.{View}

-- the bytes of each version of the file, and it has one
pub record IsTextOf (view : View) (file : Id) (bytes : List ℕ) : Type 0 where
  pub versions : List Version
  pub shown : view.versions file versions
  pub some : versions ≢ []
  pub each : (version : Version) → Contains versions version → version.bytes ≡ bytes
