-- What the versions of a file are kept in.
use Rattle.std.specs.Prelude.{List, [], ◌∷◌}
use Rattle.ficus_file.specs.declared.version.Version.{Version}
use Rattle.ficus_file.specs.declared.versions.VersionList.{VersionList}
use Rattle.ficus_file.specs.declared.versions.VersionList.TheVariants.{Empty, One, Shared}

-- the versions, in order
abbrev pub versions_of : VersionList → List Version
versions_of Empty = []
versions_of (One version) = version ∷ []
versions_of (Shared versions) = versions.value.items
