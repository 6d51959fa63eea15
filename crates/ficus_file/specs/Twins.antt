-- A file and what it is once it is covered.
use Rattle.std.specs.Prelude.{◌≡◌}
use Rattle.ficus_file.specs.declared.file.FileReplica.{FileReplica}
use Rattle.ficus_file.specs.declared.shared.Twins.{Twins}
use Rattle.ficus_file.specs.declared.shared.Twins.TheVariants.{Same, Differ}
use Rattle.ficus_file.specs.declared.shared.Form.{Form}
use Rattle.ficus_file.specs.declared.shared.Form.TheVariants.{Covered, Another}
use Rattle.ficus_file.specs.File.{covered_file}

-- the file
abbrev pub first_of : Twins → FileReplica
first_of (Same file) = file.value
first_of (Differ both) = both.value.file

-- what stands for the covered file is the file covered
abbrev pub AreTwins : Twins → Type 0
AreTwins (Same file) = covered_file file.value ≡ file.value
AreTwins (Differ both) = both.value.covered ≡ covered_file both.value.file

-- what becomes of the file: it is covered, or this one stands in its place
abbrev pub become : Form → FileReplica → FileReplica
become Covered file = covered_file file
become (Another other) file = other
