-- What a note of a call tells.
use Rattle.std.specs.Prelude.{string_bytes}
use Rattle.ficus_file_disk.specs.Told.{Told}
use Rattle.ficus_file_disk.specs.Told as told
use Rattle.ficus_file_disk_tests.specs.declared.note.Note.{Note}
use Rattle.ficus_file_disk_tests.specs.declared.note.Note.TheVariants.{Opened, OpenedToRead, NotThere, Made, Emptied, Renamed, Measured, Moved, Gave, Took, Synced, FolderThere, FolderMissing, FolderMade, FolderSynced, Refused}

abbrev pub told_of : Note → Told
told_of (Opened path) = told.Opened (string_bytes path)
told_of (NotThere path) = told.NotThere (string_bytes path)
told_of (Made path) = told.Made (string_bytes path)
told_of (OpenedToRead path) = told.OpenedToRead (string_bytes path)
told_of (Emptied path) = told.Emptied (string_bytes path)
told_of (Renamed path place) = told.Renamed (string_bytes path) (string_bytes place)
told_of (Measured size) = told.Measured size
told_of (Moved at) = told.Moved at
told_of (Gave bytes) = told.Gave bytes.items
told_of (Took bytes) = told.Took bytes.items
told_of Synced = told.Synced
told_of (FolderThere path) = told.FolderThere (string_bytes path)
told_of (FolderMissing path) = told.FolderMissing (string_bytes path)
told_of (FolderMade path) = told.FolderMade (string_bytes path)
told_of (FolderSynced path) = told.FolderSynced (string_bytes path)
told_of Refused = told.Refused
