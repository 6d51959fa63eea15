-- Over which files the program runs for a member.
use Rattle.std.specs.Prelude.{◌≡◌, ◌≢◌, ℕ, List, ◌++◌, codes, length}
use Rattle.std.specs.Fmt.{decimal}
use Rattle.ficus_disk.specs.declared.pair.Pair.{Pair}
use Rattle.ficus_file_disk.specs.Place.{Placed, places_in, places_of}
use Rattle.ficus_folder_mailbox.specs.Mail.{folder_of}
use Rattle.ficus_here_or_away.specs.Pairs.{IsAwayPair, here}
use Rattle.ficus_here_or_away.specs.declared.here_or_away.HereOrAway.{HereOrAway}
use Rattle.ficus_runs.specs.Numbered.{IsNumbered}
use Rattle.ficus_words.specs.Grammar.{Text}
use Rattle.ficus_cli.specs.declared.member.Kept.{Kept}

-- in a volume's folder ROOT the file of this name of replica r lies at `ROOT/r/NAME`
abbrev pub file_at : Text → ℕ → Text → Text
file_at root replica name = root ++ codes "/" ++ decimal replica ++ codes "/" ++ name

-- the pair is of the files `a.img` and `b.img` in the folder of this replica
pub record IsOwnPair (root : Text) (replica : ℕ) (pair : Pair (HereOrAway Placed)) : Type 0 where
  pub files : Pair Placed
  pub is : pair ≡ here files
  pub lie : places_of files ≡ places_in root replica

-- The own disks of the member of this number are its files, and disks in memory that hold nothing stand in for the
-- others'; beside them lie the slots of its note and the tag of its volume; and its messages lie in folders there.
pub record IsKeptAt {R File Dir : Type 0} (root : Text) (replica : ℕ) (kept : Kept R File Dir) : Type 0 where
  pub count : length kept.disks.items ≡ 8
  pub own : (pair : Pair (HereOrAway Placed)) → IsNumbered kept.disks.items replica pair → IsOwnPair root replica pair
  pub others : (r : ℕ) (pair : Pair (HereOrAway Placed)) → r ≢ replica → IsNumbered kept.disks.items r pair
      → IsAwayPair pair
  pub slot_a : kept.beside.slots.a.path ≡ file_at root replica (codes "ask-a.img")
  pub slot_b : kept.beside.slots.b.path ≡ file_at root replica (codes "ask-b.img")
  pub volume : kept.beside.volume.path ≡ file_at root replica (codes "volume")
  pub mailbox : kept.mailbox.folder ≡ folder_of root replica
