-- The words of each mode.
use Rattle.std.specs.Prelude.{◌≡◌, ℕ, List, Some, None, codes, Result, Ok, Err}
use Rattle.ficus_words.specs.Grammar.{Text, Use, Gives}
use Rattle.ficus_words.specs.Given.{Texts, texts_of, IsNumber, IsNumberOrMost, IsSomeText}
use Rattle.ficus_words.specs.declared.mode.Mode.{Mode}
use Rattle.ficus_words.specs.declared.mode.Mode.TheVariants.{Init, Run, Check, Replay, Volumes, Gen}
use Rattle.ficus_words.specs.declared.mode.Size.{Size}
use Rattle.ficus_words.specs.declared.fault.WordsFault.{WordsFault}
use Rattle.ficus_words.specs.declared.fault.WordsFault.TheVariants.{Usage, Memory}

-- how large the texts want a volume
pub record IsSize (texts : Texts) (size : Size) : Type 0 where
  pub members : IsNumber 2 8 texts.members size.members
  pub ids : IsNumberOrMost 1 100000 texts.ids size.ids
  pub bytes : IsNumberOrMost 0 4194304 texts.bytes size.bytes

-- no limit is given
pub record HasNoLimit (texts : Texts) : Type 0 where
  pub ids : texts.ids ≡ None
  pub bytes : texts.bytes ≡ None

-- nothing is given of how large volumes are, and of how many there are
pub record HasNoSize (texts : Texts) : Type 0 where
  pub members : texts.members ≡ None
  pub volumes : texts.volumes ≡ None
  pub limits : HasNoLimit texts

-- nothing to make a script from is given
pub record HasNoScript (texts : Texts) : Type 0 where
  pub seed : texts.seed ≡ None
  pub steps : texts.steps ≡ None

-- nothing is given of a member on a machine of its own
pub record HasNoMember (texts : Texts) : Type 0 where
  pub replica : texts.replica ≡ None
  pub tag : texts.tag ≡ None

-- a folder is given, and nothing of how large a volume is and to make a script from
pub record HasFolderAlone (texts : Texts) (root : Text) : Type 0 where
  pub folder : IsSomeText texts.root root
  pub no_size : HasNoSize texts
  pub no_script : HasNoScript texts

-- the texts of each mode: what is listed for it, and nothing else
pub record IsInit (texts : Texts) (size : Size) (root : Text) : Type 0 where
  pub mode : texts.mode ≡ Some (codes "init")
  pub sized : IsSize texts size
  pub folder : IsSomeText texts.root root
  pub no_volumes : texts.volumes ≡ None
  pub no_script : HasNoScript texts
  pub no_member : HasNoMember texts

pub record IsRun (texts : Texts) (root : Text) : Type 0 where
  pub mode : texts.mode ≡ Some (codes "run")
  pub folder : IsSomeText texts.root root
  pub no_size : HasNoSize texts
  pub no_script : HasNoScript texts
  pub no_member : HasNoMember texts

pub record IsCheck (texts : Texts) (root : Text) : Type 0 where
  pub mode : texts.mode ≡ Some (codes "check")
  pub alone : HasFolderAlone texts root
  pub no_member : HasNoMember texts

pub record IsReplay (texts : Texts) (size : Size) : Type 0 where
  pub mode : texts.mode ≡ Some (codes "replay")
  pub sized : IsSize texts size
  pub no_folder : texts.root ≡ None
  pub no_volumes : texts.volumes ≡ None
  pub no_script : HasNoScript texts
  pub no_member : HasNoMember texts

pub record IsVolumes (texts : Texts) (size : Size) (count : ℕ) : Type 0 where
  pub mode : texts.mode ≡ Some (codes "volumes")
  pub sized : IsSize texts size
  pub counted : IsNumber 1 4 texts.volumes count
  pub no_folder : texts.root ≡ None
  pub no_script : HasNoScript texts
  pub no_member : HasNoMember texts

pub record IsGen (texts : Texts) (members seed steps : ℕ) : Type 0 where
  pub mode : texts.mode ≡ Some (codes "gen")
  pub count : IsNumber 2 8 texts.members members
  pub from_seed : IsNumber 0 2147483647 texts.seed seed
  pub over_steps : IsNumber 0 5000 texts.steps steps
  pub no_folder : texts.root ≡ None
  pub no_volumes : texts.volumes ≡ None
  pub no_limit : HasNoLimit texts
  pub no_member : HasNoMember texts

-- the texts ask for this mode
abbrev pub AsksFor : Texts → Mode → Type 0
AsksFor texts (Init size root) = IsInit texts size root
AsksFor texts (Run root) = IsRun texts root
AsksFor texts (Check root) = IsCheck texts root
AsksFor texts (Replay size) = IsReplay texts size
AsksFor texts (Volumes size count) = IsVolumes texts size count
AsksFor texts (Gen members seed steps) = IsGen texts members seed steps

-- the mode that the texts ask for, `Usage` where they ask for none, or memory was refused
abbrev pub IsReadingOf : Texts → Result Mode WordsFault → Type 0
IsReadingOf texts (Ok mode) = AsksFor texts mode
IsReadingOf texts (Err Usage) = (mode : Mode) → AsksFor texts mode → ⊥
IsReadingOf texts (Err Memory) = Unit {0}

-- the words, the program's name first, are those of this mode
pub record AreWords (words : List Text) (mode : Mode) : Type 0 where
  pub uses : List Use
  pub gives : Gives words uses
  pub asks : AsksFor (texts_of uses) mode

-- they are those of no mode
abbrev pub AreNoWords : List Text → Type 0
AreNoWords words = (mode : Mode) → AreWords words mode → ⊥
