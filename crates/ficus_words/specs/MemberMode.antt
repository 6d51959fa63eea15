-- The words of each mode for one member, on a machine of its own.
use Rattle.std.specs.Prelude.{◌≡◌, ℕ, List, Some, None, codes, Result, Ok, Err}
use Rattle.ficus_words.specs.Grammar.{Text, Use, Gives}
use Rattle.ficus_words.specs.Given.{Texts, texts_of, IsNumber, IsSomeText, IsTagOrNone}
use Rattle.ficus_words.specs.Mode.{HasFolderAlone, HasNoScript, IsSize}
use Rattle.ficus_words.specs.declared.fault.WordsFault.{WordsFault}
use Rattle.ficus_words.specs.declared.fault.WordsFault.TheVariants.{Usage, Memory}
use Rattle.ficus_words.specs.declared.member_mode.MemberMode.{MemberMode}
use Rattle.ficus_words.specs.declared.member_mode.MemberMode.TheVariants.{Init, Run}
use Rattle.ficus_words.specs.declared.mode.Size.{Size}

-- the texts of each mode: what is listed for it, and nothing else
pub record IsMemberInit (texts : Texts) (size : Size) (replica : ℕ) (tag : List ℕ) (root : Text) : Type 0 where
  pub mode : texts.mode ≡ Some (codes "init")
  pub sized : IsSize texts size
  pub numbered : IsNumber 1 size.members texts.replica replica
  pub tagged : IsTagOrNone texts.tag tag
  pub folder : IsSomeText texts.root root
  pub no_volumes : texts.volumes ≡ None
  pub no_script : HasNoScript texts

pub record IsMemberRun (texts : Texts) (replica : ℕ) (root : Text) : Type 0 where
  pub mode : texts.mode ≡ Some (codes "member")
  pub numbered : IsNumber 1 8 texts.replica replica
  pub alone : HasFolderAlone texts root
  pub no_tag : texts.tag ≡ None

-- the texts ask for this mode of a member
abbrev pub AsksForMember : Texts → MemberMode → Type 0
AsksForMember texts (Init size replica tag root) = IsMemberInit texts size replica tag root
AsksForMember texts (Run replica root) = IsMemberRun texts replica root

-- the mode of a member that the texts ask for, `Usage` where they ask for none, or memory was refused
abbrev pub IsMemberReadingOf : Texts → Result MemberMode WordsFault → Type 0
IsMemberReadingOf texts (Ok mode) = AsksForMember texts mode
IsMemberReadingOf texts (Err Usage) = (mode : MemberMode) → AsksForMember texts mode → ⊥
IsMemberReadingOf texts (Err Memory) = Unit {0}

-- the words, the program's name first, are those of this mode of a member
pub record AreMemberWords (words : List Text) (mode : MemberMode) : Type 0 where
  pub uses : List Use
  pub gives : Gives words uses
  pub asks : AsksForMember (texts_of uses) mode

-- they are those of no mode of a member
abbrev pub AreNoMemberWords : List Text → Type 0
AreNoMemberWords words = (mode : MemberMode) → AreMemberWords words mode → ⊥
