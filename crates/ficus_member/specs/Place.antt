-- Where a member lies.
use Rattle.std.specs.Prelude.{◌≡◌, ℕ, List}
use Rattle.ficus_words.specs.Grammar.{Text}
use Rattle.ficus_words.specs.MemberMode.{AreMemberWords}
use Rattle.ficus_words.specs.declared.member_mode.MemberMode.{MemberMode}
use Rattle.ficus_words.specs.declared.member_mode.MemberMode.TheVariants.{Init, Run}

-- the folder of the volume, and the number, of the member that a mode is for
abbrev pub root_of : MemberMode → Text
root_of (Init size replica tag root) = root
root_of (Run replica root) = root

abbrev pub replica_of : MemberMode → ℕ
replica_of (Init size replica tag root) = replica
replica_of (Run replica root) = replica

-- the words are those of a mode for the member of this number, in this folder
pub record NameMember (words : List Text) (root : Text) (replica : ℕ) : Type 0 where
  pub mode : MemberMode
  pub are : AreMemberWords words mode
  pub root_is : root_of mode ≡ root
  pub replica_is : replica_of mode ≡ replica
