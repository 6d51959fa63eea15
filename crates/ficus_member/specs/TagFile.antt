-- The file of a volume's tag.
use Rattle.std.specs.Prelude.{◌≡◌, ◌⊎◌, ℕ, List, [], ◌∷◌, ◌++◌, Result, IfErr, IfOk, IsErrOf, OnOk}
use Rattle.ficus_disk.specs.Crash.{Only, Within}
use Rattle.ficus_disk.specs.declared.disk.Disk.{Ghosts as Disk}
use Rattle.ficus_faults.specs.Faults.{Rose}
use Rattle.ficus_opening.specs.Opening.{IsStoreFault, IsUnfailed}
use Rattle.ficus_opening.specs.declared.fault.WorldFault.{WorldFault}
use Rattle.ficus_opening.specs.declared.fault.WorldFault.TheVariants.{Image, Store}
use Rattle.ficus_tag.specs.Tag.{SpellsTag, tag_text}

-- what is written to the file: the one text of the tag, and byte 10
abbrev pub tag_line : List ℕ → List ℕ
tag_line tag = tag_text tag ++ 10 ∷ []

-- the bytes are a text of the tag, and byte 10
pub record SpellsLine (bytes tag : List ℕ) : Type 0 where
  pub text : List ℕ
  pub is : bytes ≡ text ++ 10 ∷ []
  pub spells : SpellsTag text tag

-- they are that of no tag
abbrev pub SpellsNoTag : List ℕ → Type 0
SpellsNoTag bytes = (tag : List ℕ) → SpellsLine bytes tag → ⊥

-- nothing is written on a file: a read gives what it gave, and a crash leaves no more than before
pub record FileRests {N : Type 0} (slot : Disk N) (old new : N) : Type 0 where
  pub same : slot.tells → slot.seen new ≡ slot.seen old
  pub within : Within (slot.may_leave old) (slot.may_leave new)

-- a fault of the file is told with the number of its member, and was counted, and no other was
pub record FileAsked {A N : Type 0} (slot : Disk N) (me : ℕ) (result : Result A WorldFault) (old new : N) :
    Type 0 where
  pub failed : (r : ℕ) → IsErrOf result (Store r) → (r ≡ me) × Rose (slot.faults old) (slot.faults new)
  pub spared : (fault : WorldFault) → IsUnfailed fault → IsErrOf result fault → slot.faults new ≡ slot.faults old
  pub steady : OnOk result (slot.faults new ≡ slot.faults old)

-- the tag is written to a file that was empty, and nothing of it is unsynced
pub record WritesTag {A N : Type 0} (slot : Disk N) (tag : List ℕ) (me : ℕ) (result : Result A WorldFault)
    (old new : N) : Type 0 where
  pub written : slot.tells → OnOk result (slot.seen new ≡ tag_line tag)
  pub durable : slot.tells → OnOk result (Only (tag_line tag) (slot.may_leave new))
  pub kinds : IfErr result IsStoreFault
  pub asked : FileAsked slot me result old new

-- the tag that the file holds is read; `Image` comes exactly where it holds none
pub record ReadsTag {N : Type 0} (slot : Disk N) (me : ℕ) (result : Result (List ℕ) WorldFault) (old new : N) :
    Type 0 where
  pub spelled : slot.tells → IfOk result (SpellsLine (slot.seen old))
  pub image : slot.tells → (r : ℕ) → IsErrOf result (Image r) → (r ≡ me) × SpellsNoTag (slot.seen old)
  pub kinds : IfErr result (λ fault. (fault ≡ Store me) ⊎ (fault ≡ Image me))
  pub asked : FileAsked slot me result old new
  pub rests : FileRests slot old new
