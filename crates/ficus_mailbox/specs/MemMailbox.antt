-- A mailbox in memory.
use Rattle.std.specs.Prelude.{◌≡◌, ◌≢◌, ◌+◌, ◌<◌, ℕ, List, length, Result, IfSome, IsErrOf, OnErr, OnOk, slice_get}
use Rattle.ficus_faults.specs.Calls.{Tally, called, failed}
use Rattle.ficus_mailbox.specs.Calls.{found_as}
use Rattle.ficus_mailbox.specs.FileName.{IsFileName}
use Rattle.ficus_mailbox.specs.Letter.{Letter}
use Rattle.ficus_mailbox.specs.declared.found.FindFault.{FindFault}
use Rattle.ficus_mailbox.specs.declared.found.FindFault.TheVariants.{Failed, Memory}
use Rattle.ficus_mailbox.specs.declared.found.Found.{Found}
use Rattle.ficus_mailbox.specs.declared.found.Found.TheVariants.{Nothing}
use Rattle.ficus_mailbox.specs.declared.found.Given.{Given}
use Rattle.ficus_mailbox.specs.declared.letter.Filed.{Filed}

-- what has come, what it gave, what was put, for how many more there is room, and the calls
pub record MailboxState : Type 0 where
  pub inbox : List Filed
  pub given : List Given
  pub posted : List Letter
  pub room : ℕ
  pub calls : Tally

abbrev pub given_in : MailboxState → List Given
given_in state = state.given

abbrev pub posted_in : MailboxState → List Letter
posted_in state = state.posted

abbrev pub faults_of : MailboxState → ℕ
faults_of state = state.calls.faults

-- the file in this place has this name, or another one
abbrev pub IsNamed : List Filed → List ℕ → ℕ → Type 0
IsNamed inbox name place = IfSome (slice_get inbox place) (λ filed. filed.name ≡ name)

abbrev pub IsOther : List Filed → List ℕ → ℕ → Type 0
IsOther inbox name place = IfSome (slice_get inbox place) (λ filed. filed.name ≢ name)

-- it is the first of this name
pub record IsFirstOf (inbox : List Filed) (name : List ℕ) (place : ℕ) : Type 0 where
  pub there : place < length inbox
  pub here : IsNamed inbox name place
  pub earlier : (other : ℕ) → other < place → IsOther inbox name other

-- it is found; nothing is where no file has this name, or this is no file's
pub record IsFoundIn (inbox : List Filed) (name : List ℕ) (found : Found) : Type 0 where
  pub none : found ≡ Nothing → IsFileName name → (place : ℕ) → place < length inbox → IsOther inbox name place
  pub some : (found ≡ Nothing → ⊥) → (place : ℕ) × IsFirstOf inbox name place
      × IfSome (slice_get inbox place) (λ filed. found ≡ found_as filed.bytes)

-- a call that looks for what came is counted, as a fault where it failed, and takes no room
pub record CountsFind {A : Type 0} (old new : MailboxState) (result : Result A FindFault) : Type 0 where
  pub room : new.room ≡ old.room
  pub found : OnOk result (new.calls ≡ called old.calls)
  pub memory : IsErrOf result Memory → new.calls ≡ called old.calls
  pub fault : IsErrOf result Failed → new.calls ≡ failed old.calls

-- a call that puts a message is counted, as a fault where it failed, and takes room for one where it didn't
pub record CountsPut {A E : Type 0} (old new : MailboxState) (result : Result A E) : Type 0 where
  pub call : OnOk result (new.calls ≡ called old.calls)
  pub fault : OnErr result (new.calls ≡ failed old.calls)
  pub taken : OnOk result (new.room + 1 ≡ old.room)
  pub room : OnErr result (new.room ≡ old.room)
