-- What the calls of a mailbox come to, so that each says it by name.
use Rattle.std.specs.Prelude.{◌≡◌, ◌⊎◌, ℕ, ◌≤◌, nat_le, if◌then◌else◌, List, [], ◌∷◌, ◌++◌, length, Result, IfOk, IsErrOf, OnOk, OnErr}
use Rattle.ficus_faults.specs.Faults.{Rose}
use Rattle.ficus_mailbox.specs.FileName.{IsFileName}
use Rattle.ficus_mailbox.specs.Letter.{Letter, letter_limit}
use Rattle.ficus_mailbox.specs.declared.found.FindFault.{FindFault}
use Rattle.ficus_mailbox.specs.declared.found.FindFault.TheVariants.{Failed, Memory}
use Rattle.ficus_mailbox.specs.declared.found.Found.{Found}
use Rattle.ficus_mailbox.specs.declared.found.Found.TheVariants.{Nothing, Oversized, Bytes}
use Rattle.ficus_mailbox.specs.declared.found.Given.{Given}

-- this was given for the name
abbrev pub given_as : List ℕ → Found → Given
given_as name found = record { name = name; found = found }

-- bytes as they are found
abbrev pub found_as : List ℕ → Found
found_as bytes = if nat_le (length bytes) letter_limit then Bytes bytes else Oversized

-- the bytes are at most as many as a message with its tag has
abbrev pub IsWithin : Found → Type 0
IsWithin Nothing = Unit {0}
IsWithin Oversized = Unit {0}
IsWithin (Bytes bytes) = length bytes ≤ letter_limit

-- what is found is told, and is nothing where the name is no file's; what fails is the mailbox, or memory
pub record Finds {M : Type 0} (tells : Type 0) (given : M → List Given) (posted : M → List Letter) (faults : M → ℕ)
    (name : List ℕ) (old new : M) (result : Result Found FindFault) : Type 0 where
  pub told : tells → IfOk result (λ found. given new ≡ given old ++ given_as name found ∷ [])
  pub untold : tells → OnErr result (given new ≡ given old)
  pub nameless : (IsFileName name → ⊥) → IfOk result (λ found. found ≡ Nothing)
  pub within : IfOk result IsWithin
  pub kept : posted new ≡ posted old
  pub failed : IsErrOf result Failed → Rose (faults old) (faults new)
  pub memory : IsErrOf result Memory → faults new ≡ faults old
  pub steady : OnOk result (faults new ≡ faults old)
  pub risen : faults old ≤ faults new

-- the message is put, and after a failure it is or it isn't
pub record Puts {M A E : Type 0} (tells : Type 0) (given : M → List Given) (posted : M → List Letter) (faults : M → ℕ)
    (letter : Letter) (old new : M) (result : Result A E) : Type 0 where
  pub told : tells → OnOk result (posted new ≡ posted old ++ letter ∷ [])
  pub either : tells → OnErr result ((posted new ≡ posted old) ⊎ (posted new ≡ posted old ++ letter ∷ []))
  pub kept : given new ≡ given old
  pub failed : OnErr result (Rose (faults old) (faults new))
  pub steady : OnOk result (faults new ≡ faults old)
  pub risen : faults old ≤ faults new
