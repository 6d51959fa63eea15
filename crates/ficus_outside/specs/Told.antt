-- What a system was asked to print, and what it answered.
use Rattle.std.specs.Prelude.{◌≡◌, ℕ, List, [], ◌∷◌, ◌++◌, take, ⊤, Option, Some, None, Result, Ok, Err}

-- a call with its answer
pub data Told : Type 0 where
  -- of these bytes it took so many, from the front
  Took : (bytes : List ℕ) → (count : ℕ) → Told
  -- it took none of these bytes
  Refused : (bytes : List ℕ) → Told

-- the call to print these bytes, answered so
abbrev pub call_of : {E : Type 0} → List ℕ → Result ℕ E → Told
call_of bytes (Ok count) = Took bytes count
call_of bytes (Err error) = Refused bytes

-- where it tells its calls, there is this one more
abbrev pub IsAsked : Option (List Told) → Option (List Told) → Told → Type 0
IsAsked None new call = ⊤
IsAsked (Some calls) None call = ⊥
IsAsked (Some calls) (Some more) call = more ≡ calls ++ call ∷ []

-- what it took of one call
abbrev pub taken : Told → List ℕ
taken (Took bytes count) = take count bytes
taken (Refused bytes) = []

-- what it took, in order
abbrev pub shown : List Told → List ℕ
shown [] = []
shown (call ∷ calls) = taken call ++ shown calls
