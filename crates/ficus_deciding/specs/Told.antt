-- Answers in their own type, of which rules speak as what is told.
use Rattle.std.specs.Prelude.{Result, Ok, Err}
use Rattle.ficus_ids.specs.declared.refusal.Refusal.{Refusal}

-- so it is answered where what is given is told in this way; a refusal is told as it is
abbrev pub ToldAs : {A B : Type 0} → (A → B) → (Result B Refusal → Type 0) → Result A Refusal → Type 0
ToldAs told_as IsAnswer (Ok a) = IsAnswer (Ok (told_as a))
ToldAs told_as IsAnswer (Err refusal) = IsAnswer (Err refusal)
