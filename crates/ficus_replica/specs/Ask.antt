-- `ask`: what it gives.
use Rattle.std.specs.Prelude.{◌≡◌, ℕ, ◌+◌, Some}
use Rattle.ficus_replica.specs.declared.replica.Replica.{Replica}

-- saved once more, with an open ask of that generation, and else as before
abbrev pub AskGives : Replica → ℕ → Replica → Type 0
AskGives old to new = new ≡ record {
  saved = record old.saved { generation = old.saved.generation + 1 };
  ask = Some (record { to = to; number = old.saved.generation + 1 });
}
