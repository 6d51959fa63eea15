-- What a write over what a disk in memory holds is to the disk.
use Rattle.std.proofs.Common.{◌≡◌, ◌≤◌, ℕ, List, length, Result, Ok, Err, ap, rules}
use Rattle.std.specs.Prelude.{OnErr, OnOk, ⊤}
use Rattle.ficus_disk.specs.Bytes.{Torn}
use Rattle.ficus_disk.specs.Calls.{Writes}
use Rattle.ficus_disk.specs.Crash.{Follows}
use Rattle.ficus_disk.specs.Platter.{Held, Leaves, overwritten}

where_passed : {A E P : Type 0} (result : Result A E) → P → OnOk result P
where_passed (Ok a) p = p
where_passed (Err e) p = tt

pub where_failed : {A E P : Type 0} (result : Result A E) → P → OnErr result P
where_failed (Ok a) p = tt
where_failed (Err e) p = p

-- a call that passes has written the bytes, and one that fails has begun to
pub writes_over : {D A E : Type 0} (held : D → Held) (room : D → ℕ) (at : ℕ) (bytes : List ℕ) (old new : D)
    (result : Result A E) → held new ≡ overwritten at bytes (held old)
    → Torn at (length bytes) (held old).bytes (held new).bytes
    → Follows (Torn at (length bytes)) (Leaves (held old)) (Leaves (held new)) → room old ≤ room new
    → Writes ⊤ (λ d. (held d).bytes) (λ d. Leaves (held d)) (λ _. 0) (λ _ _ _. ⊥) room at bytes old new result
writes_over held room at bytes old new result is torn crash wide = record {
  written = λ _. where_passed result (ap (λ (h : Held). h.bytes) is);
  begun = λ _. where_failed result torn;
  crash = crash;
  moments = search rules;
  room = wide;
}
