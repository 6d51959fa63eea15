use Rattle.std.proofs.Common.{◌≡◌, ℕ, ◌&&◌, nat_le, nat_lt}
use Rattle.ficus_ids.specs.Marks.{has}
use Rattle.ficus_merge_entries.proofs.table.everyone.Given as goal

abbrev pub invariant-loop-member : goal.invariant-loop-member
invariant-loop-member l = (replica : ℕ) → has l.everyone replica ≡ (nat_le 1 replica && nat_lt replica l.member)
