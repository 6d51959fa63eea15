use Rattle.std.proofs.Common.{ℕ, ◌<◌, get_or}
use Rattle.ficus_entry.specs.declared.entry.Entry.{Entry}
use Rattle.ficus_entry.specs.Inside.{IsOtherName}
use Rattle.ficus_entry.proofs.inside.any_other_name.Given as goal

abbrev pub invariant-loop-index : goal.invariant-loop-index
invariant-loop-index l = (k : ℕ) (d : Entry) → k < l.index →
    IsOtherName l.fn.dir l.name l.fn.target (get_or l.entries k d) → ⊥
