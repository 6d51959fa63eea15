use Rattle.std.proofs.Common.{◌≡◌}
use Rattle.ficus_resolve.proofs.Versions.{kept_before}
use Rattle.ficus_resolve.proofs.keep.kept_in_order.Given as goal

-- the text so far has the versions so far
abbrev pub invariant-loop-index : goal.invariant-loop-index
invariant-loop-index l = l.text.items ≡ kept_before l.versions l.index
