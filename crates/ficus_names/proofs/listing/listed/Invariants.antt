use Rattle.ficus_names.proofs.Listed.{IsListedUpTo}
use Rattle.ficus_names.proofs.listing.listed.Given as goal

abbrev pub invariant-loop-index : goal.invariant-loop-index
invariant-loop-index l = IsListedUpTo l.bindings l.index l.names.items
