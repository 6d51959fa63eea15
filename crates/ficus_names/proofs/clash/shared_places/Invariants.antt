use Rattle.ficus_names.proofs.Leads.{ArePlaces}
use Rattle.ficus_names.proofs.clash.shared_places.Given as goal

abbrev pub invariant-loop-index : goal.invariant-loop-index
invariant-loop-index l = ArePlaces l.leads l.index l.places.items
