use Rattle.ficus_names.proofs.Leads.{AreLeads}
use Rattle.ficus_names.proofs.clash.leads_of.Given as goal

abbrev pub invariant-loop-index : goal.invariant-loop-index
invariant-loop-index l = AreLeads l.leads.items l.entries l.index
