use Rattle.ficus_stable_storage.proofs.leads.Splitting.{IsLedTo}
use Rattle.ficus_stable_storage.proofs.leads.following.led_by.Given as goal

abbrev pub invariant-records : goal.invariant-records
invariant-records l = IsLedTo l.fn.records.items l.fn.base l.replica.saved l.body-iterator.rest.items
