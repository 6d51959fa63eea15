use Rattle.std.proofs.Common.{ℕ, ◌<◌, get_or}
use Rattle.std.specs.Prelude.{Contains}
use Rattle.ficus_ids.specs.declared.id.Id.{Id}
use Rattle.ficus_mentions.specs.Touched.{touched_by}
use Rattle.ficus_mentions.proofs.touching.have_own_entries.Given as goal

abbrev pub invariant-loop-id : goal.invariant-loop-id
invariant-loop-id l = (k : ℕ) (d : Id) → k < l.id-index → Contains (touched_by l.entries) (get_or l.ids k d)
