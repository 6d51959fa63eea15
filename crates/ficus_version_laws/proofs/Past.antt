-- The pasts of versions, and where versions stand.
use Rattle.std.proofs.Common.{ℕ, ◌<◌, List, length}
use Rattle.ficus_ids.specs.declared.id.Id.{Id}
use Rattle.ficus_model.specs.declared.event.Event.{Event}
use Rattle.ficus_model.specs.Events.{IsOf}
use Rattle.ficus_model.specs.Known.{HasSeen, HasInPast}
use Rattle.ficus_model.specs.Known.HasSeen.{Itself, Earlier}
use Rattle.ficus_model.specs.Versions.{IsVersion, IsCovering}
use Rattle.ficus_laws.proofs.Updates.{update_within}
use Rattle.ficus_laws.proofs.Seen.{seen_before}
use Rattle.ficus_laws.proofs.Knowledge.{knows_past}
use Rattle.ficus_laws.proofs.Past.{past_earlier}

pub version_within : {H : List Event} {file : Id} {position : ℕ} → IsVersion H file position → position < length H
version_within v = update_within v.update

pub covering_within : {H : List Event} {object : Id} {position : ℕ} → IsCovering H object position → position < length H
covering_within c = update_within c.update

-- what an event in the past has seen is in the past
pub past_sees : {H : List Event} {late middle early : ℕ} →
    HasInPast H late middle → HasSeen H middle early → HasInPast H late early
past_sees p s = record {
  replica = p.replica;
  own = p.own;
  known = knows_past p.known (seen_before (past_earlier p) s);
}

-- an event of a replica has seen each earlier one of it
pub seen_own : {H : List Event} {at old replica : ℕ} → IsOf H at replica → IsOf H old replica → old < at →
    HasSeen H at old
seen_own o p l = Earlier o p l (Itself p)
