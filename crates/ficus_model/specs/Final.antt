-- What is given up is given up for good.
use Rattle.std.specs.Prelude.{ℕ, List}
use Rattle.ficus_ids.specs.Members.{IsMember}
use Rattle.ficus_ids.specs.declared.id.Id.{Id}
use Rattle.ficus_model.specs.declared.event.Event.{Event}
use Rattle.ficus_model.specs.Events.{before}
use Rattle.ficus_model.specs.Held.{IsDropped, IsDone}
use Rattle.ficus_model.specs.Known.{Knows}
use Rattle.ficus_model.specs.Live.{IsRemoved, HasName}
use Rattle.ficus_model.specs.Versions.{IsVersion}

-- Where an object is done, its collector knew every version of it, past and to come, and no member has a live name
-- of it; and a removal of each entry that is dropped anywhere is known to every member.
pub record IsFinal (members : ℕ) (H : List Event) : Type 0 where
  pub versions : (replica position version : ℕ) (object : Id) → IsDone members H replica object position →
      IsVersion H object version → Knows (before position H) replica version
  pub nameless : (replica position member : ℕ) (object : Id) → IsDone members H replica object position →
      IsMember members member → HasName H (Knows H member) object → ⊥
  pub removed : (replica member : ℕ) (entry : Id) → IsDropped members H replica entry →
      IsMember members member → IsRemoved H (Knows H member) entry
