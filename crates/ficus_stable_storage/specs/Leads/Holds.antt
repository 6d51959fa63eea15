-- What a pair of disks holds of what a replica saves: an image, and records behind it.
use Rattle.std.specs.Prelude.{◌≡◌, ℕ, List, Option, Some}
use Rattle.ficus_image.specs.Image.{IsImageOf}
use Rattle.ficus_keeper.specs.Kept.{Kept}
use Rattle.ficus_stable_storage.specs.Leads.Chain.{LeadAll}
use Rattle.ficus_record.specs.Record.{record_bytes}
use Rattle.ficus_record.specs.declared.record.Record.{Record}
use Rattle.ficus_replica.specs.Makes.{IsNoted}
use Rattle.ficus_durable_state.specs.declared.saved.Saved.{Saved}

-- the bytes spell a record that fits what was saved, and this is what it makes of it
pub record Leads (bytes : List ℕ) (old new : Saved) : Type 0 where
  pub noted : Record
  pub is : bytes ≡ record_bytes old.members noted
  pub step : IsNoted old noted new

-- what a keeper found holds this: its image spells something of its own generation, from which its records lead to it,
-- one after the other
pub record Holds (found : Option Kept) (saved : Saved) : Type 0 where
  pub base : Saved
  pub image : List ℕ
  pub spelled : IsImageOf image base
  pub records : List (List ℕ)
  pub is : found ≡ Some (record { generation = base.generation; image = image; records = records })
  pub leads : LeadAll Leads records base saved

-- what a keeper found holds one thing at most
abbrev pub OneHeld : Type 0
OneHeld = (found : Option Kept) (one other : Saved) → Holds found one → Holds found other → one ≡ other
