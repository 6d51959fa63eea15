-- A run behind what had happened before it.
use Rattle.std.specs.Prelude.{◌≢◌, ℕ, ◌+◌, ◌<◌, List, ◌++◌, length, map}
use Rattle.ficus_model.specs.declared.event.Event.{Event}
use Rattle.ficus_model.specs.Events.{raised}
use Rattle.ficus_model.specs.Known.{Knows}
use Rattle.ficus_model.specs.Versions.{HasBytes, IsShown}
use Rattle.ficus_why.specs.declared.clash.Clash.{Clash}

-- what happened earlier, and the run behind it, whose positions are raised by as many
abbrev pub continued : List Event → List Event → List Event
continued earlier H = earlier ++ map (raised (length earlier)) H

-- In the whole history the replica shows two versions of the file which differ in bytes. Both were written behind so
-- many events, where their positions are those of the clash.
pub record ShowsDiffering (K : List Event) (earlier : ℕ) (clash : Clash) : Type 0 where
  pub order : clash.first < clash.second
  pub one : List ℕ
  pub other : List ℕ
  pub first_shown : IsShown K (Knows K clash.replica) clash.file (earlier + clash.first)
  pub second_shown : IsShown K (Knows K clash.replica) clash.file (earlier + clash.second)
  pub first_has : HasBytes K (earlier + clash.first) one
  pub second_has : HasBytes K (earlier + clash.second) other
  pub differ : one ≢ other
