-- How a run begins.
use Rattle.std.specs.Prelude.{ℕ, Bool, List, [], ◌++◌, length, map, replicate}
use Rattle.std.specs.List.{range_with_len}
use Rattle.ficus_model.specs.declared.event.Event.{Event}
use Rattle.ficus_model.specs.declared.event.Event.TheVariants.{Restart}
use Rattle.ficus_model.specs.Lawful.{Volume}
use Rattle.ficus_runs.specs.ModelWorld.{ModelWorld, Up}

-- a volume with the default limits: a replica makes 100,000 updates over its life, and writes 4 MiB
abbrev pub default_volume : ℕ → Volume
default_volume members = record { members = members; ids = 100000; bytes = 4194304 }

-- one restart of each member, in rising order
abbrev pub restarts : ℕ → List Event
restarts members = map (λ r. Restart r) (range_with_len 1 members)

-- Behind an earlier history the members have restarted, and all are up. These of them have a fuse on both disks.
-- Nothing is posted, over a link that counts so many bytes as posted already.
abbrev pub start : List Event → ℕ → ℕ → List Bool → ModelWorld
start earlier members total fused = record {
  events = earlier ++ restarts members;
  earlier = length earlier;
  standings = replicate members Up;
  fused = fused;
  posted = [];
  total = total;
}
