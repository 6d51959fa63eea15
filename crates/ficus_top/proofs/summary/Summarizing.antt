-- What the commands of a script come to.
use Rattle.std.proofs.Common.{◌≡◌, ℕ, ◌≤◌, Bool, true, List, [], ◌∷◌, length, take, refl, ap, ◌∙◌}
use Rattle.std.specs.Prelude.{replicate}
use Rattle.std.proofs.lemmas.List.{take-replicate}
use Rattle.ficus_disk.specs.MemDisk.{armings_in}
use Rattle.ficus_disk.specs.declared.mem_disk.MemDisk.{MemDisk}
use Rattle.ficus_disk.specs.declared.pair.Pair.{Pair}
use Rattle.ficus_runs.specs.Start.{default_volume}
use Rattle.ficus_script.specs.declared.command.Command.{Command}
use Rattle.ficus_opening.specs.Opening.{fuses_in}
use Rattle.ficus_world.specs.World.{Whole}
use Rattle.ficus_top.specs.Summary.Running.{CountedAs, HoldingsIn}
use Rattle.ficus_top.specs.Summary.Summary.{ComesTo}
use Rattle.ficus_top.specs.declared.summary.counts.Counts.{Counts}
use Rattle.ficus_opening.specs.declared.check.holding.Holding.{Holding}
use Rattle.ficus_top.proofs.summary.Holdings.{are_holdings}

-- every disk in memory has a fuse
fused_so : (disks : List (Pair MemDisk)) → fuses_in armings_in disks ≡ replicate (length disks) true
fused_so [] = refl
fused_so (pair ∷ disks) = ap (λ (fused : List Bool). true ∷ fused) (fused_so disks)

pub all_fused : (members : ℕ) (disks : List (Pair MemDisk)) → members ≤ length disks
    → take members (fuses_in armings_in disks) ≡ replicate members true
all_fused members disks within =
    ap (λ (fused : List Bool). take members fused) (fused_so disks)
    ∙ take-replicate members (length disks) true within

-- what was counted, and what the members hold at the end
pub comes_to : (members : ℕ) (commands : List Command) (counts : Counts) (world : Whole) (holdings : List Holding)
    → CountedAs members commands counts world → HoldingsIn world members holdings
    → ComesTo members commands counts holdings
comes_to members commands counts world holdings counted held = record {
  outcomes = counted.outcomes;
  answers = counted.answers;
  after = counted.after;
  run = counted.run;
  done = counted.done;
  lines = counted.lines;
  ok = counted.ok;
  no = counted.no;
  events = counted.events;
  held = are_holdings (default_volume members) counted.after world counted.stands holdings held;
}
