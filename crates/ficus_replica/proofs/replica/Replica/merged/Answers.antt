use Rattle.ficus_replica.proofs.replica.Replica.merged.Goals as goal

pub returns : goal.returns
returns c = record {
  rising = c.in_ok-merged.ensures.rising;
  merges = rw c.in_ok-held.ensures at c.in_ok-merged.ensures.merged;
  held = c.in_ok-both.ensures.files;
  merges_files = rw (← c.requires.mine) c.in_ok-both.ensures.merged;
}
