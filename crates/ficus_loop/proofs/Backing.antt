-- The disks are those of the world still, from one call to the next.
use Rattle.std.proofs.Common.{ℕ, ◌+◌, ◌≤◌, List, Result, length, refl, subst, ◌∙◌, arith}
use Rattle.std.specs.Prelude.{Vec}
use Rattle.std.specs.declared.alloc.Global.{Global}
use Rattle.ficus_disk.specs.declared.disk.Disk.{Ghosts as Disk}
use Rattle.ficus_disk.specs.declared.pair.Pair.{Pair}
use Rattle.ficus_keeper.specs.declared.keep.Keep.{Ghosts as Keep}
use Rattle.ficus_script.specs.declared.answer.Answer.{Answer}
use Rattle.ficus_script.specs.declared.command.Command.{Command}
use Rattle.ficus_opening.specs.Rests.{OthersStay}
use Rattle.ficus_opening.proofs.Others.{others_none, others_then}
use Rattle.ficus_world.specs.Disks.{IsBacked}
use Rattle.ficus_world.specs.Calls.{Steps}
use Rattle.ficus_world.specs.World.{Backed, most_unforeseen}
use Rattle.ficus_loop.specs.Calls.{StaysBacked}

module _ {K D : Type 0} {keep : Keep K} {disk : Disk D} where
  -- nothing was called
  pub backed_none : (most : ℕ) (world : Backed K) (disks : List (Pair D)) → IsBacked keep disk world disks
      → StaysBacked keep disk most world world disks disks
  backed_none most world disks backed = record {
    others = others_none (length world.whole.members) disks;
    backed = backed;
    members = refl;
    pairs = refl;
    grows = omega arith;
  }

  -- a step of the world
  pub step_backed : {E tells : Type 0} {command : Command} {result : Result Answer E} {old new : Backed K}
      {was now : Vec (Pair D) Global} → Steps tells keep disk command result old new was now
      → StaysBacked keep disk most_unforeseen old new was.items now.items
  step_backed step = record {
    others = step.others;
    backed = step.backed;
    members = step.members;
    pairs = step.pairs;
    grows = step.grows;
  }

  -- one call, and then another
  pub backed_then : {one other : ℕ} {old mid new : Backed K} {old_disks mid_disks new_disks : List (Pair D)} (most : ℕ)
      → one + other ≤ most → StaysBacked keep disk one old mid old_disks mid_disks
      → StaysBacked keep disk other mid new mid_disks new_disks → StaysBacked keep disk most old new old_disks new_disks
  backed_then {old} {old_disks} {mid_disks} {new_disks} most within first second = record {
    others = others_then (length old.whole.members) old_disks mid_disks new_disks first.others
        (subst (λ n. OthersStay n mid_disks new_disks) first.members second.others);
    backed = second.backed;
    members = second.members ∙ first.members;
    pairs = second.pairs ∙ first.pairs;
    grows = omega (arith, first.grows, second.grows, within);
  }

  -- more may be foreseen
  pub backed_within : {few : ℕ} {old new : Backed K} {old_disks new_disks : List (Pair D)} (most : ℕ) → few ≤ most
      → StaysBacked keep disk few old new old_disks new_disks → StaysBacked keep disk most old new old_disks new_disks
  backed_within most within stays = record {
    others = stays.others;
    backed = stays.backed;
    members = stays.members;
    pairs = stays.pairs;
    grows = omega (arith, stays.grows, within);
  }
