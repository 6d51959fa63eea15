-- Commands are counted one after the other.
use Rattle.std.proofs.Common.{◌≡◌, ℕ, ◌+◌, ◌<◌, List, [], ◌∷◌, cond, length, get_or, take, ap, arith}
use Rattle.std.proofs.lemmas.List.Sums.{sum_by-append, sum_by-cons}
use Rattle.ficus_disk.specs.declared.disk.Disk.{Ghosts as Disk}
use Rattle.ficus_disk.specs.declared.pair.Pair.{Pair}
use Rattle.ficus_keeper.specs.declared.keep.Keep.{Ghosts as Keep}
use Rattle.ficus_model.specs.Lawful.{Volume}
use Rattle.ficus_runs.specs.ModelWorld.{ModelWorld}
use Rattle.ficus_script.specs.declared.answer.Answer.{Answer}
use Rattle.ficus_script.specs.declared.answer.Answer.TheVariants.{Done, Made, Mail, Mails, Part, Collected, Told, Alike, Swept, Why, Refused}
use Rattle.ficus_script.specs.declared.command.Command.{Command}
use Rattle.ficus_loop.specs.Trail.{TrailOf}
use Rattle.ficus_loop.specs.Tally.{Tallies, is_no_refusal, is_refusal, with_answer}
use Rattle.ficus_loop.specs.declared.tally.Tally.{Tally}
use Rattle.ficus_loop.proofs.Serves.{world_more, world_none, world_one}
use Rattle.ficus_world.specs.Follows.{FollowsOn}
use Rattle.ficus_world.specs.Kills.{IsDeedOf}
use Rattle.ficus_world.specs.World.{Whole, WorldStandsFor}

-- it is either a refusal or none
pub one_more : (tally : Tally) (answer : Answer)
    → (with_answer tally answer).ok + (with_answer tally answer).no ≡ tally.ok + tally.no + 1
one_more tally Done = omega arith
one_more tally (Made id) = omega arith
one_more tally (Mail number) = omega arith
one_more tally (Mails first last) = omega arith
one_more tally (Part have of) = omega arith
one_more tally (Collected entries files) = omega arith
one_more tally (Told told) = omega arith
one_more tally (Alike alike) = omega arith
one_more tally (Swept pulls entries files) = omega arith
one_more tally (Why lines) = omega arith
one_more tally (Refused refusal) = omega arith

module _ {K D : Type 0} {keep : Keep K} {disk : Disk D} {volume : Volume} where
  -- no command
  pub tallies_none : (W : ModelWorld) (world : Whole) (tally : Tally) (disks : List (Pair D))
      → WorldStandsFor volume W world → Tallies keep disk volume W world [] world tally tally disks disks
  tallies_none W world tally disks stands = record {
    served = world_none W world [] disks stands;
    ok = omega arith;
    no = omega arith;
  }

  -- one command
  pub tallies_one : (W : ModelWorld) (before : Whole) (command : Command) (answer : Answer) (world : Whole)
      (old new : Tally) (old_disks new_disks : List (Pair D))
      → (on : FollowsOn keep disk volume W before command answer world old_disks new_disks)
      → (disk.tells → TrailOf keep.kept disk volume (IsDeedOf command) W on.follows.after old_disks new_disks)
      → new ≡ with_answer old answer
      → Tallies keep disk volume W before (command ∷ []) world old new old_disks new_disks
  tallies_one W before command answer world old new old_disks new_disks on trail is = record {
    served = world_one W before command answer world old_disks new_disks on trail [] [] (λ told. absurd told);
    ok = omega (
      arith,
      ap (λ (tally : Tally). tally.ok) is,
      sum_by-cons (λ a. cond (is_no_refusal a) 1 0) answer [],
    );
    no = omega (
      arith,
      ap (λ (tally : Tally). tally.no) is,
      sum_by-cons (λ a. cond (is_refusal a) 1 0) answer [],
    );
  }

  -- the first commands, and the next one
  pub tallies_more : {W : ModelWorld} {before world : Whole} {none so_far : Tally}
      {old_disks mid_disks : List (Pair D)} (commands : List Command) (index : ℕ) (command : Command) (next : Whole)
      (tally : Tally) (new_disks : List (Pair D)) → index < length commands → command ≡ get_or commands index command
      → Tallies keep disk volume W before (take index commands) world none so_far old_disks mid_disks
      → ((M : ModelWorld) → WorldStandsFor volume M world
      → Tallies keep disk volume M world (command ∷ []) next so_far tally mid_disks new_disks)
      → Tallies keep disk volume W before (take (index + 1) commands) next none tally old_disks new_disks
  tallies_more commands index command next tally new_disks within is first step =
      let behind = step first.served.after first.served.stands in
      record {
        served = world_more commands index command next new_disks within is first.served
            (λ M stands. (step M stands).served);
        ok = omega (
          arith,
          behind.ok,
          first.ok,
          sum_by-append (λ a. cond (is_no_refusal a) 1 0) first.served.serves.answers behind.served.serves.answers,
        );
        no = omega (
          arith,
          behind.no,
          first.no,
          sum_by-append (λ a. cond (is_refusal a) 1 0) first.served.serves.answers behind.served.serves.answers,
        );
      }
