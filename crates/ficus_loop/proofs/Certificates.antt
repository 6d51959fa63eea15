-- What why is answered is what the model answers, whatever the world stands for.
use Rattle.std.proofs.Common.{ℕ, List, [], length, Ok, Err, refl, sym, ap, subst, ◌∙◌}
use Rattle.ficus_disk.specs.declared.disk.Disk.{Ghosts as Disk}
use Rattle.ficus_disk.specs.declared.pair.Pair.{Pair}
use Rattle.ficus_ids.specs.Members.{IsMember}
use Rattle.ficus_ids.specs.declared.refusal.Refusal.{Refusal}
use Rattle.ficus_ids.specs.declared.refusal.Refusal.TheVariants as refusal
use Rattle.ficus_keeper.specs.declared.keep.Keep.{Ghosts as Keep}
use Rattle.ficus_model.specs.Lawful.{Volume}
use Rattle.ficus_script.specs.declared.answer.Answer.{Answer}
use Rattle.ficus_script.specs.declared.answer.Answer.TheVariants as answer
use Rattle.ficus_script.specs.declared.command.Command.TheVariants.{Why}
use Rattle.ficus_why_runs.specs.Row.{Explains, run_of}
use Rattle.ficus_runs.specs.ModelWorld.{ModelWorld}
use Rattle.ficus_runs.specs.Run.{CommandMayWantMemory, Does, DoesPart, Step}
use Rattle.ficus_runs.specs.Sequence.{Effect}
use Rattle.ficus_runs.specs.Sequence.First.{Ends, Goes}
use Rattle.ficus_runs.specs.Sequence.ByRule.{Says}
use Rattle.ficus_runs.proofs.Numbers.{number_exists}
use Rattle.ficus_loop.proofs.Actions.{as_command, nothing_follows, nothing_stops, stops_command}
use Rattle.ficus_world.specs.Follows.{FollowsOn, StopsOn}
use Rattle.ficus_world.specs.World.{IsUpIn, Whole, WorldStandsFor}
use Rattle.ficus_world.proofs.Lifting.Following.{at_down, at_member, at_none, at_refused}
use Rattle.ficus_world.proofs.Lifting.OneWorld.{stored_from}
use Rattle.ficus_world.proofs.Lifting.Standing.{member_of, up_in}

module _ (volume : Volume) (W : ModelWorld) (world : Whole) (stands : WorldStandsFor volume W world) (by : ℕ) where
  -- there is no such member
  pub why_nobody : (IsMember (length world.members) by → ⊥) → Step volume W (Why by) [] (answer.Refused refusal.Member) W
  why_nobody none = record {
    result = Err refusal.Member;
    does = Ends (at_none volume W world stands by none);
    answer_is = refl;
  }

  -- it is down
  pub why_down : IsMember (length world.members) by → (IsUpIn world by → ⊥)
      → Step volume W (Why by) [] (answer.Refused refusal.Down) W
  why_down member down =
      let found = number_exists world.members by member in
      record {
        result = Err refusal.Down;
        does = Ends (at_down volume W world stands by found.0 found.1
            (λ up. down (record { member = found.0; is = found.1; up = up })));
        answer_is = refl;
      }

  -- the stored events are those of the run
  explained : (lines : List (List ℕ)) → Explains world.events by lines → Explains (run_of W.earlier W.events) by lines
  explained lines explains =
      subst (λ H. Explains H by lines)
      (stored_from world.events W.events stands.stored ∙ ap (λ n. run_of n W.events) stands.began) explains

  pub why_told : (lines : List (List ℕ)) → IsUpIn world by → Explains world.events by lines
      → Step volume W (Why by) [] (answer.Why lines) W
  why_told lines up explains = record {
    result = Ok (answer.Why lines);
    does = Goes (at_member volume W world stands by up.member up.is up.up) (Says (lines, explained lines explains, refl));
    answer_is = refl;
  }

  -- one that is up is refused nothing
  pub why_wanted : IsUpIn world by → CommandMayWantMemory volume W (Why by)
  why_wanted up = λ refusal left done does. told refusal left does
    where
      told : (refusal : Refusal) (left : Effect ModelWorld) → Does volume (Why by) W (Err refusal) left → ⊥
      told refusal left (Ends refused) =
          at_refused volume W world stands by (up_in volume W world stands by up.member up.is up.up)
          (member_of volume W world stands by up.is.member) refusal left refused
      told refusal left (Goes at (Says nothing)) = nothing

module _ {K D : Type 0} (keep : Keep K) (disk : Disk D) (volume : Volume) (W : ModelWorld) (world : Whole)
    (stands : WorldStandsFor volume W world) (by : ℕ) (disks : List (Pair D)) where
  -- nothing happens, and nothing is asked of the outside
  pub why_follows : (given : Answer) → Step volume W (Why by) [] given W
      → FollowsOn keep disk volume W world (Why by) given world disks disks
  why_follows given step =
      subst (λ (a : Answer). FollowsOn keep disk volume W world (Why by) a world disks disks) (sym step.answer_is)
      (as_command (Why by) step.result
      (nothing_follows (Does volume (Why by)) step.result W world disks stands step.does) (λ left does. does))

  -- also where memory is refused
  pub why_stops : StopsOn keep disk volume W world (Why by) world disks disks
  why_stops =
      stops_command {command = Why by} (nothing_stops (DoesPart volume (Why by)) W world disks stands refl)
