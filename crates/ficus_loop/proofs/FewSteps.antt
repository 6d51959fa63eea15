-- Collections give up few: of what members may issue no replica holds more.
use Rattle.std.proofs.Common.{ℕ, ◌≤◌, List, [], ◌∷◌, Result, Ok, Err, sym, ap, subst, arith}
use Rattle.ficus_disk.specs.declared.disk.Disk.{Ghosts as Disk}
use Rattle.ficus_disk.specs.declared.pair.Pair.{Pair}
use Rattle.ficus_ids.specs.declared.refusal.Refusal.{Refusal}
use Rattle.ficus_keeper.specs.declared.keep.Keep.{Ghosts as Keep}
use Rattle.ficus_replica.specs.Collect.{CollectGives}
use Rattle.ficus_replica.specs.declared.collect.Collected.{Collected}
use Rattle.ficus_replica.specs.declared.replica.Replica.{Replica}
use Rattle.ficus_runs.specs.Actions.{GivesOnly}
use Rattle.ficus_runs.specs.Answers.{answer_as}
use Rattle.ficus_runs.specs.Exchange.{mails_of}
use Rattle.ficus_runs.specs.Sequence.{Effect}
use Rattle.ficus_runs.specs.Sequence.First.{Ends, Goes}
use Rattle.ficus_runs.specs.Sequence.ByRule.{Says}
use Rattle.ficus_runs.specs.Sweep.{Collecting, Pulling, SweepStep, command_of}
use Rattle.ficus_durable_state.specs.Saved.{FitsImage}
use Rattle.ficus_durable_state.proofs.Countable.{few_entries, few_files}
use Rattle.ficus_script.specs.declared.answer.Answer.{Answer}
use Rattle.ficus_script.specs.declared.answer.Answer.TheVariants as answer
use Rattle.ficus_script.specs.declared.command.Command.{Command}
use Rattle.ficus_script.specs.declared.command.Command.TheVariants as command
use Rattle.ficus_loop.specs.SweepFollows.{GivesUpFew, IsSweepCommand, most_held}
use Rattle.ficus_opening.specs.declared.member.Member.{Member}
use Rattle.ficus_world.specs.Moves.{CarriesOut, GivesMessages, KeepsCollection}
use Rattle.ficus_world.specs.Moves.FindsUp.{FindsAt, FindsNoneAt, FindsDown}
use Rattle.ficus_world.specs.Moves.KeepsCollection.{Collects, CollectsNot}
use Rattle.ficus_world.specs.Stepped.{Stepped}
use Rattle.ficus_world.specs.World.{IsWorld, Whole}

-- a replica gives up no more than it holds
gives_few : (old : Replica) (given : Collected) → FitsImage old.saved → CollectGives old given
    → (given.entries ≤ most_held) × (given.files ≤ most_held)
gives_few old given fits gives =
    let saved = old.saved in (
      omega (
        arith,
        few_entries saved.members saved.entries saved.files fits.members fits.tables,
        gives.left.entries_counted,
        ap (λ (c : Collected). c.entries) gives.is,
      ),
      omega (
        arith,
        few_files saved.members saved.entries saved.files fits.members fits.tables,
        gives.left.files_counted,
        ap (λ (c : Collected). c.files) gives.is,
      ),
    )

module _ (tells disks_tell : Type 0) (old : Whole) where
  keeps_few : (by : ℕ) (was : Member) (result : Result Answer Refusal) (left : Effect Whole) → FitsImage was.replica.saved
      → KeepsCollection by was old result left → GivesUpFew (answer_as result)
  keeps_few by was result left fits (Collects {given = given} gives) = gives_few was.replica given fits gives
  keeps_few by was result left fits (CollectsNot gives) = tt

  collects_few : IsWorld old → (by : ℕ) (result : Result Answer Refusal) (left : Effect Whole)
      → CarriesOut tells disks_tell (command.Collect by) old result left → GivesUpFew (answer_as result)
  collects_few world by result left (Ends (FindsNoneAt none)) = tt
  collects_few world by result left (Ends (FindsDown is down)) = tt
  collects_few world by result left (Goes {left = l} (FindsAt {member = was} is up) keeps) =
      keeps_few by was result l (world.sound by was is).replica.fits keeps

  done_few : (middle : Whole) (result : Result Answer Refusal) (left : Effect Whole)
      → GivesOnly answer.Done middle result left → GivesUpFew (answer_as result)
  done_few middle (Ok given) left (Says is) = subst GivesUpFew (sym is) tt
  done_few middle (Err refusal) left given = tt

  messages_few : (numbers : List ℕ) (middle : Whole) (result : Result Answer Refusal) (left : Effect Whole)
      → GivesMessages tells numbers middle result left → GivesUpFew (answer_as result)
  messages_few [] middle result left done = done_few middle result left done
  messages_few (number ∷ numbers) middle result left (Ends is) = tt
  messages_few (number ∷ numbers) middle result left (Goes {middle = m} {left = l} is rest) =
      messages_few numbers m.after result l rest

  pulls_few : (by to : ℕ) (result : Result Answer Refusal) (left : Effect Whole)
      → CarriesOut tells disks_tell (command.Pull by to) old result left → GivesUpFew (answer_as result)
  pulls_few by to result left (Ends is) = tt
  pulls_few by to result left (Goes peers (Ends is)) = tt
  pulls_few by to result left (Goes peers (Goes asks (Ends is))) = tt
  pulls_few by to result left (Goes peers (Goes asks (Goes {a = given} {middle = m} {left = l} gives next))) =
      messages_few (mails_of given) m.after result l next

-- no step of a sweep gives up more
pub steps_give_few : {K D : Type 0} (tells : Type 0) (keep : Keep K) (disk : Disk D) {old new : Whole}
    {x y : List (Pair D)} (command : Command) (given : Answer) → IsSweepCommand command → IsWorld old
    → Stepped tells keep disk old command given new x y → GivesUpFew given
steps_give_few tells keep disk {old} {new} command given (step, same) world stepped =
    subst GivesUpFew (sym stepped.moves.answer_is) (go step
    (subst (λ c. CarriesOut tells disk.tells c old stepped.moves.result left) same stepped.moves.does))
  where
    left : Effect Whole
    left = record { outcomes = stepped.outcomes; after = new }

    go : (step : SweepStep) → CarriesOut tells disk.tells (command_of step) old stepped.moves.result left
        → GivesUpFew (answer_as stepped.moves.result)
    go (Pulling by to) does = pulls_few tells disk.tells old by to stepped.moves.result left does
    go (Collecting by) does = collects_few tells disk.tells old world by stepped.moves.result left does
