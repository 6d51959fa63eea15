-- What commands come to on a fresh world, and what its members hold.
use Rattle.std.specs.Prelude.{◌≡◌, ℕ, ◌+◌, List, length, count_by}
use Rattle.ficus_replica.specs.declared.replica.Replica.{Replica}
use Rattle.ficus_runs.specs.ModelWorld.{ModelWorld, Standing, Up}
use Rattle.ficus_runs.specs.Numbered.{IsNumbered}
use Rattle.ficus_runs.specs.Outcome.{Outcome}
use Rattle.ficus_runs.specs.Run.{EachDone, Run}
use Rattle.ficus_runs.specs.Start.{default_volume}
use Rattle.ficus_script.specs.declared.answer.Answer.{Answer}
use Rattle.ficus_script.specs.declared.command.Command.{Command}
use Rattle.ficus_loop.specs.Tally.{is_no_refusal, is_refusal}
use Rattle.ficus_top.specs.Summary.Summary.{fresh_start}
use Rattle.ficus_opening.specs.Check.Holding.{holding_of}
use Rattle.ficus_top.specs.declared.summary.counts.Counts.{Counts}
use Rattle.ficus_opening.specs.declared.check.holding.Holding.{Holding}
use Rattle.ficus_world.specs.World.{IsReplica, Whole, WorldStandsFor}

-- The commands were carried out from a fresh start on, and all that they asked of the outside was done. All members are
-- up, the counts are those of the run, and the world stands for what it led to.
pub record CountedAs (members : ℕ) (commands : List Command) (counts : Counts) (world : Whole) : Type 0 where
  pub outcomes : List (List Outcome)
  pub answers : List Answer
  pub after : ModelWorld
  pub run : Run (default_volume members) (fresh_start members) commands outcomes answers after
  pub done : EachDone outcomes
  pub up : (r : ℕ) (standing : Standing) → IsNumbered after.standings r standing → standing ≡ Up
  pub stands : WorldStandsFor (default_volume members) after world
  pub lines : counts.lines ≡ length commands
  pub ok : counts.ok ≡ count_by is_no_refusal answers
  pub no : counts.no ≡ count_by is_refusal answers
  pub events : length after.events ≡ length (fresh_start members).events + counts.events

-- each of so many members holds so much
pub record HoldingsIn (world : Whole) (members : ℕ) (holdings : List Holding) : Type 0 where
  pub counted : length holdings ≡ members
  pub each : (r : ℕ) (holding : Holding) → IsNumbered holdings r holding → (replica : Replica)
      × IsReplica world.members r replica × (holding ≡ holding_of replica.saved.entries replica.saved.files)
