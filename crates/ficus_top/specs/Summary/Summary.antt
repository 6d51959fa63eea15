-- What a generated script comes to.
use Rattle.std.specs.Prelude.{◌≡◌, ℕ, ◌+◌, true, List, [], length, count_by, replicate}
use Rattle.ficus_generator.specs.Script.{script_lines, text_of}
use Rattle.ficus_model.specs.Lawful.{Volume}
use Rattle.ficus_model.specs.declared.event.Event.{Event}
use Rattle.ficus_replica.specs.SavedOf.{IsSavedOf}
use Rattle.ficus_runs.specs.ModelWorld.{ModelWorld}
use Rattle.ficus_runs.specs.Numbered.{IsNumbered}
use Rattle.ficus_runs.specs.Outcome.{Outcome}
use Rattle.ficus_runs.specs.Run.{EachDone, Run}
use Rattle.ficus_runs.specs.Start.{default_volume, start}
use Rattle.ficus_durable_state.specs.declared.saved.Saved.{Saved}
use Rattle.ficus_script.specs.Script.{IsScript}
use Rattle.ficus_script.specs.declared.answer.Answer.{Answer}
use Rattle.ficus_script.specs.declared.command.Command.{Command}
use Rattle.ficus_loop.specs.Tally.{is_no_refusal, is_refusal}
use Rattle.ficus_opening.specs.Check.Holding.{holding_of}
use Rattle.ficus_top.specs.Summary.Text.{summary_text}
use Rattle.ficus_top.specs.declared.summary.counts.Counts.{Counts}
use Rattle.ficus_opening.specs.declared.check.holding.Holding.{Holding}

-- the members hold so much after the history
pub record AreHoldings (volume : Volume) (H : List Event) (holdings : List Holding) : Type 0 where
  pub counted : length holdings ≡ volume.members
  pub each : (r : ℕ) (holding : Holding) → IsNumbered holdings r holding
      → (saved : Saved) × IsSavedOf volume H r saved × (holding ≡ holding_of saved.entries saved.files)

-- how a script runs for so many members: on a fresh volume with the default limits, all of whose disks have a fuse
abbrev pub fresh_start : ℕ → ModelWorld
fresh_start members = start [] members 0 (replicate members true)

-- What the commands come to, where all that they ask of the outside is done: how many there are; how many answers are
-- no refusals, and how many are; how many events the commands append; and what each member holds at the end.
pub record ComesTo (members : ℕ) (commands : List Command) (counts : Counts) (holdings : List Holding) : Type 0 where
  pub outcomes : List (List Outcome)
  pub answers : List Answer
  pub after : ModelWorld
  pub run : Run (default_volume members) (fresh_start members) commands outcomes answers after
  pub done : EachDone outcomes
  pub lines : counts.lines ≡ length commands
  pub ok : counts.ok ≡ count_by is_no_refusal answers
  pub no : counts.no ≡ count_by is_refusal answers
  pub events : length after.events ≡ length (fresh_start members).events + counts.events
  pub held : AreHoldings (default_volume members) after.events holdings

-- the text is that of what the script of a seed comes to, over so many steps, for so many members
pub record Summarizes (members seed steps : ℕ) (text : List ℕ) : Type 0 where
  pub commands : List Command
  pub script : IsScript (text_of (script_lines seed steps members)) commands
  pub counts : Counts
  pub holdings : List Holding
  pub comes_to : ComesTo members commands counts holdings
  pub told : text ≡ summary_text counts holdings
