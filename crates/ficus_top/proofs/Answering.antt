-- What was answered to the commands of a script, behind a lawful history.
use Rattle.std.proofs.Common.{◌≡◌, ℕ, List, subst}
use Rattle.ficus_disk.specs.declared.disk.Disk.{Ghosts as Disk}
use Rattle.ficus_disk.specs.declared.pair.Pair.{Pair}
use Rattle.ficus_model.specs.declared.event.Event.{Event}
use Rattle.ficus_model.specs.Lawful.{IsLawful, Volume}
use Rattle.ficus_script.specs.declared.answer.Answer.{Answer}
use Rattle.ficus_script.specs.declared.command.Command.{Command}
use Rattle.ficus_script.specs.Script.{IsScript}
use Rattle.ficus_runs.specs.Fuses.{FuseState}
use Rattle.ficus_runs.specs.ModelWorld.{ModelWorld}
use Rattle.ficus_runs.specs.Outcome.{Outcome}
use Rattle.ficus_runs.specs.Start.{start}
use Rattle.ficus_runs.proofs.Runs.{part_lawful, run_lawful}
use Rattle.ficus_runs.proofs.Starts.{start_lawful}
use Rattle.ficus_top.specs.Ends.{Ends, EndsFront}
use Rattle.ficus_top.specs.Headline.{Answers, AnswersFront, fuses_of}
use Rattle.ficus_loop.specs.Serving.{IsCut}
use Rattle.ficus_loop.specs.Serving.IsCut.{Uncut, CutIn}
use Rattle.ficus_top.proofs.Ends.{front_ends_where}
use Rattle.ficus_top.proofs.Returning.{sound_of}

-- what a command has done that was cut short leaves a lawful history lawful
cut_lawful : {may : Type 0} {volume : Volume} {W after : ModelWorld} {last : List Answer} {commands : List Command}
    {outcomes : List Outcome} → IsCut may volume W last commands outcomes after → IsLawful volume W.events
    → IsLawful volume after.events
cut_lawful Uncut lawful = lawful
cut_lawful {volume = volume} {W = W} (CutIn {command = command} {left = l} allowed does) lawful =
    part_lawful volume command W l lawful does

module _ {D tells : Type 0} {disk : Disk D} {Rest : (ℕ → FuseState) → Type 0} {volume : Volume} {earlier : List Event}
    {script before after : List ℕ} {old new : List (Pair D)} where
  -- what was answered to the commands that were read
  pub answers_of : {commands some : List Command} → IsLawful volume earlier → IsScript script commands
      → some ≡ commands → Ends tells disk Rest volume
      (start earlier volume.members 0 (fuses_of disk.armings volume.members old)) some before after old new
      → Answers tells disk Rest volume earlier script before after old new
  answers_of {commands} lawful read same ends =
      let ended = subst (λ (given : List Command). Ends tells disk Rest volume
      (start earlier volume.members 0 (fuses_of disk.armings volume.members old)) given before after old new) same
      ends in
      record {
        commands = commands;
        read = read;
        ends = ended;
        sound = sound_of volume ended.after.events
            (run_lawful ended.serves.run (start_lawful volume earlier lawful));
      }

  pub front_of : {may : Type 0} {commands some : List Command} → IsLawful volume earlier → IsScript script commands
      → some ≡ commands → EndsFront tells may disk Rest volume
      (start earlier volume.members 0 (fuses_of disk.armings volume.members old)) some before after old new
      → AnswersFront tells may disk Rest volume earlier script before after old new
  front_of {may} {commands} lawful read same front =
      let ended = subst (λ (given : List Command). EndsFront tells may disk Rest volume
      (start earlier volume.members 0 (fuses_of disk.armings volume.members old)) given before after old new) same
      front in
      record {
        commands = commands;
        read = read;
        ends = ended;
        sound = sound_of volume ended.after.events
            (cut_lawful ended.serves.cut (run_lawful ended.serves.run (start_lawful volume earlier lawful)));
      }

  -- what may be may be wherever this is so
  pub answers_where : (may other : Type 0) → (may → other)
      → AnswersFront tells may disk Rest volume earlier script before after old new
      → AnswersFront tells other disk Rest volume earlier script before after old new
  answers_where may other further front = record {
    commands = front.commands;
    read = front.read;
    ends = front_ends_where further front.ends;
    sound = front.sound;
  }
