-- A script that is run again.
use Rattle.std.proofs.Common.{◌≡◌, ℕ, Bool, List, ◌++◌, sym, subst}
use Rattle.std.specs.Prelude.{⊤}
use Rattle.ficus_disk.specs.declared.disk.Disk.{Ghosts as Disk}
use Rattle.ficus_disk.specs.declared.pair.Pair.{Pair}
use Rattle.ficus_model.specs.Lawful.{Volume}
use Rattle.ficus_model.specs.declared.event.Event.{Event}
use Rattle.ficus_runs.proofs.OneRun.{fused_run_once}
use Rattle.ficus_runs.specs.Fuses.{FuseState}
use Rattle.ficus_runs.specs.Run.{Run}
use Rattle.ficus_runs.specs.Start.{start}
use Rattle.ficus_script.specs.declared.answer.Answer.{Answer}
use Rattle.ficus_script.specs.declared.command.Command.{Command}
use Rattle.ficus_script.proofs.ScriptLaws.{one_script}
use Rattle.ficus_loop.specs.Serving.{texts_of}
use Rattle.ficus_top.specs.Summary.Keeper.{keeping}
use Rattle.ficus_top.specs.Headline.{Answers, AreFusesAtRest, fuses_of}

-- the same answers are put again
pub same_answers : {D E : Type 0} {disk : Disk D} {other_disk : Disk E} (volume : Volume) (earlier : List Event)
    {script old new again newer : List ℕ} {disks after : List (Pair D)} {others later : List (Pair E)}
    (F : ℕ → FuseState) → AreFusesAtRest disk volume.members earlier disks F
    → AreFusesAtRest other_disk volume.members earlier others F
    → fuses_of disk.armings volume.members disks ≡ fuses_of other_disk.armings volume.members others
    → Answers ⊤ disk (AreFusesAtRest disk volume.members earlier disks) volume earlier script old new disks after
    → Answers ⊤ other_disk (AreFusesAtRest other_disk volume.members earlier others) volume earlier script again newer
    others later → (text : List ℕ) × (new ≡ old ++ text) × (newer ≡ again ++ text)
same_answers {disk = disk} {other_disk = other_disk} volume earlier {script} {again = again} {newer = newer}
    {disks = disks} {others = others} F rest rest_too fused one other =
    let commands : other.commands ≡ one.commands =
    one_script script other.commands one.commands other.read one.read in
    let run = subst (λ (given : List Command). Run volume (start earlier volume.members 0
    (fuses_of disk.armings volume.members disks)) given other.ends.serves.outcomes other.ends.serves.answers
    other.ends.after) commands
    (subst (λ (fuses : List Bool). Run volume (start earlier volume.members 0 fuses) other.commands
    other.ends.serves.outcomes other.ends.serves.answers other.ends.after) (sym fused) other.ends.serves.run) in
    let same = fused_run_once keeping F one.ends.serves.run run (one.ends.fuses F rest) (other.ends.fuses F rest_too)
    one.ends.linked other.ends.linked in (
      texts_of one.ends.serves.answers,
      one.ends.serves.put tt,
      subst (λ (answers : List Answer). newer ≡ again ++ texts_of answers) (sym same.1) (other.ends.serves.put tt),
    )
