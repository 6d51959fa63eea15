-- What a kill at any moment of a run leaves, from its openings on.
use Rattle.std.proofs.Common.{◌≡◌, ℕ, ◌≤◌, List, Option, sym, subst}
use Rattle.ficus_disk.specs.declared.disk.Disk.{Ghosts as Disk}
use Rattle.ficus_disk.specs.declared.pair.Pair.{Pair}
use Rattle.ficus_keeper.specs.Kept.{Kept}
use Rattle.ficus_model.specs.Lawful.{Volume}
use Rattle.ficus_model.specs.declared.event.Event.{Event}
use Rattle.ficus_loop.specs.Trail.{FrontOn, Killed, KilledFront, Neighbours, RunOn, whole}
use Rattle.ficus_loop.specs.Trail.Trail.{Still}
use Rattle.ficus_loop.proofs.Covering.{covers}
use Rattle.ficus_runs.specs.ModelWorld.{ModelWorld}
use Rattle.ficus_runs.specs.Outcome.{Outcome}
use Rattle.ficus_script.specs.declared.answer.Answer.{Answer}
use Rattle.ficus_runs.specs.Fuses.{FuseState}
use Rattle.ficus_runs.specs.Start.{start}
use Rattle.ficus_script.specs.Script.{IsScript}
use Rattle.ficus_script.specs.declared.command.Command.{Command}
use Rattle.ficus_top.specs.Headline.{fuses_of}
use Rattle.ficus_top.specs.Killed.{EndsFrontKilled, EndsKilled, KilledAnswers, KilledAnswersFront}
use Rattle.ficus_top.proofs.Ends.{front_ends_where}

module _ {D : Type 0} (kept : List ℕ → List ℕ → Option Kept) (disk : Disk D) (volume : Volume)
    (earlier : (d : D) (t u : ℕ) (c : List ℕ) → t ≤ u → disk.left_since d u c → disk.left_since d t c)
    {W : ModelWorld} {entry opened : List (Pair D)} (opens : Neighbours kept disk volume W W entry opened)
    {commands : List Command} {outcomes : List (List Outcome)} {answers : List Answer} where
  pub killed_from : {after : ModelWorld} {now : List (Pair D)}
      → RunOn kept disk volume W commands outcomes answers after opened now
      → Killed kept disk volume W commands outcomes answers after entry now
  killed_from run = record {
    opened = opened;
    opens = opens;
    run = run;
    covers = λ moments. covers kept disk volume earlier moments (whole (Still opens) run);
  }

  pub front_killed_from : {behind : List Command} {middle after : ModelWorld} {now : List (Pair D)}
      → FrontOn kept disk volume W commands behind outcomes answers middle after opened now
      → KilledFront kept disk volume W commands behind outcomes answers middle after entry now
  front_killed_from front = record { mid = front.mid; killed = killed_from front.run; rest = front.rest }

module _ {D tells : Type 0} {disk : Disk D} {Rest : (ℕ → FuseState) → Type 0} {volume : Volume} {earlier : List Event}
    {script before after : List ℕ} {old new : List (Pair D)} {commands some : List Command}
    (read : IsScript script commands) (same : some ≡ commands) where
  pub killed_answers : EndsKilled tells disk Rest volume
      (start earlier volume.members 0 (fuses_of disk.armings volume.members old)) some before after old new
      → KilledAnswers tells disk Rest volume earlier script before after old new
  killed_answers killed = record {
    commands = some;
    read = subst (λ (l : List Command). IsScript script l) (sym same) read;
    killed = killed;
  }

  pub killed_front : {may : Type 0} → EndsFrontKilled tells may disk Rest volume
      (start earlier volume.members 0 (fuses_of disk.armings volume.members old)) some before after old new
      → KilledAnswersFront tells may disk Rest volume earlier script before after old new
  killed_front killed = record {
    commands = some;
    read = subst (λ (l : List Command). IsScript script l) (sym same) read;
    killed = killed;
  }

-- what may be may be wherever this is so
pub killed_where : {D tells : Type 0} {disk : Disk D} {Rest : (ℕ → FuseState) → Type 0} {volume : Volume}
    {earlier : List Event} {script before after : List ℕ} {old new : List (Pair D)} (may other : Type 0)
    → (may → other) → KilledAnswersFront tells may disk Rest volume earlier script before after old new
    → KilledAnswersFront tells other disk Rest volume earlier script before after old new
killed_where may other further front = record {
  commands = front.commands;
  read = front.read;
  killed = record { ends = front_ends_where further front.killed.ends; killed = front.killed.killed };
}
