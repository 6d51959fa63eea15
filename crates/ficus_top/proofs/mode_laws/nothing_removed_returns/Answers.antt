use Rattle.ficus_top.proofs.ModeLaws.{removed_before, removed_since, run_first}
use Rattle.ficus_top.proofs.mode_laws.nothing_removed_returns.Goals as goal

pub returns-clause-history : goal.returns-clause-history
returns-clause-history g c = λ volume earlier later sound r entry removed live.
    removed_before volume earlier later sound r entry removed live

pub returns-clause-run : goal.returns-clause-run
returns-clause-run g c = λ volume earlier script old new disks after answers k.
    let first = run_first answers.ends.serves.run k in (
      first.0,
      first.1,
      λ r entry removed live.
          removed_since volume first.0.events answers.ends.after.events answers.sound first.2 r entry removed live,
    )
