use Rattle.ficus_top.specs.Graft.Paths.{rest_behind}
use Rattle.ficus_top.proofs.graft.behind.command_behind.Goals as goal

pub returns-in_ok-look_behind-in-Look : goal.returns-in_ok-look_behind-in-Look
returns-in_ok-look_behind-in-Look c =
    rw (c.in-Look.is, c.in_ok-look_behind-in-Look.ensures (rest_behind c.args.second))
