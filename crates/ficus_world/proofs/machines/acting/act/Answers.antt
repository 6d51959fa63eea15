use Rattle.std.proofs.lemmas.Result.{IfOk-weaker}
use Rattle.ficus_world.specs.Stepped.{Stepped}
use Rattle.ficus_world.specs.Machines.Acting.{ActsFor}
use Rattle.ficus_world.proofs.machines.Selves.{acts_alone}
use Rattle.ficus_world.proofs.machines.acting.act.Goals as goal

pub returns-clause-acts : goal.returns-clause-acts
returns-clause-acts g c = λ tells.
    let old = c.args.world.now.whole in
    let new = c.step.new.self.whole in
    let command = c.args.command.now in
    IfOk-weaker c.step.result
    (λ answer. Stepped g.L.Link.tells g.K.Keep g.D.Disk old command answer new c.args.disks.now.items
    c.step.new.disks.items)
    (λ answer. ActsFor g.L.Link.tells g.D.Disk.tells command answer old new)
    (λ answer stepped r deed is may.
    acts_alone g.L.Link.tells g.D.Disk.tells tells old new c.settled.ensures.sound command stepped.outcomes answer
    stepped.moves r deed is may)
    c.step.ensures.moves
