use Rattle.std.proofs.Common.{refl, sym, inl}
use Rattle.std.proofs.lemmas.Result.{err_from_is_err_and}
use Rattle.ficus_top.specs.Graft.Paths.{rest_behind}
use Rattle.ficus_top.proofs.graft.Commands.{along_none, command_behind, step_along}
use Rattle.ficus_top.proofs.graft.Places.{cuts_rest, sends_rest}
use Rattle.ficus_top.proofs.graft.volumes.Volumes.arrive.Goals as goal

pub returns-then-second-eq0-clause-sends : goal.returns-then-second-eq0-clause-sends
returns-then-second-eq0-clause-sends g c =
    rw (c.if-first-eq0.true, c.if-second-eq0.true, along_none c.args.command.now) c.send.ensures.sends

pub returns-then-second-eq0-clause-memory : goal.returns-then-second-eq0-clause-memory
returns-then-second-eq0-clause-memory g c =
    rw (c.if-first-eq0.true, c.if-second-eq0.true)
    (cuts_rest g.K.Keep g.D.Disk g.L.Link.tells g.D.Disk.tells c.args.volume c.args.self.now c.send.new.self
    c.args.disks.now.items c.send.new.disks.items (rest_behind 0) (rest_behind 0) c.args.command.now c.args.command.now
    c.send.result (sym (along_none c.args.command.now)) c.send.ensures.memory)

pub returns-in_err-rest-clause-memory : goal.returns-in_err-rest-clause-memory
returns-in_err-rest-clause-memory g c =
    let p = err_from_is_err_and c.from_residual.result c.from_residual.ensures.1 in
    rw p.1 (inl (refl, refl))

pub send-requires-2-clause-command : goal.send-requires-2-clause-command
send-requires-2-clause-command g c =
    rw c.in_ok-rest.ensures
    (command_behind c.args.first c.args.second c.args.command.now c.requires.command c.requires.passed)

pub send-requires-2-clause-step : goal.send-requires-2-clause-step
send-requires-2-clause-step g c =
    rw c.in_ok-rest.ensures
    (step_along (rest_behind c.args.first) (rest_behind c.args.second) c.args.command.now c.requires.step)

pub returns-clause-sends : goal.returns-clause-sends
returns-clause-sends g c =
    sends_rest g.K.Keep g.D.Disk g.L.Link.tells g.D.Disk.tells c.args.volume c.args.self.now c.send-2.new.self
    c.args.disks.now.items c.send-2.new.disks.items (rest_behind c.args.first) (rest_behind c.args.second)
    c.args.command.now c.in_ok-rest.rest c.send-2.result c.in_ok-rest.ensures c.send-2.ensures.sends

pub returns-clause-memory : goal.returns-clause-memory
returns-clause-memory g c =
    cuts_rest g.K.Keep g.D.Disk g.L.Link.tells g.D.Disk.tells c.args.volume c.args.self.now c.send-2.new.self
    c.args.disks.now.items c.send-2.new.disks.items (rest_behind c.args.first) (rest_behind c.args.second)
    c.args.command.now c.in_ok-rest.rest c.send-2.result c.in_ok-rest.ensures c.send-2.ensures.memory
