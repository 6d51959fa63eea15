use Rattle.std.proofs.Common.{◌+◌, Ok, Err, arith}
use Rattle.std.proofs.lemmas.Result.{err_from_is_err_and}
use Rattle.ficus_model.specs.Lawful.{Volume}
use Rattle.ficus_opening.proofs.Absent.{enters_failed, enters_none, enters_then}
use Rattle.ficus_opening.proofs.alone.enter_absent.Goals as goal

pub loop-behind-init : goal.loop-behind-init
loop-behind-init g c = record {
  since = omega arith;
  within = c.requires.to;
  entered = enters_none g.K.Keep g.D.Disk _ tt c.args.before c.args.opened.now c.args.disks.now.items c.requires.before
      c.requires.kept;
}

pub loop-behind-preserved : goal.loop-behind-preserved
loop-behind-preserved g c =
    let was = c.loop-behind.invariant in
    let behind = c.loop-behind.behind in
    let volume : Volume = record { members = c.args.members; ids = c.args.ids; bytes = c.args.bytes } in
    record {
      since = omega (arith, was.since);
      within = omega (arith, c.loop-behind-test.true);
      entered =
          enters_then g.K.Keep g.D.Disk volume (Ok tt) c.args.before behind (behind + 1) c.args.opened.now
          c.loop-behind.opened c.enter_next.new.opened c.args.disks.now.items c.loop-behind.disks.items
          c.enter_next.new.disks.items was.since (omega arith) was.entered c.in_ok-enter_next.ensures;
    }

pub returns-in_err-enter_next : goal.returns-in_err-enter_next
returns-in_err-enter_next g c =
    let given = err_from_is_err_and c.from_residual.result c.from_residual.ensures.1 in
    let fault = c.in_err-enter_next.field-0.0 in
    let was = c.loop-behind.invariant in
    let behind = c.loop-behind.behind in
    let volume : Volume = record { members = c.args.members; ids = c.args.ids; bytes = c.args.bytes } in
    rw (given.1, given.2)
    (enters_failed g.K.Keep g.D.Disk volume fault c.args.before (behind + 1) c.args.to
    (omega (arith, c.loop-behind-test.true))
    (enters_then g.K.Keep g.D.Disk volume (Err fault) c.args.before behind (behind + 1) c.args.opened.now
    c.loop-behind.opened c.enter_next.new.opened c.args.disks.now.items c.loop-behind.disks.items
    c.enter_next.new.disks.items was.since (omega arith) was.entered c.in_err-enter_next.ensures))
