use Rattle.ficus_script.specs.declared.answer.Answer.TheVariants.{Refused}
use Rattle.ficus_path.specs.Path.{path_from}
use Rattle.ficus_keeper.proofs.Results.{in_ok}
use Rattle.ficus_top.specs.Graft.Route.{ls, sending}
use Rattle.ficus_top.proofs.graft.Places.{look_runs, stops_refused}
use Rattle.ficus_top.proofs.graft.volumes.Volumes.look.Goals as goal

pub returns-clause-same : goal.returns-clause-same
returns-clause-same g c = (c.refusal_to.ensures.same tt).0

pub returns-clause-same_disks : goal.returns-clause-same_disks
returns-clause-same_disks g c = (c.refusal_to.ensures.same tt).1

pub returns-clause-passes : goal.returns-clause-passes
returns-clause-passes g c =
    let same = c.refusal_to.ensures.same tt in
    in_ok c.unless_refused.result
    (λ none.
    let found = rw none at c.refusal_to.ensures.finds in
    record {
      answer = found.answer;
      unrefused = found.unrefused;
      runs = look_runs g.K.Keep g.D.Disk g.L.Link.tells g.D.Disk.tells c.args.volume c.args.self.now
          c.refusal_to.new.self c.args.disks.now.items c.refusal_to.new.disks.items c.args.by c.in_ok-path.path
          (path_from c.args.base c.args.parts.now) found.answer c.in_ok-path.ensures same.0 same.1 found.sends.sends;
    })
    c.unless_refused.ensures.done

pub returns-clause-refused : goal.returns-clause-refused
returns-clause-refused g c =
    let same = c.refusal_to.ensures.same tt in
    stops_refused g.K.Keep g.D.Disk g.L.Link.tells
    (sending c.args.volume (ls c.args.by (path_from c.args.base c.args.parts.now))) c.args.self.now c.args.disks.now.items
    c.refusal_to.result c.unless_refused.result
    (λ why is.
    let found = rw is at c.refusal_to.ensures.finds in
    look_runs g.K.Keep g.D.Disk g.L.Link.tells g.D.Disk.tells c.args.volume c.args.self.now c.refusal_to.new.self
    c.args.disks.now.items c.refusal_to.new.disks.items c.args.by c.in_ok-path.path
    (path_from c.args.base c.args.parts.now) (Refused why) c.in_ok-path.ensures same.0 same.1
    (rw found.refused at found.sends.sends))
    c.unless_refused.ensures.refused
