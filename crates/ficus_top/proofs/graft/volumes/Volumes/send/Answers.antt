use Rattle.std.proofs.Common.{◌-◌, sym, ◌∙◌, subst}
use Rattle.std.proofs.lemmas.List.{length-set}
use Rattle.ficus_ids.specs.Members.{IsMember}
use Rattle.ficus_runs.proofs.Numbers.{number_read}
use Rattle.ficus_top.proofs.graft.Places.{cut_at, held_at, room_at, same_at, same_disks_at, sends_at}
use Rattle.ficus_top.proofs.graft.volumes.Volumes.send.Goals as goal

pub step-requires-clause-backed : goal.step-requires-clause-backed
step-requires-clause-backed g c =
    let member = rw (← c.self.view_is) at c.requires.volume in
    let held = rw (← c.self.view_is) at c.requires.held in
    let is = number_read c.self.inside.worlds.items c.args.volume c.index_mut.result.now c.index_mut.result.now member
    (sym c.index_mut.ensures.value) in
    let of = number_read c.args.disks.now.items c.args.volume c.index_mut-2.result.now c.index_mut-2.result.now
    (subst (λ n. IsMember n c.args.volume) (sym held.count) member) (sym c.index_mut-2.ensures.value) in
    held.each c.args.volume _ _ is of

pub returns : goal.returns
returns g c =
    let worlds = c.self.inside.worlds.items in
    let disks = c.args.disks.now.items in
    let v = c.args.volume in
    let world = c.index_mut.result.now in
    let next = c.step.new.self in
    let pairs = c.index_mut-2.result.now in
    let later = c.step.new.disks in
    let member = rw (← c.self.view_is) at c.requires.volume in
    let held = rw (← c.self.view_is) at c.requires.held in
    let is = number_read worlds v world world member (sym c.index_mut.ensures.value) in
    let of = number_read disks v pairs pairs (subst (λ n. IsMember n v) (sym held.count) member)
    (sym c.index_mut-2.ensures.value) in
    record {
      sends =
          rw (← c.self.view_is)
          (sends_at g.K.Keep g.D.Disk worlds disks v world next pairs later is of g.L.Link.tells _
          c.args.command.now c.step.result c.step.ensures.moves (λ told. c.step.ensures.stands told.0 told.1));
      memory =
          rw (← c.self.view_is)
          (cut_at g.K.Keep g.D.Disk worlds disks v world next pairs later is of g.L.Link.tells c.args.command.now
          c.step.result c.step.ensures.stays c.step.ensures.memory);
      same = λ looks.
          let same = c.step.ensures.unsaved looks in (
            same_at g.K.Keep g.D.Disk _ disks v _ _ pairs later is of same.0 ∙ c.self.view_is,
            same_disks_at g.K.Keep g.D.Disk worlds _ v world next _ _ is of same.1,
          );
      held = held_at g.K.Keep g.D.Disk worlds disks v world next pairs later is of held c.step.ensures.backed;
      grows = λ limit room.
          room_at g.K.Keep g.D.Disk worlds disks v world next pairs later is of limit (rw (← c.self.view_is) at room)
          c.step.ensures.grows;
      count = rw (← c.self.view_is) (length-set worlds (v - 1) next);
    }
