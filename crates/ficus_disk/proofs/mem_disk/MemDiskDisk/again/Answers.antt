use Rattle.std.proofs.Common.{◌∙◌, sym, ap, subst, rules, ℕ, List}
use Rattle.ficus_disk.specs.MemDisk.{MayLeave, may_leave_image}
use Rattle.ficus_disk.specs.Platter.{Held}
use Rattle.ficus_disk.proofs.mem_disk.MemDiskDisk.again.Goals as goal

pub returns-clause-reopens : goal.returns-clause-reopens
returns-clause-reopens c =
    let was = c.args.self.now in
    let seen = ap (λ (h : Held). h.bytes) c.reopen.ensures.held in
    record {
      left = λ _. subst (λ (l : List ℕ). MayLeave was l) (sym seen) (may_leave_image was c.pick.result);
      durable = λ _ bytes left. c.reopen.ensures.durable bytes left ∙ sym seen;
      begun = search rules;
      crash = c.reopen.ensures.crash;
      moments = search rules;
      room = c.reopen.ensures.room;
    }
