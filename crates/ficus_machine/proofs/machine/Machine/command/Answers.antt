use Rattle.std.proofs.Common.{refl, sym, ◌∙◌}
use Rattle.ficus_machine.proofs.Lived.{lives_same}
use Rattle.ficus_machine.proofs.Owns.{goes_elsewhere, goes_plainly}
use Rattle.ficus_machine.proofs.machine.Machine.command.Goals as goal

pub returns-then-by-member : goal.returns-then-by-member
returns-then-by-member g c =
    rw (c.refused.ensures, c.elsewhere.ensures)
    (record {
      goes =
          goes_elsewhere c.requires.rest c.performer-by.ensures
          (λ same. c.if-by-member.true (same ∙ sym c.member.ensures));
      lives =
          lives_same g.K.Keep g.D.Disk g.N.Disk _ c.args.self.now c.args.self.now c.args.disks.now.items
          c.args.disks.now.items c.args.slots.now c.args.slots.now refl refl refl refl;
    })

pub returns-in-None : goal.returns-in-None
returns-in-None g c = record {
  goes = goes_plainly g.M.Mailbox c.args.mailbox.now c.own.result c.own.ensures.acted;
  lives = c.own.ensures.lives;
}
