use Rattle.std.proofs.Common.{arith}
use Rattle.ficus_keeper.specs.Framed.{body_in}
use Rattle.ficus_stable_storage.proofs.Ready.{still_ready}
use Rattle.ficus_stable_storage_tests.proofs.saves.saves.Goals as goal

pub commit-requires : goal.commit-requires
commit-requires g c =
    let prepared = c.in_ok-prepare.ensures.prepared in (
      body_in c.args.framed.items,
      record {
        framed = prepared.framed;
        image = prepared.image;
        noted = prepared.noted;
        takes = prepared.takes;
        room_a = omega (arith, prepared.room_a, c.arm.ensures.room_a);
        room_b = omega (arith, prepared.room_b, c.arm.ensures.room_b);
      },
      λ told.
          let follows = c.requires.follows told in
          record {
            saved = follows.saved;
            ready = still_ready g.K.Keep.kept g.K.Keep.fits g.D.Disk.seen g.D.Disk.may_leave _ _ _ follows.saved
                (c.arm.ensures.seen told) c.arm.ensures.crash (c.in_ok-prepare.ensures.ready told follows.saved follows.ready);
            leads = follows.leads;
          },
    )
