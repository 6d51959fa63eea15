use Rattle.std.proofs.Common.{Err, Ok, refl, subst, sym}
use Rattle.ficus_ids.specs.Members.{IsMember}
use Rattle.ficus_stable_storage.proofs.leads.Led.{led_next}
use Rattle.ficus_runs.proofs.Numbers.{number_exists}
use Rattle.ficus_opening.proofs.Openings.{pairs_of}
use Rattle.ficus_world.specs.World.{whole_of}
use Rattle.ficus_world.proofs.Saves.{saves_held, saves_pending, up_ready}
use Rattle.ficus_world.proofs.Kills.{writes_at}
use Rattle.ficus_world.proofs.saving.commit_next.Goals as goal

pub commit_at-requires-clause-member : goal.commit_at-requires-clause-member
commit_at-requires-clause-member g c = subst (λ n. IsMember n c.args.by) (sym c.requires.stables) c.requires.member

pub commit_at-requires-clause-prepared : goal.commit_at-requires-clause-prepared
commit_at-requires-clause-prepared g c =
    let was = number_exists c.args.members.now.items c.args.by c.requires.member in (
      c.requires.prepared.0,
      c.requires.prepared.1,
      λ told stable pair is_stable is_pair.
          let of = c.requires.disks.each c.args.by was.0 stable pair was.1 is_stable is_pair in
          record {
            saved = was.0.replica.saved;
            ready = up_ready g.K.Keep g.D.Disk was.0 stable pair (c.requires.up was.0 was.1) (of.holds told);
            leads = c.requires.prepared.2 was.0 was.1;
          },
    )

pub returns-in-Ok : goal.returns-in-Ok
returns-in-Ok g c =
    let old = c.args.members.now.items in
    let new = c.hold.new.members.items in
    let was = number_exists old c.args.by c.requires.member in
    let up = c.requires.up was.0 was.1 in
    let set = c.hold.ensures was.0 was.1 in
    let own = pairs_of g.K.Keep g.D.Disk old c.args.stables.now.items c.args.disks.now.items c.requires.stables
    c.requires.disks in
    record {
      held = c.hold.ensures;
      stored = c.push.ensures.events;
      followed = record {
        disks = c.in-Ok.ensures.follows;
        fuses = c.in-Ok.ensures.fuses old new (saves_held c.args.by c.args.next was.0 was.1 up _ tt set) own;
      };
      pending = tt;
      kept = tt;
      counted = tt;
      refused = tt;
      writes = λ post after.
          writes_at g.K.Keep g.D.Disk c.args.by {T = Unit {0}} {E = Unit {0}} {result = Ok tt}
          (whole_of old c.args.history.now.events post) (whole_of new c.push.new.self.events after) c.args.next.event
          (saves_held c.args.by c.args.next was.0 was.1 up _ tt set) c.push.ensures.events tt own
          (λ was is. led_next _ _ _ (c.requires.prepared.2 was is)) c.commit_at.ensures.saves;
      disks = c.in-Ok.ensures.disks old new (saves_held c.args.by c.args.next was.0 was.1 up _ tt set) c.requires.disks;
      count = c.commit_at.ensures.count;
    }

pub returns-in-Err : goal.returns-in-Err
returns-in-Err g c =
    let old = c.args.members.now.items in
    let new = c.put_down.new.members.items in
    let was = number_exists old c.args.by c.requires.member in
    let up = c.requires.up was.0 was.1 in
    let set = c.put_down.ensures was.0 was.1 in
    let own = pairs_of g.K.Keep g.D.Disk old c.args.stables.now.items c.args.disks.now.items c.requires.stables
    c.requires.disks in
    record {
      held = tt;
      stored = tt;
      followed = tt;
      pending = c.put_down.ensures;
      kept = refl;
      counted = record {
        disks = c.in-Err.ensures.follows;
        fuses = c.in-Err.ensures.fuses old new (saves_pending c.args.by c.args.next was.0 was.1 up _ set) own;
      };
      refused = refl;
      writes = λ post after.
          writes_at g.K.Keep g.D.Disk c.args.by {T = Unit {0}} {E = Unit {0}} {result = Err tt}
          (whole_of old c.args.history.now.events post) (whole_of new c.args.history.now.events after) c.args.next.event
          (saves_pending c.args.by c.args.next was.0 was.1 up tt set) tt refl own
          (λ was is. led_next _ _ _ (c.requires.prepared.2 was is)) c.commit_at.ensures.saves;
      disks = c.in-Err.ensures.disks old new (saves_pending c.args.by c.args.next was.0 was.1 up _ set) c.requires.disks;
      count = c.commit_at.ensures.count;
    }
