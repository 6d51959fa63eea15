use Rattle.std.proofs.Common.{◌≡◌, ◌⊎◌, ℕ, ◌≤◌, List, length, Err, sym, ap, inr, ◌∙◌, arith}
use Rattle.std.specs.Prelude.{IsErrOf}
use Rattle.ficus_disk.specs.declared.disk.Disk.{Ghosts as Disk}
use Rattle.ficus_disk.specs.declared.pair.Pair.{Pair}
use Rattle.ficus_keeper.specs.declared.keep.Keep.{Ghosts as Keep}
use Rattle.std.proofs.lemmas.Result.{err_from_is_err_and}
use Rattle.ficus_runs.specs.Start.{restarts}
use Rattle.ficus_world.specs.World.{Backed, whole_of}
use Rattle.ficus_world.specs.Post.{Outbox}
use Rattle.ficus_world.specs.Calls.{OpensWorld}
use Rattle.ficus_opening.specs.declared.fault.WorldFault.{WorldFault}
use Rattle.ficus_opening.specs.declared.fault.WorldFault.TheVariants.{Image, Memory, Occupied, Store}
use Rattle.ficus_opening.specs.Opening.{AreRead, DisksLooked, IsFirstBad, IsStoreFault, Opens}
use Rattle.ficus_opening.proofs.Bad.{image_comes, none_bad_where_read}
use Rattle.ficus_runs.proofs.Numbers.{number_exists}
use Rattle.ficus_world.proofs.OpenedWorlds.{empty_post, first_member, opened_read, opened_stands, opened_world}
use Rattle.ficus_opening.proofs.Stand.{never_bad}
use Rattle.ficus_durable_state.specs.declared.saved.Saved.{Saved}
use Rattle.ficus_opening.proofs.Openings.{first_is, held_of, opened_pairs, opens_same}
use Rattle.ficus_opening.proofs.Steadies.{number_at}
use Rattle.ficus_world.proofs.AtRest.{fuses_at_rest}
use Rattle.ficus_opening.proofs.Unarmed.{unfailing_none}
use Rattle.ficus_opening.proofs.Asking.{err_as, looks_err, looks_steady, never_store}
use Rattle.ficus_world.proofs.world.World.open.Goals as goal

pub invariant_of-group : goal.invariant_of-group
invariant_of-group g c =
    let opens = c.in_ok-members.ensures in
    let members = c.in_ok-members.field-0.members.items in
    opened_world members opens.opened.opened opens.count opens.counted c.in_ok-restart_all.field-0.events
    c.new.result.now
    (c.in_ok-restart_all.ensures
    ∙ ap (λ n. restarts n)
    (opens.counted c.index.result.now
    (number_at members 0 c.index.result.now (omega (arith, opens.count.at_least)) c.index.ensures)))
    (empty_post c.new.result.now _ _ _ c.new.ensures c.requires.link)

-- a fault is told
unopened : {K D : Type 0} {keep : Keep K} {disk : Disk D} {faults total : ℕ} {fault : WorldFault} {old new : List (Pair D)}
    → (disk.tells → (r : ℕ) → IsErrOf {T = Backed K} (Err fault) (Image r) → IsFirstBad keep.kept disk.seen old r)
    → (disk.tells → (r : ℕ) → IsFirstBad keep.kept disk.seen old r → (fault ≡ Image r) ⊎ IsStoreFault fault)
    → (disk.tells → (q r : ℕ) → IsErrOf {T = Backed K} (Err fault) (Store q) → IsFirstBad keep.kept disk.seen old r → q ≤ r)
    → ((r : ℕ) → IsErrOf {T = Backed K} (Err fault) (Occupied r) → ⊥)
    → (disk.tells → (r : ℕ) → IsErrOf {T = Backed K} (Err fault) (Store r) → (first : Saved)
    → Opens keep.kept disk.seen old first first 1 → r ≤ first.members)
    → length old ≡ 8 → DisksLooked {A = Backed K} disk (Err fault) old new
    → OpensWorld keep disk faults total (Err fault) old new
unopened {keep = keep} {disk = disk} {old = old} image comes earlier never member eight looked = record {
  members = tt;
  counted = λ told. tt;
  events = tt;
  faults = tt;
  backed = tt;
  opened = λ told. tt;
  fresh = tt;
  stands = λ told volume H on. tt;
  image = image;
  image_comes = comes;
  earlier = earlier;
  never_image = λ told volume H on r is.
      never_bad keep.kept disk.seen volume H old on (omega (arith, eight)) r (image told r is);
  failed = looked.asked.failed;
  spared = looked.asked.spared;
  never = never;
  same = looked.same;
  rests = looked.rests;
  others = tt;
  member = member;
  steady = tt;
  armings = looked.asked.armings;
  pairs = looked.asked.armings.count;
  unfailing = looked.asked.unfailing;
  fuses = λ fused told none. tt;
}

pub returns-in_err-members : goal.returns-in_err-members
returns-in_err-members g c =
    let given = err_from_is_err_and c.from_residual.result c.from_residual.ensures.1 in
    let fault = c.in_err-members.field-0.0 in
    let fails = c.in_err-members.ensures in
    rw (given.1, given.2)
    (unopened (λ told r is. fails.image told r (err_as fault (Image r) is))
    (λ told. image_comes g.K.Keep.kept g.D.Disk.seen c.args.disks.now.items c.open_all.result fault c.in_err-members.was
    (c.open_all.ensures.image told) c.open_all.ensures.never)
    (λ told q r is. fails.earlier told q r (err_as fault (Store q) is))
    (λ r is. fails.never r (err_as fault (Occupied r) is))
    (λ told r is. fails.member told r (err_as fault (Store r) is)) c.requires.pairs (looks_err fault fails.looked))

pub returns-in_err-restart_all : goal.returns-in_err-restart_all
returns-in_err-restart_all g c =
    let given = err_from_is_err_and c.from_residual-in_err-restart_all.result c.from_residual-in_err-restart_all.ensures.1 in
    let looked = c.in_ok-members.ensures.looked in
    rw (given.1, given.2)
    (unopened (λ told r is. absurd (cc)) (λ told r bad. inr tt) (λ told q r is. absurd (cc)) (λ r is. absurd (cc))
    (λ told r is. absurd (cc)) c.requires.pairs
    (looks_steady _ c.args.disks.now.items c.open_all.new.disks.items looked.asked.steady looked.asked.armings
    (λ fused. (looked.asked.unfailing fused).unarmed) looked.same looked.rests (never_store Memory tt)))

pub returns : goal.returns
returns g c =
    let old = c.args.disks.now.items in
    let new = c.open_all.new.disks.items in
    let opens = c.in_ok-members.ensures in
    let looked = opens.looked in
    let members = c.in_ok-members.field-0.members.items in
    let on = opens.opened in
    let pairs = looked.asked.armings.count in
    let own = opened_pairs g.K.Keep g.D.Disk c.in_ok-members.field-0 new on in
    let held = held_of g.K.Keep g.D.Disk c.in_ok-members.field-0 new on in
    let events =
    c.in_ok-restart_all.ensures
    ∙ ap (λ n. restarts n)
    (opens.counted c.index.result.now
    (number_at members 0 c.index.result.now (omega (arith, opens.count.at_least)) c.index.ensures)) in
    let opened : g.D.Disk.tells → AreRead g.K.Keep.kept g.D.Disk.seen old members = λ told.
    opened_read members on.opened opens.count opens.counted g.K.Keep.kept g.D.Disk.seen old new (looked.same told)
    (omega (arith, opens.count.at_most, pairs, c.requires.pairs)) (held told) in
    record {
      members = opens.count;
      counted = λ told first is.
          let one =
          number_exists members 1 (record { at_least = omega arith; at_most = omega (arith, opens.count.at_least) }) in
          let same =
          first_is g.K.Keep.kept g.D.Disk.seen members new on.opened (held told) c.one_saved.ensures first one.0 one.1
          (opens_same g.K.Keep.kept g.D.Disk.seen old new first first 1 (looked.same told) is) in
          sym (opens.counted one.0 one.1) ∙ ap (λ (s : Saved). s.members) (sym same);
      events = events;
      faults = ap (λ (p : Outbox). p.faults) c.new.ensures;
      backed = record {
        pairs = omega (arith, opens.count.at_most, pairs, c.requires.pairs);
        disks = on.disks;
      };
      opened = opened;
      fresh = record {
        sound =
            opened_world members on.opened opens.count opens.counted c.in_ok-restart_all.field-0.events
            c.new.result.now events (empty_post c.new.result.now _ _ _ c.new.ensures c.requires.link);
        posts = (empty_post c.new.result.now _ _ _ c.new.ensures c.requires.link).posts;
        parts = λ r member is.
            let first = first_member members on.opened opens.count opens.counted in
            (on.opened.each r first.0 member first.1 is).parts;
      };
      stands = λ told volume H stand.
          opened_stands g.D.Disk.tells g.K.Keep.kept g.K.Keep.fits g.D.Disk.seen g.D.Disk.may_leave g.D.Disk.armings
          (whole_of members c.in_ok-restart_all.field-0.events c.new.result.now) c.one_saved.ensures volume H old new
          (g.L.Link.total c.args.link) told stand c.requires.pairs (looked.same told) looked.asked.armings on.opened
          opens.count opens.counted (held told)
          (λ r member pair at at_pair. (own.each r member pair at at_pair).1.fused)
          events (empty_post c.new.result.now _ _ _ c.new.ensures c.requires.link)
          (ap (λ (p : Outbox). p.total) c.new.ensures);
      image = λ told r is. absurd (cc);
      image_comes = λ told.
          none_bad_where_read g.K.Keep.kept g.D.Disk.seen old members (omega (arith, opens.count.at_least)) (opened told);
      earlier = λ told q r is. absurd (cc);
      never_image = λ told volume H on r is. absurd (cc);
      failed = λ r is. absurd (cc);
      spared = λ fault unfailed is. looked.asked.steady;
      never = λ r is. absurd (cc);
      same = looked.same;
      rests = looked.rests;
      others = opens.others;
      member = λ told r is. absurd (cc);
      steady = looked.asked.steady;
      armings = looked.asked.armings;
      pairs = pairs;
      unfailing = λ fused.
          unfailing_none g.D.Disk.fuse _ old new (looked.asked.unfailing fused).unarmed (λ r is. absurd (cc));
      fuses = λ fused told none regular F rest.
          fuses_at_rest g.K.Keep g.D.Disk told members old new on.opened own
          (looked.same told) ((looked.asked.unfailing fused).unarmed none) regular F rest;
    }
