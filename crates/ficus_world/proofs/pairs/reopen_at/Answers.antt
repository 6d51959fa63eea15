use Rattle.std.proofs.Common.{◌≡◌, ℕ, ◌+◌, ◌-◌, List, [], ◌∷◌, Err, ap, sym, refl, subst, arith}
use Rattle.std.specs.Prelude.{slice_set, Result}
use Rattle.std.proofs.lemmas.List.{length-set}
use Rattle.ficus_disk.specs.declared.disk.Disk.{Ghosts as Disk}
use Rattle.ficus_disk.specs.declared.pair.Pair.{Pair}
use Rattle.ficus_keeper.specs.declared.fault.StoreFault.{StoreFault}
use Rattle.ficus_keeper.specs.declared.keep.Keep.{Ghosts as Keep}
use Rattle.ficus_runs.specs.Numbered.{IsNumbered}
use Rattle.ficus_runs.specs.Outcome.{IsOpened}
use Rattle.ficus_keeper.specs.declared.fault.StoreFault.TheVariants.{Failed}
use Rattle.ficus_stable_storage.specs.Calls.{OpensAnew}
use Rattle.ficus_stable_storage.specs.declared.stable.Recovered.{Recovered}
use Rattle.ficus_opening.specs.Rests.{AreLeft, RestsAt}
use Rattle.ficus_world.specs.Disks.{DisksFollow}
use Rattle.ficus_world.proofs.Disks.{follows_at}
use Rattle.ficus_runs.proofs.Numbers.{number_exists, number_read}
use Rattle.ficus_world.proofs.Fuses.{fuses_read}
use Rattle.ficus_world.proofs.Saves.{disks_not_read, disks_read, opening_failed, read_is, some_image}
use Rattle.ficus_opening.proofs.Others.{left_one}
use Rattle.ficus_opening.proofs.Rests.{rests_pair}
use Rattle.ficus_world.proofs.pairs.reopen_at.Goals as goal

-- whatever is read, of all pairs that of one member is opened again
module _ {K D : Type 0} {keep : Keep K} {disk : Disk D} {by : ℕ} {disks : List (Pair D)} {was now : Pair D}
    {result : Result (Recovered K) StoreFault} (is : IsNumbered disks by was)
    (opens : OpensAnew keep disk was now result) where
  follows : DisksFollow disk.faults disk.armings (IsOpened by ∷ []) disks (slice_set disks (by - 1) now)
  follows =
      follows_at by is (record { rose = opens.risen; unarmed = λ none. opens.armings }) (λ r differs. refl)
      (λ r differs. refl)

  rests : RestsAt disk by disks (slice_set disks (by - 1) now)
  rests = rests_pair disk by disks was now is opens.crash opens.moments opens.spans

  left : (disk.tells → (d : D) → disk.may_leave d (disk.seen d)) → disk.tells
      → AreLeft disk.seen disk.may_leave disks (slice_set disks (by - 1) now)
  left seen_may told =
      let place : by ≡ by - 1 + 1 = omega (arith, is.member.at_least) in
      left_one disk.seen disk.may_leave (seen_may told) disks (by - 1) was now
      (subst (λ n. IsNumbered disks n was) place is) (opens.left told)

pub returns-in-Ok : goal.returns-in-Ok
returns-in-Ok g c =
    let pair = c.index_mut.result.now in
    let now = c.reopen.new.disks in
    let opens = c.reopen.ensures in
    let found = c.in-Ok.ensures in
    let stable = number_exists c.args.stables.now.items c.args.by c.requires.member in
    let is_pair = number_read c.args.disks.now.items c.args.by pair _ c.requires.pair (sym c.index_mut.ensures.value) in
    record {
      fits = found.fits;
      read = λ told count events members was held.
          let of = held.pairs.each c.args.by was pair held.is is_pair in
          read_is g.K.Keep g.D.Disk c.one_saved.ensures count events c.args.by was held.sound of.0 pair now
          (opens.left told) (of.1.holds told) c.in-Ok.found.saved (found.ready told).holds;
      disks =
          disks_read g.K.Keep g.D.Disk c.args.by c.in-Ok.found.saved stable.0 c.in-Ok.found.stable pair now stable.1
          is_pair opens.armings opens.crash found.ready;
      never = λ fused is. absurd (cc);
      by_fuse = λ fused told count events members was F held stand.
          let of = held.pairs.each c.args.by was pair held.is is_pair in
          let holds = (found.ready told).holds in
          fuses_read g.K.Keep g.D.Disk c.one_saved.ensures c.args.by members c.args.disks.now.items was pair now
          c.in-Ok.found.saved F held.is is_pair holds
          (read_is g.K.Keep g.D.Disk c.one_saved.ensures count events c.args.by was held.sound of.0 pair now
          (opens.left told) (of.1.holds told) c.in-Ok.found.saved holds)
          opens.crash (opens.by_fuse fused told) stand;
      opened = λ is. absurd (cc);
      follows = follows is_pair opens;
      rests = rests is_pair opens;
      left = left is_pair opens g.met.D.Disk.seen_may_be_left;
      count = length-set c.args.stables.now.items (c.args.by - 1) c.in-Ok.found.stable;
    }

pub returns-in-Err : goal.returns-in-Err
returns-in-Err g c =
    let pair = c.index_mut.result.now in
    let now = c.reopen.new.disks in
    let opens = c.reopen.ensures in
    let fails = c.in-Err.ensures in
    let is_pair = number_read c.args.disks.now.items c.args.by pair _ c.requires.pair (sym c.index_mut.ensures.value) in
    record {
      fits = tt;
      read = λ told count events members was held.
          let of = held.pairs.each c.args.by was pair held.is is_pair in
          some_image g.K.Keep g.D.Disk c.one_saved.ensures count events c.args.by was held.sound of.0 pair now
          (opens.left told) (of.1.holds told) c.in-Err.fault (λ same. fails.none told (ap Err same));
      disks = disks_not_read g.K.Keep g.D.Disk c.args.by c.in-Err.fault pair now is_pair opens.armings opens.crash
          opens.left;
      never = λ fused is. let same : c.in-Err.fault ≡ Failed = cc in fails.never fused (ap Err same);
      by_fuse = λ fused told count events members was F held stand. tt;
      opened = λ is.
          let same : c.in-Err.fault ≡ Failed = cc in
          opening_failed c.args.by is_pair (fails.failed (ap Err same)) opens.armings;
      follows = follows is_pair opens;
      rests = rests is_pair opens;
      left = left is_pair opens g.met.D.Disk.seen_may_be_left;
      count = refl;
    }
