use Rattle.std.proofs.Common.{◌+◌, ◌-◌, sym, refl, ap, ◌∙◌}
use Rattle.std.proofs.lemmas.List.{length-set}
use Rattle.ficus_keeper.specs.Kept.{found_in}
use Rattle.ficus_stable_storage.specs.Leads.Holds.{Holds}
use Rattle.ficus_stable_storage.proofs.leads.Led.{led_next}
use Rattle.ficus_runs.proofs.Numbers.{number_read}
use Rattle.ficus_world.proofs.Fuses.{fuses_saved, same_generation}
use Rattle.ficus_world.proofs.Saves.{disks_saved, save_follows, up_ready}
use Rattle.ficus_world.proofs.pairs.commit_at.Goals as goal

pub commit-requires : goal.commit-requires
commit-requires g c =
    let is_stable = number_read c.args.stables.now.items c.args.by c.index_mut.result.now _ c.requires.member
    (sym c.index_mut.ensures.value) in
    let is_pair = number_read c.args.disks.now.items c.args.by c.index_mut-2.result.now _ c.requires.pair
    (sym c.index_mut-2.ensures.value) in (
      c.requires.prepared.0,
      c.requires.prepared.1.each _ _ is_stable is_pair,
      λ told. c.requires.prepared.2 told _ _ is_stable is_pair,
    )

pub returns : goal.returns
returns g c =
    let stable = c.index_mut.result.now in
    let pair = c.index_mut-2.result.now in
    let commits = c.commit.ensures in
    let is_stable = number_read c.args.stables.now.items c.args.by stable _ c.requires.member
    (sym c.index_mut.ensures.value) in
    let is_pair = number_read c.args.disks.now.items c.args.by pair _ c.requires.pair (sym c.index_mut-2.ensures.value) in
    record {
      disks =
          disks_saved g.K.Keep g.D.Disk c.args.by c.args.next.now c.commit.result _ _ _ _ is_stable is_pair
          commits.armings commits.ready commits.crash;
      fuses = λ old new saves own.
          let of = own.each c.args.by saves.was pair saves.is is_pair in
          let holds : g.D.Disk.tells → Holds (found_in g.K.Keep.kept g.D.Disk.seen pair) saves.was.replica.saved = λ told.
          (up_ready g.K.Keep g.D.Disk saves.was of.0 pair saves.up (of.1.holds told)).holds in
          fuses_saved g.K.Keep g.D.Disk c.args.by c.args.next.now pair c.commit.new.disks is_pair
          g.met.D.Disk.seen_may_be_left commits.regular c.commit.result saves
          (λ told. let follows = c.requires.prepared.2 told _ _ is_stable is_pair in
          led_next _ _ _ follows.leads
          ∙ ap (λ n. n + 1) (same_generation _ follows.saved saves.was.replica.saved follows.ready.holds (holds told)))
          (λ fused told regular. commits.by_fuse fused told regular saves.was.replica.saved (holds told));
      follows = save_follows c.args.by is_pair c.commit.result commits.risen commits.armings commits.failed;
      saves = record {
        was = pair;
        is = is_pair;
        now = c.commit.new.disks;
        set = refl;
        between = commits.between;
        spans = commits.spans;
      };
      count = length-set c.args.stables.now.items (c.args.by - 1) c.commit.new.self;
    }
