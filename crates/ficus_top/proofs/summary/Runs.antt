-- What commands that stop nothing come to on a fresh world, over disks whose fuses are unarmed.
use Rattle.std.proofs.Common.{◌≡◌, ℕ, ◌-◌, ◌≤◌, List, length, map, refl, ap, arith, length-append}
use Rattle.std.specs.Prelude.{All}
use Rattle.std.proofs.lemmas.List.{length-map}
use Rattle.ficus_disk.specs.declared.disk.Disk.{Ghosts as Disk}
use Rattle.ficus_disk.specs.declared.pair.Pair.{Pair}
use Rattle.ficus_generator.specs.Lines.{StopsNothing}
use Rattle.ficus_ids.specs.Members.{IsCount}
use Rattle.ficus_keeper.specs.declared.keep.Keep.{Ghosts as Keep}
use Rattle.ficus_model.specs.Events.{raised}
use Rattle.ficus_runs.specs.Start.{default_volume}
use Rattle.ficus_script.specs.declared.command.Command.{Command}
use Rattle.ficus_loop.specs.Tally.{Tallies}
use Rattle.ficus_loop.specs.declared.tally.Tally.{Tally}
use Rattle.ficus_world.specs.Fuses.{FusesStand, at_rest, keeping_of}
use Rattle.ficus_world.specs.World.{Whole, WorldStandsFor}
use Rattle.ficus_runs.specs.Outcomes.{NothingFails, all_outcomes}
use Rattle.ficus_runs.proofs.Extending.{run_extends}
use Rattle.ficus_runs.proofs.Starts.{length_restarts}
use Rattle.ficus_runs.proofs.Up.{run_up, up_first}
use Rattle.ficus_top.specs.Summary.Running.{CountedAs}
use Rattle.ficus_top.specs.Summary.Summary.{fresh_start}
use Rattle.ficus_top.specs.declared.summary.counts.Counts.{Counts}
use Rattle.ficus_loop.proofs.Places.{none_caused}
use Rattle.ficus_top.proofs.summary.Unfailing.{none_armed, none_fails}

-- a fresh world stores one event for each member at most
pub fresh_few : (members : ℕ) (world : Whole) → IsCount members
    → WorldStandsFor (default_volume members) (fresh_start members) world → length world.events ≤ 8
fresh_few members world count stands =
    let earlier = stands.stored.earlier in
    omega (
      arith,
      length_restarts members,
      ap length stands.stored.is,
      length-append earlier (map (raised (length earlier)) world.events),
      length-map world.events (raised (length earlier)),
      count.at_most,
    )

module _ {K D : Type 0} (keep : Keep K) (disk : Disk D) (members : ℕ) (commands : List Command) (before world : Whole)
    (tally : Tally) (old_disks new_disks : List (Pair D))
    (tallies : Tallies keep disk (default_volume members) (fresh_start members) before commands world
    (record { ok = 0; no = 0 }) tally old_disks new_disks) where
  -- no fewer events are stored afterwards
  pub stored_more : length before.events ≤ length world.events
  stored_more =
      let served = tallies.served in
      let extends = run_extends served.serves.run in
      omega (
        arith,
        served.stored,
        ap length extends.is,
        length-append (fresh_start members).events extends.later,
      )

  module _ (fused : disk.tells_fuse) (told : disk.tells) (stopless : All StopsNothing commands)
      (unfailed : before.post.faults ≡ 0) (still : world.post.faults ≡ 0)
      (stand : FusesStand keep disk (λ r. at_rest 0) before.members old_disks) where
    nothing_fails : NothingFails (all_outcomes tallies.served.serves.outcomes)
    nothing_fails =
        let served = tallies.served in
        let outcomes = all_outcomes served.serves.outcomes in
        record {
          link = none_caused still served.caused;
          stores = none_fails (keeping_of keep) outcomes (λ r. at_rest 0) (λ r. (refl, refl))
              (served.fuses.permit.all fused told (λ r. at_rest 0) stand) (none_armed served.serves.run stopless);
        }

    -- all is done, and is counted
    pub counted_as : (counts : Counts) → counts.lines ≡ length commands → counts.ok ≡ tally.ok → counts.no ≡ tally.no
        → counts.events ≡ length world.events - length before.events → CountedAs members commands counts world
    counted_as counts lines ok refused events =
        let served = tallies.served in
        let done = run_up served.serves.run (up_first members) nothing_fails in
        record {
          outcomes = served.serves.outcomes;
          answers = served.serves.answers;
          after = served.after;
          run = served.serves.run;
          done = done.0;
          up = done.1.each;
          stands = served.stands;
          lines = lines;
          ok = omega (arith, ok, tallies.ok);
          no = omega (arith, refused, tallies.no);
          events = omega (arith, events, stored_more, served.stored);
        }
