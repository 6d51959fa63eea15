use Rattle.std.proofs.Common.{◌≡◌, ℕ, List, Err, refl, arith}
use Rattle.std.proofs.lemmas.Result.{err_from_is_err_and}
use Rattle.ficus_disk.specs.declared.disk.Disk.{Ghosts as Disk}
use Rattle.ficus_disk.specs.declared.pair.Pair.{Pair}
use Rattle.ficus_durable_state.specs.declared.saved.Saved.{Saved}
use Rattle.ficus_ids.specs.declared.refusal.Refusal.TheVariants.{Memory}
use Rattle.ficus_keeper.specs.declared.keep.Keep.{Ghosts as Keep}
use Rattle.ficus_model.specs.declared.event.Event.{Event}
use Rattle.ficus_runs.proofs.Numbers.{number_exists}
use Rattle.ficus_stable_storage.specs.declared.stable.Stable.{Stable}
use Rattle.ficus_world.specs.Acts.{StaysAt}
use Rattle.ficus_world.specs.Calls.{MakesReady}
use Rattle.ficus_world.specs.Post.{PostState}
use Rattle.ficus_world.proofs.Acting.{stays_same}
use Rattle.ficus_world.proofs.Tests.{untrue}
use Rattle.ficus_world.proofs.exchange.make_ready.Goals as goal

-- memory was refused
unready : {K D : Type 0} {keep : Keep K} {disk : Disk D} {by : ℕ} {next : Saved} {message noted : List ℕ} {room : ℕ}
    {old_events new_events : List Event} {was now : PostState} {old_stables new_stables : List (Stable K)}
    {old new : List (Pair D)} → new_events ≡ old_events → now.now ≡ was.now
    → StaysAt keep disk by old_stables new_stables old new
    → MakesReady {A = Unit {0}} keep disk by next message noted (Err Memory) room old_events new_events was now
    old_stables new_stables old new
unready events post stays = record {
  room = tt;
  post_room = tt;
  prepared = tt;
  small = tt;
  full = λ other. absurd (other refl);
  events = events;
  post = post;
  stays = stays;
}

pub returns-then-not-has_room_for : goal.returns-then-not-has_room_for
returns-then-not-has_room_for g c =
    let pair = number_exists c.args.disks.now.items c.args.by c.requires.pair in
    let full = untrue c.has_room_for.result c.has_room_for.ensures c.if-not-has_room_for.true in
    record {
      room = tt;
      post_room = tt;
      prepared = tt;
      small = tt;
      full = λ other. (refl, λ fits. full (omega (arith, fits, c.len.ensures, c.args.asking.now.message.ok.0)));
      events = refl;
      post = refl;
      stays = stays_same c.args.by pair.0 pair.1;
    }

pub returns-in_err-reserve : goal.returns-in_err-reserve
returns-in_err-reserve g c =
    let given = err_from_is_err_and c.from_residual.result c.from_residual.ensures.1 in
    let pair = number_exists c.args.disks.now.items c.args.by c.requires.pair in
    rw (given.1, given.2) (unready c.in_err-reserve.ensures.events refl (stays_same c.args.by pair.0 pair.1))

pub returns-in_err-make_room : goal.returns-in_err-make_room
returns-in_err-make_room g c =
    let given = err_from_is_err_and c.from_residual-in_err-make_room.result c.from_residual-in_err-make_room.ensures.1 in
    let pair = number_exists c.args.disks.now.items c.args.by c.requires.pair in
    rw (given.1, given.2)
    (unready c.in_ok-reserve.ensures.events c.in_err-make_room.ensures.same (stays_same c.args.by pair.0 pair.1))

pub returns-in_err-prepare_at : goal.returns-in_err-prepare_at
returns-in_err-prepare_at g c =
    let given =
    err_from_is_err_and c.from_residual-in_err-prepare_at.result c.from_residual-in_err-prepare_at.ensures.1 in
    rw (given.1, given.2)
    (unready c.in_ok-reserve.ensures.events c.in_ok-make_room.ensures.same c.in_err-prepare_at.ensures.stays)

pub returns : goal.returns
returns g c =
    let fits = c.has_room_for.ensures.0 c.if-not-has_room_for.false in
    record {
      room = c.in_ok-reserve.ensures.room;
      post_room = c.in_ok-make_room.ensures.room;
      prepared = c.in_ok-prepare_at.ensures.prepared;
      small = omega (arith, fits, c.len.ensures, c.args.asking.now.message.ok.0);
      full = tt;
      events = c.in_ok-reserve.ensures.events;
      post = c.in_ok-make_room.ensures.same;
      stays = c.prepare_at.ensures.stays;
    }
