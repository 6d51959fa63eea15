-- A member that waits for another answer is as sound as it was.
use Rattle.std.proofs.Common.{◌≡◌, ℕ, ◌+◌, ◌-◌, ◌≤◌, List, length, Option, Some, None, arith}
use Rattle.std.specs.Prelude.{slice_set}
use Rattle.ficus_opening.specs.declared.member.Member.{Member}
use Rattle.ficus_opening.specs.declared.member.MemberState.{MemberState}
use Rattle.ficus_opening.specs.declared.member.MemberState.TheVariants.{Up, Down}
use Rattle.ficus_replica.specs.declared.replica.Asked.{Asked}
use Rattle.ficus_replica.specs.declared.replica.Replica.{Replica}
use Rattle.ficus_runs.specs.Numbered.{IsNumbered}
use Rattle.ficus_world.specs.Hearing.{awaiting}
use Rattle.ficus_world.specs.Moves.{with_member}
use Rattle.ficus_world.specs.World.{Whole, IsPendingSound, IsSound, IsSoundMember, IsWorld}
use Rattle.ficus_world.proofs.SoundWorlds.{world_after}

-- a replica with another ask
abbrev with_ask : Replica → Option Asked → Replica
with_ask replica ask = record replica { ask = ask }

replica_sound : {count events r : ℕ} (replica : Replica) (ask : Option Asked) → IsSound count events r replica
    → IsSound count events r (with_ask replica ask)
replica_sound replica ask sound =
    record { me = sound.me; members = sound.members; fits = sound.fits; generation = sound.generation }

pending_sound : (count events r : ℕ) (replica : Replica) (ask : Option Asked) (state : MemberState)
    → IsPendingSound count events r replica state → IsPendingSound count events r (with_ask replica ask) state
pending_sound count events r replica ask Up is = tt
pending_sound count events r replica ask (Down None) is = tt
pending_sound count events r replica ask (Down (Some pending)) is = is

awaiting_sound : {count events r : ℕ} (was : Member) (ask : Option Asked) → IsSoundMember count events r was
    → IsSoundMember count events r (awaiting was ask)
awaiting_sound {count} {events} {r} was ask sound = record {
  replica = replica_sound was.replica ask sound.replica;
  pending = pending_sound count events r was.replica ask was.state sound.pending;
}

-- so the world is one in which it waits
pub awaits_inside : (old : Whole) (r : ℕ) (was : Member) (ask : Option Asked) (members : List Member) → IsWorld old
    → IsNumbered old.members r was → members ≡ slice_set old.members (r - 1) (awaiting was ask)
    → IsWorld (record old { members = members })
awaits_inside old r was ask members world is holds =
    world_after old old.events r was (awaiting was ask) is world (awaiting_sound was ask (world.sound r was is))
    (omega (arith)) world.plain members holds
