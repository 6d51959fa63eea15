-- What becomes of a machine on which a process was killed.
use Rattle.std.specs.Prelude.{◌≡◌, ◌⊎◌, ℕ, List, [], length, None}
use Rattle.ficus_durable_state.specs.declared.saved.Saved.{Saved}
use Rattle.ficus_runs.specs.Numbered.{IsNumbered}
use Rattle.ficus_opening.specs.declared.member.Member.{Member}
use Rattle.ficus_opening.specs.declared.member.MemberState.TheVariants.{Up}
use Rattle.ficus_world.specs.Kills.{latest}
use Rattle.ficus_world.specs.World.{Whole}
use Rattle.ficus_world.specs.Machines.Together.{Alone, Told}

-- the disks of a member may be found to hold this: what it has saved, or what is pending
abbrev pub MayBeFound : Member → Saved → Type 0
MayBeFound member found = (found ≡ member.replica.saved) ⊎ (found ≡ latest member.replica.saved member.state)

-- the next process has opened the disks of the member, and found this: it waits for no answer, and has no message
pub record BeginsWith (r : ℕ) (machine begun : Whole) (found : Saved) : Type 0 where
  pub count : length begun.members ≡ length machine.members
  pub member : Member
  pub is : IsNumbered begun.members r member
  pub replica : member.replica ≡ record { saved = found; ask = None }
  pub parts : member.parts ≡ None
  pub up : member.state ≡ Up
  pub fused : (was : Member) → IsNumbered machine.members r was → member.fused ≡ was.fused
  pub posts : begun.post.posts ≡ []

-- from the one world to the other is what one machine may do, and nothing came to it meanwhile
pub record GoesOn (r : ℕ) (machine begun : Whole) : Type 0 where
  pub posted : List (List ℕ)
  pub told : List Told
  pub alone : Alone (Unit {0}) (Unit {0}) r machine [] posted told begun
