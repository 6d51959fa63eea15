-- What becomes of a message that comes from outside, and of an ask that outlives its process.
use Rattle.std.specs.Prelude.{◌≡◌, ◌≢◌, ◌⊎◌, ℕ, ◌+◌, ◌<◌, ◌≤◌, List, length, Option, Some, None}
use Rattle.ficus_ids.specs.declared.refusal.Refusal.{Refusal}
use Rattle.ficus_ids.specs.declared.refusal.Refusal.TheVariants.{BadMessage, Link, LinkFull, Memory, NoMail}
use Rattle.ficus_ids.specs.Members.{IsMember}
use Rattle.ficus_opening.specs.declared.member.Member.{Member}
use Rattle.ficus_opening.specs.declared.member.MemberState.TheVariants.{Up}
use Rattle.ficus_replica.specs.declared.replica.Asked.{Asked}
use Rattle.ficus_runs.specs.Exchange.{total_limit}
use Rattle.ficus_runs.specs.Numbered.{IsNumbered}
use Rattle.ficus_world.specs.Post.{HasFailed, Outbox}
use Rattle.ficus_world.specs.World.{Whole, smallest_message}

-- A message of these bytes isn't heard: it has fewer bytes than any, or there is no room for it, or memory was refused,
-- and all is as before; or the link failed.
pub record HearsNot (bytes : List ℕ) (old new : Outbox) (refusal : Refusal) : Type 0 where
  pub small : refusal ≡ BadMessage → length bytes < smallest_message
  pub full : refusal ≡ LinkFull → old.total + length bytes ≤ total_limit → ⊥
  pub failed : refusal ≡ Link → HasFailed old new
  pub kept : refusal ≢ Link → new ≡ old
  pub one : (refusal ≡ BadMessage) ⊎ ((refusal ≡ LinkFull) ⊎ ((refusal ≡ Link) ⊎ (refusal ≡ Memory)))

-- The message of this number isn't fetched: there is none, or memory was refused, and all is as before; or the link
-- failed.
pub record FetchesNot (number : ℕ) (old new : Outbox) (refusal : Refusal) : Type 0 where
  pub none : refusal ≡ NoMail → IsMember (length old.posts) number → ⊥
  pub failed : refusal ≡ Link → HasFailed old new
  pub kept : refusal ≢ Link → new ≡ old
  pub one : (refusal ≡ NoMail) ⊎ ((refusal ≡ Link) ⊎ (refusal ≡ Memory))

-- the member waits for the answer to this ask, or for none, and holds no piece of one
abbrev pub awaiting : Member → Option Asked → Member
awaiting member ask = record member { replica = record member.replica { ask = ask }; parts = None }

-- member r is up, waits for the answer to this ask, and holds no piece of it yet
pub record Awaits (world : Whole) (r : ℕ) (ask : Asked) : Type 0 where
  pub member : Member
  pub is : IsNumbered world.members r member
  pub up : member.state ≡ Up
  pub asks : member.replica.ask ≡ Some ask
  pub none_held : member.parts ≡ None
