-- A link, with what lies behind each posted message.
use Rattle.std.specs.Prelude.{◌≡◌, ℕ, ◌+◌, ◌≤◌, List, ◌∷◌, [], ◌++◌, length}
use Rattle.ficus_ids.specs.Members.{IsMember}
use Rattle.ficus_faults.specs.Faults.{Rose}
use Rattle.ficus_runs.specs.Numbered.{IsNumbered}
use Rattle.ficus_world.specs.declared.post.Behind.{Behind}

-- behind the event that is stored at a position lies one message, or, where it is a Serve, the piece with this index
abbrev pub lies_behind : ℕ → ℕ → Behind
lies_behind position index = record { position = position; index = index }

-- what lies behind each posted message; and of the link, its messages, the bytes posted, and its faults
pub record Outbox : Type 0 where
  pub behind : List Behind
  pub posts : List (List ℕ)
  pub total : ℕ
  pub faults : ℕ

-- and for how many messages there is room
pub record PostState : Type 0 where
  pub now : Outbox
  pub link_room : ℕ
  pub place_room : ℕ

-- there is room for so many messages
pub record HasRoom (state : PostState) (count : ℕ) : Type 0 where
  pub link : count ≤ state.link_room
  pub place : count ≤ state.place_room

-- These bytes were posted, with this behind them, and have this number. That they are what was posted is a claim where
-- the link tells.
pub record IsSent (tells : Type 0) (old : Outbox) (behind : Behind) (bytes : List ℕ) (number : ℕ) (new : Outbox) :
    Type 0 where
  pub number_is : number ≡ length old.posts + 1
  pub counted : length new.posts ≡ length old.posts + 1
  pub told : tells → new.posts ≡ old.posts ++ bytes ∷ []
  pub behind_is : new.behind ≡ old.behind ++ behind ∷ []
  pub total : new.total ≡ old.total + length bytes
  pub faults : new.faults ≡ old.faults

-- the link failed, and all else is as it was
pub record HasFailed (old new : Outbox) : Type 0 where
  pub same : new ≡ record old { faults = new.faults }
  pub rose : Rose old.faults new.faults
  pub risen : old.faults ≤ new.faults

-- There is a message of this number, and these bytes were fetched for it. That they are the posted ones is a claim
-- where the link tells.
pub record AreFetched (tells : Type 0) (posts : List (List ℕ)) (number : ℕ) (bytes : List ℕ) : Type 0 where
  pub some : IsMember (length posts) number
  pub told : tells → IsNumbered posts number bytes
