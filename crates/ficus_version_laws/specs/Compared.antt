-- How vectors compare and are joined. A vector has a count for each replica. Source: Parker and others 1983.
use Rattle.std.specs.Prelude.{◌≡◌, ◌≢◌, ◌↔◌, ℕ, ◌+◌, ◌≤◌, ◌==◌, max, if◌then◌else◌, List}
use Rattle.ficus_ids.specs.Members.{IsMember}
use Rattle.ficus_model.specs.declared.event.Event.{Event}
use Rattle.ficus_model.specs.Known.{HasInPast}

-- for each member the first count is at most the second
pub record IsAtMost (members : ℕ) (vector other : ℕ → ℕ) : Type 0 where
  pub each : (replica : ℕ) → IsMember members replica → vector replica ≤ other replica

-- for each member the counts are the same
pub record AreEqual (members : ℕ) (vector other : ℕ → ℕ) : Type 0 where
  pub each : (replica : ℕ) → IsMember members replica → vector replica ≡ other replica

-- at most the other, and not at least
pub record IsUnder (members : ℕ) (vector other : ℕ → ℕ) : Type 0 where
  pub at_most : IsAtMost members vector other
  pub strictly : IsAtMost members other vector → ⊥

-- neither is at most the other
pub record AreApart (members : ℕ) (vector other : ℕ → ℕ) : Type 0 where
  pub not_at_most : IsAtMost members vector other → ⊥
  pub not_at_least : IsAtMost members other vector → ⊥

-- the events at two positions differ, and neither lies in the past of the other
pub record AreConcurrent (H : List Event) (position other : ℕ) : Type 0 where
  pub differ : position ≢ other
  pub not_earlier : HasInPast H other position → ⊥
  pub not_later : HasInPast H position other → ⊥

-- two vectors stand to each other as the pasts of the events at two positions
pub record CompareAsPasts (members : ℕ) (H : List Event) (position other : ℕ) (vector again : ℕ → ℕ) : Type 0 where
  pub equal : AreEqual members vector again ↔ (position ≡ other)
  pub under : IsUnder members vector again ↔ HasInPast H other position
  pub over : IsUnder members again vector ↔ HasInPast H position other
  pub apart : AreApart members vector again ↔ AreConcurrent H position other

-- for each replica the greater count
abbrev pub join : (ℕ → ℕ) → (ℕ → ℕ) → ℕ → ℕ
join vector other replica = max (vector replica) (other replica)

-- one more for this replica
abbrev pub bump : ℕ → (ℕ → ℕ) → ℕ → ℕ
bump by vector replica = if replica == by then vector replica + 1 else vector replica
