-- How the vectors of two versions stand to each other.
use Rattle.std.specs.Prelude.{◌≡◌, ◌↔◌, ℕ, List}
use Rattle.ficus_vectors.specs.Vector.{Counts, IsOver, AreApart}
use Rattle.ficus_model.specs.declared.event.Event.{Event}
use Rattle.ficus_model.specs.Known.{HasInPast}
use Rattle.ficus_version_laws.specs.Compared.{AreConcurrent}

-- two vectors stand to each other as the pasts of the events at two positions: they are equal exactly where it is one
-- event, the first is under the second where its event lies in the past of the other, over it where the other's lies
-- in its past, and else they are apart
pub record StandAsPasts (H : List Event) (position other : ℕ) (vector again : Counts) : Type 0 where
  pub equal : (vector ≡ again) ↔ (position ≡ other)
  pub under : IsOver again vector ↔ HasInPast H other position
  pub over : IsOver vector again ↔ HasInPast H position other
  pub apart : AreApart vector again ↔ AreConcurrent H position other
