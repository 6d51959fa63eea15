use Rattle.std.proofs.Common.{inl, inr}
use Rattle.ficus_loop.proofs.Places.{not_occupied}
use Rattle.ficus_top.proofs.mode_laws.volumes_are_made_or_in_part.Goals as goal

pub returns : goal.returns
returns g c = λ size before after was now disks later status does told empty synced. elim does.codes [
  | inl zero ↦ inl (zero, does.made told zero)
  | inr (inl three) ↦ inr (inl (three, does.wanted told three empty synced))
  | inr (inr (inl six)) ↦ inr (inr (six, does.partly told six empty synced))
  | inr (inr (inr nine)) ↦
      let makes = does.makes told in
      absurd (not_occupied empty (makes.occupied nine) (makes.is_member nine))
]
