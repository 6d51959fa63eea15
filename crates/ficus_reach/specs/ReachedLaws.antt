-- Laws of what is reached, for the proofs of this crate and of those above it.
use Rattle.ficus_ids.specs.declared.id.Id.{Id}
use Rattle.ficus_model.specs.Reached.{IsReached, Base, Through}

-- what is reached is reached along more ways and from more objects too
pub IsReached-along : {leads ways : Id → Id → Type 0} {base start : Id → Type 0} {object : Id} →
    ((dir target : Id) → leads dir target → ways dir target) → ((from : Id) → base from → start from) →
    IsReached leads base object → IsReached ways start object
IsReached-along {object = object} along within (Base begins) = Base (within object begins)
IsReached-along {object = object} along within (Through {dir} reached leads) =
    Through (IsReached-along along within reached) (along dir object leads)
