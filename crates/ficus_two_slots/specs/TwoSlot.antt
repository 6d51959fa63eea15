-- A keeper of two slots.
use Rattle.std.specs.Prelude.{ℕ, ◌+◌, ◌≤◌, Bool, true, List, vec_capacity}
use Rattle.ficus_slot.specs.Slot.{range_size}
use Rattle.ficus_two_slots.specs.Slots.{StandsOn}
use Rattle.ficus_two_slots.specs.declared.two_slot.TwoSlot.{TwoSlot}

-- the keeper stands for what the disks hold
abbrev pub Fits : TwoSlot → List ℕ → List ℕ → Type 0
Fits keeper a b = StandsOn keeper.on_a keeper.generation keeper.shut a b

-- how many bytes its buffer has room for
abbrev pub room_in : TwoSlot → ℕ
room_in keeper = vec_capacity keeper.buffer

-- it always wants an image
abbrev pub wants_image : TwoSlot → Bool
wants_image keeper = true

-- of any length
abbrev pub Allows : TwoSlot → ℕ → Type 0
Allows keeper length = Unit {0}

-- for which its buffer has room
abbrev pub Takes : TwoSlot → ℕ → Type 0
Takes keeper length = range_size + length ≤ room_in keeper

-- how many bytes a disk has after a commit of so many, at most
abbrev pub size_after : TwoSlot → ℕ → ℕ
size_after keeper length = 1 + range_size + length
