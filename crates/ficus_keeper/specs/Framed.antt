-- Bytes with room for a head in front of them, and for a tail behind them.
use Rattle.std.specs.Prelude.{ℕ, ◌+◌, ◌≤◌, List, length, drop, replicate, Vec, vec_capacity}
use Rattle.std.specs.declared.alloc.Global.{Global}

-- so many bytes of a frame stand in front of what is saved
abbrev pub head_size : ℕ
head_size = 16

-- these, as a frame begins
abbrev pub empty_head : List ℕ
empty_head = replicate head_size 0

-- what a frame holds to be saved
abbrev pub body_in : List ℕ → List ℕ
body_in bytes = drop head_size bytes

-- the head's room is there, and room for one byte behind the body
pub record IsFramed (framed : Vec ℕ Global) : Type 0 where
  pub head : head_size ≤ length framed.items
  pub tail : 1 + length framed.items ≤ vec_capacity framed
