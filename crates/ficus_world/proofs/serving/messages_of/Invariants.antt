use Rattle.std.proofs.Common.{◌≡◌, map}
use Rattle.std.specs.List.{range_with_len}
use Rattle.ficus_world.proofs.Sending.{spelled_piece}
use Rattle.ficus_world.proofs.serving.messages_of.Given as goal

-- the messages of the pieces so far
abbrev pub invariant-loop-index : goal.invariant-loop-index
invariant-loop-index l = l.messages.items ≡ map (spelled_piece l.fn.head l.fn.tables) (range_with_len 0 l.index)
