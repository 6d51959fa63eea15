use Rattle.std.proofs.Common.{◌≡◌, take}
use Rattle.ficus_path.proofs.draft.PathDraft.path.Given as goal

-- the parts so far are in memory
abbrev pub invariant-loop-room : goal.invariant-loop-room
invariant-loop-room l = l.parts.items ≡ take l.room-index l.room-items
