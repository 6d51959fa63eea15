-- The marks of a disk in memory.
use Rattle.std.specs.Prelude.{ℕ, ◌-◌, List, ◌++◌, length, replicate, vec_capacity}
use Rattle.ficus_disk.specs.Bytes.{patch}
use Rattle.ficus_disk.specs.Platter.{marks_of}
use Rattle.ficus_disk.specs.declared.mark.Mark.{Mark}
use Rattle.ficus_disk.specs.declared.mark.Mark.TheVariants.{Clean}
use Rattle.ficus_disk.specs.declared.marks.Marks.{Marks}

-- these marks, and clean ones behind them, so that there are so many
abbrev pub padded : List Mark → ℕ → List Mark
padded marks count = marks ++ replicate (count - length marks) Clean

-- those of all ranges but the latest
abbrev pub kept_in : Marks → List Mark
kept_in m = padded m.marks.items m.count

-- those that are kept, and those of the latest range
abbrev pub marks_in : Marks → List Mark
marks_in m = patch (kept_in m) m.latest.from (marks_of (m.latest.upto - m.latest.from))

-- so many bytes are marked without memory
abbrev pub marks_room : Marks → ℕ
marks_room m = vec_capacity m.marks
