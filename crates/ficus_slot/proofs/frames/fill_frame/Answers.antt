use Rattle.std.proofs.Common.{ℕ, List, [], ◌∷◌, ◌++◌, ◌+◌, drop, ◌∙◌, ap}
use Rattle.std.specs.Int.{w64, to_be_bytes}
use Rattle.ficus_disk.specs.Bytes.{patch}
use Rattle.ficus_slot.specs.Slot.{spelled}
use Rattle.ficus_slot.proofs.Heads.{headed}
use Rattle.ficus_slot.proofs.frames.fill_frame.Goals as goal

pub returns-clause-range : goal.returns-clause-range
unfolding spelled
returns-clause-range c =
    let at = c.args.at in
    let items = c.args.framed.now.items in
    let first = c.put_over.ensures.items ∙ ap (λ (l : List ℕ). patch items at l) c.to_be_bytes.ensures in
    let second = c.put_over-2.ensures.items ∙ ap (λ (l : List ℕ). patch l (at + 8) c.args.size.now) first in
    ap (λ (l : List ℕ). drop at l) c.put_gate.ensures.items
    ∙ ap (λ (l : List ℕ). drop at (l ++ 0 ∷ [])) second
    ∙ headed items (to_be_bytes w64 c.args.generation) c.args.size.now at c.requires.place c.requires.framed.head (0 ∷ [])
