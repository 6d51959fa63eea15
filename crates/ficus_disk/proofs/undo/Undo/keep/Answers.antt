use Rattle.std.proofs.Common.{◌∙◌, ◌≡◌, ap, arith, List, ℕ, take}
use Rattle.ficus_disk.specs.Bytes.{patch}
use Rattle.ficus_disk.proofs.Undoing.{still_synced}
use Rattle.ficus_disk.proofs.undo.Undo.keep.Goals as goal

pub returns-then-at-upto-clause-synced : goal.returns-then-at-upto-clause-synced
returns-then-at-upto-clause-synced c over same =
    let was = c.args.self.now in
    let new = c.keep_behind.new.self in
    let counts : new.count ≡ was.count = c.keep_behind.ensures.count ∙ c.keep_before.ensures.count ∙ c.start.ensures.count in
    (λ i. take (counts i) (patch (patch c.args.bytes.now c.args.at over) new.from new.kept.items))
    ∙ still_synced c.args.bytes.now over new.kept.items c.args.at new.from was.count c.requires.place c.requires.counted
    (omega (arith, counts, new.within))
    (λ k from less synced. (
      omega (arith, c.keep_behind.ensures.from, c.keep_before.ensures.from),
      omega (arith, same, c.min-upto.ensures, c.keep_behind.ensures.upto),
    ))
    ∙ ap (λ (l : List ℕ). take was.count l)
    (c.keep_behind.ensures.same ∙ c.keep_before.ensures.same ∙ c.start.ensures.same)

pub returns-else-at-upto-clause-synced : goal.returns-else-at-upto-clause-synced
returns-else-at-upto-clause-synced c over same =
    let was = c.args.self.now in
    still_synced c.args.bytes.now over was.kept.items c.args.at was.from was.count c.requires.place c.requires.counted
    was.within (λ k from less synced. absurd (omega (arith, same, c.min-upto.ensures, c.if-at-upto.false)))
