use Rattle.std.proofs.Common.{◌≡◌, ◌+◌, ◌*◌, ◌++◌, ℕ, List, subst, arith}
use Rattle.std.specs.Prelude.{replicate}
use Rattle.ficus_codec.proofs.NoCounts.{more_zeros, no_counts_begin}
use Rattle.ficus_codec.proofs.file_format.passes_no_counts.Goals as goal

pub returns-then-count-eq0 : goal.returns-then-count-eq0
returns-then-count-eq0 c even =
    let all : 8 * c.loop.counter ≡ 4 * c.args.members = omega arith in
    no_counts_begin c.args.members c.args.reader.now c.loop.reader c.count-count.ensures.valid
    (subst (λ (n : ℕ). c.args.reader.now ≡ replicate n 0 ++ c.loop.reader) all c.loop.invariant)

pub returns-else-count-eq0 : goal.returns-else-count-eq0
returns-else-count-eq0 c none =
    let after : List ℕ = c.passes_zero.new.reader in
    let all : 8 * c.loop.counter + 4 ≡ 4 * c.args.members = omega arith in
    no_counts_begin c.args.members c.args.reader.now after c.count-count.ensures.valid
    (subst (λ (n : ℕ). c.args.reader.now ≡ replicate n 0 ++ after) all
    (more_zeros (8 * c.loop.counter) 4 c.args.reader.now c.loop.reader after c.loop.invariant
    (c.passes_zero.ensures none).spelled))
