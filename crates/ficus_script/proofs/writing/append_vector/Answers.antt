use Rattle.std.proofs.Common.{◌≡◌, ◌+◌, ◌++◌, ◌∷◌, arith, rules}
use Rattle.std.specs.Fmt.{decimal}
use Rattle.ficus_vectors.specs.Vector.{count_of}
use Rattle.ficus_script.proofs.VectorTexts.{count_text, more_written, all_written, more_counts}
use Rattle.ficus_script.proofs.writing.append_vector.Goals as goal

pub loop-index-preserved : goal.loop-index-preserved
loop-index-preserved c =
    let count = count_of c.args.vector (c.loop-index.index + 1) in
    let written : c.extend_from_slice-in-loop-index.new.self.items ≡ c.loop-index.text.items ++ count_text count =
    search rules in
    more_written _ _ _ c.loop-index.index c.args.vector (omega arith) (omega arith) c.loop-index.invariant written

pub returns : goal.returns
returns c =
    let begun : c.extend_from_slice.new.self.items ≡ c.args.text.now.items ++ 91 ∷ decimal c.args.vector.first =
    search rules in
    let end : c.loop-index.index ≡ c.args.members = omega arith in
    let so_far : c.loop-index.text.items ≡ c.extend_from_slice.new.self.items
    ++ more_counts c.args.members c.args.vector = rw end at c.loop-index.invariant in
    all_written _ _ _ _ c.args.members c.args.vector (omega arith) begun so_far c.in_ok-push.ensures.items
