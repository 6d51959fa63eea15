use Rattle.std.proofs.Common.{◌≡◌, sym, ap, ◌∙◌}
use Rattle.ficus_vectors.specs.Vector.{join}
use Rattle.ficus_vectors.specs.VectorLaws.{join_with_none}
use Rattle.ficus_file.proofs.Joined.{joined_step}
use Rattle.ficus_file.proofs.versions.joined.Goals as goal

pub loop-version-init : goal.loop-version-init
loop-version-init c = sym (join_with_none c.args.from)

pub loop-version-preserved : goal.loop-version-preserved
loop-version-preserved c =
    let step = joined_step c.args.versions.now c.loop-version.version-index c.version-item.result c.args.from c.loop-version-test.true in
    let here : c.join-vector.result ≡ join c.loop-version.vector c.version-item.result.vector = c.join-vector.ensures in
    here ∙ ap (λ v. join v c.version-item.result.vector) c.loop-version.invariant ∙ rw (← c.version-item.is) at step
