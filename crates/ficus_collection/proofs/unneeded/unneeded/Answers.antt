use Rattle.std.proofs.lemmas.Result.{IfOk-weaker}
use Rattle.ficus_collection.proofs.Left.{unneeded_are}
use Rattle.ficus_collection.proofs.unneeded.unneeded.Goals as goal

pub returns : goal.returns
returns c =
    IfOk-weaker c.others.result _ _
    (λ ids are. unneeded_are c.args.entries.now c.args.files.now c.args.orphans.now c.in_ok-loose.loose.items
    c.in_ok-touched.touched.items ids.items c.in_ok-loose.ensures.loose
    (rw c.deref.ensures.value at c.in_ok-touched.ensures.touched)
    (rw (c.deref-2.ensures.value, c.deref-3.ensures.value) at are)) c.others.ensures
