use Rattle.std.proofs.lemmas.Bool.{eqb-true, eq-eqb}
use Rattle.ficus_ids.proofs.Masks.{full_by_mask}
use Rattle.ficus_ids.proofs.marks.Marks.is_full.Goals as goal

pub returns : goal.returns
returns c =
    rw (c.self.view_is, c.count.ensures.value)
    (let full = full_by_mask c.args.self c.args.members c.count.ensures.valid.at_most in
    (λ tested. full.0 (eqb-true _ _ tested), λ all. eq-eqb _ _ (full.1 all)))
