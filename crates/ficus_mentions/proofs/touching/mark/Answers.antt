use Rattle.std.proofs.Common.{Some, false, refl, ap, ◌∙◌}
use Rattle.std.proofs.lemmas.Bool.{false≢true}
use Rattle.std.proofs.lemmas.Option.{slice_get-get_or}
use Rattle.ficus_ids.specs.Id.{id_cmp}
use Rattle.ficus_ids.specs.IdLaws.{id_cmp-Equal}
use Rattle.ficus_mentions.proofs.Among.{among_by}
use Rattle.ficus_mentions.proofs.Marking.{not_among, marked_at}
use Rattle.ficus_mentions.proofs.touching.mark.Goals as goal

pub returns-in-Ok : goal.returns-in-Ok
unfolding id_cmp
returns-in-Ok c others are =
    let ids = c.args.ids.now in
    marked_at others ids c.args.id c.args.marks.now.items are c.in-Ok.index
    (slice_get-get_or ids c.in-Ok.index c.args.id c.in-Ok.ensures.bound
    ∙ ap Some (id_cmp-Equal _ _ (c.in-Ok.ensures.ok c.args.id)))

pub returns-in_default : goal.returns-in_default
unfolding id_cmp
returns-in_default c others are =
    let ids = c.args.ids.now in
    not_among others ids c.args.id c.args.marks.now.items are
    (λ inside. false≢true ((among_by ids c.args.id c.binary_search.result false c.requires.rising
    (rw c.in_default.is refl) c.binary_search.ensures.bound c.binary_search.ensures.position).1 inside))
