use Rattle.std.specs.Prelude.{Contains}
use Rattle.std.proofs.Common.{refl}
use Rattle.std.proofs.lemmas.Result.{IfOk-weaker}
use Rattle.ficus_entry.proofs.Noted.{live_noted}
use Rattle.ficus_entry.proofs.Within.{held_where_not_missing, entry_within, between_all}
use Rattle.ficus_entry.proofs.entries.Entries.noted_live_inside.Goals as goal

pub returns-clause-live : goal.returns-clause-live
returns-clause-live c =
    let notes = c.self.inside.index in
    let view = c.self.inside.table.items in
    let noted = c.self.invariant in
    let span = c.span-span in
    IfOk-weaker c.noted_of.result _ _ (λ ids complete entry inside live in_dir.
    let viewed : Contains view entry = rw c.self.view_is inside in
    let old : Contains noted.before entry =
    live_noted view c.self.inside.table.edited notes noted entry viewed live in
    held_where_not_missing ids.items entry.id
    (λ missing. entry_within noted.before notes _ _ span.result.start span.result.end
    entry noted.noted span.ensures old live
    (rw (c.first_place.ensures, c.place_behind.ensures) (between_all c.args.dir entry in_dir))
    (λ within. missing (complete entry.id (record { entry = entry; inside = inside; so = in_dir; has_id = refl })
    within)))) c.noted_of.ensures.complete
