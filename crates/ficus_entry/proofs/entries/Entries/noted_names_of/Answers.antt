use Rattle.std.specs.Prelude.{Contains}
use Rattle.std.proofs.Common.{◌≡◌, ◌+◌, ◌∙◌, ap, sym, subst, arith}
use Rattle.ficus_index.specs.Digest.{digest_of}
use Rattle.ficus_index.specs.Place.{IsNotedWithin}
use Rattle.ficus_entry.proofs.Noted.{live_noted}
use Rattle.ficus_entry.proofs.Within.{IfOk-both, held_where_not_missing, entry_within, between_ranks}
use Rattle.ficus_entry.proofs.entries.Entries.noted_names_of.Goals as goal

pub returns : goal.returns
returns c =
    let notes = c.self.inside.index in
    let view = c.self.inside.table.items in
    let noted = c.self.invariant in
    let span = c.span in
    let rank = c.digest-rank.result in
    IfOk-both c.all_of.result _ _ _ (λ ids sound complete id. (
      λ inside. let such = sound id inside in
          record {
            entry = such.entry;
            inside = such.inside;
            has_id = such.has_id;
            so = record { named = such.so.0; leads = such.so.1 };
          },
      λ such.
          let is = such.so.named in
          let viewed : Contains view such.entry = rw c.self.view_is such.inside in
          let old : Contains noted.before such.entry =
          live_noted view c.self.inside.table.edited notes noted such.entry viewed is.live in
          let ranked : digest_of such.entry.name ≡ rank = ap digest_of is.named ∙ sym c.digest-rank.ensures.value in
          held_where_not_missing ids.items id
          (λ missing. entry_within noted.before notes _ _ span.result.start span.result.end such.entry noted.noted
          span.ensures old is.live
          (between_ranks c.args.dir rank (rank + 1) such.entry is.in_dir (omega (arith, ranked)) (omega (arith, ranked)))
          (λ within. missing (complete id
          (record { entry = such.entry; inside = such.inside; has_id = such.has_id; so = (is, such.so.leads) })
          (subst (IsNotedWithin notes span.result.start span.result.end) such.has_id within)))),
    )) c.all_of.ensures.sound c.all_of.ensures.complete
