use Rattle.ficus_laws.proofs.Views.{same_turned, kept_known, shown_within, conflict_within, same_view}
use Rattle.ficus_version_laws.proofs.Advancing.{are_shown_kept}
use Rattle.ficus_version_laws.proofs.Covering.{cover_kept, cover_was}
use Rattle.ficus_version_laws.proofs.views.others_keep_views.Goals as goal

pub returns-clause-view : goal.returns-clause-view
returns-clause-view c = λ H event replica kept. same_view (kept_known H event replica kept)

pub returns-clause-file : goal.returns-clause-file
returns-clause-file c = λ H event replica file kept.
    let same = kept_known H event replica kept in
    let turned = same_turned same in
    record {
      shown = λ position. (shown_within same, shown_within turned);
      listed = λ versions. are_shown_kept H event replica (λ position v k. turned.there.known v.update k);
      conflict = (conflict_within same, conflict_within turned);
      cover = λ cover. (
        cover_kept H event replica (λ position v k. turned.there.known v.update k),
        cover_was H event replica (λ position v k. turned.there.known v.update k),
      );
    }
