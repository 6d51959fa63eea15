use Rattle.ficus_model.specs.declared.event.Event.TheVariants.{Update}
use Rattle.ficus_version_laws.proofs.Covering.{cover_covered, covers_all, coverings_back, cover_kept, cover_was}
use Rattle.ficus_version_laws.proofs.Operations.{gives_up_covers, covers_gives_up}
use Rattle.ficus_version_laws.proofs.covers.covers_follow_updates.Goals as goal

pub returns-clause-removed : goal.returns-clause-removed
returns-clause-removed c = λ H replica op file versions cover gives_up shown cover_is.
    cover_covered H replica op (gives_up_covers gives_up) shown cover_is

pub returns-clause-all : goal.returns-clause-all
returns-clause-all c = λ H replica op file gives_up unseen. covers_all H replica op (gives_up_covers gives_up) unseen

pub returns-clause-kept : goal.returns-clause-kept
returns-clause-kept c = λ H replica op file cover other.
    let back = coverings_back H replica op {file = file} (λ is. other (covers_gives_up op file is)) in
    (cover_kept H (Update replica op) replica back, cover_was H (Update replica op) replica back)
