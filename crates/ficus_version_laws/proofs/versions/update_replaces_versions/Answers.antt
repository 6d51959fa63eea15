use Rattle.std.proofs.Common.{subst}
use Rattle.ficus_model.specs.declared.event.Event.TheVariants.{Update}
use Rattle.ficus_model.specs.Known.{Knows}
use Rattle.ficus_model.specs.Versions.{bytes_of}
use Rattle.ficus_version_laws.specs.Listed.{AreShown, advanced}
use Rattle.ficus_version_laws.proofs.Operations.{writes_version, version_writes}
use Rattle.ficus_version_laws.proofs.Advancing.{after, are_shown_kept, other_back, end_shown, shown_is_end, advanced_shown}
use Rattle.ficus_version_laws.proofs.Orphaned.{one_no_conflict}
use Rattle.ficus_version_laws.proofs.versions.update_replaces_versions.Goals as goal

pub returns-clause-shown : goal.returns-clause-shown
returns-clause-shown c = λ H replica op file bytes position writes.
    let is = (writes_version writes).0 in
    (shown_is_end H replica op is, λ end. rw end (end_shown H replica op is))

pub returns-clause-advanced : goal.returns-clause-advanced
returns-clause-advanced c = λ H replica op file bytes versions writes shown.
    let is = writes_version writes in
    subst
    (λ text. AreShown (after H replica op) (Knows (after H replica op) replica) file (advanced replica text versions))
    is.1
    (advanced_shown H replica op is.0 shown)

pub returns-clause-settled : goal.returns-clause-settled
returns-clause-settled c = λ H replica op file bytes writes conflict.
    one_no_conflict (λ position shown. shown_is_end H replica op (writes_version writes).0 shown) conflict

pub returns-clause-kept : goal.returns-clause-kept
returns-clause-kept c = λ H replica op file versions other.
    are_shown_kept H (Update replica op) replica
    (other_back H replica op (λ is. other (bytes_of op) (version_writes _ file op is)))
