use Rattle.ficus_laws.proofs.Issued.{entered_once, issuer_member}
use Rattle.ficus_laws.proofs.Places.{live_in_directory, entered_target}
use Rattle.ficus_laws.proofs.live.entries_are_sound.Goals as goal

pub returns-clause-one : goal.returns-clause-one
returns-clause-one c = λ H replica reader entry other live again. entered_once live.entered again.entered

pub returns-clause-places : goal.returns-clause-places
returns-clause-places c = λ volume H replica entry lawful live.
    let target = entered_target volume H lawful live.entered in
    (live_in_directory volume H lawful live, target.0, target.1)

pub returns-clause-makers : goal.returns-clause-makers
returns-clause-makers c = λ volume H replica object kind lawful made. issuer_member volume H lawful made.update
