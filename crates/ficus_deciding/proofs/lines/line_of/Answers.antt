use Rattle.ficus_file.specs.Version.{HasTwoTexts}
use Rattle.std.proofs.Common.{◌≡◌, refl}
use Rattle.ficus_deciding.proofs.Tables.{so_of_file}
use Rattle.ficus_deciding.proofs.lines.line_of.Goals as goal

pub returns-clause-object : goal.returns-clause-object
returns-clause-object c =
    let told = so_of_file c.requires.fits c.visible-file.ensures in
    let conflict = told (λ file. HasTwoTexts file.versions) in
    record {
      kind = (told (λ file. file.kind ≡ c.visible-file.result.now.kind)).0 refl;
      conflict = (λ flag. conflict.0 (c.is_conflict.ensures.0 flag), λ has. c.is_conflict.ensures.1 (conflict.1 has));
    }
