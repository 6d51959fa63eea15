use Rattle.ficus_file.specs.Version.{HasTwoTexts}
use Rattle.ficus_deciding.proofs.Tables.{so_of_file}
use Rattle.ficus_deciding.proofs.conflict.is_conflict.Goals as goal

pub returns : goal.returns
returns c =
    let told = so_of_file c.requires.fits c.requires.file.object (λ file. HasTwoTexts file.versions) in
    (λ flag. told.0 (c.is_conflict.ensures.0 flag), λ conflict. c.is_conflict.ensures.1 (told.1 conflict))
