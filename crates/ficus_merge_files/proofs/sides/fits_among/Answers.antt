use Rattle.std.proofs.Common.{sym, ◌∙◌}
use Rattle.ficus_ids.specs.RisingLaws.{one_item}
use Rattle.ficus_file.specs.Files.{id_of}
use Rattle.ficus_merge_files.proofs.sides.fits_among.Goals as goal

pub returns-in-Some : goal.returns-in-Some
returns-in-Some c =
    let mine = c.args.mine.now in
    let found = c.in-Some.ensures.found in (
      λ fits. record {
        each = λ file inside same. rw (one_item id_of mine file c.in-Some.file.now c.get.ensures.files.rising inside
            found.0 (same ∙ sym found.1)) (c.can_merge.ensures.0 fits);
      },
      λ fits. c.can_merge.ensures.1 (fits.each c.in-Some.file.now found.0 found.1),
    )
