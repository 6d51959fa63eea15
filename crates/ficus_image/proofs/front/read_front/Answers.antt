use Rattle.ficus_formats.specs.Format.{byte, number32, number64, ◌then◌}
use Rattle.ficus_formats.proofs.Reading.{passed, fails-shaped, fails-first}
use Rattle.ficus_image.specs.Image.{front, front_parts, magic, member_count}
use Rattle.ficus_image.proofs.front.read_front.Goals as goal

pub returns-in_err-read_magic-clause-reads : goal.returns-in_err-read_magic-clause-reads
returns-in_err-read_magic-clause-reads c =
    passed front _ _ _ _ c.from_residual.ensures.1
    (fails-shaped front_parts
    (magic then byte then member_count then number32 then number32 then number32 then number32 then number64) _ _
    (fails-first magic (byte then member_count then number32 then number32 then number32 then number32 then number64) _ _
    c.in_err-read_magic.ensures.reads))
