use Rattle.ficus_path.proofs.PathLaws.{behind_tilde}
use Rattle.ficus_path.proofs.reading.read_at_orphan.Goals as goal

pub returns-in_err-orphan-clause-none : goal.returns-in_err-orphan-clause-none
returns-in_err-orphan-clause-none c = rw c.from_residual.ensures (λ path is_path e.
    let begins = behind_tilde path _ _ _ is_path c.cut_before.ensures.front c.cut_before.ensures.rest
    c.cut_before.ensures.whole e in
    c.in_err-orphan.ensures.none begins.orphan begins.issued begins.identifier)

pub returns-in_err-read_parts-clause-none : goal.returns-in_err-read_parts-clause-none
returns-in_err-read_parts-clause-none c = rw c.from_residual-in_err-read_parts.ensures (λ path is_path e.
    let begins = behind_tilde path _ _ _ is_path c.cut_before.ensures.front c.cut_before.ensures.rest
    c.cut_before.ensures.whole e in
    c.in_err-read_parts.ensures.none path.parts is_path.within_limit is_path.each begins.parts)
