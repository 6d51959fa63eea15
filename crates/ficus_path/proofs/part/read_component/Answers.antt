use Rattle.std.proofs.Common.{sym, ◌∙◌}
use Rattle.ficus_path.proofs.PartLaws.{component_cut, target_behind}
use Rattle.ficus_path.proofs.part.read_component.Goals as goal

pub returns-in_err-name-clause-none : goal.returns-in_err-name-clause-none
returns-in_err-name-clause-none c = rw c.from_residual.ensures (λ part is_part e.
    let cut = component_cut _ _ part is_part c.cut_before.ensures.front c.cut_before.ensures.rest (sym c.cut_before.ensures.whole ∙ e) in
    c.in_err-name.ensures.none part.name is_part.name cut.0)

pub returns-in_err-read_id-in-len1-up-clause-none : goal.returns-in_err-read_id-in-len1-up-clause-none
returns-in_err-read_id-in-len1-up-clause-none c = rw c.from_residual-in_err-read_id-in-len1-up.ensures (λ part is_part e.
    let cut = component_cut _ _ part is_part c.cut_before.ensures.front c.cut_before.ensures.rest (sym c.cut_before.ensures.whole ∙ e) in
    let behind = target_behind c.cut_before.result.1.now part.target is_part.target cut.1 c.in-len1-up.len_at_least in
    c.in_err-read_id-in-len1-up.ensures.none behind.0 behind.1 behind.2)
