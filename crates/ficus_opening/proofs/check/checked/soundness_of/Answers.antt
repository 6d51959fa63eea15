use Rattle.std.proofs.Common.{ap, arith}
use Rattle.ficus_entry.specs.Kill.{is_live}
use Rattle.ficus_opening.proofs.check.Counting.{count_either}
use Rattle.ficus_opening.specs.declared.check.holding.Holding.{Holding}
use Rattle.ficus_opening.proofs.check.checked.soundness_of.Goals as goal

pub overflow_cast-result : goal.overflow_cast-result
overflow_cast-result c =
    let saved = c.args.saved.now in
    let few = c.tables_are_countable.ensures saved.members saved.entries saved.files c.requires.members c.requires.tables in
    let each = count_either is_live saved.entries _ few.few_entries in
    omega (arith, each.0, ap (λ (h : Holding). h.live) c.holding_of-live.ensures)

pub overflow_cast-result-2 : goal.overflow_cast-result-2
overflow_cast-result-2 c =
    let saved = c.args.saved.now in
    let few = c.tables_are_countable.ensures saved.members saved.entries saved.files c.requires.members c.requires.tables in
    let each = count_either is_live saved.entries _ few.few_entries in
    omega (arith, each.1, ap (λ (h : Holding). h.dead) c.holding_of-live.ensures)

pub overflow_cast-result-3 : goal.overflow_cast-result-3
overflow_cast-result-3 c =
    let saved = c.args.saved.now in
    let few = c.tables_are_countable.ensures saved.members saved.entries saved.files c.requires.members c.requires.tables in
    omega (arith, few.few_files, ap (λ (h : Holding). h.objects) c.holding_of-live.ensures)
