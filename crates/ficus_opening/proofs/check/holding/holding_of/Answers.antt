use Rattle.std.proofs.Common.{◌≡◌, ◌-◌, arith}
use Rattle.std.specs.Prelude.{count_by, not}
use Rattle.ficus_entry.specs.Kill.{is_live}
use Rattle.ficus_opening.proofs.check.Counting.{count_both}
use Rattle.ficus_opening.proofs.check.holding.holding_of.Goals as goal

pub returns : goal.returns
returns c =
    let entries = c.args.entries.now in
    let dead : c.len.result - c.count_live-live.result ≡ count_by (λ entry. not (is_live entry)) entries =
    omega (arith, count_both is_live entries, c.len.ensures.value, c.count_live-live.ensures) in
    rw (dead, c.count_live-live.ensures, c.len-2.ensures.value)
