use Rattle.std.proofs.Common.{All, map, ◌≡◌}
use Rattle.std.proofs.lemmas.Result.{IfOk-weaker}
use Rattle.ficus_durable_state.specs.Tables.{FitsEntry}
use Rattle.ficus_codec.proofs.Fitting.{fit_each}
use Rattle.ficus_codec.proofs.known.Known.each_entry.Goals as goal

pub returns : goal.returns
returns c =
    IfOk-weaker c.each_of.result (λ each. map (λ row. row.now) each.items ≡ c.self.inside.entries)
    (λ each. All (λ row. FitsEntry c.args.self.now row.now) each.items)
    (λ each is. fit_each (FitsEntry c.args.self.now) _ each.items is (rw c.self.view_is at c.self.invariant.0)) c.each_of.ensures
