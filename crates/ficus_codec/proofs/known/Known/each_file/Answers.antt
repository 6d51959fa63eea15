use Rattle.std.proofs.Common.{All, map, ◌≡◌}
use Rattle.std.proofs.lemmas.Result.{IfOk-weaker}
use Rattle.ficus_durable_state.specs.Tables.{FitsFile}
use Rattle.ficus_codec.proofs.Fitting.{fit_each}
use Rattle.ficus_codec.proofs.known.Known.each_file.Goals as goal

pub returns : goal.returns
returns c =
    IfOk-weaker c.each_of.result (λ each. map (λ row. row.now) each.items ≡ c.self.inside.files)
    (λ each. All (λ row. FitsFile c.args.self.now row.now) each.items)
    (λ each is. fit_each (FitsFile c.args.self.now) _ each.items is (rw c.self.view_is at c.self.invariant.1)) c.each_of.ensures
