use Rattle.std.proofs.Common.{◌-◌, ◌+◌, ◌++◌, ◌∙◌, ap, arith, take, List, ℕ}
use Rattle.ficus_formats.proofs.Windows.{front_written}
use Rattle.ficus_formats.proofs.window.Window.put_front.Goals as goal

pub returns : goal.returns
returns g c =
    let inside = c.self.inside in
    front_written inside.count (inside.count + g.row.N - inside.count) c.args.count inside.bytes c.put_over.new.bytes
    (omega arith) (omega arith) ∙ ap (λ (bytes : List ℕ). take inside.count inside.bytes ++ take c.args.count bytes) c.put_over.ensures
    ∙ ap (λ (bytes : List ℕ). bytes ++ take c.args.count c.args.array.now) c.self.view_is
