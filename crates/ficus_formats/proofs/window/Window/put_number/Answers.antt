use Rattle.std.proofs.Common.{◌-◌, ◌+◌, ◌++◌, ◌∙◌, ap, arith, take, List, ℕ}
use Rattle.std.specs.Int.{w64, to_le_bytes}
use Rattle.ficus_formats.proofs.Windows.{front_written}
use Rattle.ficus_formats.proofs.window.Window.put_number.Goals as goal

pub returns : goal.returns
returns c =
    let inside = c.self.inside in
    front_written inside.count (inside.count + 8 - inside.count) c.args.count inside.bytes c.put_number_over.new.bytes
    (omega arith) (omega arith)
    ∙ ap (λ (bytes : List ℕ). take inside.count inside.bytes ++ take c.args.count bytes) c.put_number_over.ensures
    ∙ ap (λ (bytes : List ℕ). bytes ++ take c.args.count (to_le_bytes w64 c.args.number)) c.self.view_is
