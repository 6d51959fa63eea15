use Rattle.std.proofs.Common.{◌≡◌, ◌++◌, ◌∙◌, arith, ap}
use Rattle.std.specs.List.{flat_map}
use Rattle.std.specs.Prelude.{IfSome}
use Rattle.std.proofs.lemmas.Option.{IfSome_then}
use Rattle.ficus_persistent.proofs.leaf.Leaf.parted.Goals as goal

pub invariant_of-front : goal.invariant_of-front
invariant_of-front g c =
    let spell = g.T.Spelled.spell in
    let behind = c.in_ok-behind.behind.items in
    let whole : c.self.inside.items.items ≡ c.deref.result.now ++ behind = grind arith in
    let is : IfSome c.self.inside.spelled (λ bytes. bytes.items ≡ flat_map spell (c.deref.result.now ++ behind)) =
    IfSome_then c.self.inside.spelled c.self.invariant (λ bytes same. same ∙ ap (flat_map spell) whole) in
    let parts = c.in_ok-bytes.ensures behind is in
    IfSome_then c.in_ok-bytes.bytes parts.0 (λ bytes same. same ∙ ap (flat_map spell) c.deref.ensures.value)

pub invariant_of-behind : goal.invariant_of-behind
invariant_of-behind g c =
    let spell = g.T.Spelled.spell in
    let behind = c.in_ok-behind.behind.items in
    let whole : c.self.inside.items.items ≡ c.deref.result.now ++ behind = grind arith in
    let is : IfSome c.self.inside.spelled (λ bytes. bytes.items ≡ flat_map spell (c.deref.result.now ++ behind)) =
    IfSome_then c.self.inside.spelled c.self.invariant (λ bytes same. same ∙ ap (flat_map spell) whole) in
    (c.in_ok-bytes.ensures behind is).1
