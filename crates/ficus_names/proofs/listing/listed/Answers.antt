use Rattle.std.proofs.Common.{◌≡◌, ◌↔◌, [], ◌∷◌, ◌++◌, take, slice_get, Some, IsTrue, ◌∙◌, refl, arith}
use Rattle.std.specs.Bool.{⊤}
use Rattle.std.proofs.lemmas.Grind.{common_steps}
use Rattle.std.proofs.lemmas.Option.{slice_get_read, MatchOption-at_some}
use Rattle.ficus_model.specs.ShownNames.{HasOther}
use Rattle.ficus_names.proofs.Listed.{listing, listed_more}
use Rattle.ficus_names.specs.Binding.{Binds}
use Rattle.ficus_names.specs.declared.listing.ShownName.{ShownName}
use Rattle.ficus_names.proofs.listing.listed.Goals as goal

pub loop-index-preserved : goal.loop-index-preserved
loop-index-preserved c =
    let binding = c.index-bindings-index.result in
    let item : ShownName = record { name = binding.name; target = binding.target; suffixed = c.is_shared.result } in
    let pushed : c.push.new.self.items ≡ c.loop-index.names.items ++ item ∷ [] = grind (arith, common_steps) in
    let at : slice_get c.args.bindings.now c.loop-index.index ≡ Some binding =
    slice_get_read c.args.bindings.now _ c.loop-index.index binding refl (omega arith) c.index-bindings-index.is in
    let several = MatchOption-at_some ⊤
    (λ b. IsTrue c.is_shared.result ↔ HasOther (Binds c.args.bindings.now) b.name b.target)
    binding at c.is_shared.ensures in
    rw pushed (listed_more c.args.bindings.now c.loop-index.index c.loop-index.names.items item at several c.loop-index.invariant)

pub returns : goal.returns
returns c =
    let whole : take c.loop-index.index c.args.bindings.now ≡ c.args.bindings.now = grind (arith, common_steps) in
    listing c.args.bindings.now c.loop-index.names.items (c.loop-index.invariant.same ∙ whole) c.requires c.loop-index.invariant.right
