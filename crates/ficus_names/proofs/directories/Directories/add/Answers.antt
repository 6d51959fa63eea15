use Rattle.std.specs.Prelude.{Vec}
use Rattle.std.specs.declared.alloc.Global.{Global}
use Rattle.std.proofs.Common.{◌≡◌, ◌∷◌, ◌++◌, [], ap, ◌∙◌, arith}
use Rattle.std.proofs.lemmas.Grind.{common_steps}
use Rattle.ficus_ids.specs.Id.{id_cmp}
use Rattle.ficus_names.specs.Directories.{items_of}
use Rattle.ficus_names.specs.declared.binding.Binding.{Binding}
use Rattle.ficus_names.proofs.ByDirectory.{items_or, put_here, put_others}
use Rattle.ficus_names.proofs.directories.Directories.add.Goals as goal

pub returns-clause-here : goal.returns-clause-here
unfolding id_cmp
returns-clause-here c =
    let pushed : c.push.new.self.items ≡ c.unwrap_or-bindings.result.items ++ c.args.binding ∷ [] = grind (arith, common_steps) in
    let found : c.unwrap_or-bindings.result.items ≡ items_of c.remove.result =
    ap (λ (bindings : Vec Binding Global). bindings.items) c.unwrap_or-bindings.ensures ∙
    items_or c.remove.result c.new.result c.new.ensures.items in
    let here = put_here c.args.self.now.bindings c.remove.new.self c.insert.new.self c.args.dir c.push.new.self
    c.remove.ensures.updates c.in_ok-insert.ensures.updates in
    here ∙ pushed ∙ ap (λ items. items ++ c.args.binding ∷ []) (found ∙ ap items_of c.remove.ensures.value)

pub returns-clause-others : goal.returns-clause-others
unfolding id_cmp
returns-clause-others c =
    put_others c.args.self.now.bindings c.remove.new.self c.insert.new.self c.args.dir c.push.new.self c.remove.ensures.updates c.in_ok-insert.ensures.updates
