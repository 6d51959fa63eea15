use Rattle.std.proofs.Common.{◌≡◌, ◌+◌, ◌∷◌, ◌++◌, [], get_or, take, arith}
use Rattle.std.proofs.lemmas.Grind.{common_steps}
use Rattle.std.proofs.lemmas.List.{take_more}
use Rattle.ficus_ids.specs.declared.id.Id.{Id}
use Rattle.ficus_names.proofs.Among.{among_push, among_stay, among_all}
use Rattle.ficus_names.proofs.binding.bindings_in.Goals as goal
use Rattle.ficus_names.proofs.binding.bindings_in.Goals.{in-Some+in_ok-copy+in_ok-push, in_default}

pub loop-id-preserved : goal.loop-id-preserved
loop-id-preserved c =
    let ids = c.deref-id-items.result.now in
    let n = c.loop-id.id-index in
    let id : Id = get_or ids n (record { replica = 0; number = 0 }) in
    let more : take (n + 1) ids ≡ take n ids ++ id ∷ [] = take_more ids n (record { replica = 0; number = 0 }) c.loop-id-test.true in
    elim c.match-live_in.branch [
      | in-Some+in_ok-copy+in_ok-push w ↦
          let entry = w.in-Some.entry.now in
          let pushed : c.match-live_in.bindings.items ≡ c.loop-id.bindings.items ++
          record { name = entry.name; target = entry.target } ∷ [] = grind (arith, common_steps) in
          rw (pushed, more) (among_push c.args.entries.now c.args.dir c.loop-id.bindings.items
          (take n ids) id c.loop-id.invariant entry c.live_in.ensures.rising w.in-Some.ensures.some)
      | in_default w ↦
          let same : c.match-live_in.bindings.items ≡ c.loop-id.bindings.items = grind (arith, common_steps) in
          rw (same, more) (among_stay c.args.entries.now c.args.dir c.loop-id.bindings.items (take n ids) id c.loop-id.invariant w.in_default.ensures.none)
    ]

pub returns : goal.returns
returns c =
    let ids = c.deref-id-items.result.now in
    let whole : take c.loop-id.id-index ids ≡ ids = grind (arith, common_steps) in
    among_all c.args.entries.now c.args.dir c.loop-id.bindings.items ids
    (rw c.deref-id-items.ensures.value c.in_ok-ids.ensures.live) (rw whole at c.loop-id.invariant)
