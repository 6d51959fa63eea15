use Rattle.std.specs.Prelude.{Contains}
use Rattle.std.proofs.Common.{◌≡◌, ◌++◌, ◌∷◌, [], sym, subst, refl, arith, inl, inr}
use Rattle.std.proofs.lemmas.Bool.{false≢true}
use Rattle.std.proofs.lemmas.Grind.{common_steps}
use Rattle.std.proofs.lemmas.List.Elements.{Contains-append_left, Contains-push, Contains-push_cases}
use Rattle.ficus_entry.specs.Inside.{HoldsSuch}
use Rattle.ficus_index.specs.PlaceLaws.{one_within}
use Rattle.ficus_entry.proofs.inside.all_of.Goals as goal
use Rattle.ficus_entry.proofs.inside.all_of.Goals.{then-holds_passing+in_ok-push, else-holds_passing}

pub loop-position-preserved : goal.loop-position-preserved
loop-position-preserved g c =
    let links = c.args.index.now in
    let start = c.args.span.start in
    let n = c.loop-position.position in
    let here = c.id_at-id.result in
    let ids = c.loop-position.ids.items in
    let Such = HoldsSuch (g.T.Test.Passes c.args.test.now) c.args.entries.now in
    elim c.if-holds_passing.branch [
      | then-holds_passing+in_ok-push w ↦
          let pushed : c.if-holds_passing.ids.items ≡ ids ++ here ∷ [] = grind (arith, common_steps) in
          rw pushed (record {
            sound = λ id inside. elim (Contains-push_cases ids here id inside) [
              | inl old ↦ c.loop-position.invariant.sound id old
              | inr is ↦ subst Such is (w.if-holds_passing.ensures.0 refl)
            ];
            complete = λ id such linked. elim (one_within links start n here id c.id_at-id.ensures linked) [
              | inl earlier ↦ Contains-append_left ids (here ∷ []) id
                  (c.loop-position.invariant.complete id such earlier)
              | inr same ↦ subst (Contains (ids ++ here ∷ [])) (sym same) (Contains-push ids here)
            ];
          })
      | else-holds_passing w ↦
          let same : c.if-holds_passing.ids.items ≡ ids = grind (arith, common_steps) in
          rw same (record {
            sound = c.loop-position.invariant.sound;
            complete = λ id such linked. elim (one_within links start n here id c.id_at-id.ensures linked) [
              | inl earlier ↦ c.loop-position.invariant.complete id such earlier
              | inr is ↦ absurd (false≢true (w.if-holds_passing.ensures.1 (subst Such is such)))
            ];
          })
    ]

pub returns-clause-complete : goal.returns-clause-complete
returns-clause-complete g c = λ id such linked.
    c.loop-position.invariant.complete id such
    (record {
      position = linked.position;
      from = linked.from;
      to = omega (arith, linked.to, c.loop-position-test.false);
      at = linked.at;
    })
