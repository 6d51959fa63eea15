use Rattle.std.specs.Prelude.{Contains}
use Rattle.std.proofs.Common.{◌≡◌, ◌++◌, ◌∷◌, [], sym, subst, refl, arith, inl, inr}
use Rattle.std.proofs.lemmas.Bool.{false≢true}
use Rattle.std.proofs.lemmas.Grind.{common_steps}
use Rattle.std.proofs.lemmas.List.Elements.{Contains-append_left, Contains-push, Contains-push_cases}
use Rattle.ficus_entry.specs.Inside.{LiesInside}
use Rattle.ficus_index.specs.PlaceLaws.{one_within}
use Rattle.ficus_entry.proofs.inside.noted_of.Goals as goal
use Rattle.ficus_entry.proofs.inside.noted_of.Goals.{then-lies_inside+in_ok-push, else-lies_inside}

pub loop-position-preserved : goal.loop-position-preserved
loop-position-preserved c =
    let notes = c.args.index.now in
    let start = c.args.span.start in
    let n = c.loop-position.position in
    let here = c.id_at-id.result in
    let ids = c.loop-position.ids.items in
    elim c.if-lies_inside.branch [
      | then-lies_inside+in_ok-push w ↦
          let pushed : c.if-lies_inside.ids.items ≡ ids ++ here ∷ [] = grind (arith, common_steps) in
          rw pushed (record {
            sound = λ id inside. elim (Contains-push_cases ids here id inside) [
              | inl old ↦ c.loop-position.invariant.sound id old
              | inr is ↦ subst (LiesInside c.args.entries.now c.args.dir) is (w.if-lies_inside.ensures.0 refl)
            ];
            complete = λ id lies noted. elim (one_within notes start n here id c.id_at-id.ensures noted) [
              | inl earlier ↦ Contains-append_left ids (here ∷ []) id
                  (c.loop-position.invariant.complete id lies earlier)
              | inr same ↦ subst (Contains (ids ++ here ∷ [])) (sym same) (Contains-push ids here)
            ];
          })
      | else-lies_inside w ↦
          let same : c.if-lies_inside.ids.items ≡ ids = grind (arith, common_steps) in
          rw same (record {
            sound = c.loop-position.invariant.sound;
            complete = λ id lies noted. elim (one_within notes start n here id c.id_at-id.ensures noted) [
              | inl earlier ↦ c.loop-position.invariant.complete id lies earlier
              | inr is ↦ absurd (false≢true
                  (w.if-lies_inside.ensures.1 (subst (LiesInside c.args.entries.now c.args.dir) is lies)))
            ];
          })
    ]

pub returns-clause-complete : goal.returns-clause-complete
returns-clause-complete c = λ id lies noted.
    c.loop-position.invariant.complete id lies
    (record {
      position = noted.position;
      from = noted.from;
      to =
          omega (arith, noted.to, c.loop-position-test.false);
      at = noted.at;
    })
