use Rattle.std.proofs.Common.{◌≡◌, ◌++◌, ◌∷◌, [], sym, ◌∙◌, arith}
use Rattle.std.proofs.lemmas.Bool.{false≢true}
use Rattle.std.proofs.lemmas.Grind.{common_steps}
use Rattle.std.proofs.lemmas.List.{take_all}
use Rattle.ficus_entry.specs.Inside.{IsAsked}
use Rattle.ficus_entry.proofs.Scanned.{inside_more, inside_same, inside_rising}
use Rattle.ficus_entry.proofs.scan.note_asked.Goals as goal
use Rattle.ficus_entry.proofs.scan.note_asked.Goals.{then-is_asked+in_ok-push, else-is_asked}

pub loop-index-preserved : goal.loop-index-preserved
loop-index-preserved c =
    let entries = c.args.entries.now in
    let n = c.loop-index.index in
    let entry = c.at-entry.result.now in
    let ids = c.loop-index.ids.items in
    let found = c.loop-index.invariant.inside in
    let is_so = IsAsked c.args.asked in
    elim c.if-is_asked.branch [
      | then-is_asked+in_ok-push w ↦
          let pushed : c.if-is_asked.ids.items ≡ ids ++ entry.id ∷ [] = grind (arith, common_steps) in
          rw pushed (record {
            inside = inside_more is_so entries n entry ids c.at-entry.ensures found
                (c.is_asked.ensures.0 w.if-is_asked.true);
            rising = inside_rising is_so entries n entry ids c.at-entry.ensures found
                c.len-index-end.ensures.rising c.loop-index.invariant.rising;
          })
      | else-is_asked w ↦
          let same : c.if-is_asked.ids.items ≡ ids = grind (arith, common_steps) in
          rw same (record {
            inside = inside_same is_so entries n entry ids c.at-entry.ensures found
                (λ is. false≢true (sym w.if-is_asked.false ∙ c.is_asked.ensures.1 is));
            rising = c.loop-index.invariant.rising;
          })
    ]

pub returns-clause-entries : goal.returns-clause-entries
returns-clause-entries c =
    rw (← take_all c.loop-index.index c.args.entries.now
    (omega (arith, c.loop-index-test.false, c.len-index-end.ensures.value)))
    c.loop-index.invariant.inside
