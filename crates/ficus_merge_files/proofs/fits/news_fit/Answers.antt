use Rattle.std.proofs.Common.{◌≡◌, ◌≤◌, List, length, Option, Some, None, Bor, option_copied, Contains, refl, sym, subst, ◌∙◌, arith}
use Rattle.std.proofs.lemmas.Bool.{both_ways}
use Rattle.std.proofs.lemmas.List.{take_all}
use Rattle.ficus_ids.specs.RisingLaws.{one_item}
use Rattle.ficus_file.specs.Files.{id_of, HoldsUnder}
use Rattle.ficus_file.specs.declared.file.FileReplica.{FileReplica}
use Rattle.ficus_merge_files.specs.Merge.{Fit}
use Rattle.ficus_file.proofs.Changed.{contains_at}
use Rattle.ficus_merge_files.proofs.FitSoFar.{fits_more}
use Rattle.ficus_merge_files.proofs.New.{all_fit}
use Rattle.ficus_merge_files.proofs.fits.news_fit.Goals as goal
use Rattle.ficus_merge_files.proofs.fits.news_fit.Goals.{in-Some+else-not-can_merge, in_default}

pub can_merge-requires-clause-mine : goal.can_merge-requires-clause-mine
can_merge-requires-clause-mine c =
    let found = rw c.in-Some.is at c.at-new.ensures.mine in
    c.len-index-end.ensures.mine.each c.in-Some.file.now found.0

pub can_merge-requires-clause-theirs : goal.can_merge-requires-clause-theirs
can_merge-requires-clause-theirs c =
    let file : FileReplica = c.at-new.result.theirs.now in
    c.len-index-end.ensures.theirs.each file (c.len-index-end.ensures.new.of_theirs file
    (contains_at c.args.news.now.new c.loop-index.index file c.at-new.ensures.theirs))

pub returns-then-not-can_merge : goal.returns-then-not-can_merge
returns-then-not-can_merge c = (
  λ is. absurd cc,
  λ fit. let found = rw c.in-Some.is at c.at-new.ensures.mine in
      absurd (both_ways c.can_merge.result c.if-not-can_merge.true (c.can_merge.ensures.1
      (fit.each c.in-Some.file.now c.at-new.result.theirs.now found.0
      (c.len-index-end.ensures.new.of_theirs c.at-new.result.theirs.now
      (contains_at c.args.news.now.new c.loop-index.index c.at-new.result.theirs.now c.at-new.ensures.theirs))
      found.1))),
)

-- where none of mine stands beside it, none has its identifier
none_beside : (mine : List FileReplica) (their : FileReplica) (my : Option (Bor FileReplica)) →
    HoldsUnder mine their.id (option_copied my) → ((file : Bor FileReplica) → my ≡ Some file → ⊥) →
    (file : FileReplica) → Contains mine file → file.id ≡ their.id → ⊥
none_beside mine their None held none file inside has_id =
    held (record { item = file; inside = inside; has_id = has_id })
none_beside mine their (Some my) held none file inside has_id = none my refl

pub loop-index-preserved : goal.loop-index-preserved
loop-index-preserved c =
    let more = fits_more c.args.news.now.mine c.args.news.now.new c.loop-index.index c.at-new.result.theirs.now
    c.at-new.ensures.theirs c.loop-index.invariant in
    elim c.match-new.branch [
      | in-Some+else-not-can_merge w ↦
          let found = rw w.in-Some.is at c.at-new.ensures.mine in
          more (λ file inside has_id. rw (one_item id_of c.args.news.now.mine file w.in-Some.file.now
          c.len-index-end.ensures.mine.rising inside found.0 (has_id ∙ sym found.1))
          (w.can_merge.ensures.0 w.if-not-can_merge.false))
      | in_default w ↦ more (λ file inside has_id. absurd (none_beside c.args.news.now.mine c.at-new.result.theirs.now
          c.at-new.result.mine c.at-new.ensures.mine w.in_default.not-Some file inside has_id))
    ]

pub returns : goal.returns
returns c =
    let mine = c.args.news.now.mine in
    let new = c.args.news.now.new in
    let past : length new ≤ c.loop-index.index = omega (arith, c.len-index-end.ensures.value) in (
      λ is. all_fit mine c.args.news.now.theirs new c.len-index-end.ensures.new c.len-index-end.ensures.mine
          c.len-index-end.ensures.theirs
          (subst (Fit mine) (take_all c.loop-index.index new past) c.loop-index.invariant),
      λ fit. refl,
    )
