use Rattle.std.proofs.Common.{◌≡◌, List, Option, Some, None, Bor, Bool, true, false, not, is_some, option_copied, arith}
use Rattle.ficus_ids.specs.declared.id.Id.{Id}
use Rattle.ficus_file.specs.Files.{id_of, Holds, HoldsUnder}
use Rattle.ficus_file.specs.declared.file.FileReplica.{FileReplica}
use Rattle.ficus_mentions.proofs.Kept.{none_more, one_more, all_kept}
use Rattle.ficus_merge_files.proofs.Taking.{alone_is}
use Rattle.ficus_merge_files.proofs.alone.theirs_alone.Goals as goal
use Rattle.ficus_merge_files.proofs.alone.theirs_alone.Goals.{then-is_none+in_ok-push, else-is_none}

-- a look at mine tells whether they hold the identifier
not_held : (mine : List FileReplica) (id : Id) (found : Option (Bor FileReplica)) (none : Bool) →
    is_some found ≡ not none → none ≡ true → HoldsUnder mine id (option_copied found) → Holds mine id → ⊥
not_held mine id None none is so under = under
not_held mine id (Some file) none is so under = cc

is_held : (mine : List FileReplica) (id : Id) (found : Option (Bor FileReplica)) (none : Bool) →
    is_some found ≡ not none → none ≡ false → HoldsUnder mine id (option_copied found) → Holds mine id
is_held mine id None none is so under = cc
is_held mine id (Some file) none is so under = record { item = file.now; inside = under.0; has_id = under.1 }

pub loop-index-preserved : goal.loop-index-preserved
loop-index-preserved c =
    let mine = c.args.news.now.mine in
    let new = c.args.news.now.new in
    let file : FileReplica = c.at-new.result.theirs.now in
    let rising = c.len-index-end.ensures.new.rising in
    elim c.if-is_none.branch [
      | then-is_none+in_ok-push w ↦ rw (w.ids-is, w.in_ok-push.ensures.items)
          (one_more id_of (λ (id : Id). Holds mine id → ⊥) new c.loop-index.index file rising
          c.at-new.ensures.theirs c.loop-index.ids.items
          (not_held mine file.id c.at-new.result.mine c.is_none.result c.is_none.ensures w.if-is_none.true
          c.at-new.ensures.mine)
          c.loop-index.invariant)
      | else-is_none w ↦ rw w.ids-is
          (none_more id_of (λ (id : Id). Holds mine id → ⊥) new c.loop-index.index file rising
          c.at-new.ensures.theirs c.loop-index.ids.items
          (λ none. none (is_held mine file.id c.at-new.result.mine c.is_none.result c.is_none.ensures
          w.if-is_none.false c.at-new.ensures.mine))
          c.loop-index.invariant)
    ]

pub returns-clause-alone : goal.returns-clause-alone
returns-clause-alone c =
    let mine = c.args.news.now.mine in
    let new = c.args.news.now.new in
    alone_is mine c.args.news.now.theirs new c.loop-index.ids.items c.len-index-end.ensures.new
    (all_kept id_of (λ (id : Id). Holds mine id → ⊥) new c.loop-index.index c.loop-index.ids.items
    (omega (arith, c.len-index-end.ensures.value)) c.loop-index.invariant)
