use Rattle.std.proofs.Common.{◌≡◌, ◌∙◌, ap, arith, length, sym}
use Rattle.std.proofs.lemmas.Bool.{both_ways, leb-true, le-leb}
use Rattle.ficus_ids.specs.Kind.{sort_of}
use Rattle.ficus_file.specs.File.{most_versions}
use Rattle.ficus_merge_files.specs.Merge.{AgreeOnBytes}
use Rattle.ficus_merge_files.specs.Versions.{AreMerged}
use Rattle.ficus_merge_files.proofs.Current.{one_text, ordered_of, few_of}
use Rattle.ficus_merge_files.proofs.Determined.{same_versions}
use Rattle.ficus_merge_files.proofs.fits.can_merge.Goals as goal

pub returns-then-not-agree : goal.returns-then-not-agree
returns-then-not-agree c = (
  λ is. absurd cc,
  λ can. absurd (both_ways c.agree.result c.if-not-agree.true
      (c.agree.ensures.1 (rw (c.items-versions.ensures, c.items-others.ensures) can.agree))),
)

pub count_merged-requires-clause-one_text : goal.count_merged-requires-clause-one_text
count_merged-requires-clause-one_text c =
    one_text c.items-versions.result.now c.items-others.result.now
    (rw c.items-versions.ensures (ordered_of c.args.mine.now c.requires.mine.well_formed))
    (rw c.items-others.ensures (ordered_of c.args.theirs.now c.requires.theirs.well_formed))
    (c.agree.ensures.0 c.if-not-agree.false)

pub count_merged-requires-clause-mine : goal.count_merged-requires-clause-mine
count_merged-requires-clause-mine c = rw c.items-versions.ensures (ordered_of c.args.mine.now c.requires.mine.well_formed)

pub count_merged-requires-clause-theirs : goal.count_merged-requires-clause-theirs
count_merged-requires-clause-theirs c = rw c.items-others.ensures (ordered_of c.args.theirs.now c.requires.theirs.well_formed)

pub count_merged-requires-clause-few_mine : goal.count_merged-requires-clause-few_mine
count_merged-requires-clause-few_mine c = rw c.items-versions.ensures (few_of c.args.mine.now c.requires.mine.well_formed)

pub count_merged-requires-clause-few_theirs : goal.count_merged-requires-clause-few_theirs
count_merged-requires-clause-few_theirs c = rw c.items-others.ensures (few_of c.args.theirs.now c.requires.theirs.well_formed)

pub returns : goal.returns
returns c =
    let mine = c.args.mine.now.versions in
    let theirs = c.args.theirs.now.versions in
    let most = most_versions (sort_of c.args.mine.now.kind) in
    let limit : c.most_versions.result ≡ most = c.most_versions.ensures ∙ ap most_versions c.sort.ensures in
    let merged : AreMerged mine theirs c.count_merged.ensures.both =
    rw (c.items-versions.ensures, c.items-others.ensures) at c.count_merged.ensures.merged in
    let agree : AgreeOnBytes mine theirs =
    rw (c.items-versions.ensures, c.items-others.ensures) at c.agree.ensures.0 c.if-not-agree.false in (
      λ few. record {
        kind = c.is_same.ensures.0 c.if-not-is_same.false;
        agree = agree;
        few = λ both is.
            let same : length both ≡ length c.count_merged.ensures.both = ap (λ l. length l)
            (same_versions mine theirs both c.count_merged.ensures.both is merged) in
            omega (arith, same, c.count_merged.ensures.long, leb-true c.count_merged.result most (rw (sym limit) few));
      },
      λ can. rw limit (le-leb c.count_merged.result most (omega (arith, c.count_merged.ensures.long, can.few c.count_merged.ensures.both merged))),
    )
