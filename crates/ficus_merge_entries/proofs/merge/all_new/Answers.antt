use Rattle.std.proofs.Common.{rules, ◌≡◌, length, All, subst, sym, ◌∙◌}
use Rattle.std.proofs.lemmas.List.{map-id}
use Rattle.ficus_entry.specs.declared.entry.State.TheVariants.{Live}
use Rattle.ficus_merge_entries.specs.Merge.{MergesEntries}
use Rattle.ficus_merge_entries.proofs.Replacing.{all_new_merges}
use Rattle.ficus_merge_entries.proofs.merge.all_new.Goals as goal

pub returns-then-are_live-clause-merged : goal.returns-then-are_live-clause-merged
returns-then-are_live-clause-merged c me members =
    let mine = c.args.mine.now in
    let theirs = c.args.theirs.now in
    let rows = c.in_ok-rows.rows.now in
    let is : rows ≡ theirs = sym (map-id rows) ∙ c.in_ok-rows.ensures ∙ c.rows.ensures in
    let none : length mine ≡ 0 = search rules in
    let live : All (λ entry. entry.state ≡ Live) rows = search rules in
    subst (MergesEntries me members mine theirs) (sym is)
    (all_new_merges me members mine theirs none c.len-count.ensures.rising (rw is at live))
