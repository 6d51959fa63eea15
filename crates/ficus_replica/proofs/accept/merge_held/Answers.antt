use Rattle.std.proofs.Common.{subst, sym}
use Rattle.std.proofs.lemmas.Result.{IfOk-weaker}
use Rattle.ficus_merge_entries.specs.Merge.{MergesEntries}
use Rattle.ficus_merge_entries.proofs.Replacing.{replaced_merges}
use Rattle.ficus_replica.proofs.accept.merge_held.Goals as goal

pub returns-in-Some-clause-merged : goal.returns-in-Some-clause-merged
returns-in-Some-clause-merged c =
    IfOk-weaker c.of_rows.result _ _
    (λ built is. subst (MergesEntries c.args.me c.args.members c.args.held c.args.theirs.now) (sym is)
    (c.in-Some.ensures.merged c.args.me c.args.members))
    c.of_rows.ensures

pub returns-clause-merged : goal.returns-clause-merged
returns-clause-merged c =
    IfOk-weaker c.replaced.result _ _
    (λ merged replaces. replaced_merges c.args.me c.args.members c.args.held c.args.theirs.now
    c.in_ok-replacements.replacements.items merged c.in_ok-replacements.ensures.made
    (rw c.deref.ensures.value at replaces)) c.replaced.ensures.replaced
