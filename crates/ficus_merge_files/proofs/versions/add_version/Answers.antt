use Rattle.std.specs.List.{insert}
use Rattle.std.proofs.Common.{◌≡◌, inr, ◌∙◌, refl}
use Rattle.ficus_ids.specs.RisingLaws.{Contains-insert}
use Rattle.ficus_merge_files.proofs.Kept.{insert_ordered}
use Rattle.ficus_merge_files.proofs.versions.add_version.Goals as goal

pub returns-in_ok-insert-clause-gained : goal.returns-in_ok-insert-clause-gained
returns-in_ok-insert-clause-gained c =
    let same : c.in_ok-copy.field-0 ≡ c.args.version.now = c.in_ok-copy.ensures in
    let all : c.insert.new.self.items ≡ insert c.args.kept.now.items c.in-Some.place c.args.version.now = c.in_ok-insert.ensures.items ∙ rw same refl in
    inr (λ other. rw all (Contains-insert c.args.kept.now.items c.in-Some.place c.args.version.now other))

pub returns-in_ok-insert-clause-ordered : goal.returns-in_ok-insert-clause-ordered
returns-in_ok-insert-clause-ordered c =
    let same : c.in_ok-copy.field-0 ≡ c.args.version.now = c.in_ok-copy.ensures in
    let all : c.insert.new.self.items ≡ insert c.args.kept.now.items c.in-Some.place c.args.version.now = c.in_ok-insert.ensures.items ∙ rw same refl in
    rw all (insert_ordered c.args.kept.now.items c.args.version.now c.in-Some.place c.requires (rw c.deref.ensures.value at c.in-Some.ensures.place))
