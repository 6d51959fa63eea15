use Rattle.std.specs.Prelude.{Contains}
use Rattle.std.proofs.Common.{◌≡◌, rules, subst}
use Rattle.ficus_mentions.specs.Touched.{touched_by}
use Rattle.ficus_mentions.proofs.Own.{named_is_touched}
use Rattle.ficus_mentions.proofs.touching.has_own_entry.Goals as goal

pub returns-in-Some : goal.returns-in-Some
returns-in-Some c is =
    let entries = c.args.entries.now in
    let entry = c.in-Some.entry.now in
    let same : entry.target ≡ c.args.id = search rules in
    subst (Contains (touched_by entries)) same (named_is_touched entries entry c.in-Some.ensures.found.0)
