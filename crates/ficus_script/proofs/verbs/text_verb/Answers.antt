use Rattle.std.proofs.Common.{◌≡◌, codes, rules}
use Rattle.ficus_script.proofs.verbs.text_verb.Goals as goal

pub returns-then-is_new : goal.returns-then-is_new
returns-then-is_new c = λ by it number is.
    let same : c.args.verb.now ≡ codes "symlink" = search rules in
    rw same (c.symlink.ensures by it number is)
