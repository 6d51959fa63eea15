use Rattle.std.proofs.Common.{◌≡◌, codes, rules}
use Rattle.ficus_script.proofs.verbs.path_verb.Goals as goal

pub returns-then-eq-4 : goal.returns-then-eq-4
returns-then-eq-4 c = λ by number.
    let same : c.args.verb.now ≡ codes "discard" = search rules in
    rw same (c.discard.ensures by number)
