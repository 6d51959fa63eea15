use Rattle.std.proofs.Common.{◌≡◌, codes, rules}
use Rattle.ficus_script.proofs.verbs.paths_verb.Goals as goal

pub returns-then-eq-3 : goal.returns-then-eq-3
returns-then-eq-3 c = λ by number.
    let same : c.args.verb.now ≡ codes "adopt" = search rules in
    rw same (c.adopt.ensures by number)
