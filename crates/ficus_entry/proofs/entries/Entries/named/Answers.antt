use Rattle.std.proofs.Common.{◌≡◌, ◌+◌, ◌∙◌, ap, sym, arith}
use Rattle.ficus_index.specs.Digest.{digest_of}
use Rattle.ficus_entry.proofs.Within.{MatchOption-weaker, between_ranks}
use Rattle.ficus_entry.proofs.entries.Entries.named.Goals as goal

pub returns-clause-none : goal.returns-clause-none
returns-clause-none c =
    let rank = c.digest-rank.result in
    MatchOption-weaker c.first.result c.first.ensures.none (λ none entry inside is leads.
    let ranked : digest_of entry.name ≡ rank = ap digest_of is.named ∙ sym c.digest-rank.ensures.value in
    none entry inside (is, leads)
    (between_ranks c.args.dir rank (rank + 1) entry is.in_dir (omega (arith, ranked)) (omega (arith, ranked))))
    (λ x t. t)
