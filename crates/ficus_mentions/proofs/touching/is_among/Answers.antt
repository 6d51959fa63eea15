use Rattle.std.proofs.Common.{rules}
use Rattle.ficus_ids.specs.Id.{id_cmp}
use Rattle.ficus_mentions.proofs.Among.{among_by}
use Rattle.ficus_mentions.proofs.touching.is_among.Goals as goal

pub returns : goal.returns
unfolding id_cmp
returns c = among_by c.args.ids.now c.args.id c.binary_search.result c.is_ok.result c.requires c.is_ok.ensures.value c.binary_search.ensures.bound
    (search rules)
