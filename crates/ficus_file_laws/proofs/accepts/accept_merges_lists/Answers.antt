use Rattle.ficus_file_laws.proofs.Merging.{merges_agree}
use Rattle.ficus_file_laws.proofs.Taking.{merged_shown, lists_agree, few_merged}
use Rattle.ficus_file_laws.proofs.accepts.accept_merges_lists.Goals as goal

pub returns-clause-terms : goal.returns-clause-terms
returns-clause-terms c = λ members mine theirs both mine_count theirs_count merged.
    merges_agree members mine theirs mine_count theirs_count both merged

pub returns-clause-merged : goal.returns-clause-merged
returns-clause-merged c = λ volume H replica served piece server file mine theirs both lawful by_server own brought merged.
    merged_shown volume H replica served server mine theirs lawful by_server own brought piece both merged

pub returns-clause-agree : goal.returns-clause-agree
returns-clause-agree c = λ volume H replica served server file mine theirs lawful by_server own brought.
    lists_agree volume H replica served server mine theirs lawful by_server own brought

pub returns-clause-few : goal.returns-clause-few
returns-clause-few c = λ volume H replica served server file mine theirs both lawful by_server own brought merged.
    few_merged volume H replica served server mine theirs lawful by_server own brought both merged
