use Rattle.ficus_ids.specs.RisingLaws.{same_items}
use Rattle.ficus_file.specs.declared.orphan.Orphan.{Orphan}
use Rattle.ficus_orphan.proofs.laws.one_list_of_orphans.Goals as goal

pub returns : goal.returns
returns c entries files one other are also =
    same_items (λ (orphan : Orphan). orphan.id) one other are.rising also.rising (λ orphan. (
      λ inside. (also.all.all orphan).1 ((are.all.all orphan).0 inside),
      λ inside. (are.all.all orphan).1 ((also.all.all orphan).0 inside),
    ))
