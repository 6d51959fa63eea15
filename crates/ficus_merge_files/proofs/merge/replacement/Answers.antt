use Rattle.ficus_merge_files.proofs.Walk.{replacement_of_both, replacement_of_theirs}
use Rattle.ficus_merge_files.proofs.merge.replacement.Goals as goal

pub merged_replacement-requires-clause-can : goal.merged_replacement-requires-clause-can
merged_replacement-requires-clause-can c =
    let found = rw c.in-Some.is at c.requires.mine in
    c.requires.fit.each c.in-Some.file.now c.args.new.theirs.now found.0 c.requires.theirs found.1

pub merged_replacement-requires-clause-mine : goal.merged_replacement-requires-clause-mine
merged_replacement-requires-clause-mine c =
    let found = rw c.in-Some.is at c.requires.mine in
    c.len-count.ensures.mine.each c.in-Some.file.now found.0

pub merged_replacement-requires-clause-theirs : goal.merged_replacement-requires-clause-theirs
merged_replacement-requires-clause-theirs c = c.len-count.ensures.theirs.each c.args.new.theirs.now c.requires.theirs

pub returns-in-Some : goal.returns-in-Some
returns-in-Some c =
    let found = rw c.in-Some.is at c.requires.mine in
    replacement_of_both c.args.held.now c.args.news.now.mine c.args.new.theirs.now c.in-Some.file.now c.merged_replacement.result
    c.len-count.ensures.mine.rising found c.merged_replacement.ensures.merged c.merged_replacement.ensures.held

pub returns-in-None : goal.returns-in-None
returns-in-None c =
    let none = rw c.in-None.is at c.requires.mine in
    replacement_of_theirs c.args.held.now c.args.news.now.mine c.args.new.theirs.now c.taken.result
    (c.len-count.ensures.theirs.each c.args.new.theirs.now c.requires.theirs) none c.taken.ensures.taken
    c.taken.ensures.of_theirs
