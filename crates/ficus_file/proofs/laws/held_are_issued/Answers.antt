use Rattle.ficus_file.proofs.laws.held_are_issued.Goals as goal

pub returns-clause-root : goal.returns-clause-root
returns-clause-root c = λ files file are inside. (are.each file inside).not_root

pub returns-clause-attic : goal.returns-clause-attic
returns-clause-attic c = λ files file are inside. (are.each file inside).not_attic
