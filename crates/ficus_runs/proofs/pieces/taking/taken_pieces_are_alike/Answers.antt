use Rattle.ficus_runs.proofs.pieces.Taken.{taken_answers, taken_alike, taken_tables}
use Rattle.ficus_runs.proofs.pieces.taking.taken_pieces_are_alike.Goals as goal

pub returns-clause-answer : goal.returns-clause-answer
returns-clause-answer c = λ volume H r serve index lawful answer taken. taken_answers volume H r serve lawful answer taken

pub returns-clause-served : goal.returns-clause-served
returns-clause-served c = λ volume H r serve piece index lawful wanted taken.
    taken_alike volume H r serve lawful piece wanted taken

pub returns-clause-tables : goal.returns-clause-tables
returns-clause-tables c = λ volume H r serve piece index saved again lawful wanted taken is is_too.
    taken_tables volume H r serve lawful piece wanted taken is is_too
