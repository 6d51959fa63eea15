use Rattle.ficus_held_file_laws.proofs.Stepping.{make_steps, write_steps, cover_steps, name_steps}
use Rattle.ficus_held_file_laws.proofs.steps.files_follow_updates.Goals as goal

pub returns-clause-made : goal.returns-clause-made
returns-clause-made c = λ by number dir name kind text files after one most none adds.
    make_steps one most number dir name kind text files after none adds

pub returns-clause-written : goal.returns-clause-written
returns-clause-written c = λ by number op file bytes files after one most are overwrites change.
    write_steps one most number files after are overwrites change

pub returns-clause-covered : goal.returns-clause-covered
returns-clause-covered c = λ by number op file files after are gives_up change.
    cover_steps number files after are gives_up change

pub returns-clause-named : goal.returns-clause-named
returns-clause-named c = λ by number op files names. name_steps number files names
