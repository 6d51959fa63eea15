use Rattle.ficus_file.proofs.files.Files.put.Goals as goal

pub returns-clause-puts : goal.returns-clause-puts
returns-clause-puts c = rw (← c.in_ok-row.ensures) c.put_row.ensures.puts
