use Rattle.std.proofs.lemmas.Result.{on_ok_weaker}
use Rattle.ficus_ids.specs.RisingLaws.{put_adds}
use Rattle.ficus_file.specs.Files.{id_of}
use Rattle.ficus_file.proofs.files.Files.insert.Goals as goal

pub returns-clause-added : goal.returns-clause-added
returns-clause-added c =
    on_ok_weaker c.put.result (λ puts. put_adds id_of c.args.self.now _ c.args.file c.requires.new puts)
    c.put.ensures.puts
