use Rattle.std.proofs.lemmas.Result.{IfOk-weaker}
use Rattle.ficus_script.proofs.ScriptLaws.{script_of}
use Rattle.ficus_script.proofs.script.read_script.Goals as goal

pub returns-clause-script : goal.returns-clause-script
returns-clause-script c =
    IfOk-weaker c.read_lines.result _ _ (λ commands lines. script_of c.args.bytes.now commands.items lines)
    c.read_lines.ensures.script
