use Rattle.std.proofs.lemmas.Fmt.{decimal_digit}
use Rattle.ficus_generator.proofs.paths.name.Goals as goal

pub returns : goal.returns
returns c = rw (decimal_digit c.args.number c.requires.number) c.in-Ok.ensures.value
