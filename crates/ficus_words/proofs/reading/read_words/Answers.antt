use Rattle.std.proofs.Common.{map, string_bytes}
use Rattle.ficus_words.specs.Given.{given_texts}
use Rattle.ficus_words.proofs.OneMode.{no_words}
use Rattle.ficus_words.proofs.reading.read_words.Goals as goal

pub returns-clause-usage : goal.returns-clause-usage
returns-clause-usage c =
    no_words (map string_bytes c.args.words.now) (given_texts c.in_ok-given.given) c.read_mode.result
    c.in_ok-given.ensures.given c.read_mode.ensures
