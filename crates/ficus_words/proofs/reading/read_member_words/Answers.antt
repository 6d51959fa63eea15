use Rattle.std.proofs.Common.{map, string_bytes}
use Rattle.ficus_words.specs.Given.{given_texts}
use Rattle.ficus_words.proofs.OneMember.{no_member_words}
use Rattle.ficus_words.proofs.reading.read_member_words.Goals as goal

pub returns-clause-usage : goal.returns-clause-usage
returns-clause-usage c =
    no_member_words (map string_bytes c.args.words.now) (given_texts c.in_ok-given.given) c.read_member_mode.result
    c.in_ok-given.ensures.given c.read_member_mode.ensures
