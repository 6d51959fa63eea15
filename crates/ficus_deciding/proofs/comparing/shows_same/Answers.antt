use Rattle.ficus_deciding.proofs.AlikeTables.{same_at}
use Rattle.ficus_deciding.proofs.comparing.shows_same.Goals as goal

pub returns-in-Some-Some : goal.returns-in-Some-Some
returns-in-Some-Some c =
    let both = c.in-Some-Some in
    same_at c.args.files.now c.args.others.now both.ensures.files.rising both.ensures'.files.rising c.args.id
    both.file.now both.other.now both.ensures.found.0 both.ensures'.found.0 both.ensures.found.1 both.ensures'.found.1
    c.shows_same_as.result c.shows_same_as.ensures
