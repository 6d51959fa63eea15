use Rattle.ficus_script.proofs.ArgumentLaws.{reading_words}
use Rattle.ficus_script.proofs.Cuts.{cut_whole}
use Rattle.ficus_script.proofs.arguments.read_arguments.Goals as goal

pub returns-then-begins_path : goal.returns-then-begins_path
returns-then-begins_path c =
    rw c.in-Some.is (reading_words c.in-Some.words.now _ _ _ (cut_whole _ _ _ c.cut_at.ensures.whole) c.cut_at.ensures.front c.path_first.ensures)

pub returns-else-begins_path : goal.returns-else-begins_path
returns-else-begins_path c =
    rw c.in-Some.is
    (reading_words c.in-Some.words.now _ _ _ (cut_whole _ _ _ c.cut_at.ensures.whole) c.cut_at.ensures.front
    (c.number_first.ensures _))
