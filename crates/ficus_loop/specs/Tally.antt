-- How answers are counted.
use Rattle.std.specs.Prelude.{◌≡◌, ◌+◌, Bool, true, false, not, cond, List, [], count_by}
use Rattle.ficus_disk.specs.declared.disk.Disk.{Ghosts as Disk}
use Rattle.ficus_disk.specs.declared.pair.Pair.{Pair}
use Rattle.ficus_keeper.specs.declared.keep.Keep.{Ghosts as Keep}
use Rattle.ficus_model.specs.Lawful.{Volume}
use Rattle.ficus_runs.specs.ModelWorld.{ModelWorld}
use Rattle.ficus_script.specs.declared.answer.Answer.{Answer}
use Rattle.ficus_script.specs.declared.answer.Answer.TheVariants.{Done, Made, Mail, Mails, Part, Collected, Told, Alike, Swept, Why, Refused}
use Rattle.ficus_script.specs.declared.command.Command.{Command}
use Rattle.ficus_loop.specs.Serving.{ServesWorld}
use Rattle.ficus_loop.specs.declared.tally.Tally.{Tally}
use Rattle.ficus_world.specs.World.{Whole}

-- the answer is a refusal
abbrev pub is_refusal : Answer → Bool
is_refusal Done = false
is_refusal (Made id) = false
is_refusal (Mail number) = false
is_refusal (Mails first last) = false
is_refusal (Part have of) = false
is_refusal (Collected entries files) = false
is_refusal (Told told) = false
is_refusal (Alike alike) = false
is_refusal (Swept pulls entries files) = false
is_refusal (Why lines) = false
is_refusal (Refused refusal) = true

abbrev pub is_no_refusal : Answer → Bool
is_no_refusal answer = not (is_refusal answer)

-- with one answer more
abbrev pub with_answer : Tally → Answer → Tally
with_answer tally answer = record {
  ok = tally.ok + cond (is_no_refusal answer) 1 0;
  no = tally.no + cond (is_refusal answer) 1 0;
}

-- The commands were carried out, of which nothing was put, and their answers were counted.
pub record Tallies {K D : Type 0} (keep : Keep K) (disk : Disk D) (volume : Volume) (W : ModelWorld) (before : Whole)
    (commands : List Command) (world : Whole) (old new : Tally) (old_disks new_disks : List (Pair D)) : Type 0 where
  pub served : ServesWorld ⊥ keep disk volume W before commands world [] [] old_disks new_disks
  pub ok : new.ok ≡ old.ok + count_by is_no_refusal served.serves.answers
  pub no : new.no ≡ old.no + count_by is_refusal served.serves.answers
