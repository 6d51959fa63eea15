-- What following a path of a line comes to, over several volumes.
use Rattle.std.specs.Prelude.{◌≡◌, ℕ, ◌≤◌, false, List, [], ◌∷◌, ◌++◌, length, take, drop, All}
use Rattle.ficus_disk.specs.declared.disk.Disk.{Ghosts as Disk}
use Rattle.ficus_ids.specs.Members.{IsMember}
use Rattle.ficus_ids.specs.declared.refusal.Refusal.{Refusal}
use Rattle.ficus_keeper.specs.declared.keep.Keep.{Ghosts as Keep}
use Rattle.ficus_path.specs.declared.path.Path.{Path}
use Rattle.ficus_path.specs.Path.{path_from}
use Rattle.ficus_script.specs.declared.answer.Answer.{Answer}
use Rattle.ficus_script.specs.declared.answer.Answer.TheVariants.{Refused}
use Rattle.ficus_loop.specs.Tally.{is_refusal}
use Rattle.ficus_world.specs.World.{Backed}
use Rattle.ficus_top.specs.declared.graft.courses.Course.{Course}
use Rattle.ficus_top.specs.declared.graft.following.End.{End}
use Rattle.ficus_top.specs.declared.graft.following.Stop.{Stop}
use Rattle.ficus_top.specs.declared.graft.following.Stop.TheVariants as stop
use Rattle.ficus_script.specs.declared.volume_line.VolumeLine.{VolumeLine}
use Rattle.ficus_top.specs.Graft.Answered.{IsUnrefused, Sent, sendings}
use Rattle.ficus_top.specs.Graft.Paths.{rest_behind}
use Rattle.ficus_top.specs.Graft.Route.{Follows, Sending}
use Rattle.ficus_top.specs.Graft.Runs.{AnswersLine, Disks, EachRuns}

-- A look was sent, and not refused; or it was refused. It changed nothing.
pub record Passes {K D : Type 0} (told : Type 0) (keep : Keep K) (disk : Disk D) (what : Sending)
    (worlds : List (Backed K)) (disks : Disks D) : Type 0 where
  pub answer : Answer
  pub unrefused : is_refusal answer ≡ false
  pub runs : EachRuns told told keep disk (record { what = what; answer = answer } ∷ []) worlds worlds disks disks

abbrev pub IsRefusedBy : {K D : Type 0} → Type 0 → Keep K → Disk D → Sending → Stop → List (Backed K) → Disks D
    → Type 0
IsRefusedBy told keep disk what stop.Memory worlds disks = Unit {0}
IsRefusedBy told keep disk what (stop.Refused refusal) worlds disks =
    EachRuns told told keep disk (record { what = what; answer = Refused refusal } ∷ []) worlds worlds disks disks

abbrev pub course_path : Course → Path
course_path course = path_from course.base course.parts.now

-- the course leads from the volume, by these looks, to this volume and this path there
abbrev pub CourseLeads : ℕ → ℕ → ℕ → Course → List Sending → ℕ → Path → Type 0
CourseLeads count by volume course looks end rest =
    Follows count by (drop course.most course.parts.now) volume course.base (take course.most course.parts.now) looks
    end rest

-- The whole course was followed: these looks were sent, of which none was refused. They changed nothing.
pub record Reaches {K D : Type 0} (told : Type 0) (keep : Keep K) (disk : Disk D) (by volume : ℕ) (course : Course)
    (end : End) (worlds : List (Backed K)) (disks : Disks D) : Type 0 where
  pub passed : List Sent
  pub leads : CourseLeads (length worlds) by volume course (sendings passed) end.volume
      (rest_behind end.passed (course_path course))
  pub unrefused : All IsUnrefused passed
  pub runs : EachRuns told told keep disk passed worlds worlds disks disks
  pub among : IsMember (length worlds) end.volume
  pub within : end.passed ≤ course.most

-- It was followed up to a look that was refused.
pub record IsStopped {K D : Type 0} (told : Type 0) (keep : Keep K) (disk : Disk D) (by volume : ℕ) (course : Course)
    (refusal : Refusal) (worlds : List (Backed K)) (disks : Disks D) : Type 0 where
  pub passed : List Sent
  pub last : Sent
  pub behind : List Sending
  pub end : ℕ
  pub rest : Path
  pub leads : CourseLeads (length worlds) by volume course (sendings passed ++ last.what ∷ behind) end rest
  pub unrefused : All IsUnrefused passed
  pub refused : last.answer ≡ Refused refusal
  pub runs : EachRuns told told keep disk (passed ++ last ∷ []) worlds worlds disks disks

-- the same, by why it stopped
abbrev pub Halts : {K D : Type 0} → Type 0 → Keep K → Disk D → ℕ → ℕ → Course → Stop → List (Backed K) → Disks D
    → Type 0
Halts told keep disk by volume course stop.Memory worlds disks = Unit {0}
Halts told keep disk by volume course (stop.Refused refusal) worlds disks =
    IsStopped told keep disk by volume course refusal worlds disks

-- What stopped a line: memory was refused; or this refusal is its answer.
abbrev pub LineHalts : {K D : Type 0} → Type 0 → Type 0 → Keep K → Disk D → VolumeLine → Stop → List (Backed K)
    → List (Backed K) → Disks D → Disks D → Type 0
LineHalts link told keep disk line stop.Memory old new old_disks new_disks = Unit {0}
LineHalts link told keep disk line (stop.Refused refusal) old new old_disks new_disks =
    AnswersLine link told keep disk line (Refused refusal) old new old_disks new_disks
