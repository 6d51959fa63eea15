-- What commands do to one of several volumes, and what lines do to all.
use Rattle.std.specs.Prelude.{◌≡◌, ◌⊎◌, ℕ, ◌+◌, ◌-◌, ◌<◌, ◌≤◌, All, List, [], ◌∷◌, ◌++◌, length, slice_set, take, Vec, vec_items}
use Rattle.std.specs.declared.alloc.Global.{Global}
use Rattle.ficus_disk.specs.declared.disk.Disk.{Ghosts as Disk}
use Rattle.ficus_disk.specs.declared.pair.Pair.{Pair}
use Rattle.ficus_ids.specs.Members.{IsMember}
use Rattle.ficus_keeper.specs.declared.keep.Keep.{Ghosts as Keep}
use Rattle.ficus_model.specs.Lawful.{Volume}
use Rattle.ficus_script.specs.declared.command.Command.{Command}
use Rattle.ficus_script.specs.declared.answer.Answer.{Answer}
use Rattle.ficus_runs.specs.Outcomes.{all_outcomes}
use Rattle.ficus_runs.specs.ModelWorld.{ModelWorld}
use Rattle.ficus_runs.specs.Numbered.{IsNumbered}
use Rattle.ficus_runs.specs.Outcome.{Outcome, link_failures}
use Rattle.ficus_runs.specs.Run.{Run}
use Rattle.ficus_world.specs.Causes.{AreCaused}
use Rattle.ficus_world.specs.Disks.{IsBacked, DisksFollow}
use Rattle.ficus_world.specs.Follows.{FollowsOn, StopsOn, StoresAsMany}
use Rattle.ficus_world.specs.Fuses.{FusesFollow}
use Rattle.ficus_world.specs.Stepped.{CutOn, Stepped}
use Rattle.ficus_world.specs.World.{Backed, Whole, WorldStandsFor, foreseen}
use Rattle.ficus_script.specs.declared.volume_line.VolumeLine.{VolumeLine}
use Rattle.ficus_top.specs.Graft.Answered.{AreAnswered, IsAnswered, IsLastTo, IsUnrefused, Sent, answers_to, commands_to, sendings}
use Rattle.ficus_top.specs.Graft.Route.{Route}
use Rattle.ficus_top.specs.Graft.Route.Ending.{Arrives}
use Rattle.ficus_script.specs.Command.{IsCommand, IsStep}
use Rattle.ficus_loop.specs.Puts.{PutsFront}
use Rattle.ficus_loop.specs.Serving.{texts_of}

-- The commands have these answers in a volume, from the world of the model W on, and its world stands for what they
-- lead to; as many events are stored as happened. The link counted each of its failures, and so did the disks; their
-- fuses allowed what became of all that was asked of them.
pub record RunsOn {K D : Type 0} (keep : Keep K) (disk : Disk D) (volume : Volume) (W : ModelWorld) (before : Whole)
    (commands : List Command) (answers : List Answer) (world : Whole) (old_disks new_disks : List (Pair D)) :
    Type 0 where
  pub after : ModelWorld
  pub outcomes : List (List Outcome)
  pub run : Run volume W commands outcomes answers after
  pub caused : AreCaused before.post.faults world.post.faults (link_failures (all_outcomes outcomes))
  pub stored : StoresAsMany W before after world
  pub stands : WorldStandsFor volume after world
  pub disks : DisksFollow disk.faults disk.armings (all_outcomes outcomes) old_disks new_disks
  pub fuses : FusesFollow keep disk (all_outcomes outcomes) before.members world.members old_disks new_disks

-- the disks of each of several volumes
abbrev pub Disks : Type 0 → Type 0
Disks D = List (Vec (Pair D) Global)

-- One that was sent is a step of its volume's world, answered by what the members hold; the other volumes stay.
pub record StepsAt {K D : Type 0} (link : Type 0) (keep : Keep K) (disk : Disk D) (one : Sent)
    (old new : List (Backed K)) (old_disks new_disks : Disks D) : Type 0 where
  pub world : Backed K
  pub pairs : Vec (Pair D) Global
  pub next : Backed K
  pub later : Vec (Pair D) Global
  pub is : IsNumbered old one.what.volume world
  pub of : IsNumbered old_disks one.what.volume pairs
  pub set : new ≡ slice_set old (one.what.volume - 1) next
  pub set_disks : new_disks ≡ slice_set old_disks (one.what.volume - 1) later
  pub step : Stepped link keep disk world.whole one.what.command one.answer next.whole (vec_items pairs)
      (vec_items later)

-- what was sent is such a step each, one after the other
pub data EachSteps {K D : Type 0} (link : Type 0) (keep : Keep K) (disk : Disk D) :
    List Sent → List (Backed K) → List (Backed K) → Disks D → Disks D → Type 0 where
  NoneSteps : {worlds : List (Backed K)} {disks : Disks D} → EachSteps link keep disk [] worlds worlds disks disks
  OneSteps : {one : Sent} {more : List Sent} {old mid new : List (Backed K)} {old_disks mid_disks new_disks : Disks D}
      → StepsAt link keep disk one old mid old_disks mid_disks
      → EachSteps link keep disk more mid new mid_disks new_disks
      → EachSteps link keep disk (one ∷ more) old new old_disks new_disks

-- What was sent are steps of the volumes' worlds, one after the other, whatever these stand for. Where this is told,
-- each volume has run, alone, what was sent to it, with the answers that it gave, whatever its world stood for before.
pub record EachRuns {K D : Type 0} (link told : Type 0) (keep : Keep K) (disk : Disk D) (sent : List Sent)
    (old new : List (Backed K)) (old_disks new_disks : Disks D) : Type 0 where
  pub count : length new ≡ length old
  pub lists : length new_disks ≡ length old_disks
  pub steps : EachSteps link keep disk sent old new old_disks new_disks
  pub each : told → (v : ℕ) (volume : Volume) (W : ModelWorld) (world next : Backed K)
      (pairs later : Vec (Pair D) Global)
      → IsNumbered old v world → IsNumbered new v next → IsNumbered old_disks v pairs → IsNumbered new_disks v later
      → WorldStandsFor volume W world.whole
      → RunsOn keep disk volume W world.whole (commands_to v sent) (answers_to v sent) next.whole (vec_items pairs)
      (vec_items later)

-- it is the same one in both lists, if it is in the first
abbrev pub IsKeptAt : {A : Type 0} → ℕ → List A → List A → Type 0
IsKeptAt {A} v old new = (x : A) → IsNumbered old v x → IsNumbered new v x

-- The line has this answer, by what was sent for it. Each volume has run what was sent to it; and all but the one to
-- which the last command was sent are as before.
pub record AnswersLine {K D : Type 0} (link told : Type 0) (keep : Keep K) (disk : Disk D) (line : VolumeLine)
    (answer : Answer) (old new : List (Backed K)) (old_disks new_disks : Disks D) : Type 0 where
  pub sent : List Sent
  pub answered : IsAnswered (length old) line sent answer
  pub runs : EachRuns link told keep disk sent old new old_disks new_disks
  pub others : (v : ℕ) → (IsLastTo v sent → ⊥) → IsKeptAt v old new × IsKeptAt v old_disks new_disks

-- One command was sent, and answered; the other volumes are as before.
pub record Sends {K D : Type 0} (link told : Type 0) (keep : Keep K) (disk : Disk D) (one : Sent)
    (old new : List (Backed K)) (old_disks new_disks : Disks D) : Type 0 where
  pub next : Backed K
  pub later : Vec (Pair D) Global
  pub member : IsMember (length old) one.what.volume
  pub set : new ≡ slice_set old (one.what.volume - 1) next
  pub set_disks : new_disks ≡ slice_set old_disks (one.what.volume - 1) later
  pub follows : told → (volume : Volume) (W : ModelWorld) (world : Backed K) (pairs : Vec (Pair D) Global)
      → IsNumbered old one.what.volume world → IsNumbered old_disks one.what.volume pairs
      → WorldStandsFor volume W world.whole
      → FollowsOn keep disk volume W world.whole one.what.command one.answer next.whole (vec_items pairs)
      (vec_items later)
  pub steps : StepsAt link keep disk one old new old_disks new_disks

-- The command was cut short in this volume, for want of memory: it has done what one does that is cut short, and its
-- world stands for that; the other volumes are as before.
pub record IsCutShort {K D : Type 0} (told : Type 0) (keep : Keep K) (disk : Disk D) (v : ℕ) (command : Command)
    (old new : List (Backed K)) (old_disks new_disks : Disks D) : Type 0 where
  pub next : Backed K
  pub later : Vec (Pair D) Global
  pub member : IsMember (length old) v
  pub set : new ≡ slice_set old (v - 1) next
  pub set_disks : new_disks ≡ slice_set old_disks (v - 1) later
  pub stops : told → (volume : Volume) (W : ModelWorld) (world : Backed K) (pairs : Vec (Pair D) Global)
      → IsNumbered old v world → IsNumbered old_disks v pairs → WorldStandsFor volume W world.whole
      → StopsOn keep disk volume W world.whole command next.whole (vec_items pairs) (vec_items later)
  pub cut : (world : Backed K) (pairs : Vec (Pair D) Global) → IsNumbered old v world → IsNumbered old_disks v pairs
      → CutOn told keep disk command world.whole next.whole (vec_items pairs) (vec_items later)

-- the same, or nothing has changed
abbrev pub MayBeCut : {K D : Type 0} → Type 0 → Keep K → Disk D → ℕ → Command → List (Backed K) → List (Backed K)
    → Disks D → Disks D → Type 0
MayBeCut told keep disk v command old new old_disks new_disks =
    ((new ≡ old) × (new_disks ≡ old_disks)) ⊎ IsCutShort told keep disk v command old new old_disks new_disks

-- The paths of the line were followed, by looks of which none was refused, and its command was cut short where they
-- end.
pub record LineIsCut {K D : Type 0} (told : Type 0) (keep : Keep K) (disk : Disk D) (line : VolumeLine)
    (old new : List (Backed K)) (old_disks new_disks : Disks D) : Type 0 where
  pub passed : List Sent
  pub volume : ℕ
  pub command : Command
  pub route : Route (length old) line (sendings passed) (Arrives volume command)
  pub unrefused : All IsUnrefused passed
  pub runs : EachRuns told told keep disk passed old old old_disks old_disks
  pub cut : IsCutShort told keep disk volume command old new old_disks new_disks

-- the same, or nothing has changed
abbrev pub StopsLine : {K D : Type 0} → Type 0 → Keep K → Disk D → VolumeLine → List (Backed K) → List (Backed K)
    → Disks D → Disks D → Type 0
StopsLine told keep disk line old new old_disks new_disks =
    ((new ≡ old) × (new_disks ≡ old_disks)) ⊎ LineIsCut told keep disk line old new old_disks new_disks

-- each world stores fewer events than this
abbrev pub HaveRoom : {K : Type 0} → ℕ → List (Backed K) → Type 0
HaveRoom {K} limit worlds = (v : ℕ) (world : Backed K) → IsNumbered worlds v world → length world.whole.events < limit

-- and for each fewer are foreseen
abbrev pub ForeseeFew : {K : Type 0} → ℕ → List (Backed K) → Type 0
ForeseeFew {K} limit worlds = (v : ℕ) (world : Backed K) → IsNumbered worlds v world → foreseen world.whole < limit

-- each volume has disks, and they are those of its world
pub record AreHeld {K D : Type 0} (keep : Keep K) (disk : Disk D) (worlds : List (Backed K)) (disks : Disks D) :
    Type 0 where
  pub count : length disks ≡ length worlds
  pub each : (v : ℕ) (world : Backed K) (pairs : Vec (Pair D) Global) → IsNumbered worlds v world
      → IsNumbered disks v pairs → IsBacked keep disk world (vec_items pairs)

-- The lines have these answers, by what was sent for them, and each volume has run what was sent to it. Over a sink
-- that tells, the texts of the answers were put, in order, and nothing else.
pub record AnswersLines {K D : Type 0} (tells link told : Type 0) (keep : Keep K) (disk : Disk D)
    (lines : List VolumeLine) (old new : List (Backed K)) (old_disks new_disks : Disks D) (was now : List ℕ) :
    Type 0 where
  pub sent : List Sent
  pub answers : List Answer
  pub answered : AreAnswered (length old) lines sent answers
  pub runs : EachRuns link told keep disk sent old new old_disks new_disks
  pub put : tells → now ≡ was ++ texts_of answers

-- All answers to so many lines were put, and the next line's command was cut short.
pub record IsNextCut {K D : Type 0} (told : Type 0) (keep : Keep K) (disk : Disk D) (lines : List VolumeLine)
    (count : ℕ) (last : List Answer) (old new : List (Backed K)) (old_disks new_disks : Disks D) : Type 0 where
  pub all : last ≡ []
  pub line : VolumeLine
  pub next : IsNumbered lines (count + 1) line
  pub cut : LineIsCut told keep disk line old new old_disks new_disks

-- Some first lines have these answers, of which the last, at most, wasn't put whole, and each volume has run what was
-- sent to it for them. That is how the volumes are left, or the next line's command was cut short. Over a sink that
-- tells, the texts of the others were put, a front of its own, and nothing else.
pub record AnswersFront {K D : Type 0} (tells link told : Type 0) (keep : Keep K) (disk : Disk D)
    (lines : List VolumeLine) (old new : List (Backed K)) (old_disks new_disks : Disks D) (was now : List ℕ) :
    Type 0 where
  pub count : ℕ
  pub within : count ≤ length lines
  pub sent : List Sent
  pub whole : List Answer
  pub last : List Answer
  pub at_most_one : length last ≤ 1
  pub answered : AreAnswered (length old) (take count lines) sent (whole ++ last)
  pub worlds : List (Backed K)
  pub disks : Disks D
  pub runs : EachRuns link told keep disk sent old worlds old_disks disks
  pub left : ((new ≡ worlds) × (new_disks ≡ disks))
      ⊎ IsNextCut link keep disk lines count last worlds new disks new_disks
  pub put : tells → PutsFront (was ++ texts_of whole) (texts_of last) now

-- the line is one of so many volumes, and its command is one step of a world: no sweep, and no why
pub record IsLineOf (count : ℕ) (line : VolumeLine) : Type 0 where
  pub volume : IsMember count line.volume
  pub command : IsCommand line.command
  pub step : IsStep line.command
