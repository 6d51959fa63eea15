-- The mode `volumes`: fresh volumes are made in memory, and a script is run over them.
use Rattle.std.specs.Prelude.{◌≡◌, ◌⊎◌, ℕ, List, []}
use Rattle.ficus_ids.specs.Members.{IsMember}
use Rattle.ficus_model.specs.Lawful.{Volume}
use Rattle.ficus_top.specs.Fresh.{AnswersFresh, AnswersFreshFront}
use Rattle.ficus_script.specs.VolumeLine.{IsVolumeScript}
use Rattle.ficus_script.specs.declared.volume_line.VolumeLine.{VolumeLine}
use Rattle.ficus_words.specs.declared.mode.Size.{Size}
use Rattle.ficus_top.specs.Grammar.{of_volumes}
use Rattle.ficus_top.specs.Headline.{IsSound}
use Rattle.ficus_top.specs.Making.{volume_of}
use Rattle.ficus_top.specs.Script.{HasIn, ReadsIn}
use Rattle.ficus_top.specs.Seen.{Seen, left_of, put_after, put_before, script_of}
use Rattle.ficus_top.specs.declared.status.Status.{Status}

abbrev pub IsVolumesCode : ℕ → Type 0
IsVolumesCode code = (code ≡ 0) ⊎ (code ≡ 2) ⊎ (code ≡ 3) ⊎ (code ≡ 4) ⊎ (code ≡ 5) ⊎ (code ≡ 8)

-- The bytes are a script over so many volumes, whose lines were answered over fresh ones of this size. The history of
-- each is sound.
pub record AnswersVolumes (tells : Type 0) (volume : Volume) (count : ℕ) (script old new : List ℕ) : Type 0 where
  pub lines : List VolumeLine
  pub read : IsVolumeScript count script lines
  pub answers : AnswersFresh tells volume count lines old new
  pub sound : (v : ℕ) (is : IsMember count v) → IsSound volume (answers.each v is).after.events

-- the same of some first ones of its lines
pub record AnswersVolumesFront (tells : Type 0) (volume : Volume) (count : ℕ) (script old new : List ℕ) :
    Type 0 where
  pub lines : List VolumeLine
  pub read : IsVolumeScript count script lines
  pub answers : AnswersFreshFront tells volume count lines old new
  pub sound : (v : ℕ) (is : IsMember count v) → IsSound volume (answers.each v is).after.events

module _ {S K D : Type 0} where
  -- the script was answered over so many fresh volumes of this size, or the first ones of its lines
  abbrev pub AnswersVolumesOf : Seen S K D → Size → ℕ → Type 0
  AnswersVolumesOf seen size count =
      AnswersVolumes seen.sink.tells (volume_of size) count (script_of seen) (put_before seen) (put_after seen)

  abbrev pub AnswersVolumesFrontOf : Seen S K D → Size → ℕ → Type 0
  AnswersVolumesFrontOf seen size count =
      AnswersVolumesFront seen.sink.tells (volume_of size) count (script_of seen) (put_before seen) (put_after seen)

  -- The disks that were handed in stay as they were. With code 0 the source is empty, and what was put are the texts of
  -- the answers to the script's lines. With codes 3 and 5 it is a front of them, or with code 3 nothing was put. A
  -- script is answered, unless the outside fails or memory is wanted.
  pub record DoesVolumes (size : Size) (count : ℕ) (seen : Seen S K D) (status : Status) : Type 0 where
    pub codes : IsVolumesCode status.code
    pub reads : seen.source.tells → ReadsIn (of_volumes count) seen status
    pub untouched : seen.disks.new ≡ seen.disks.old
    pub answers : seen.source.tells → status.code ≡ 0 → AnswersVolumesOf seen size count × (left_of seen ≡ [])
    pub prefix : seen.source.tells → status.code ≡ 5 → AnswersVolumesFrontOf seen size count
    pub cut : seen.source.tells → status.code ≡ 3
        → (seen.output.new ≡ seen.output.old) ⊎ AnswersVolumesFrontOf seen size count
    pub complete : seen.source.tells → HasIn (of_volumes count) seen → (status.code ≡ 0) ⊎ (status.code ≡ 3)
