-- What is known, by its code, of a run in a mode that reads a script.
use Rattle.std.specs.Prelude.{◌≡◌, ◌⊎◌, ◌↔◌, ℕ, ◌+◌, ◌<◌, ◌≤◌, List, [], length, ⊤}
use Rattle.ficus_model.specs.Lawful.{Volume}
use Rattle.ficus_model.specs.declared.event.Event.{Event}
use Rattle.ficus_top.specs.Codes.{IsBadLineCode, IsReadCode}
use Rattle.ficus_top.specs.Grammar.{Grammar, of_commands}
use Rattle.ficus_top.specs.Headline.{Answers, AnswersFront, AreFusesAtRest, CarriesOutNothing}
use Rattle.ficus_top.specs.Outside.{GivesCount}
use Rattle.ficus_loop.specs.Serving.{script_limit}
use Rattle.ficus_top.specs.Seen.{Seen, SinkFailed, SourceFailed, disks_after, disks_before, left_of, put_after, put_before, script_of}
use Rattle.ficus_top.specs.declared.status.Status.{Status}

module _ {S K D : Type 0} where
  -- Code 8 comes exactly where the source gave a byte more than a script may have; and wherever it has one more, unless
  -- it failed or memory was wanted. Code 2 names the first line that may stand in no script, and comes wherever there
  -- is one in a script that isn't too long, with the same exceptions.
  pub record ReadsIn (grammar : Grammar) (seen : Seen S K D) (status : Status) : Type 0 where
    pub too_long : (status.code ≡ 8) ↔ GivesCount (script_of seen) (script_limit + 1) (left_of seen)
    pub too_long_comes : (SourceFailed seen → ⊥) → script_limit < length (script_of seen)
        → (status.code ≡ 8) ⊎ (status.code ≡ 3)
    pub within : IsReadCode status.code → length (script_of seen) ≤ script_limit
    pub bad_line : status.code ≡ 2 → grammar.IsFirstBad (script_of seen) status.line
    pub bad_line_comes : (line : ℕ) → (SourceFailed seen → ⊥) → length (script_of seen) ≤ script_limit
        → grammar.IsFirstBad (script_of seen) line → IsBadLineCode line status.code status.line

  abbrev pub ReadsScript : Seen S K D → Status → Type 0
  ReadsScript seen status = ReadsIn of_commands seen status

  -- behind this earlier history the script was answered, or the first ones of its commands
  abbrev pub AnswersOf : Seen S K D → Volume → List Event → Type 0
  AnswersOf seen volume earlier =
      Answers seen.sink.tells seen.disk (AreFusesAtRest seen.disk volume.members earlier (disks_before seen)) volume
      earlier (script_of seen)
      (put_before seen) (put_after seen) (disks_before seen) (disks_after seen)

  abbrev pub AnswersFrontOf : Type 0 → Seen S K D → Volume → List Event → Type 0
  AnswersFrontOf may seen volume earlier =
      AnswersFront seen.sink.tells may seen.disk
      (AreFusesAtRest seen.disk volume.members earlier (disks_before seen)) volume earlier (script_of seen)
      (put_before seen) (put_after seen) (disks_before seen) (disks_after seen)

  -- Behind this earlier history: with code 0 the source is empty, and what was put are the texts of the answers to the
  -- script's commands. With codes 3 and 5 it is a front of them. With code 3 the last command may have been cut short,
  -- or no command was carried out, and this holds too.
  pub record AnswersScript (seen : Seen S K D) (status : Status) (stays : Type 0) (volume : Volume)
      (earlier : List Event) : Type 0 where
    pub answers : status.code ≡ 0 → AnswersOf seen volume earlier × (left_of seen ≡ [])
    pub prefix : status.code ≡ 5 → AnswersFrontOf ⊥ seen volume earlier
    pub cut : status.code ≡ 3
        → CarriesOutNothing stays seen.disk.armings seen.output.old seen.output.new (disks_before seen)
        (disks_after seen)
        ⊎ AnswersFrontOf ⊤ seen volume earlier

  -- the source has a script of this grammar, and neither the source nor the sink has failed
  pub record HasIn (grammar : Grammar) (seen : Seen S K D) : Type 0 where
    pub within : length (script_of seen) ≤ script_limit
    pub commands : List grammar.Line
    pub script : grammar.IsOf (script_of seen) commands
    pub source : SourceFailed seen → ⊥
    pub sink : SinkFailed seen → ⊥

  abbrev pub HasScript : Seen S K D → Type 0
  HasScript seen = HasIn of_commands seen
