-- What was answered over several fresh volumes, each behind a history of its own.
use Rattle.std.proofs.Common.{◌≡◌, ℕ, List, [], sym, subst}
use Rattle.ficus_ids.specs.Members.{IsMember}
use Rattle.ficus_laws.proofs.Lawful.{lawful_none}
use Rattle.ficus_model.specs.Lawful.{Volume}
use Rattle.ficus_top.specs.Graft.Answered.{Sent}
use Rattle.ficus_top.specs.Fresh.{AnswersFresh, AnswersFreshFront, RunsFresh}
use Rattle.ficus_runs.proofs.Runs.{run_lawful}
use Rattle.ficus_runs.proofs.Starts.{start_lawful}
use Rattle.ficus_script.specs.VolumeLine.{IsVolumeScript}
use Rattle.ficus_script.specs.declared.volume_line.VolumeLine.{VolumeLine}
use Rattle.ficus_top.specs.Headline.{IsSound}
use Rattle.ficus_top.specs.Modes.Volumes.{AnswersVolumes, AnswersVolumesFront}
use Rattle.ficus_top.proofs.Returning.{sound_of}

-- the history of a fresh volume is sound, whatever it ran
runs_sound : (volume : Volume) (v : ℕ) (sent : List Sent) (runs : RunsFresh volume v sent)
    → IsSound volume runs.after.events
runs_sound volume v sent runs =
    sound_of volume runs.after.events (run_lawful runs.run (start_lawful volume [] (lawful_none volume)))

module _ (tells : Type 0) (volume : Volume) (count : ℕ) (script was now : List ℕ) (lines some : List VolumeLine)
    (read : IsVolumeScript count script lines) (same : some ≡ lines) where
  -- the lines that were answered are those that were read
  read_some : IsVolumeScript count script some
  read_some = subst (λ (l : List VolumeLine). IsVolumeScript count script l) (sym same) read

  -- and what each volume ran of them is sound
  sounds : (sent : List Sent) (each : (v : ℕ) → IsMember count v → RunsFresh volume v sent) (v : ℕ)
      (is : IsMember count v) → IsSound volume (each v is).after.events
  sounds sent each v is = runs_sound volume v sent (each v is)

  pub answers_volumes : AnswersFresh tells volume count some was now
      → AnswersVolumes tells volume count script was now
  answers_volumes given =
      record { lines = some; read = read_some; answers = given; sound = sounds given.sent given.each }

  pub front_volumes : AnswersFreshFront tells volume count some was now
      → AnswersVolumesFront tells volume count script was now
  front_volumes given = record { lines = some; read = read_some; answers = given; sound = sounds given.sent given.each }
