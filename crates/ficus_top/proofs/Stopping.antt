-- Disks are armed only by stops of the script.
use Rattle.std.proofs.Common.{◌≡◌, ℕ, List, take, drop, refl, subst, inl, inr, arith}
use Rattle.std.specs.Prelude.{Contains}
use Rattle.std.proofs.lemmas.Bool.{cases_eq}
use Rattle.std.proofs.lemmas.List.{take-append-drop}
use Rattle.std.proofs.lemmas.List.Elements.{Contains-append_left}
use Rattle.ficus_disk.specs.declared.disk.Disk.{Ghosts as Disk}
use Rattle.ficus_disk.specs.declared.pair.Pair.{Pair}
use Rattle.ficus_keeper.specs.Pairs.{PairSame}
use Rattle.ficus_model.specs.Lawful.{Volume}
use Rattle.ficus_runs.proofs.Arming.{part_unarming, run_arms}
use Rattle.ficus_runs.proofs.Outcomes.{count_append}
use Rattle.ficus_runs.specs.Outcomes.{all_outcomes}
use Rattle.ficus_runs.specs.Fuses.{FuseState}
use Rattle.ficus_runs.specs.ModelWorld.{ModelWorld}
use Rattle.ficus_runs.specs.Numbered.{IsNumbered}
use Rattle.ficus_runs.specs.Outcome.{Outcome, armings_in, is_arming}
use Rattle.ficus_runs.specs.Run.{Run}
use Rattle.ficus_script.specs.declared.answer.Answer.{Answer}
use Rattle.ficus_script.specs.declared.command.Command.{Command}
use Rattle.ficus_script.specs.declared.command.Command.TheVariants as command
use Rattle.ficus_loop.specs.Serving.{IsCut}
use Rattle.ficus_loop.specs.Serving.IsCut.{CutIn, Uncut}
use Rattle.ficus_top.specs.Ends.{Ends, EndsFront}

module _ (r : ℕ) where
  cut_unarming : {may : Type 0} {volume : Volume} {W after : ModelWorld} {last : List Answer} {commands : List Command}
      {outcomes : List Outcome} → IsCut may volume W last commands outcomes after → armings_in r outcomes ≡ 0
  cut_unarming Uncut = refl
  cut_unarming {volume = volume} {W = W} (CutIn {command = command} {left = left} allowed does) =
      part_unarming r volume command W left does

  -- no stop of this member is among the commands
  abbrev NoStop : List Command → Type 0
  NoStop commands = (calls pick : ℕ) → Contains commands (command.Stop r calls pick) → ⊥

  run_unarmed : {volume : Volume} {old new : ModelWorld} {commands : List Command} {outcomes : List (List Outcome)}
      {answers : List Answer} → Run volume old commands outcomes answers new → NoStop commands
      → armings_in r (all_outcomes outcomes) ≡ 0
  run_unarmed {outcomes = outcomes} run none =
      elim (cases_eq (armings_in r (all_outcomes outcomes)) 0) [
        | inl unarmed ↦ unarmed
        | inr some ↦ let stop = run_arms r run some in absurd (none stop.0 stop.1 stop.2)
      ]

  module _ {D : Type 0} {disk : Disk D} {tells : Type 0} {Rest : (ℕ → FuseState) → Type 0} {volume : Volume}
      {W : ModelWorld} {commands : List Command} {old new : List ℕ} {disks after : List (Pair D)} (was now : Pair D)
      (is_was : IsNumbered disks r was) (is_now : IsNumbered after r now) (none : NoStop commands) where
    -- the disks of a member that no command stops aren't armed
    pub ends_unarmed : Ends tells disk Rest volume W commands old new disks after → PairSame disk.armings was now
    ends_unarmed ends = (ends.disks.each r was now is_was is_now).unarmed (run_unarmed ends.serves.run none)

    pub front_unarmed : {may : Type 0} → EndsFront tells may disk Rest volume W commands old new disks after
        → PairSame disk.armings was now
    front_unarmed front =
        let first = take front.serves.count commands in
        let none_first = λ (calls pick : ℕ) (inside : Contains first (command.Stop r calls pick)). none calls pick
        (subst (λ (all : List Command). Contains all (command.Stop r calls pick))
        (take-append-drop front.serves.count commands)
        (Contains-append_left first (drop front.serves.count commands) (command.Stop r calls pick) inside)) in
        (front.disks.each r was now is_was is_now).unarmed (omega (
          arith,
          count_append (is_arming r) (all_outcomes front.serves.outcomes) front.serves.more_outcomes,
          run_unarmed front.serves.run none_first,
          cut_unarming front.serves.cut,
        ))
