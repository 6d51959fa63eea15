-- Each moment of a run is one of its openings, or one of a command.
use Rattle.std.proofs.Common.{ℕ, List, ◌∷◌, Option, zero, suc, refl, inl, inr, ◌⊎◌, ⊎_elim}
use Rattle.ficus_disk.specs.declared.disk.Disk.{Ghosts as Disk}
use Rattle.ficus_disk.specs.declared.pair.Pair.{Pair}
use Rattle.ficus_keeper.specs.Kept.{Kept}
use Rattle.ficus_model.specs.Lawful.{Volume}
use Rattle.ficus_script.specs.declared.answer.Answer.{Answer}
use Rattle.ficus_script.specs.declared.command.Command.{Command}
use Rattle.ficus_runs.specs.ModelWorld.{ModelWorld}
use Rattle.ficus_runs.specs.Outcome.{Outcome}
use Rattle.ficus_runs.specs.Run.{Step}
use Rattle.ficus_runs.specs.Run.Run.{End, Then}
use Rattle.ficus_loop.specs.Trail.{DuringAt, RunOn, Somewhere, Trail, whole}
use Rattle.ficus_loop.specs.Trail.RunOn.{EndOn, ThenOn}
use Rattle.ficus_loop.specs.Trail.Trail.{Joined}

module _ {D : Type 0} {kept : List ℕ → List ℕ → Option Kept} {disk : Disk D} {volume : Volume}
    (P : ModelWorld → ModelWorld → List (Pair D) → List (Pair D) → Type 0) where
  -- a command further on
  later : {W M : ModelWorld} {command : Command} {commands : List Command} {outcomes : List Outcome}
      {more : List (List Outcome)} {answer : Answer} {answers : List Answer} (k : ℕ)
      → Step volume W command outcomes answer M → DuringAt kept disk volume P M commands more answers k
      → DuringAt kept disk volume P W (command ∷ commands) (outcomes ∷ more) (answer ∷ answers) (suc k)
  later k step during = record {
    before = during.before;
    ran = Then step during.ran;
    after = during.after;
    ran_too = Then step during.ran_too;
    old = during.old;
    new = during.new;
    command = during.command;
    is = during.is;
    does = during.does;
    there = during.there;
  }

  pub during : {W V U : ModelWorld} {commands : List Command} {outcomes : List (List Outcome)} {answers : List Answer}
      {entry mid now : List (Pair D)} (first : Trail kept disk volume W V entry mid)
      (run : RunOn kept disk volume V commands outcomes answers U mid now) → Somewhere P (whole first run)
      → Somewhere P first
      ⊎ ((k : ℕ) × DuringAt kept disk volume P V commands outcomes answers k)
  during first EndOn there = inl there
  during {V = V} first (ThenOn {command = command} {middle = M} {x = x} {y = y} step does rest) there =
      ⊎_elim
      (λ earlier. ⊎_elim (λ before. inl before)
      (λ here. inr (
        zero,
        record {
          before = V;
          ran = End;
          after = M;
          ran_too = Then step End;
          old = x;
          new = y;
          command = command;
          is = refl;
          does = does;
          there = here;
        },
      )) earlier)
      (λ behind. let next = behind in inr (suc next.0, later next.0 step next.1))
      (during (Joined first does.trail) rest there)
