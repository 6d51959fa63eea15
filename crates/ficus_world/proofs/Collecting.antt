-- A member that has collected holds no garbage.
use Rattle.std.proofs.Common.{◌≡◌, ℕ, List, Result, refl, sym, ap, subst, ◌∙◌, inl, inr}
use Rattle.ficus_ids.specs.declared.refusal.Refusal.{Refusal}
use Rattle.ficus_replica.specs.Collect.{HoldsNoGarbage}
use Rattle.ficus_replica.specs.declared.replica.Replica.{Replica}
use Rattle.ficus_replica.proofs.Leaving.{collect_leaves}
use Rattle.ficus_script.specs.declared.command.Command.{Command}
use Rattle.ficus_script.specs.declared.command.Command.TheVariants as command
use Rattle.ficus_script.specs.declared.answer.Answer.{Answer}
use Rattle.ficus_script.specs.declared.answer.Answer.TheVariants as answer
use Rattle.ficus_runs.specs.Answers.{answer_as}
use Rattle.ficus_runs.specs.Numbered.{IsNumbered}
use Rattle.ficus_runs.specs.Outcome.{Outcome}
use Rattle.ficus_runs.specs.Sequence.{Effect}
use Rattle.ficus_runs.specs.Sequence.First.{Ends, Goes}
use Rattle.ficus_opening.specs.declared.member.Member.{Member}
use Rattle.ficus_world.specs.Moves.{CarriesOut, HasCollected, HasNoGarbage, KeepsCollection, Moves}
use Rattle.ficus_world.specs.Moves.FindsUp.{FindsAt, FindsNoneAt, FindsDown}
use Rattle.ficus_world.specs.Moves.KeepsCollection.{Collects, CollectsNot}
use Rattle.ficus_world.specs.World.{Whole}
use Rattle.ficus_runs.proofs.Replaced.{replaced}

-- so does the member that keeps what its collection leaves
keeps_no_garbage : (old : Whole) (by entries files : ℕ) (was : Member) → IsNumbered old.members by was
    → (result : Result Answer Refusal) (left : Effect Whole) → KeepsCollection by was old result left
    → answer.Collected entries files ≡ answer_as result
    → HasNoGarbage by left.after
keeps_no_garbage old by entries files was is result left (Collects {given = given} gives) same = λ replica held.
    elim (replaced old.members by by _ held.member is.member.at_least held.is) [
      | inl (here, swapped) ↦
          subst (λ (r : Replica). HoldsNoGarbage r.saved.members r.saved.entries r.saved.files)
          (sym (held.holds ∙ ap (λ (m : Member). m.replica) swapped)) (collect_leaves was.replica given gives)
      | inr (differs, kept) ↦ absurd (differs refl)
    ]
keeps_no_garbage old by entries files was is result left (CollectsNot gives) same = absurd (cc)

holds_no_garbage : (tells disks_tell : Type 0) (old : Whole) (by entries files : ℕ) (result : Result Answer Refusal)
    (left : Effect Whole) → CarriesOut tells disks_tell (command.Collect by) old result left
    → answer.Collected entries files ≡ answer_as result
    → HasNoGarbage by left.after
holds_no_garbage tells disks_tell old by entries files result left (Ends (FindsNoneAt none)) same = absurd (cc)
holds_no_garbage tells disks_tell old by entries files result left (Ends (FindsDown is down)) same = absurd (cc)
holds_no_garbage tells disks_tell old by entries files result left
    (Goes {left = behind} (FindsAt {member = was} is up) keeps) same =
    keeps_no_garbage old by entries files was is result behind keeps same

-- a member that has collected holds no garbage
pub moves_collected : (tells disks_tell : Type 0) (old : Whole) (asked : Command) (outcomes : List Outcome)
    (given : Answer) (new : Whole) → Moves tells disks_tell old asked outcomes given new
    → HasCollected asked given new
moves_collected tells disks_tell old asked outcomes given new moves = λ by entries files is told.
    let left : Effect Whole = record { outcomes = outcomes; after = new } in
    holds_no_garbage tells disks_tell old by entries files moves.result left
    (subst (λ (c : Command). CarriesOut tells disks_tell c old moves.result left) is moves.does)
    (sym told ∙ moves.answer_is)
