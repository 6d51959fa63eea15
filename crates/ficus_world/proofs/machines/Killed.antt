-- A process that was killed, and the next one, do what a machine may do.
use Rattle.std.proofs.Common.{◌≡◌, ◌⊎◌, ℕ, ◌-◌, List, [], ◌∷◌, ◌++◌, Result, Ok, Some, None, refl, sym, subst, ◌∙◌, inl, inr}
use Rattle.std.specs.Prelude.{slice_set}
use Rattle.std.proofs.lemmas.List.{append-nil, length-set}
use Rattle.ficus_durable_state.specs.Saved.{FitsImage}
use Rattle.ficus_durable_state.specs.declared.saved.Saved.{Saved}
use Rattle.ficus_ids.specs.declared.refusal.Refusal.{Refusal}
use Rattle.ficus_model.specs.declared.event.Event.{Event}
use Rattle.ficus_model.specs.declared.event.Event.TheVariants as event
use Rattle.ficus_script.specs.declared.answer.Answer.{Answer}
use Rattle.ficus_script.specs.declared.answer.Answer.TheVariants.{Done}
use Rattle.ficus_script.specs.declared.command.Command.TheVariants as command
use Rattle.ficus_runs.specs.Numbered.{IsNumbered}
use Rattle.ficus_runs.specs.Outcome.{Outcome, IsFound, IsOpened}
use Rattle.ficus_runs.specs.Sequence.First.{Goes}
use Rattle.ficus_opening.specs.declared.member.Member.{Member}
use Rattle.ficus_opening.specs.declared.member.MemberState.{MemberState}
use Rattle.ficus_opening.specs.declared.member.MemberState.TheVariants as state
use Rattle.ficus_opening.specs.declared.member.Pending.{Pending}
use Rattle.ficus_world.specs.Kills.{latest}
use Rattle.ficus_world.specs.Moves.{CarriesOut, IsLike, IsReadAs, restarted}
use Rattle.ficus_world.specs.Moves.FindsMember.{Finds}
use Rattle.ficus_world.specs.Moves.Reopens.{ReopenedAsWas, ReopenedAsPending}
use Rattle.ficus_world.specs.World.{Whole}
use Rattle.ficus_world.specs.Machines.Killed.{BeginsWith, GoesOn, MayBeFound}
use Rattle.ficus_world.specs.Machines.Part.{Deed, MayBeAsked, Restarts, command_of}
use Rattle.ficus_world.specs.Machines.Together.{Alone, Renews}
use Rattle.ficus_world.specs.Machines.Together.Alone.{Acted, Ended, Renewed}
use Rattle.ficus_world.proofs.machines.Parts.{number_put}

like_self : (saved : Saved) → IsLike saved saved
like_self saved = record { me = refl; members = refl; ids = refl; bytes = refl; generation = refl }

-- what was found is what is known
read_as : (disks_tell : Type 0) (known found : Saved) → FitsImage found → found ≡ known
    → IsReadAs disks_tell known found
read_as disks_tell known found fits same = record {
  fits = fits;
  like = subst (IsLike known) (sym same) (like_self known);
  told = λ told. same;
}

-- a restart in which this is found
record RestartsWith (r : ℕ) (machine : Whole) (member : Member) (found : Saved) : Type 0 where
  pub outcomes : List Outcome
  pub events : List Event
  pub does : CarriesOut (Unit {0}) (Unit {0}) (command.Restart r) machine (Ok Done)
      (record {
        outcomes = outcomes;
        after = record machine {
          members = slice_set machine.members (r - 1) (restarted member found);
          events = events;
        };
      })

module _ (r : ℕ) (machine : Whole) (member : Member) (is : IsNumbered machine.members r member) (found : Saved)
    (fits : FitsImage found) where
  as_was : found ≡ member.replica.saved → RestartsWith r machine member found
  as_was same = record {
    outcomes = IsOpened r ∷ [];
    events = machine.events ++ event.Restart r ∷ [];
    does = Goes (Finds is) (ReopenedAsWas (read_as (Unit {0}) member.replica.saved found fits same));
  }

  as_pending : (pending : Pending) → member.state ≡ state.Down (Some pending) → found ≡ pending.replica.saved
      → RestartsWith r machine member found
  as_pending pending down same = record {
    outcomes = IsFound r ∷ [];
    events = (machine.events ++ pending.event ∷ []) ++ event.Restart r ∷ [];
    does = Goes (Finds is) (ReopenedAsPending down (read_as (Unit {0}) pending.replica.saved found fits same));
  }

  restarts_with : MayBeFound member found → RestartsWith r machine member found
  restarts_with (inl same) = as_was same
  restarts_with (inr same) = go member.state refl same
    where
      go : (stood : MemberState) → member.state ≡ stood → found ≡ latest member.replica.saved stood
          → RestartsWith r machine member found
      go state.Up is_up same_too = as_was same_too
      go (state.Down None) down same_too = as_was same_too
      go (state.Down (Some pending)) down same_too = as_pending pending down same_too

  -- and the next process begins so
  module _ (begun : Whole) (begins : BeginsWith r machine begun found) (may : MayBeFound member found) where
    restart : RestartsWith r machine member found
    restart = restarts_with may

    abbrev opened : Whole
    opened = record machine {
      members = slice_set machine.members (r - 1) (restarted member found);
      events = restart.events;
    }

    same_member : begins.member ≡ restarted member found
    same_member =
        let fused = begins.fused member is in
        λ i. record {
          replica = begins.replica i;
          parts = begins.parts i;
          state = begins.up i;
          fused = fused i;
        }

    renews : Renews r opened begun
    renews = record {
      count = begins.count ∙ sym (length-set machine.members (r - 1) (restarted member found));
      member = restarted member found;
      was = number_put machine.members r (restarted member found) is.member;
      is = subst (λ (m : Member). IsNumbered begun.members r m) same_member begins.is;
      posts = begins.posts;
    }

    pub begins_alone : Alone (Unit {0}) (Unit {0}) r machine [] []
        (record { by = r; deed = Restarts; result = Ok Done } ∷ []) begun
    begins_alone =
        Acted opened restart.outcomes [] tt restart.does (sym (append-nil machine.post.posts))
        (Renewed begun renews Ended)

-- where a step that a kill broke off may have been done, or not
pub killed_goes_on : (r : ℕ) (machine after begun : Whole) (was now : Member) (deed : Deed)
    (result : Result Answer Refusal) (outcomes : List Outcome) (more : List (List ℕ)) (found : Saved)
    → IsNumbered machine.members r was → IsNumbered after.members r now → MayBeAsked r machine deed
    → CarriesOut (Unit {0}) (Unit {0}) (command_of r deed) machine result
    (record { outcomes = outcomes; after = after }) → after.post.posts ≡ machine.post.posts ++ more
    → FitsImage found → MayBeFound was found ⊎ MayBeFound now found → BeginsWith r machine begun found
    → BeginsWith r after begun found → GoesOn r machine begun
killed_goes_on r machine after begun was now deed result outcomes more found is is_now may does posted fits (inl old)
    begins begins_then = record {
      posted = [];
      told = record { by = r; deed = Restarts; result = Ok Done } ∷ [];
      alone = begins_alone r machine was is found fits begun begins old;
    }
killed_goes_on r machine after begun was now deed result outcomes more found is is_now may does posted fits (inr new)
    begins begins_then = record {
      posted = more ++ [];
      told = record { by = r; deed = deed; result = result } ∷ record { by = r; deed = Restarts; result = Ok Done } ∷ [];
      alone =
          Acted after outcomes more may does posted
          (begins_alone r after now is_now found fits begun begins_then new);
    }
