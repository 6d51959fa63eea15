-- What is done stays done, and what is done among the first events.
use Rattle.std.proofs.Common.{◌≡◌, ◌≢◌, ◌⊎◌, ℕ, List, [], ◌∷◌, ◌++◌, length, inl, inr}
use Rattle.ficus_ids.specs.declared.id.Id.{Id}
use Rattle.ficus_model.specs.declared.event.Event.{Event}
use Rattle.ficus_model.specs.declared.event.Event.TheVariants.{Collect}
use Rattle.ficus_model.specs.Events.{before}
use Rattle.ficus_model.specs.Held.{IsDone}
use Rattle.ficus_laws.proofs.Positions.{agree_before, at_from_before}
use Rattle.ficus_final_laws.specs.Laws.{IsGivenUp}
use Rattle.ficus_final_laws.proofs.Collecting.{done_at, done_more, done_cases}
use Rattle.ficus_held_laws.specs.Objects.{HasDone}

pub done_from_before : {members : ℕ} {H : List Event} {replica : ℕ} {object : Id} {position : ℕ} (n : ℕ) →
    IsDone members (before n H) replica object position → IsDone members H replica object position
done_from_before {H = H} n d = done_at (agree_before n H) (at_from_before n d.collect).0 d

-- an event that is no Collect of the replica makes nothing done
pub done_was : {members : ℕ} {H : List Event} {replica : ℕ} {object : Id} {position : ℕ} (event : Event) →
    event ≢ Collect replica → IsDone members (H ++ event ∷ []) replica object position →
    IsDone members H replica object position
done_was {members} {H} {replica} {object} {position} event other d = go (done_cases members H replica object event d)
  where
    go : IsDone members H replica object position ⊎
        ((position ≡ length H) × (event ≡ Collect replica) × IsGivenUp members H replica object) →
        IsDone members H replica object position
    go (inl was) = was
    go (inr (end, is, given_up)) = absurd (other is)

pub done_stays : {members : ℕ} {H : List Event} {replica : ℕ} {object : Id} (event : Event) →
    HasDone members H replica object → HasDone members (H ++ event ∷ []) replica object
done_stays {members} {H} {replica} {object} event g =
    record { position = g.position; done = done_more members H replica object event g.done }
