-- What it tells that an entry is dropped.
use Rattle.std.proofs.Common.{◌≡◌, ◌⊎◌, ℕ, ◌<◌, List, [], ◌∷◌, ◌++◌, length, refl, sym, subst, inl, inr, arith}
use Rattle.std.proofs.lemmas.List.{take_at}
use Rattle.ficus_ids.specs.Members.{IsMember}
use Rattle.ficus_ids.specs.declared.id.Id.{Id}
use Rattle.ficus_model.specs.declared.event.Event.{Event}
use Rattle.ficus_model.specs.declared.event.Event.TheVariants.{Collect}
use Rattle.ficus_model.specs.Events.{IsAt, before}
use Rattle.ficus_model.specs.Known.{Knows}
use Rattle.ficus_model.specs.Live.{IsRemoved}
use Rattle.ficus_model.specs.Knowledge.{KnowsThatKnows, KnowsThatAllKnow}
use Rattle.ficus_model.specs.Held.{IsDropped}
use Rattle.ficus_laws.proofs.Positions.{AgreeBelow, agree_back, agree_more, agree_before, agree_at, agree_take, at_within, at_end, at_cases, at_from_before}
use Rattle.ficus_laws.proofs.Knowledge.{knows_own}
use Rattle.ficus_removal_laws.specs.Marks.{IsTwoFull}
use Rattle.ficus_removal_laws.proofs.Carrying.{one_through, one_removed, all_from_before}
use Rattle.ficus_removal_laws.proofs.Hearing.{two_from_last}

-- what is dropped is so in each history that has the same events
pub dropped_at : {n members : ℕ} {H K : List Event} {replica : ℕ} {entry : Id} → AgreeBelow n H K →
    (d : IsDropped members H replica entry) → d.position < n → IsDropped members K replica entry
dropped_at {members = members} {replica = replica} {entry = entry} same d h = record {
  position = d.position;
  collect = agree_at same h d.collect;
  full = subst (λ L. IsTwoFull members L replica entry) (agree_take same (omega arith)) d.full;
}

pub dropped_more : {members : ℕ} {H : List Event} {replica : ℕ} {entry : Id} (T : List Event) →
    IsDropped members H replica entry → IsDropped members (H ++ T) replica entry
dropped_more {H = H} T d = dropped_at (agree_more H T) d (at_within d.collect)

pub dropped_from_before : {members : ℕ} {H : List Event} {replica : ℕ} {entry : Id} (n : ℕ) →
    IsDropped members (before n H) replica entry → IsDropped members H replica entry
dropped_from_before {H = H} n d = dropped_at (agree_before n H) d (at_from_before n d.collect).0

-- a Collect drops exactly what its replica's second set is full for, and no other event drops anything
module _ {members : ℕ} {H : List Event} {replica : ℕ} {entry : Id} (event : Event) where
  pub dropped_cases : IsDropped members (H ++ event ∷ []) replica entry →
      IsDropped members H replica entry ⊎ ((event ≡ Collect replica) × IsTwoFull members H replica entry)
  dropped_cases d = go (at_cases event d.collect)
    where
      go : IsAt H d.position (Collect replica) ⊎ ((d.position ≡ length H) × (Collect replica ≡ event)) →
          IsDropped members H replica entry ⊎ ((event ≡ Collect replica) × IsTwoFull members H replica entry)
      go (inl was) = inl (dropped_at (agree_back (agree_more H (event ∷ []))) d (at_within was))
      go (inr (end, is)) = inr (
        sym is,
        subst (λ L. IsTwoFull members L replica entry) (take_at H (event ∷ []) d.position (sym end)) d.full,
      )

  pub dropped_now : event ≡ Collect replica → IsTwoFull members H replica entry →
      IsDropped members (H ++ event ∷ []) replica entry
  dropped_now is full = record {
    position = length H;
    collect = subst (λ x. IsAt (H ++ event ∷ []) (length H) x) is (at_end H event);
    full = subst (λ L. IsTwoFull members L replica entry) (sym (take_at H (event ∷ []) (length H) refl)) full;
  }

-- where a replica has dropped an entry, it knows of each member that it knows that all know
pub dropped_two : {members : ℕ} {H : List Event} {replica member : ℕ} {entry : Id} → IsDropped members H replica entry →
    IsMember members member → KnowsThatAllKnow members H replica member entry
dropped_two {member = member} d m = all_from_before d.position (two_from_last (d.full member m))

-- so each member knows of each
pub dropped_one : {members : ℕ} {H : List Event} {replica member peer : ℕ} {entry : Id} →
    IsDropped members H replica entry → IsMember members member → IsMember members peer →
    KnowsThatKnows H member peer entry
dropped_one {peer = peer} d m p = let t = dropped_two d m in one_through t.own (knows_own t.own) (t.all peer p)

pub dropped_removed : {members : ℕ} {H : List Event} {replica member : ℕ} {entry : Id} →
    IsDropped members H replica entry → IsMember members member → IsRemoved H (Knows H member) entry
dropped_removed d m = one_removed (dropped_one d m m)
