-- What a Collect gives up.
use Rattle.std.proofs.Common.{◌≡◌, ◌⊎◌, ℕ, ◌<◌, List, [], ◌∷◌, ◌++◌, length, refl, sym, ap, ◌∙◌, subst, inl, inr, arith}
use Rattle.std.proofs.lemmas.List.{take_at}
use Rattle.ficus_ids.specs.declared.id.Id.{Id}
use Rattle.ficus_model.specs.declared.event.Event.{Event}
use Rattle.ficus_model.specs.declared.event.Event.TheVariants.{Collect}
use Rattle.ficus_model.specs.Events.{IsAt, before, through}
use Rattle.ficus_model.specs.Known.{Knows}
use Rattle.ficus_model.specs.Live.{ModelEntry, IsEntered}
use Rattle.ficus_model.specs.Held.{IsDropped, Touches, IsDone}
use Rattle.ficus_laws.proofs.Positions.{AgreeBelow, agree_back, agree_more, agree_at, agree_take, through_is, at_within, at_end, at_cases}
use Rattle.ficus_laws.proofs.Knowledge.{knows_within}
use Rattle.ficus_laws.proofs.Shown.{entered_within, made_within}
use Rattle.ficus_laws.proofs.Views.{KnowsSame, agree_known, same_updates, same_turned, orphan_within}
use Rattle.ficus_removal_laws.specs.Marks.{IsTwoFull}
use Rattle.ficus_removal_laws.proofs.Dropping.{dropped_more, dropped_cases, dropped_now}
use Rattle.ficus_final_laws.specs.Laws.{IsGivenUp}
use Rattle.ficus_final_laws.proofs.Before.{known_before}

-- what is done is so in each history that has the same events
pub done_at : {n members : ℕ} {H K : List Event} {replica position : ℕ} {object : Id} → AgreeBelow n H K →
    position < n → IsDone members H replica object position → IsDone members K replica object position
done_at {n} {members} {H} {K} {replica} {position} {object} same h d = record {
  collect = agree_at same h d.collect;
  kind = d.kind;
  made = made_within (same_updates known).there d.made;
  dropped = λ entry e touches. subst
      (λ L. IsDropped members L replica entry.id)
      (agree_take same (omega arith))
      (d.dropped entry (entered_within (same_updates known).back e) touches);
  no_orphan = λ orphan. d.no_orphan (orphan_within (same_turned known) orphan);
}
  where
    known : KnowsSame H (Knows (before position H) replica) K (Knows (before position K) replica)
    known = subst
        (λ L. KnowsSame H (Knows (before position H) replica) K (Knows L replica))
        (agree_take same (omega arith))
        (agree_known same (λ at k. let l = known_before H position k in omega arith))

-- In each of these one more event comes.
module _ (members : ℕ) (H : List Event) (replica : ℕ) (object : Id) (event : Event) where
  abbrev after : List Event
  after = H ++ event ∷ []

  pub done_more : {position : ℕ} → IsDone members H replica object position →
      IsDone members after replica object position
  done_more d = done_at (agree_more H (event ∷ [])) (at_within d.collect) d

  earlier_is : before (length H) after ≡ H
  earlier_is = take_at H (event ∷ []) (length H) refl

  through_end : through (length H) after ≡ after
  through_end = through_is (at_end H event) ∙ ap (λ L. L ++ event ∷ []) earlier_is

  known : KnowsSame after (Knows (before (length H) after) replica) H (Knows H replica)
  known = subst
      (λ L. KnowsSame after (Knows L replica) H (Knows H replica))
      (sym earlier_is)
      (agree_known (agree_back (agree_more H (event ∷ []))) (λ at k. knows_within k))

  gives_up : IsDone members after replica object (length H) → IsGivenUp members H replica object
  gives_up d = record {
    kind = d.kind;
    made = made_within (same_updates known).there d.made;
    dropped = λ entry e touches. dropped entry (dropped_cases event (there entry e touches));
    no_orphan = λ orphan. d.no_orphan (orphan_within (same_turned known) orphan);
  }
    where
      there : (entry : ModelEntry) → IsEntered H (Knows H replica) entry → Touches entry object →
          IsDropped members after replica entry.id
      there entry e touches = subst
          (λ L. IsDropped members L replica entry.id)
          through_end
          (d.dropped entry (entered_within (same_updates known).back e) touches)

      dropped : (entry : ModelEntry) →
          IsDropped members H replica entry.id ⊎ ((event ≡ Collect replica) × IsTwoFull members H replica entry.id) →
          IsDropped members H replica entry.id ⊎ IsTwoFull members H replica entry.id
      dropped entry (inl was) = inl was
      dropped entry (inr (is, full)) = inr full

  pub done_cases : {position : ℕ} → IsDone members after replica object position →
      IsDone members H replica object position ⊎
      ((position ≡ length H) × (event ≡ Collect replica) × IsGivenUp members H replica object)
  done_cases {position} d = go (at_cases event d.collect)
    where
      go : IsAt H position (Collect replica) ⊎ ((position ≡ length H) × (Collect replica ≡ event)) →
          IsDone members H replica object position ⊎
          ((position ≡ length H) × (event ≡ Collect replica) × IsGivenUp members H replica object)
      go (inl was) = inl (done_at (agree_back (agree_more H (event ∷ []))) (at_within was) d)
      go (inr (end, is)) = inr (end, sym is, gives_up (subst (IsDone members after replica object) end d))

  pub done_now : event ≡ Collect replica → IsGivenUp members H replica object →
      IsDone members after replica object (length H)
  done_now is g = record {
    collect = subst (IsAt after (length H)) is (at_end H event);
    kind = g.kind;
    made = made_within (same_updates known).back g.made;
    dropped = λ entry e touches. subst
        (λ L. IsDropped members L replica entry.id)
        (sym through_end)
        (dropped entry (g.dropped entry (entered_within (same_updates known).there e) touches));
    no_orphan = λ orphan. g.no_orphan (orphan_within known orphan);
  }
    where
      dropped : (entry : ModelEntry) → IsDropped members H replica entry.id ⊎ IsTwoFull members H replica entry.id →
          IsDropped members after replica entry.id
      dropped entry (inl was) = dropped_more (event ∷ []) was
      dropped entry (inr full) = dropped_now event is full
