-- What one more event does to the marks of an entry.
use Rattle.std.proofs.Common.{◌≡◌, ◌≢◌, ◌⊎◌, ℕ, ◌<◌, ◌≤◌, List, [], ◌∷◌, ◌++◌, length, refl, sym, subst, inl, inr, arith}
use Rattle.std.specs.Prelude.{Contains}
use Rattle.std.proofs.lemmas.Bool.{cases_eq}
use Rattle.std.proofs.lemmas.List.{take_at}
use Rattle.ficus_ids.specs.Members.{IsMember}
use Rattle.ficus_ids.specs.declared.id.Id.{Id}
use Rattle.ficus_model.specs.declared.event.Event.{Event}
use Rattle.ficus_model.specs.declared.event.Event.TheVariants.{Update, Accept, Collect}
use Rattle.ficus_model.specs.declared.event.Op.{Op}
use Rattle.ficus_model.specs.Events.{IsOf, actor}
use Rattle.ficus_model.specs.Known.{Knows}
use Rattle.ficus_model.specs.Live.{removed_by, IsRemoved}
use Rattle.ficus_model.specs.Lawful.{Volume, IsLawful}
use Rattle.ficus_model.specs.Knowledge.{IsInOne, KnowsThatKnows, KnowsThatAllKnow}
use Rattle.ficus_model.specs.Held.{IsDropped}
use Rattle.ficus_laws.specs.Known.{Takes}
use Rattle.ficus_laws.specs.Updates.{next_number, IsQuiet}
use Rattle.ficus_laws.proofs.Positions.{agree_back, agree_more, of_cases, of_within, of_end}
use Rattle.ficus_laws.proofs.Updates.{update_end}
use Rattle.ficus_laws.proofs.Knowledge.{knows_within, knows_end, knows_of_other, knows_less}
use Rattle.ficus_laws.proofs.Lawful.{lawful_member}
use Rattle.ficus_laws.proofs.Shown.{removed_within}
use Rattle.ficus_laws.proofs.OneMore.{same_quiet}
use Rattle.ficus_laws.proofs.AfterUpdate.{removed_after, removed_new}
use Rattle.ficus_removal_laws.specs.Marks.{IsTwoFull, LeavesEntry, SameMarks, IsBegun}
use Rattle.ficus_removal_laws.proofs.Carrying.{one_at, one_more, one_removed, all_at, all_more, all_one}
use Rattle.ficus_removal_laws.proofs.Hearing.{one_from_last, one_at_last, two_from_last, two_at_last, one_of_itself, two_of_itself}
use Rattle.ficus_removal_laws.proofs.Removing.{removal_first, removal_entered}
use Rattle.ficus_removal_laws.proofs.Dropping.{dropped_cases, dropped_removed}

-- what is known of a peer by an event that a replica knew before, it knew before
pub one_less : {H : List Event} {replica reader peer : ℕ} {entry : Id} (event : Event) →
    (o : KnowsThatKnows (H ++ event ∷ []) replica peer entry) → Knows H reader o.position →
    KnowsThatKnows H reader peer entry
one_less {H} event o known = one_at (agree_back (agree_more H (event ∷ []))) o (knows_within known) known

pub all_less : {members : ℕ} {H : List Event} {replica reader peer : ℕ} {entry : Id} (event : Event) →
    (t : KnowsThatAllKnow members (H ++ event ∷ []) replica peer entry) → Knows H reader t.position →
    KnowsThatAllKnow members H reader peer entry
all_less {H = H} event t known = all_at (agree_back (agree_more H (event ∷ []))) t (knows_within known) known

-- an event of another than the peer stands before, where it is the peer's
pub before_of_other : {peer position : ℕ} (H : List Event) (event : Event) → peer ≢ actor event →
    IsOf (H ++ event ∷ []) position peer → position < length H
before_of_other {peer} {position} H event differs own = go (of_cases event own)
  where
    go : IsOf H position peer ⊎ ((position ≡ length H) × (actor event ≡ peer)) → position < length H
    go (inl was) = of_within was
    go (inr (end, is)) = absurd (differs (sym is))

leaves_untold : (H : List Event) (event : Event) (entry : Id) → LeavesEntry H event entry →
    (served : ℕ) → Takes event served → ⊥
leaves_untold H (Accept by serve piece) entry leaves served takes = leaves
leaves_untold H event entry leaves served takes = takes

removed_quiet : (H : List Event) (event : Event) (replica : ℕ) {entry : Id} → IsQuiet event →
    IsRemoved (H ++ event ∷ []) (Knows (H ++ event ∷ []) replica) entry → IsRemoved H (Knows H replica) entry
removed_quiet H event replica quiet r = removed_within (same_quiet H event replica quiet).back r

-- an own event that leaves the entry makes no removal of it known
own_leaves : (H : List Event) (event : Event) (entry : Id) → LeavesEntry H event entry →
    IsRemoved (H ++ event ∷ []) (Knows (H ++ event ∷ []) (actor event)) entry →
    IsRemoved H (Knows H (actor event)) entry
own_leaves H (Update by op) entry leaves r = go (removed_after H by op r)
  where
    go : IsRemoved H (Knows H by) entry ⊎ Contains (removed_by (next_number by H) op) entry →
        IsRemoved H (Knows H by) entry
    go (inl was) = was
    go (inr new) = absurd (leaves new)
own_leaves H event entry leaves r = removed_quiet H event (actor event) leaves r

-- In each of these one more event of the replica has come, which takes nothing.
module _ (H : List Event) (event : Event) (untold : (served : ℕ) → Takes event served → ⊥) where
  abbrev after : List Event
  after = H ++ event ∷ []

  -- the marks of the others stay
  pub one_of_others : {peer : ℕ} {entry : Id} → peer ≢ actor event → KnowsThatKnows after (actor event) peer entry →
      KnowsThatKnows H (actor event) peer entry
  one_of_others differs o = one_less event o (knows_less event untold o.known (before_of_other H event differs o.own))

  pub two_of_others : {members peer : ℕ} {entry : Id} → peer ≢ actor event →
      KnowsThatAllKnow members after (actor event) peer entry → KnowsThatAllKnow members H (actor event) peer entry
  two_of_others differs t = all_less event t (knows_less event untold t.known (before_of_other H event differs t.own))

  -- and where no removal of the entry becomes known, its own do too
  module _ (members : ℕ) (entry : Id) (is_member : IsMember members (actor event))
      (no_new : IsRemoved after (Knows after (actor event)) entry → IsRemoved H (Knows H (actor event)) entry) where
    one_back : {peer : ℕ} → KnowsThatKnows after (actor event) peer entry → KnowsThatKnows H (actor event) peer entry
    one_back {peer} o = go (cases_eq peer (actor event))
      where
        go : (peer ≡ actor event) ⊎ (peer ≡ actor event → ⊥) → KnowsThatKnows H (actor event) peer entry
        go (inl same) =
            subst (λ x. KnowsThatKnows H (actor event) x entry) (sym same) (one_of_itself (no_new (one_removed o)))
        go (inr differs) = one_of_others differs o

    two_back : {peer : ℕ} → KnowsThatAllKnow members after (actor event) peer entry →
        KnowsThatAllKnow members H (actor event) peer entry
    two_back {peer} t = go (cases_eq peer (actor event))
      where
        go : (peer ≡ actor event) ⊎ (peer ≡ actor event → ⊥) → KnowsThatAllKnow members H (actor event) peer entry
        go (inl same) =
            let own = two_of_itself is_member (λ member m. one_back (all_one t m)) in
            subst (λ x. KnowsThatAllKnow members H (actor event) x entry) (sym same) own
        go (inr differs) = two_of_others differs t

    pub own_marks_same : SameMarks members H after (actor event) entry
    own_marks_same = record {
      one = λ peer. (
        λ o. one_at_last (one_more (event ∷ []) (one_from_last o)),
        λ o. one_at_last (one_back (one_from_last o)),
      );
      two = λ peer. (
        λ t. two_at_last (all_more (event ∷ []) (two_from_last t)),
        λ t. two_at_last (two_back (two_from_last t)),
      );
    }

-- an event of another replica leaves all marks
pub others_marks_same : (members : ℕ) (H : List Event) (event : Event) (replica : ℕ) (entry : Id) →
    actor event ≢ replica → SameMarks members H (H ++ event ∷ []) replica entry
others_marks_same members H event replica entry other = record {
  one = λ peer. (
    λ o. one_at_last (one_more (event ∷ []) (one_from_last o)),
    λ o. let k = one_from_last o in one_at_last (one_less event k (knows_of_other event other k.known)),
  );
  two = λ peer. (
    λ t. two_at_last (all_more (event ∷ []) (two_from_last t)),
    λ t. let k = two_from_last t in two_at_last (all_less event k (knows_of_other event other k.known)),
  );
}

pub marks_kept : (members : ℕ) (H : List Event) (event : Event) (replica : ℕ) (entry : Id) → IsMember members replica →
    (actor event ≢ replica) ⊎ LeavesEntry H event entry → SameMarks members H (H ++ event ∷ []) replica entry
marks_kept members H event replica entry is_member (inl other) = others_marks_same members H event replica entry other
marks_kept members H event replica entry is_member (inr leaves) = go (cases_eq (actor event) replica)
  where
    own : IsMember members (actor event) → SameMarks members H (H ++ event ∷ []) (actor event) entry
    own is_member =
        let no_new = own_leaves H event entry leaves in
        own_marks_same H event (leaves_untold H event entry leaves) members entry is_member no_new

    go : (actor event ≡ replica) ⊎ (actor event ≡ replica → ⊥) → SameMarks members H (H ++ event ∷ []) replica entry
    go (inl same) =
        let its = subst (IsMember members) (sym same) is_member in
        subst (λ x. SameMarks members H (H ++ event ∷ []) x entry) same (own its)
    go (inr other) = others_marks_same members H event replica entry other

-- An update removes an entry.
module _ (volume : Volume) (H : List Event) (replica : ℕ) (op : Op) (entry : Id) (several : 2 ≤ volume.members)
    (lawful : IsLawful volume (H ++ Update replica op ∷ []))
    (removes : Contains (removed_by (next_number replica H) op) entry) where
  abbrev removal : Event
  removal = Update replica op

  abbrev then : List Event
  then = H ++ removal ∷ []

  is_member : IsMember volume.members replica
  is_member = lawful_member volume then lawful (of_end H removal)

  no_removal_before : IsRemoved H (Knows H replica) entry → ⊥
  no_removal_before r =
      removal_first volume then lawful (update_end H replica op) removes
      (subst (λ L. IsRemoved L (Knows L replica) entry) (sym (take_at H (removal ∷ []) (length H) refl)) r)

  one_is_itself : {peer : ℕ} → KnowsThatKnows then replica peer entry → peer ≡ replica
  one_is_itself {peer} o = go (cases_eq peer replica)
    where
      go : (peer ≡ replica) ⊎ (peer ≡ replica → ⊥) → peer ≡ replica
      go (inl same) = same
      go (inr differs) =
          let was = one_of_others H removal (λ served takes. takes) differs o in
          absurd (no_removal_before (one_removed was))

  two_is_none : {peer : ℕ} → KnowsThatAllKnow volume.members then replica peer entry → ⊥
  two_is_none t =
      let one : IsMember volume.members 1 = record { at_least = omega arith; at_most = omega (arith, several) } in
      let two : IsMember volume.members 2 = record { at_least = omega arith; at_most = several } in
      let first : 1 ≡ replica = one_is_itself (all_one t one) in
      let second : 2 ≡ replica = one_is_itself (all_one t two) in
      omega (arith, first, second)

  not_dropped : IsDropped volume.members then replica entry → ⊥
  not_dropped d = no_removal_before (go (dropped_cases removal d))
    where
      go : IsDropped volume.members H replica entry ⊎
          ((removal ≡ Collect replica) × IsTwoFull volume.members H replica entry) →
          IsRemoved H (Knows H replica) entry
      go (inl was) = dropped_removed was is_member
      go (inr (is, full)) = absurd cc

  pub removal_begins : IsBegun volume.members then replica entry
  removal_begins =
      let known = removal_entered volume then lawful (update_end H replica op) removes (knows_end H removal) in
      record {
        entry = known.entry;
        held = record {
          entered = known.entered;
          held = λ d. not_dropped (subst (IsDropped volume.members then replica) known.named d);
        };
        named = known.named;
        one = λ peer. (
          λ o. one_is_itself (one_from_last o),
          λ same.
              let own = one_of_itself (removed_new H replica op entry removes) in
              subst (λ x. IsInOne then replica x entry) (sym same) (one_at_last own),
        );
        two = λ peer t. two_is_none (two_from_last t);
      }
