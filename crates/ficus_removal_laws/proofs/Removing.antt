-- What an update removes.
use Rattle.std.proofs.Common.{◌≡◌, ◌⊎◌, ℕ, ◌+◌, ◌<◌, ◌≤◌, List, sym, ap, ◌∙◌, subst, inl, inr, arith}
use Rattle.std.specs.Prelude.{Contains, codes}
use Rattle.std.proofs.lemmas.Bool.{cases_lt}
use Rattle.ficus_ids.specs.declared.id.Id.{Id}
use Rattle.ficus_ids.specs.declared.id.TheConstants.{ATTIC}
use Rattle.ficus_model.specs.declared.event.Event.{Event}
use Rattle.ficus_model.specs.declared.event.Event.TheVariants.{Update}
use Rattle.ficus_model.specs.declared.event.Op.{Op}
use Rattle.ficus_model.specs.Events.{IsUpdate, before}
use Rattle.ficus_model.specs.Known.{Knows}
use Rattle.ficus_model.specs.Live.{entry_of, entered_by, removed_by, IsRemoved}
use Rattle.ficus_model.specs.Lawful.{Volume, MayUpdate, IsLawful}
use Rattle.ficus_model.specs.Knowledge.{KnowsThatKnows}
use Rattle.ficus_laws.specs.Updates.{next_number}
use Rattle.ficus_laws.proofs.Positions.{of_at, of_before, agree_before, agree_take}
use Rattle.ficus_laws.proofs.Updates.{id_of}
use Rattle.ficus_laws.proofs.Knowledge.{knows_own}
use Rattle.ficus_laws.proofs.Lawful.{lawful_before}
use Rattle.ficus_laws.proofs.Removable.{IsRemovable, is_removable}
use Rattle.ficus_laws.proofs.Issued.{next_not_removed}
use Rattle.ficus_laws.proofs.Places.{within_past}
use Rattle.ficus_laws.proofs.Shown.{entered_within}
use Rattle.ficus_removal_laws.specs.Marks.{IsEnteredAs}
use Rattle.ficus_removal_laws.proofs.Carrying.{knows_through, removed_from_before}

-- In each of these an update of a lawful history removes an entry.
module _ (volume : Volume) (H : List Event) (lawful : IsLawful volume H) {position : ℕ} {number id : Id} {op : Op}
    (update : IsUpdate H position number op) (removes : Contains (removed_by number op) id) where
  abbrev earlier : List Event
  earlier = before position H

  removable : IsRemovable earlier (Knows earlier number.replica) number op id
  removable =
      let may : MayUpdate volume earlier number.replica op =
      lawful.each position (Update number.replica op) update.at in
      is_removable earlier (Knows earlier number.replica) number id op may.allowed removes

  -- its replica knew no removal of the entry before
  pub removal_first : IsRemoved earlier (Knows earlier number.replica) id → ⊥
  removal_first r = go removable
    where
      is_next : number ≡ next_number number.replica earlier
      is_next = ap (λ (k : ℕ). id_of number.replica k) update.counted

      go : IsRemovable earlier (Knows earlier number.replica) number op id → ⊥
      go (inl alive) = alive.live.not_removed
          (subst (λ removed. IsRemoved earlier (Knows earlier number.replica) removed) (sym alive.named) r)
      go (inr discard) =
          next_not_removed volume earlier number.replica (lawful_before volume H position lawful)
          (subst (λ removed. IsRemoved earlier (Knows earlier number.replica) removed) (discard.own ∙ is_next) r)

  -- whoever knows the update knows the entry
  pub removal_entered : {replica : ℕ} → Knows H replica position → IsEnteredAs H (Knows H replica) id
  removal_entered {replica} known = go removable
    where
      go : IsRemovable earlier (Knows earlier number.replica) number op id → IsEnteredAs H (Knows H replica) id
      go (inl alive) = record {
        entry = alive.entry;
        entered = entered_within (within_past (of_at update.at) known) alive.live.entered;
        named = alive.named;
      }
      go (inr discard) = record {
        entry = entry_of number ATTIC (codes "discarded") discard.file;
        entered = record {
          position = position;
          op = op;
          known = known;
          update = update;
          enters = ap (entered_by number) discard.is;
        };
        named = sym discard.own;
      }

  -- whoever knows that its replica knows a removal of the entry knows this one: the replica removes it once
  pub removal_known : {replica : ℕ} → KnowsThatKnows H replica number.replica id → Knows H replica position
  removal_known {replica} o = go (cases_lt o.position position)
    where
      was : o.position < position → IsRemoved earlier (Knows earlier number.replica) id
      was h = removed_from_before (o.position + 1) (subst (λ L. IsRemoved L (Knows L number.replica) id)
          (sym (agree_take (agree_before position H) (let l : o.position + 1 ≤ position = omega arith in l))) o.removed)

      go : (o.position < position) ⊎ (position ≤ o.position) → Knows H replica position
      go (inl h) = absurd (removal_first (was h))
      go (inr h) = knows_through o.own o.known (knows_own (of_before (omega arith) (of_at update.at)))

-- in a lawful history, whoever knows a removal knows the entry
pub removed_entered : (volume : Volume) (H : List Event) {replica : ℕ} {id : Id} → IsLawful volume H →
    IsRemoved H (Knows H replica) id → IsEnteredAs H (Knows H replica) id
removed_entered volume H lawful r = removal_entered volume H lawful r.update r.removes r.known
