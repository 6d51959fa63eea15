-- Which entries and objects are entered, removed, made and named is decided, as far as what is known is.
use Rattle.std.proofs.Common.{◌≡◌, ℕ, List, Option, Some, None, subst, sym, inl, inr}
use Rattle.std.specs.Prelude.{Contains}
use Rattle.std.proofs.lemmas.Option.{same_Some}
use Rattle.ficus_ids.specs.IdLaws.{same_id_or_not}
use Rattle.ficus_ids.specs.declared.id.Id.{Id}
use Rattle.ficus_ids.specs.declared.kind.Kind.{Kind}
use Rattle.ficus_model.specs.declared.event.Event.{Event}
use Rattle.ficus_model.specs.declared.event.Op.{Op}
use Rattle.ficus_model.specs.declared.event.Op.TheVariants.{Make}
use Rattle.ficus_model.specs.Events.{IsUpdate}
use Rattle.ficus_model.specs.Live.{ModelEntry, entered_by, removed_by, IsEntered, IsRemoved, IsMade, HasName, HasInside}
use Rattle.ficus_laws.proofs.AfterUpdate.{entered_id, enters_none}
use Rattle.ficus_laws.proofs.Deciding.{Decided, both_decided}
use Rattle.ficus_laws.proofs.Positions.{at_within}
use Rattle.ficus_laws.proofs.Past.{update_same}
use Rattle.ficus_removal_laws.specs.Marks.{IsEnteredAs}
use Rattle.ficus_held_laws.proofs.Standing.{inside_decided}
use Rattle.ficus_view_laws.proofs.Positions.{HasUpdateAt, some_position, update_or_none}

-- an entry for which this holds is entered at the position
record IsEnteredAt (H : List Event) (U : ℕ → Type 0) (P : ModelEntry → Type 0) (position : ℕ) : Type 0 where
  known : U position
  entry : ModelEntry
  op : Op
  update : IsUpdate H position entry.id op
  enters : entered_by entry.id op ≡ Some entry
  holds : P entry

-- an object for which this holds is made at the position
record IsMadeAt (H : List Event) (U : ℕ → Type 0) (P : Id → Kind → Type 0) (position : ℕ) : Type 0 where
  known : U position
  object : Id
  dir : Id
  name : List ℕ
  kind : Kind
  text : List ℕ
  update : IsUpdate H position object (Make dir name kind text)
  holds : P object kind

-- an entry that is entered, and for which this holds
pub record HasEntered (H : List Event) (U : ℕ → Type 0) (P : ModelEntry → Type 0) : Type 0 where
  pub entry : ModelEntry
  pub entered : IsEntered H U entry
  pub holds : P entry

-- an object that is made, and for which this holds
pub record HasMade (H : List Event) (U : ℕ → Type 0) (P : Id → Kind → Type 0) : Type 0 where
  pub object : Id
  pub kind : Kind
  pub made : IsMade H U object kind
  pub holds : P object kind

module _ (H : List Event) (U : ℕ → Type 0) (known : (position : ℕ) → Decided (U position)) where
  module _ (P : ModelEntry → Type 0) (decide : (entry : ModelEntry) → Decided (P entry)) where
    entered_at : (position : ℕ) → Decided (IsEnteredAt H U P position)
    entered_at position = go (known position) (update_or_none H position)
      where
        same : (here : HasUpdateAt H position) (there : IsEnteredAt H U P position) →
            entered_by here.number here.op ≡ Some there.entry
        same here there =
            let s = update_same here.update there.update in
            rw (s.0, s.1) there.enters

        of : (position_known : U position) (here : HasUpdateAt H position) (found : Option ModelEntry) →
            entered_by here.number here.op ≡ found → Decided (IsEnteredAt H U P position)
        of k here None none = inr (λ there. enters_none there.entry (let e = same here there in cc))
        of k here (Some entry) enters = pick (decide entry)
          where
            id : entry.id ≡ here.number
            id = entered_id here.number here.op entry enters

            pick : Decided (P entry) → Decided (IsEnteredAt H U P position)
            pick (inl holds) = inl (record {
              known = k;
              entry = entry;
              op = here.op;
              update = subst (λ number. IsUpdate H position number here.op) (sym id) here.update;
              enters = subst (λ number. entered_by number here.op ≡ Some entry) (sym id) enters;
              holds = holds;
            })
            pick (inr fails) = inr (λ there.
                let is : Some entry ≡ Some there.entry = let e = same here there in cc in
                fails (subst P (sym (same_Some entry there.entry is)) there.holds))

        go : Decided (U position) → Decided (HasUpdateAt H position) → Decided (IsEnteredAt H U P position)
        go (inr unknown) update = inr (λ there. unknown there.known)
        go (inl k) (inr none) = inr (λ there. none (record { number = there.entry.id; op = there.op; update = there.update }))
        go (inl k) (inl here) = of k here (entered_by here.number here.op) (λ i. entered_by here.number here.op)

    pub some_entered : Decided (HasEntered H U P)
    some_entered = go (some_position H (IsEnteredAt H U P) entered_at (λ position there. at_within there.update.at))
      where
        go : Decided ((position : ℕ) × IsEnteredAt H U P position) → Decided (HasEntered H U P)
        go (inl (position, there)) = inl (record {
          entry = there.entry;
          entered = record {
            position = position;
            op = there.op;
            known = there.known;
            update = there.update;
            enters = there.enters;
          };
          holds = there.holds;
        })
        go (inr none) = inr (λ has. none (
          has.entered.position,
          record {
            known = has.entered.known;
            entry = has.entry;
            op = has.entered.op;
            update = has.entered.update;
            enters = has.entered.enters;
            holds = has.holds;
          },
        ))

  pub entered_decided : (id : Id) → Decided (IsEnteredAs H U id)
  entered_decided id = go (some_entered (λ entry. entry.id ≡ id) (λ entry. same_id_or_not entry.id id))
    where
      go : Decided (HasEntered H U (λ entry. entry.id ≡ id)) → Decided (IsEnteredAs H U id)
      go (inl has) = inl (record { entry = has.entry; entered = has.entered; named = has.holds })
      go (inr none) = inr (λ is. none (record { entry = is.entry; entered = is.entered; holds = is.named }))

  -- at the position a known update removes the entry
  abbrev RemovesAt : Id → ℕ → Type 0
  RemovesAt id position =
      U position × (here : HasUpdateAt H position) × Contains (removed_by here.number here.op) id

  pub removed_decided : (id : Id) → Decided (IsRemoved H U id)
  removed_decided id = go (some_position H (RemovesAt id) at (λ position there. at_within there.1.update.at))
    where
      of : (position : ℕ) → Decided (U position) → Decided (HasUpdateAt H position) → Decided (RemovesAt id position)
      of position (inr unknown) update = inr (λ there. unknown there.0)
      of position (inl k) (inr none) = inr (λ there. none there.1)
      of position (inl k) (inl here) = pick (inside_decided (removed_by here.number here.op) id)
        where
          pick : Decided (Contains (removed_by here.number here.op) id) → Decided (RemovesAt id position)
          pick (inl inside) = inl (k, here, inside)
          pick (inr outside) = inr (λ there. outside
              (let s = update_same here.update there.1.update in
              rw (s.0, s.1) there.2))

      at : (position : ℕ) → Decided (RemovesAt id position)
      at position = of position (known position) (update_or_none H position)

      go : Decided ((position : ℕ) × RemovesAt id position) → Decided (IsRemoved H U id)
      go (inl (position, there)) = inl (record {
        position = position;
        number = there.1.number;
        op = there.1.op;
        known = there.0;
        update = there.1.update;
        removes = there.2;
      })
      go (inr none) = inr (λ is. none
          (is.position, (is.known, record { number = is.number; op = is.op; update = is.update }, is.removes)))

  not_removed : (id : Id) → Decided (IsRemoved H U id) → Decided (IsRemoved H U id → ⊥)
  not_removed id (inl is) = inr (λ none. none is)
  not_removed id (inr none) = inl none

  -- a live entry for which this holds
  pub some_live : (P : ModelEntry → Type 0) → ((entry : ModelEntry) → Decided (P entry)) →
      Decided (HasEntered H U (λ entry. (IsRemoved H U entry.id → ⊥) × P entry))
  some_live P decide = some_entered (λ entry. (IsRemoved H U entry.id → ⊥) × P entry)
      (λ entry. both_decided (not_removed entry.id (removed_decided entry.id)) (decide entry))

  pub name_decided : (object : Id) → Decided (HasName H U object)
  name_decided object = go (some_live (λ entry. entry.target ≡ object) (λ entry. same_id_or_not entry.target object))
    where
      go : Decided (HasEntered H U (λ entry. (IsRemoved H U entry.id → ⊥) × (entry.target ≡ object))) →
          Decided (HasName H U object)
      go (inl has) = inl (record {
        entry = has.entry;
        live = record { entered = has.entered; not_removed = has.holds.0 };
        leads = has.holds.1;
      })
      go (inr none) = inr (λ is. none
          (record { entry = is.entry; entered = is.live.entered; holds = (is.live.not_removed, is.leads) }))

  pub inside_or_not : (dir : Id) → Decided (HasInside H U dir)
  inside_or_not dir = go (some_live (λ entry. entry.dir ≡ dir) (λ entry. same_id_or_not entry.dir dir))
    where
      go : Decided (HasEntered H U (λ entry. (IsRemoved H U entry.id → ⊥) × (entry.dir ≡ dir))) →
          Decided (HasInside H U dir)
      go (inl has) = inl (record {
        entry = has.entry;
        live = record { entered = has.entered; not_removed = has.holds.0 };
        in_dir = has.holds.1;
      })
      go (inr none) = inr (λ is. none
          (record { entry = is.entry; entered = is.live.entered; holds = (is.live.not_removed, is.in_dir) }))

  -- which operation makes an object
  module _ (P : Id → Kind → Type 0) (decide : (object : Id) (kind : Kind) → Decided (P object kind)) where
    no_make : {position : ℕ} (here : HasUpdateAt H position) →
        ((dir : Id) (name : List ℕ) (kind : Kind) (text : List ℕ) → here.op ≡ Make dir name kind text → ⊥) →
        Decided (IsMadeAt H U P position)
    no_make here other = inr (λ there. other there.dir there.name there.kind there.text (update_same here.update there.update).1)

    made_by : {position : ℕ} (k : U position) (number : Id) (op : Op) → IsUpdate H position number op →
        Decided (IsMadeAt H U P position)
    made_by {position} k number (Make dir name kind text) update = pick (decide number kind)
      where
        pick : Decided (P number kind) → Decided (IsMadeAt H U P position)
        pick (inl holds) = inl (record {
          known = k;
          object = number;
          dir = dir;
          name = name;
          kind = kind;
          text = text;
          update = update;
          holds = holds;
        })
        pick (inr fails) = inr (λ there. fails
            (let s = update_same update there.update in
            let e : Make dir name kind text ≡ Make there.dir there.name there.kind there.text = s.1 in
            let same : kind ≡ there.kind = cc in
            rw (s.0, same) there.holds))
    made_by k number op update = no_make (record { number = number; op = op; update = update }) (λ d n c t e. cc)

    made_at : (position : ℕ) → Decided (IsMadeAt H U P position)
    made_at position = go (known position) (update_or_none H position)
      where
        go : Decided (U position) → Decided (HasUpdateAt H position) → Decided (IsMadeAt H U P position)
        go (inr unknown) update = inr (λ there. unknown there.known)
        go (inl k) (inr none) = inr (λ there. none
            (record { number = there.object; op = Make there.dir there.name there.kind there.text; update = there.update }))
        go (inl k) (inl here) = made_by k here.number here.op here.update

    pub some_made : Decided (HasMade H U P)
    some_made = go (some_position H (IsMadeAt H U P) made_at (λ position there. at_within there.update.at))
      where
        go : Decided ((position : ℕ) × IsMadeAt H U P position) → Decided (HasMade H U P)
        go (inl (position, there)) = inl (record {
          object = there.object;
          kind = there.kind;
          made = record {
            position = position;
            dir = there.dir;
            name = there.name;
            text = there.text;
            known = there.known;
            update = there.update;
          };
          holds = there.holds;
        })
        go (inr none) = inr (λ has. none (
          has.made.position,
          record {
            known = has.made.known;
            object = has.object;
            dir = has.made.dir;
            name = has.made.name;
            kind = has.kind;
            text = has.made.text;
            update = has.made.update;
            holds = has.holds;
          },
        ))
