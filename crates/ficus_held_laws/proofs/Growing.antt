-- What an update makes of the objects that its replica keeps.
use Rattle.std.proofs.Common.{◌≡◌, ◌⊎◌, ℕ, List, [], ◌∷◌, ◌++◌, Some, refl, sym, ◌∙◌, subst, inl, inr, arith}
use Rattle.ficus_ids.specs.declared.id.Id.{Id}
use Rattle.ficus_ids.specs.declared.kind.Kind.{Kind}
use Rattle.ficus_ids.specs.declared.kind.Kind.TheVariants.{Dir}
use Rattle.ficus_model.specs.declared.event.Event.{Event}
use Rattle.ficus_model.specs.declared.event.Event.TheVariants.{Update}
use Rattle.ficus_model.specs.declared.event.Op.{Op}
use Rattle.ficus_model.specs.declared.event.Op.TheVariants.{Make}
use Rattle.ficus_model.specs.Known.{Knows}
use Rattle.ficus_model.specs.Lawful.{Volume, IsLawful}
use Rattle.ficus_model.specs.Live.{IsMade}
use Rattle.ficus_model.specs.Held.{IsHeldObject}
use Rattle.ficus_model.specs.Vectors.{IsCoverOf}
use Rattle.ficus_model.specs.Versions.{version_of, covered_by, bytes_of}
use Rattle.ficus_laws.specs.Updates.{next_number}
use Rattle.ficus_laws.proofs.AfterUpdate.{made_after, make_made_new}
use Rattle.ficus_laws.proofs.Deciding.{Decided}
use Rattle.ficus_laws.proofs.Issued.{made_issued}
use Rattle.ficus_laws.proofs.OneMore.{within_more}
use Rattle.ficus_laws.proofs.Shown.{made_within}
use Rattle.ficus_version_laws.specs.Listed.{AreShown}
use Rattle.ficus_version_laws.proofs.Advancing.{are_shown_kept, other_back, advanced_shown}
use Rattle.ficus_version_laws.proofs.Covering.{cover_covered, coverings_back, cover_kept}
use Rattle.ficus_version_laws.proofs.Existing.{some_decided}
use Rattle.ficus_version_laws.proofs.Making.{none_shown, make_shown, make_covered}
use Rattle.ficus_version_laws.proofs.Objects.{none_is}
use Rattle.ficus_version_laws.proofs.Operations.{writes_version, version_writes, gives_up_covers, covers_gives_up}
use Rattle.ficus_held_laws.specs.Objects.{KeptObject, IsKeptObject, HasObject, HasDone, AreKeptObjects, IsObjectStepped, IsObjectMade, IsFromObject, AreObjectsStepped, first_versions}
use Rattle.ficus_held_laws.proofs.Done.{done_was, done_stays}
use Rattle.ficus_held_laws.proofs.Leaving.{object_or_not}

-- what is kept under one identifier and kind is kept under equal ones
pub renamed : {members : ℕ} {H : List Event} {replica : ℕ} {object : Id} {kind : Kind} (next : KeptObject) →
    next.id ≡ object → next.kind ≡ kind → IsHeldObject members H replica object kind →
    AreShown H (Knows H replica) object next.versions →
    IsCoverOf H (Knows H replica) object next.cover → IsKeptObject members H replica next
renamed {members} {H} {replica} {object} {kind} next id same held versions cover = record {
  held = subst (λ k. IsHeldObject members H replica k next.kind) (sym id)
      (subst (IsHeldObject members H replica object) (sym same) held);
  versions = subst (λ k. AreShown H (Knows H replica) k next.versions) (sym id) versions;
  cover = subst (λ k. IsCoverOf H (Knows H replica) k next.cover) (sym id) cover;
}

-- an object that was kept is kept as the update leaves it
module _ (H : List Event) (replica : ℕ) (op : Op) where
  abbrev after : List Event
  after = H ++ Update replica op ∷ []

  abbrev number : Id
  number = next_number replica H

  module _ {members : ℕ} {object next : KeptObject} (k : IsKeptObject members H replica object)
      (step : IsObjectStepped replica number op object next) where
    still_held : IsHeldObject members after replica object.id object.kind
    still_held = record {
      made = made_within (within_more H (Update replica op ∷ []) replica) k.held.made;
      held = λ position d. k.held.held position (done_was (Update replica op) (λ is. cc) d);
    }

    next_versions : Decided (version_of number op ≡ Some object.id) →
        AreShown after (Knows after replica) object.id next.versions
    next_versions (inl is) = subst (AreShown after (Knows after replica) object.id)
        (sym (step.written (bytes_of op) (version_writes number object.id op is)))
        (advanced_shown H replica op is k.versions)
    next_versions (inr other) = subst (AreShown after (Knows after replica) object.id)
        (sym (step.unwritten (λ bytes writes. other (writes_version writes).0)))
        ((are_shown_kept H (Update replica op) replica (other_back H replica op other)).0 k.versions)

    next_cover : Decided (covered_by op ≡ Some object.id) → IsCoverOf after (Knows after replica) object.id next.cover
    next_cover (inl is) = subst (IsCoverOf after (Knows after replica) object.id)
        (sym (step.covered (covers_gives_up op object.id is)))
        (cover_covered H replica op is k.versions k.cover)
    next_cover (inr other) = subst (IsCoverOf after (Knows after replica) object.id)
        (sym (step.uncovered (λ gives_up. other (gives_up_covers gives_up))))
        (cover_kept H (Update replica op) replica (coverings_back H replica op other) k.cover)

    stepped_kept : IsKeptObject members after replica next
    stepped_kept = renamed next step.id step.kind still_held
        (next_versions (some_decided (version_of number op) object.id))
        (next_cover (some_decided (covered_by op) object.id))

-- an object just made is kept
module _ (volume : Volume) (H : List Event) (replica : ℕ) (lawful : IsLawful volume H) (dir : Id)
    (name text : List ℕ) where
  abbrev made : Kind → List Event
  made kind = H ++ Update replica (Make dir name kind text) ∷ []

  made_held : (kind : Kind) → IsHeldObject volume.members (made kind) replica (next_number replica H) kind
  made_held kind = record {
    made = make_made_new H replica dir name kind text;
    held = λ position d.
        let i = made_issued (done_was (Update replica (Make dir name kind text)) (λ is. cc) d).made in
        omega (arith, i.at_most);
  }

  made_shown : (kind : Kind) →
      AreShown (made kind) (Knows (made kind) replica) (next_number replica H) (first_versions replica text kind)
  made_shown Dir = (are_shown_kept H (Update replica (Make dir name Dir text)) replica
      (other_back H replica (Make dir name Dir text) (none_is (next_number replica H)))).0
      (none_shown volume H replica lawful)
  made_shown kind = make_shown volume H replica lawful dir name kind text (λ is. cc)

  made_kept : (object : KeptObject) → object.id ≡ next_number replica H →
      object.versions ≡ first_versions replica text object.kind → object.cover ≡ (λ by. 0) →
      IsKeptObject volume.members (made object.kind) replica object
  made_kept object id versions cover = renamed object id refl (made_held object.kind)
      (subst (AreShown (made object.kind) (Knows (made object.kind) replica) (next_number replica H)) (sym versions)
      (made_shown object.kind))
      (subst (IsCoverOf (made object.kind) (Knows (made object.kind) replica) (next_number replica H)) (sym cover)
      (make_covered volume H replica lawful dir name object.kind text))

pub objects_stepped : (volume : Volume) (H : List Event) (replica : ℕ) (op : Op) (objects next : List KeptObject) →
    IsLawful volume H → AreKeptObjects volume.members H replica objects →
    AreObjectsStepped replica (next_number replica H) op objects next →
    AreKeptObjects volume.members (H ++ Update replica op ∷ []) replica next
objects_stepped volume H replica op objects next lawful here steps =
    record { each = λ object inside. each object (steps.from object inside); absent = absent }
  where
    each : (object : KeptObject) → IsFromObject replica (next_number replica H) op objects object ⊎
        IsObjectMade replica (next_number replica H) op object →
        IsKeptObject volume.members (H ++ Update replica op ∷ []) replica object
    each object (inl from) = stepped_kept H replica op (here.each from.object from.inside) from.stepped
    each object (inr new) =
        subst (λ done. IsKeptObject volume.members (H ++ Update replica done ∷ []) replica object) (sym new.makes)
        (made_kept volume H replica lawful new.dir new.name new.text object new.id new.versions new.cover)

    absent : (id : Id) (kind : Kind) →
        IsMade (H ++ Update replica op ∷ []) (Knows (H ++ Update replica op ∷ []) replica) id kind →
        (HasObject next id → ⊥) → HasDone volume.members (H ++ Update replica op ∷ []) replica id
    absent id kind m none = go (object_or_not objects id) (made_after H replica op m)
      where
        still_listed : HasObject objects id → ⊥
        still_listed has =
            let s = steps.kept has.object has.inside in
            none (record { object = s.next; inside = s.inside; named = s.stepped.id ∙ has.named })

        go : Decided (HasObject objects id) → IsMade H (Knows H replica) id kind ⊎
            ((id ≡ next_number replica H) × (dir : Id) × (name : List ℕ) × (text : List ℕ) × (op ≡ Make dir name kind text)) →
            HasDone volume.members (H ++ Update replica op ∷ []) replica id
        go (inl has) found = absurd (still_listed has)
        go (inr none_before) (inl was) = done_stays (Update replica op) (here.absent id kind was none_before)
        go (inr none_before) (inr (is_next, dir, name, text, makes)) =
            absurd (none (subst (HasObject next) (sym is_next) (steps.made dir name kind text makes)))
