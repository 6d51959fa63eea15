-- Who uses an object sees it alive.
use Rattle.std.proofs.Common.{◌≡◌, ◌≢◌, ◌⊎◌, ℕ, List, Some, refl, sym, ap, ◌∙◌, subst, inl, inr, arith}
use Rattle.std.specs.Prelude.{codes}
use Rattle.std.proofs.lemmas.Option.{same_Some}
use Rattle.ficus_ids.specs.Members.{IsMember}
use Rattle.ficus_ids.specs.declared.id.Id.{Id}
use Rattle.ficus_ids.specs.declared.id.TheConstants.{ROOT, ATTIC}
use Rattle.ficus_model.specs.declared.event.Event.{Event}
use Rattle.ficus_model.specs.declared.event.Event.TheVariants.{Update}
use Rattle.ficus_model.specs.declared.event.Op.{Op}
use Rattle.ficus_model.specs.declared.event.Op.TheVariants.{Make, Link, Move, Adopt, Discard}
use Rattle.ficus_model.specs.Events.{before}
use Rattle.ficus_model.specs.Known.{Knows}
use Rattle.ficus_model.specs.Live.{ModelEntry, entry_of, entered_by, IsBound}
use Rattle.ficus_model.specs.Reached.IsReached.{Base, Through}
use Rattle.ficus_model.specs.Versions.{version_of}
use Rattle.ficus_model.specs.View.{IsFilled, HasUnseen, IsOrphan, IsTop, IsInReach}
use Rattle.ficus_model.specs.Lawful.{Volume, AreNames, IsAllowed, MayUpdate, IsLawful}
use Rattle.ficus_model.specs.Held.{Touches}
use Rattle.ficus_laws.proofs.Places.{some_inside}
use Rattle.ficus_laws.proofs.AfterUpdate.{enters_none}
use Rattle.ficus_version_laws.specs.Operations.{Writes}
use Rattle.ficus_version_laws.specs.Operations.Writes.{ByMake, ByWrite, BySettle, ByResolve}
use Rattle.ficus_version_laws.proofs.Operations.{version_writes}
use Rattle.ficus_final_laws.specs.Uses.{EntersTouching, IsUse, IsAlive}

-- objects have numbers of members, so neither the root nor the attic is one
not_zero : {members replica : ℕ} → IsMember members replica → replica ≡ 0 → ⊥
not_zero m zero_is = omega (arith, m.at_least)

pub not_root : {members : ℕ} (object : Id) → IsMember members object.replica → object ≢ ROOT
not_root object m root = not_zero m (ap (λ (id : Id). id.replica) root)

pub not_attic : {members : ℕ} (object : Id) → IsMember members object.replica → object ≢ ATTIC
not_attic object m attic = not_zero m (ap (λ (id : Id). id.replica) attic)

bound_alive : {H : List Event} {U : ℕ → Type 0} {dir object : Id} {name : List ℕ} → IsBound H U dir name object →
    IsAlive H U object
bound_alive b = inl (record { entry = b.entry; live = b.live; touches = inl b.leads })

pub orphan_alive : {H : List Event} {U : ℕ → Type 0} {object : Id} → IsOrphan H U object → IsAlive H U object
orphan_alive {H} {U} {object} orphan = go orphan.kept
  where
    go : IsFilled H U object ⊎ HasUnseen H U object → IsAlive H U object
    go (inl filled) =
        let inside = filled.inside in
        inl (record { entry = inside.entry; live = inside.live; touches = inr inside.in_dir })
    go (inr unseen) = inr unseen

-- what is in reach is alive, but for the root: by the last step of how it is reached
pub reach_alive : {H : List Event} {U : ℕ → Type 0} {object : Id} → object ≢ ROOT → IsInReach H U object →
    IsAlive H U object
reach_alive {H} {U} {object} differs (Base top) = go top
  where
    go : IsTop H U object → IsAlive H U object
    go (inl root) = absurd (differs root)
    go (inr orphan) = orphan_alive orphan
reach_alive differs (Through r leads) = bound_alive leads.bound

names_alive : {H : List Event} {U : ℕ → Type 0} {entries : List Id} {object : Id} → AreNames H U entries object →
    IsAlive H U object
names_alive {entries = entries} names =
    let id = some_inside entries names.some in
    bound_alive ((names.all id.0).0 id.1).bound

-- In each of these an operation that is allowed uses an object, which is no root and no attic.
module _ {H : List Event} {U : ℕ → Type 0} {object : Id} (no_root : object ≢ ROOT) (no_attic : object ≢ ATTIC) where
  writes_alive : {number : Id} {op : Op} {bytes : List ℕ} → Writes number op object bytes → IsAllowed H U op →
      (number ≡ object) ⊎ IsAlive H U object
  writes_alive (ByMake differs) allowed = inl refl
  writes_alive ByWrite allowed = inr (reach_alive no_root allowed.in_reach.reached)
  writes_alive BySettle allowed = inr (reach_alive no_root allowed.in_reach.reached)
  writes_alive ByResolve allowed = inr (reach_alive no_root allowed.in_reach.reached)

  -- the entry that is entered leads to what was alive, and lies in what was in reach
  entry_alive : {number dir target : Id} {name : List ℕ} {entry : ModelEntry} →
      Some (entry_of number dir name target) ≡ Some entry → IsInReach H U dir →
      ((target ≡ object) → (number ≡ object) ⊎ IsAlive H U object) → Touches entry object →
      (number ≡ object) ⊎ IsAlive H U object
  entry_alive {number} {dir} {target} {name} {entry} enters reached leads (inl touches) =
      leads (ap (λ (found : ModelEntry). found.target) (same_Some (entry_of number dir name target) entry enters) ∙ touches)
  entry_alive {number} {dir} {target} {name} {entry} enters reached leads (inr touches) =
      let is = same_Some (entry_of number dir name target) entry enters in
      let in_dir = ap (λ (found : ModelEntry). found.dir) is ∙ touches in
      inr (reach_alive no_root (subst (IsInReach H U) in_dir reached))

  alive_as : {number target : Id} → IsAlive H U target → target ≡ object → (number ≡ object) ⊎ IsAlive H U object
  alive_as alive is = inr (subst (IsAlive H U) is alive)

  enters_alive : (number : Id) (op : Op) (entry : ModelEntry) → IsAllowed H U op → entered_by number op ≡ Some entry →
      Touches entry object → (number ≡ object) ⊎ IsAlive H U object
  enters_alive number (Make dir name kind text) entry may enters touches =
      entry_alive enters may.place.parent.reached inl touches
  enters_alive number (Link dir name target) entry may enters touches =
      entry_alive enters may.place.parent.reached (alive_as (bound_alive may.named.bound)) touches
  enters_alive number (Move entries dir name target) entry may enters touches =
      entry_alive enters may.place.parent.reached (alive_as (names_alive may.names)) touches
  enters_alive number (Adopt file dir name) entry may enters touches =
      entry_alive enters may.place.parent.reached (alive_as (orphan_alive may.orphan)) touches
  enters_alive number (Discard file) entry may enters touches = discards touches
    where
      is : entry_of number ATTIC (codes "discarded") file ≡ entry
      is = same_Some (entry_of number ATTIC (codes "discarded") file) entry enters

      discards : Touches entry object → (number ≡ object) ⊎ IsAlive H U object
      discards (inl leads) = alive_as (orphan_alive may.orphan) (ap (λ (found : ModelEntry). found.target) is ∙ leads)
      discards (inr in_dir) = absurd (no_attic (sym (ap (λ (found : ModelEntry). found.dir) is ∙ in_dir)))
  enters_alive number op entry may enters touches = absurd (enters_none entry enters)

-- an update of a lawful history that uses an object makes it, or its replica saw the object alive before
pub user_sees : (volume : Volume) (H : List Event) (object : Id) (position : ℕ) → IsLawful volume H →
    IsMember volume.members object.replica → (used : IsUse H object position) →
    (used.number ≡ object) ⊎ IsAlive (before position H) (Knows (before position H) used.number.replica) object
user_sees volume H object position lawful member used = go used.uses
  where
    may : MayUpdate volume (before position H) used.number.replica used.op
    may = lawful.each position (Update used.number.replica used.op) used.update.at

    go : (version_of used.number used.op ≡ Some object) ⊎ EntersTouching used.number used.op object →
        (used.number ≡ object) ⊎ IsAlive (before position H) (Knows (before position H) used.number.replica) object
    go (inl version) =
        writes_alive (not_root object member) (not_attic object member)
        (version_writes used.number object used.op version)
        may.allowed
    go (inr entered) =
        enters_alive (not_root object member) (not_attic object member) used.number used.op entered.entry
        may.allowed entered.enters entered.touches
