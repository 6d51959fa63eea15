-- Which identifiers have been issued.
use Rattle.std.proofs.Common.{cond, drop, ◌++◌, ◌≡◌, ℕ, List, inl, inr, ◌⊎◌, sym, ap, subst, ◌∙◌, arith}
use Rattle.std.proofs.lemmas.List.{take-append-drop}
use Rattle.std.proofs.lemmas.List.Sums.{sum_by-append}
use Rattle.std.proofs.lemmas.Option.{same_Some}
use Rattle.std.specs.Prelude.{Contains}
use Rattle.ficus_ids.specs.Members.{IsMember}
use Rattle.ficus_ids.specs.declared.id.Id.{Id}
use Rattle.ficus_ids.specs.declared.kind.Kind.{Kind}
use Rattle.ficus_model.specs.declared.event.Event.{Event}
use Rattle.ficus_model.specs.declared.event.Event.TheVariants.{Update}
use Rattle.ficus_model.specs.declared.event.Op.{Op}
use Rattle.ficus_model.specs.declared.event.Op.TheVariants.{Make}
use Rattle.ficus_model.specs.Events.{IsUpdate, before, is_update_of}
use Rattle.ficus_model.specs.Known.{Knows}
use Rattle.ficus_model.specs.Live.{ModelEntry, entered_by, removed_by, IsEntered, IsRemoved, IsMade}
use Rattle.ficus_model.specs.Lawful.{Volume, IsAllowed, MayUpdate, IsLawful}
use Rattle.ficus_laws.specs.Updates.{next_number, IsIssued}
use Rattle.ficus_laws.proofs.Positions.{of_at}
use Rattle.ficus_laws.proofs.Lawful.{lawful_member}
use Rattle.ficus_laws.proofs.Removable.{IsRemovable, is_removable}
use Rattle.ficus_laws.proofs.Updates.{update_issued, update_once}

-- what is issued stays issued
pub issued_more : {H : List Event} {id : Id} (T : List Event) → IsIssued H id → IsIssued (H ++ T) id
issued_more {H} {id} T i = record {
  at_least = i.at_least;
  at_most = omega (arith, i.at_most, sum_by-append (λ event. cond (is_update_of id.replica event) 1 0) H T);
}

pub issued_later : {H : List Event} {id : Id} (n : ℕ) → IsIssued (before n H) id → IsIssued H id
issued_later {H} {id} n i = subst (λ K. IsIssued K id) (take-append-drop n H) (issued_more (drop n H) i)

pub entered_issued : {H : List Event} {U : ℕ → Type 0} {entry : ModelEntry} → IsEntered H U entry → IsIssued H entry.id
entered_issued e = update_issued e.update

-- what an operation may remove has been issued, or it is the next number
removes_issued : (H : List Event) (U : ℕ → Type 0) (number id : Id) (op : Op) → IsAllowed H U op →
    Contains (removed_by number op) id → IsIssued H id ⊎ (id ≡ number)
removes_issued H U number id op allowed removes = go (is_removable H U number id op allowed removes)
  where
    go : IsRemovable H U number op id → IsIssued H id ⊎ (id ≡ number)
    go (inl alive) = inl (subst (IsIssued H) alive.named (entered_issued alive.live.entered))
    go (inr discard) = inr discard.own

-- in a lawful history, what is removed has been issued
pub removed_issued : (volume : Volume) (H : List Event) {U : ℕ → Type 0} {id : Id} → IsLawful volume H →
    IsRemoved H U id → IsIssued H id
removed_issued volume H {id = id} lawful r =
    go (removes_issued (before r.position H) (Knows (before r.position H) r.number.replica) r.number id r.op may.allowed r.removes)
  where
    may : MayUpdate volume (before r.position H) r.number.replica r.op
    may = lawful.each r.position (Update r.number.replica r.op) r.update.at

    go : IsIssued (before r.position H) id ⊎ (id ≡ r.number) → IsIssued H id
    go (inl was) = issued_later r.position was
    go (inr same) = rw same (update_issued r.update)

-- so nothing has removed the entry that the next update may enter
pub next_not_removed : (volume : Volume) (H : List Event) (replica : ℕ) {U : ℕ → Type 0} → IsLawful volume H →
    IsRemoved H U (next_number replica H) → ⊥
next_not_removed volume H replica lawful r = let i = removed_issued volume H lawful r in omega (arith, i.at_most)

-- an identifier is entered once, as one entry
pub entered_once : {H : List Event} {U V : ℕ → Type 0} {entry other : ModelEntry} → IsEntered H U entry →
    IsEntered H V other → entry.id ≡ other.id → entry ≡ other
entered_once {H} {U} {V} {entry} {other} e f same =
    let again : IsUpdate H f.position entry.id f.op = subst (λ id. IsUpdate H f.position id f.op) (sym same) f.update in
    let done = (update_once e.update again).1 in
    same_Some entry other (sym e.enters ∙ ap (entered_by entry.id) done ∙ ap (λ id. entered_by id f.op) same ∙ f.enters)

-- an object is made once, of one kind
pub made_once : {H : List Event} {U V : ℕ → Type 0} {object : Id} {kind other : Kind} → IsMade H U object kind →
    IsMade H V object other → kind ≡ other
made_once {H} {object = object} {kind = kind} {other = other} m n =
    let done : Make m.dir m.name kind m.text ≡ Make n.dir n.name other n.text = (update_once m.update n.update).1 in
    cc

pub made_issued : {H : List Event} {U : ℕ → Type 0} {object : Id} {kind : Kind} → IsMade H U object kind →
    IsIssued H object
made_issued m = update_issued m.update

-- identifiers are issued by members
pub issuer_member : (volume : Volume) (H : List Event) {position : ℕ} {number : Id} {op : Op} → IsLawful volume H →
    IsUpdate H position number op → IsMember volume.members number.replica
issuer_member volume H lawful u = lawful_member volume H lawful (of_at u.at)
