-- What a Remove and a Move take away.
use Rattle.std.proofs.Common.{◌≡◌, ◌⊎◌, ℕ, List, [], ◌∷◌, ◌++◌, refl, sym, ap, ◌∙◌, inl, inr}
use Rattle.std.specs.Prelude.{Contains}
use Rattle.ficus_ids.specs.declared.id.Id.{Id}
use Rattle.ficus_model.specs.declared.event.Event.{Event}
use Rattle.ficus_model.specs.declared.event.Event.TheVariants.{Update}
use Rattle.ficus_model.specs.declared.event.Op.TheVariants.{Remove, Move}
use Rattle.ficus_model.specs.Known.{Knows}
use Rattle.ficus_model.specs.Live.{ModelEntry, entry_of, IsLive, IsBound}
use Rattle.ficus_model.specs.Lawful.{Volume, AreNames, MayUpdate, IsLawful}
use Rattle.ficus_laws.specs.Updates.{next_number}
use Rattle.ficus_laws.proofs.Lawful.{lawful_less}
use Rattle.ficus_laws.proofs.Places.{some_inside}
use Rattle.ficus_removal_laws.proofs.Taking.{remove_live, move_live}

-- names that are all of one name don't leave a live entry of it out
named_inside : {H : List Event} {U : ℕ → Type 0} {entries : List Id} {target : Id} {entry : ModelEntry} →
    (names : AreNames H U entries target) → IsLive H U entry → entry.dir ≡ names.dir → entry.name ≡ names.name →
    entry.target ≡ target → Contains entries entry.id
named_inside {entry = entry} names live in_dir named leads = (names.all entry.id).1 (record {
  bound = record { entry = entry; live = live; in_dir = in_dir; named = named; leads = leads };
  by = refl;
})

pub remove_unbinds : (H : List Event) (replica : ℕ) (entries : List Id) (target : Id) →
    (names : AreNames H (Knows H replica) entries target) →
    let K = H ++ Update replica (Remove entries target) ∷ [] in
    IsBound K (Knows K replica) names.dir names.name target → ⊥
remove_unbinds H replica entries target names bound =
    let (was, kept) = remove_live H replica entries target bound.live in
    kept (named_inside names was bound.in_dir bound.named bound.leads)

pub move_unbinds : (volume : Volume) (H : List Event) (replica : ℕ) (entries : List Id) (dir : Id) (name : List ℕ)
    (target : Id) → (names : AreNames H (Knows H replica) entries target) →
    let K = H ++ Update replica (Move entries dir name target) ∷ [] in
    IsLawful volume K → IsBound K (Knows K replica) names.dir names.name target → ⊥
move_unbinds volume H replica entries dir name target names lawful bound =
    go (move_live volume H replica entries dir name target lawful bound.live)
  where
    may : MayUpdate volume H replica (Move entries dir name target)
    may = (lawful_less volume H (Update replica (Move entries dir name target)) lawful).1

    old : IsBound H (Knows H replica) names.dir names.name target
    old = let id = some_inside entries names.some in ((names.all id.0).0 id.1).bound

    -- the entry that a Move enters has a name that is free
    new : bound.entry ≡ entry_of (next_number replica H) dir name target → ⊥
    new is =
        let in_dir = ap (λ (entry : ModelEntry). entry.dir) is in
        let named = ap (λ (entry : ModelEntry). entry.name) is in
        may.allowed.place.free (
          target,
          record {
            entry = old.entry;
            live = old.live;
            in_dir = old.in_dir ∙ sym bound.in_dir ∙ in_dir;
            named = old.named ∙ sym bound.named ∙ named;
            leads = old.leads;
          },
        )

    go : (IsLive H (Knows H replica) bound.entry × (Contains entries bound.entry.id → ⊥)) ⊎
        (bound.entry ≡ entry_of (next_number replica H) dir name target) → ⊥
    go (inl (was, kept)) = kept (named_inside names was bound.in_dir bound.named bound.leads)
    go (inr is) = new is
