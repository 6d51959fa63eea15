-- Where detached directories lie.
use Rattle.std.proofs.Common.{ℕ, List, refl, subst, inl, inr}
use Rattle.ficus_ids.specs.declared.id.Id.{Id}
use Rattle.ficus_model.specs.declared.event.Event.{Event}
use Rattle.ficus_model.specs.Known.{Knows}
use Rattle.ficus_model.specs.Lawful.{Volume, IsLawful}
use Rattle.ficus_model.specs.Live.{HasName, IsBound, IsDirectory}
use Rattle.ficus_model.specs.Reached.IsReached.{Base, Through}
use Rattle.ficus_model.specs.View.{IsDetached, IsInReach}
use Rattle.ficus_laws.proofs.Deciding.{Decided, knows_decided}
use Rattle.ficus_laws.proofs.Places.{live_in_directory}
use Rattle.ficus_view_laws.specs.Laws.{LiesInDetached}
use Rattle.ficus_view_laws.proofs.Entries.{name_decided}

module _ (volume : Volume) (H : List Event) (replica : ℕ) (lawful : IsLawful volume H) (dir : Id)
    (detached : IsDetached H (Knows H replica) dir) where
  -- a directory that leads to it isn't in reach, or it would be
  out_of_reach : (parent : Id) (name : List ℕ) → IsBound H (Knows H replica) parent name dir →
      IsInReach H (Knows H replica) parent → ⊥
  out_of_reach parent name bound reached =
      detached.apart (Through reached (record { name = name; bound = bound }))

  pub lies_in_no_other : (parent : Id) (name : List ℕ) → IsBound H (Knows H replica) parent name dir →
      IsDetached H (Knows H replica) parent
  lies_in_no_other parent name bound = go
      (subst (IsDirectory H (Knows H replica)) bound.in_dir (live_in_directory volume H lawful bound.live))
      (name_decided H (Knows H replica) (knows_decided H replica) parent)
    where
      apart : IsInReach H (Knows H replica) parent → ⊥
      apart = out_of_reach parent name bound

      go : IsDirectory H (Knows H replica) parent → Decided (HasName H (Knows H replica) parent) →
          IsDetached H (Knows H replica) parent
      go (inl root) named = absurd (apart (Base (inl root)))
      go (inr made) (inl named) = record { made = made; named = named; apart = apart }
      go (inr made) (inr nameless) = absurd (apart (Base (inr (record {
        nameless = nameless;
        kept = inl (record {
          made = made;
          inside = record { entry = bound.entry; live = bound.live; in_dir = bound.in_dir };
        });
      }))))

  pub lies_in_detached : LiesInDetached H (Knows H replica) dir
  lies_in_detached =
      let named = detached.named in
      let bound : IsBound H (Knows H replica) named.entry.dir named.entry.name dir =
      record { entry = named.entry; live = named.live; in_dir = refl; named = refl; leads = named.leads } in
      record {
        parent = named.entry.dir;
        name = named.entry.name;
        bound = bound;
        detached = lies_in_no_other named.entry.dir named.entry.name bound;
      }
