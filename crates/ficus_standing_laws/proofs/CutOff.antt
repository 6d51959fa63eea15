-- Where detached directories lie, over tables.
use Rattle.std.proofs.Common.{◌≡◌, ◌⊎◌, List, [], ◌∷◌, inl, inr, refl, subst, sym}
use Rattle.std.specs.Prelude.{Contains}
use Rattle.ficus_ids.specs.IdLaws.{same_id_or_not}
use Rattle.ficus_ids.specs.ListLaws.{here, here_or_there, not_inside_none, there}
use Rattle.ficus_ids.specs.declared.id.Id.{Id}
use Rattle.ficus_ids.specs.declared.id.TheConstants.{ROOT}
use Rattle.ficus_ids.specs.declared.kind.Kind.TheVariants.{Dir}
use Rattle.ficus_entry.specs.declared.entry.Entry.{Entry}
use Rattle.ficus_entry.specs.declared.entry.State.{State}
use Rattle.ficus_entry.specs.declared.entry.State.TheVariants.{Live, Dead}
use Rattle.ficus_file.specs.Files.{HoldsFile}
use Rattle.ficus_model.specs.Reached.IsReached.{Base, Through}
use Rattle.ficus_laws.proofs.Deciding.{Decided}
use Rattle.ficus_held_laws.specs.Entries.{place_of}
use Rattle.ficus_entry.specs.Inside.{IsNameFor, IsNamedBy}
use Rattle.ficus_durable_state.specs.declared.saved.Saved.{Saved}
use Rattle.ficus_rules.specs.Detached.{IsDetachedIn}
use Rattle.ficus_rules.specs.View.{IsBoundIn, IsInReachIn}
use Rattle.ficus_deciding.specs.View.{held_as, held_live, tables_view}
use Rattle.ficus_standing_laws.specs.Laws.{LieInDirectories, LiesInDetachedIn}

name_or_not : (entry : Entry) (object : Id) (state : State) → entry.state ≡ state →
    (entry.target ≡ object) ⊎ (entry.target ≡ object → ⊥) → Decided (IsNameFor entry object)
name_or_not entry object Live is (inl leads) = inl (record { live = is; leads = leads })
name_or_not entry object Live is (inr other) = inr (λ name. other name.leads)
name_or_not entry object (Dead one two) is leads = inr (λ name. let e = name.live in cc)

-- whether a live entry of the list leads to the object
named_or_not : (entries : List Entry) (object : Id) → Decided (IsNamedBy entries object)
named_or_not [] object = inr (λ named. not_inside_none named.entry named.inside)
named_or_not (first ∷ entries) object =
    go (name_or_not first object first.state refl (same_id_or_not first.target object)) (named_or_not entries object)
  where
    behind : (IsNameFor first object → ⊥) → (IsNamedBy entries object → ⊥) → (named : IsNamedBy (first ∷ entries) object) →
        (named.entry ≡ first) ⊎ Contains entries named.entry → ⊥
    behind not none named (inl is) =
        not (subst (λ entry. IsNameFor entry object) is (record { live = named.live; leads = named.leads }))
    behind not none named (inr later) =
        none (record { entry = named.entry; inside = later; live = named.live; leads = named.leads })

    go : Decided (IsNameFor first object) → Decided (IsNamedBy entries object) →
        Decided (IsNamedBy (first ∷ entries) object)
    go (inl name) rest =
        inl (record { entry = first; inside = here first entries; live = name.live; leads = name.leads })
    go (inr not) (inl named) = inl (record {
      entry = named.entry;
      inside = there first named.entry entries named.inside;
      live = named.live;
      leads = named.leads;
    })
    go (inr not) (inr none) =
        inr (λ named. behind not none named (here_or_there first named.entry entries named.inside))

module _ (saved : Saved) (dir : Id) (lie : LieInDirectories saved) (detached : IsDetachedIn (tables_view saved) dir) where
  abbrev parent : Id
  parent = detached.named.entry.dir

  leads : IsBoundIn (tables_view saved) parent detached.named.entry.name dir
  leads = record {
    entry = detached.named.entry;
    live = detached.named.live;
    in_dir = refl;
    named = refl;
    leads = detached.named.leads;
  }

  apart : IsInReachIn (tables_view saved) parent → ⊥
  apart reached = detached.apart (Through reached (detached.named.entry.name, leads))

  -- a directory of the files that leads to it has a name itself, or it would be an orphan and in reach
  is_detached : HoldsFile saved.files parent (λ file. file.kind ≡ Dir) → Decided (IsNamedBy saved.entries parent) →
      IsDetachedIn (tables_view saved) parent
  is_detached holds (inl named) = record {
    directory = record {
      visible = inl named;
      file = holds.file;
      inside = holds.inside;
      has_id = holds.has_id;
      so = holds.fit;
    };
    named = record {
      entry = place_of named.entry;
      live = subst (λ state. Contains saved.entries (held_as (place_of named.entry) state)) named.live named.inside;
      leads = named.leads;
    };
    apart = apart;
  }
  is_detached holds (inr nameless) = absurd (apart (Base (inr (record {
    nameless = nameless;
    file = holds.file;
    inside = holds.inside;
    has_id = holds.has_id;
    kept = inl (
      holds.fit,
      record {
        entry = held_live detached.named.entry;
        inside = detached.named.live;
        live = refl;
        in_dir = sym holds.has_id;
      },
    );
  }))))

  pub lies_in_detached : LiesInDetachedIn (tables_view saved) dir
  lies_in_detached = go (lie (held_live detached.named.entry) detached.named.live refl)
    where
      go : (parent ≡ ROOT) ⊎ HoldsFile saved.files parent (λ file. file.kind ≡ Dir) →
          LiesInDetachedIn (tables_view saved) dir
      go (inl root) = absurd (apart (Base (inl root)))
      go (inr holds) = record {
        parent = parent;
        name = detached.named.entry.name;
        bound = leads;
        detached = is_detached holds (named_or_not saved.entries parent);
      }
