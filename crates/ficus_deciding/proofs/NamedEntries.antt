-- What tables hold of the names of an object is what they show of them.
use Rattle.std.proofs.Common.{◌↔◌, ℕ, List, refl, subst}
use Rattle.std.specs.Prelude.{Contains}
use Rattle.ficus_ids.specs.declared.id.Id.{Id}
use Rattle.ficus_entry.specs.Inside.{HasLiveInside, HasOtherName, HoldsSuch, IsNameOf}
use Rattle.ficus_durable_state.specs.declared.saved.Saved.{Saved}
use Rattle.ficus_rules.specs.Marks.{without_state}
use Rattle.ficus_rules.specs.Named.{IsBoundByIn, HasOtherNameIn}
use Rattle.ficus_rules.specs.Remove.{IsFullIn}
use Rattle.ficus_rules.specs.View.{IsDirectoryIn}
use Rattle.ficus_deciding.specs.View.{held_live, tables_view}
use Rattle.ficus_deciding.proofs.Tables.{held_as_live}

module _ (saved : Saved) where
  pub full_tables : {object : Id} → IsDirectoryIn (tables_view saved) object → HasLiveInside saved.entries object →
      IsFullIn (tables_view saved) object
  full_tables directory has = record {
    directory = directory;
    entry = without_state has.entry;
    live = subst (Contains saved.entries) (held_as_live has.entry has.live) has.inside;
    inside = has.in_dir;
  }

  pub tables_full : {object : Id} → IsFullIn (tables_view saved) object → HasLiveInside saved.entries object
  tables_full full = record { entry = held_live full.entry; inside = full.live; live = refl; in_dir = full.inside }

  pub other_tables : (dir : Id) (name : List ℕ) (target : Id) →
      HasOtherName saved.entries dir name target ↔ HasOtherNameIn (tables_view saved) dir name target
  other_tables dir name target = (
    λ has. record {
      entry = without_state has.0;
      live = subst (Contains saved.entries) (held_as_live has.0 has.2.live) has.1;
      leads = has.2.leads;
      other = has.2.other;
    },
    λ has. (
      held_live has.entry,
      has.live,
      record { live = refl; leads = has.leads; other = has.other },
    ),
  )

  pub named_tables : (id dir : Id) (name : List ℕ) (target : Id) →
      HoldsSuch (IsNameOf dir name target) saved.entries id ↔ IsBoundByIn (tables_view saved) id dir name target
  named_tables id dir name target = (
    λ such. record {
      bound = record {
        entry = without_state such.entry;
        live = subst (Contains saved.entries) (held_as_live such.entry such.so.named.live) such.inside;
        in_dir = such.so.named.in_dir;
        named = such.so.named.named;
        leads = such.so.leads;
      };
      by = such.has_id;
    },
    λ by. record {
      entry = held_live by.bound.entry;
      inside = by.bound.live;
      so = record {
        named = record { live = refl; in_dir = by.bound.in_dir; named = by.bound.named };
        leads = by.bound.leads;
      };
      has_id = by.by;
    },
  )
