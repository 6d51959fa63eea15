-- What a rule gives over the tables fits them, so that it is ready to be done there.
use Rattle.std.proofs.Common.{◌≡◌, ◌<◌, ◌-◌, ◌^◌, ℕ, List, length, Ok, refl, sym, subst, inl, inr, arith}
use Rattle.std.specs.Prelude.{Contains}
use Rattle.ficus_ids.specs.KindLaws.{versioned_kind}
use Rattle.ficus_ids.specs.ListLaws.{not_inside_none}
use Rattle.ficus_ids.specs.declared.id.Id.{Id}
use Rattle.ficus_ids.specs.declared.kind.Kind.{Kind}
use Rattle.ficus_ids.specs.declared.kind.Kind.TheVariants.{Dir}
use Rattle.ficus_model.specs.declared.event.Op.{Op}
use Rattle.ficus_model.specs.Lawful.{most_file_bytes}
use Rattle.ficus_path.specs.declared.path.Path.{Path}
use Rattle.ficus_record.specs.declared.record.Record.TheVariants as noted
use Rattle.ficus_durable_state.specs.Saved.{FitsImage}
use Rattle.ficus_durable_state.specs.declared.saved.Saved.{Saved}
use Rattle.ficus_commands.specs.declared.change.Change.{Change}
use Rattle.ficus_commands.specs.declared.change.Change.TheVariants.{MkDir, Create, Symlink, Write, Settle, Resolve, Rm, Ln, Mv, Adopt, Discard}
use Rattle.ficus_rules.specs.Adopt.{AdoptRule}
use Rattle.ficus_rules.specs.Change.{ChangeRule}
use Rattle.ficus_rules.specs.Discard.{DiscardRule}
use Rattle.ficus_rules.specs.Limits.{LimitsRule}
use Rattle.ficus_rules.specs.Link.{LinkRule}
use Rattle.ficus_rules.specs.Make.{MakeRule}
use Rattle.ficus_rules.specs.Named.{AreNamedIn}
use Rattle.ficus_rules.specs.Remove.{RemoveRule}
use Rattle.ficus_rules.specs.Rename.{RenameRule}
use Rattle.ficus_rules.specs.Rule.{Gives}
use Rattle.ficus_rules.specs.Symlink.{SymlinkRule}
use Rattle.ficus_rules.specs.View.{IsDirectoryIn, IsVisibleIn}
use Rattle.ficus_rules.specs.Walk.{VersionedRule, Found, last_name}
use Rattle.ficus_rules.proofs.Walks.{IsVersionedAt, IsEntryAt, IsWalkedTo, entry_walked, versioned_walked, parent_walked, places_walked}
use Rattle.ficus_deciding.specs.View.{IsVisibleBy, held_live, tables_view}
use Rattle.ficus_deciding.proofs.Tables.{bound_named, tables_named, visible_held}
use Rattle.ficus_replica.specs.Effect.{Applied, HasName, IsReady, MayWrite}
use Rattle.ficus_replica.specs.Makes.{AreNames, FitsOpIn, FitsUpdate, IsFile, IsNoted, IsPlace}
use Rattle.ficus_replica.proofs.Fitting.{HasForm, op_spelled, update_ready}

-- the operation fits the tables, and has a form
pub record IsGiven (saved : Saved) (op : Op) : Type 0 where
  pub update : FitsUpdate saved op
  pub form : HasForm op

module _ {saved : Saved} (fits : FitsImage saved) where
  -- a directory to which a walk leads is a place for entries
  walked_place : {dir : Id} → IsWalkedTo (tables_view saved) dir → IsPlace saved dir
  walked_place walked = elim walked.directory [
    | inl root ↦ inl root
    | inr has ↦ inr (record { file = has.file; inside = has.inside; has_id = has.has_id; fit = has.so })
  ]

  visible_by : {object : Id} → IsVisibleIn (tables_view saved) object → IsVisibleBy saved object
  visible_by {object} (inl named) = inl ((tables_named saved object).1 named)
  visible_by (inr orphan) = inr orphan

  -- what is visible and no directory is a file that is held
  visible_file : {object : Id} → IsVisibleBy saved object → (IsDirectoryIn (tables_view saved) object → ⊥) →
      IsFile saved object
  visible_file {object} visible no_directory =
      let held = visible_held fits visible in
      record {
        file = held.item;
        inside = held.inside;
        has_id = held.has_id;
        fit = λ dir. no_directory (inr (record {
          visible = visible;
          file = held.item;
          inside = held.inside;
          has_id = held.has_id;
          so = dir;
        }));
      }

  may_write : {file : Id} (bytes : List ℕ) → IsVersionedAt (tables_view saved) file →
      (most_file_bytes < length bytes → ⊥) → ((tables_view saved).over_quota (length bytes) → ⊥) →
      MayWrite saved file bytes
  may_write bytes found short within =
      let visible = visible_by found.at.visible in
      let held = visible_file visible found.at.no_directory in
      record {
        held = record {
          file = held.file;
          inside = held.inside;
          has_id = held.has_id;
          fit = versioned_kind held.file.kind held.fit (λ fixed. found.changes (record {
            kind = held.file.kind;
            of_kind = record {
              visible = visible;
              file = held.file;
              inside = held.inside;
              has_id = held.has_id;
              so = refl;
            };
            is = fixed;
          }));
        };
        one_file = omega arith;
        left = omega arith;
      }

  -- the file at a path is written within the limits
  within_given : (path : Path) {file : Id} {bytes : List ℕ} {op given : Op} →
      (MayWrite saved file bytes → FitsOpIn saved op) → HasForm op → VersionedRule (tables_view saved) path (Ok file) →
      LimitsRule (tables_view saved) (length bytes) (Gives op) (Ok given) → IsGiven saved given
  within_given path {file} {bytes} writes form walk (short, (left, (within, is))) =
      subst (IsGiven saved) (sym is) (record {
        update = record {
          left = omega arith;
          fits = writes (may_write bytes (versioned_walked (tables_view saved) path file walk) short within);
        };
        form = form;
      })

  make_given : (path : Path) (kind : Kind) (op : Op) → MakeRule (tables_view saved) path kind (Ok op) → IsGiven saved op
  make_given path kind op (dir, walk, (free, (left, (fits_kind, is)))) = subst (IsGiven saved) (sym is) (record {
    update = record {
      left = omega arith;
      fits = record {
        place = walked_place (parent_walked (tables_view saved) path dir walk);
        left = omega (arith, fits.used);
      };
    };
    form = fits_kind;
  })

  symlink_given : (path : Path) (text : List ℕ) (op : Op) → SymlinkRule (tables_view saved) path text (Ok op) →
      IsGiven saved op
  symlink_given path text op (dir, walk, (free, (short, (left, (within, (fits_kind, is)))))) =
      subst (IsGiven saved) (sym is) (record {
        update = record {
          left = omega arith;
          fits = record {
            place = walked_place (parent_walked (tables_view saved) path dir walk);
            left = omega arith;
          };
        };
        form = fits_kind;
      })

  -- all entries of the name at a path are names of what it leads to
  entries_named : {path : Path} {found : Found} {entries : List Id} → IsEntryAt (tables_view saved) path found →
      AreNamedIn (tables_view saved) found.dir (last_name path) found.object entries →
      AreNames saved entries found.object
  entries_named {entries = entries} at named = record {
    some = λ none. not_inside_none at.bound.entry.id (subst (λ (ids : List Id). Contains ids at.bound.entry.id) none
        ((named.all at.bound.entry.id).1 (record { bound = at.bound; by = refl })));
    each = λ id inside.
        let by = (named.all id).0 inside in
        record {
          entry = held_live by.bound.entry;
          inside = by.bound.live;
          has_id = by.by;
          live = refl;
          leads = by.bound.leads;
        };
  }

  remove_given : (path : Path) (op : Op) → RemoveRule (tables_view saved) path (Ok op) → IsGiven saved op
  remove_given path op (found, walk, (keeps, (left, (entries, named, is)))) = subst (IsGiven saved) (sym is) (record {
    update = record {
      left = omega arith;
      fits = entries_named (entry_walked (tables_view saved) path found walk) named;
    };
    form = named.rising;
  })

  link_given : (from path : Path) (op : Op) → LinkRule (tables_view saved) from path (Ok op) → IsGiven saved op
  link_given from path op (places, walks, (no_directory, (free, (left, is)))) =
      let walked = places_walked (tables_view saved) from path places walks in
      let at = entry_walked (tables_view saved) from places.found walked.found in
      subst (IsGiven saved) (sym is) (record {
        update = record {
          left = omega arith;
          fits = (
            walked_place (parent_walked (tables_view saved) path places.dir walked.dir),
            visible_file (inl (bound_named saved at.bound)) no_directory,
          );
        };
        form = tt;
      })

  rename_given : (from path : Path) (op : Op) → RenameRule (tables_view saved) from path (Ok op) → IsGiven saved op
  rename_given from path op (places, walks, (outside, (free, (left, (entries, named, is))))) =
      let walked = places_walked (tables_view saved) from path places walks in
      subst (IsGiven saved) (sym is) (record {
        update = record {
          left = omega arith;
          fits = (
            entries_named (entry_walked (tables_view saved) from places.found walked.found) named,
            walked_place (parent_walked (tables_view saved) path places.dir walked.dir),
          );
        };
        form = named.rising;
      })

  adopt_given : (orphan : Id) (path : Path) (op : Op) → AdoptRule (tables_view saved) orphan path (Ok op) →
      IsGiven saved op
  adopt_given orphan path op (is_orphan, (dir, parent, (outside, (free, (left, is))))) =
      subst (IsGiven saved) (sym is) (record {
        update = record {
          left = omega arith;
          fits = (
            walked_place (parent_walked (tables_view saved) path dir parent),
            visible_held fits (inr is_orphan),
          );
        };
        form = tt;
      })

  discard_given : (orphan : Id) (op : Op) → DiscardRule (tables_view saved) orphan (Ok op) → IsGiven saved op
  discard_given orphan op (is_orphan, (no_directory, (left, is))) = subst (IsGiven saved) (sym is) (record {
    update = record { left = omega arith; fits = visible_file (inr is_orphan) no_directory };
    form = tt;
  })

  pub change_given : (change : Change) (op : Op) → ChangeRule (tables_view saved) change (Ok op) → IsGiven saved op
  change_given (MkDir path) op rule = make_given path Dir op rule
  change_given (Create path kind) op rule = make_given path kind op rule
  change_given (Symlink path text) op rule = symlink_given path text op rule
  change_given (Write path text) op (file, walk, (settled, limits)) = within_given path (λ may. may) tt walk limits
  change_given (Settle path text) op (file, walk, (conflict, limits)) = within_given path (λ may. may) tt walk limits
  change_given (Resolve path) op (file, walk, (conflict, (text, resolved, limits))) =
      within_given path (λ may. may) tt walk limits
  change_given (Rm path) op rule = remove_given path op rule
  change_given (Ln from path) op rule = link_given from path op rule
  change_given (Mv from path) op rule = rename_given from path op rule
  change_given (Adopt orphan path) op rule = adopt_given orphan path op rule
  change_given (Discard orphan) op rule = discard_given orphan op rule

  pub change_ready : (change : Change) (op : Op) → ChangeRule (tables_view saved) change (Ok op) → IsReady saved op
  change_ready change op rule =
      let given = change_given change op rule in
      update_ready fits op given.form given.update

  -- and its record makes what it makes
  pub change_noted : (change : Change) (op given : Op) (new : Saved) → saved.generation < 2 ^ 63 - 1 → HasName op →
      ChangeRule (tables_view saved) change (Ok op) → given ≡ op → Applied saved op new → FitsImage new →
      IsNoted saved (noted.Change given) new
  change_noted change op given new generation name rule is applied fits_then =
      let by_rule = change_given change op rule in
      subst (λ (o : Op). IsNoted saved (noted.Change o) new) (sym is) (record {
        spelled = op_spelled fits op name by_rule.form by_rule.update.fits;
        fit = record { generation = generation; fits = by_rule.update };
        makes = applied;
        fits = fits_then;
      })
