-- What a change gives over the tables it gives over the history.
use Rattle.std.proofs.Common.{◌≡◌, ℕ, ◌≤◌, List, length, Result, Ok, Err, sym, subst, arith}
use Rattle.ficus_ids.specs.Members.{IsCount}
use Rattle.ficus_ids.specs.declared.id.Id.{Id}
use Rattle.ficus_ids.specs.declared.kind.Kind.{Kind}
use Rattle.ficus_ids.specs.declared.kind.Kind.TheVariants.{Dir}
use Rattle.ficus_ids.specs.declared.refusal.Refusal.{Refusal}
use Rattle.ficus_model.specs.declared.event.Event.{Event}
use Rattle.ficus_model.specs.declared.event.Event.TheVariants.{Update}
use Rattle.ficus_model.specs.declared.event.Op.{Op}
use Rattle.ficus_model.specs.Known.{Knows}
use Rattle.ficus_model.specs.Lawful.{Volume, IsLawful, MayCome, IsAllowed, MaySettle, HasBytesLeft, FitsBytes}
use Rattle.ficus_path.specs.declared.path.Path.{Path}
use Rattle.ficus_durable_state.specs.Saved.{FitsImage}
use Rattle.ficus_laws.proofs.Lawful.{lawful_more}
use Rattle.ficus_commands.specs.declared.change.Change.{Change}
use Rattle.ficus_commands.specs.declared.change.Change.TheVariants.{MkDir, Create, Symlink, Write, Settle, Resolve, Rm, Ln, Mv, Adopt, Discard}
use Rattle.ficus_rules.specs.Adopt.{AdoptRule}
use Rattle.ficus_rules.specs.Change.{ChangeRule}
use Rattle.ficus_rules.specs.Discard.{DiscardRule}
use Rattle.ficus_rules.specs.Limits.{LimitsRule}
use Rattle.ficus_rules.specs.Link.{LinkRule}
use Rattle.ficus_rules.specs.Make.{MakeRule}
use Rattle.ficus_rules.specs.Remove.{RemoveRule}
use Rattle.ficus_rules.specs.Rename.{RenameRule}
use Rattle.ficus_rules.specs.Rule.{Gives}
use Rattle.ficus_rules.specs.Symlink.{SymlinkRule}
use Rattle.ficus_rules.specs.View.{history_view}
use Rattle.ficus_rules.specs.Walk.{VersionedRule, last_name}
pub use Rattle.ficus_rules.proofs.Changes.{change_once, change_along}
use Rattle.ficus_rules.proofs.Changes.{change_answer_along}
use Rattle.ficus_rules.proofs.Walks.{IsVersionedAt, entry_walked, versioned_walked, parent_walked, places_walked}
use Rattle.ficus_deciding.specs.View.{tables_view}
use Rattle.ficus_replica.specs.declared.replica.Next.{Next}
use Rattle.ficus_replica.specs.declared.replica.Replica.{Replica}
use Rattle.ficus_replica.specs.Change.{Changed, ChangeGives, ChangedAfter, ChangeStands}
use Rattle.ficus_replica.specs.Effect.{Applied}
use Rattle.ficus_replica.specs.SavedOf.{StandsFor}
use Rattle.ficus_replica.proofs.Allowed.{MayBeDone, new_place, file_in_reach, file_versioned, file_visible, bytes_left, may_link, may_remove, may_move, may_adopt, may_discard}
use Rattle.ficus_replica.proofs.Effects.{applied_stands}
use Rattle.ficus_replica.proofs.OpenAsks.{open_kept}
use Rattle.ficus_replica.proofs.Views.{stands_same}
use Rattle.ficus_replica.proofs.Written.{written_within}

-- In each of these the rule gives an operation after a lawful history.
module _ (volume : Volume) (H : List Event) (r : ℕ) (lawful : IsLawful volume H) where
  make_may : (path : Path) (kind : Kind) (op : Op) → MakeRule (history_view volume H r) path kind (Ok op) →
      MayBeDone volume H r op
  make_may path kind op (dir, walk, (free, (left, (fits, is)))) = subst (MayBeDone volume H r) (sym is) (record {
    left = omega arith;
    bytes = record { one_file = omega arith; left = omega (arith, written_within volume r H lawful) };
    allowed = record {
      place = new_place volume H r dir (last_name path) (parent_walked (history_view volume H r) path dir walk) free;
      fits = fits;
    };
  })

  symlink_may : (path : Path) (text : List ℕ) (op : Op) → SymlinkRule (history_view volume H r) path text (Ok op) →
      MayBeDone volume H r op
  symlink_may path text op (dir, walk, (free, (short, (left, (within, (fits, is)))))) =
      subst (MayBeDone volume H r) (sym is) (record {
        left = omega arith;
        bytes = bytes_left volume H r text (λ long. short (omega arith)) within;
        allowed = record {
          place = new_place volume H r dir (last_name path) (parent_walked (history_view volume H r) path dir walk) free;
          fits = fits;
        };
      })

  -- the file at a path is written within the limits, where that is allowed
  within_may : (path : Path) {file : Id} {bytes : List ℕ} {op given : Op} →
      (FitsBytes volume H r bytes → HasBytesLeft volume H r op) →
      (IsVersionedAt (history_view volume H r) file → IsAllowed H (Knows H r) op) →
      VersionedRule (history_view volume H r) path (Ok file) →
      LimitsRule (history_view volume H r) (length bytes) (Gives op) (Ok given) → MayBeDone volume H r given
  within_may path {file} {bytes} writes allowed walk (short, (left, (within, is))) =
      subst (MayBeDone volume H r) (sym is) (record {
        left = omega arith;
        bytes = writes (bytes_left volume H r bytes short within);
        allowed = allowed (versioned_walked (history_view volume H r) path file walk);
      })

  -- a conflict may be ended
  may_settle : {file : Id} → (history_view volume H r).conflicts file → IsVersionedAt (history_view volume H r) file →
      MaySettle H (Knows H r) file
  may_settle {file} conflict found = record {
    in_reach = file_in_reach volume H r lawful file found.at;
    versioned = file_versioned volume H r lawful file found;
    conflict = conflict.1;
  }

  remove_may : (path : Path) (op : Op) → RemoveRule (history_view volume H r) path (Ok op) → MayBeDone volume H r op
  remove_may path op (found, walk, (keeps, (left, (entries, named, is)))) =
      subst (MayBeDone volume H r) (sym is) (record {
        left = omega arith;
        bytes = tt;
        allowed = may_remove volume H r path found entries (entry_walked (history_view volume H r) path found walk)
            named keeps;
      })

  link_may : (from path : Path) (op : Op) → LinkRule (history_view volume H r) from path (Ok op) →
      MayBeDone volume H r op
  link_may from path op (places, walks, (no_directory, (free, (left, is)))) =
      let walked = places_walked (history_view volume H r) from path places walks in
      subst (MayBeDone volume H r) (sym is) (record {
        left = omega arith;
        bytes = tt;
        allowed = may_link volume H r lawful from places.found places.dir (last_name path)
            (entry_walked (history_view volume H r) from places.found walked.found)
            (new_place volume H r places.dir (last_name path)
            (parent_walked (history_view volume H r) path places.dir walked.dir) free)
            no_directory;
      })

  rename_may : (from path : Path) (op : Op) → RenameRule (history_view volume H r) from path (Ok op) →
      MayBeDone volume H r op
  rename_may from path op (places, walks, (outside, (free, (left, (entries, named, is))))) =
      let walked = places_walked (history_view volume H r) from path places walks in
      subst (MayBeDone volume H r) (sym is) (record {
        left = omega arith;
        bytes = tt;
        allowed = may_move volume H r from places.found entries
            (entry_walked (history_view volume H r) from places.found walked.found) named places.dir (last_name path)
            (new_place volume H r places.dir (last_name path)
            (parent_walked (history_view volume H r) path places.dir walked.dir) free)
            outside;
      })

  adopt_may : (orphan : Id) (path : Path) (op : Op) → AdoptRule (history_view volume H r) orphan path (Ok op) →
      MayBeDone volume H r op
  adopt_may orphan path op (is_orphan, (dir, parent, (outside, (free, (left, is))))) =
      subst (MayBeDone volume H r) (sym is) (record {
        left = omega arith;
        bytes = tt;
        allowed = may_adopt volume H r orphan dir (last_name path) is_orphan
            (new_place volume H r dir (last_name path) (parent_walked (history_view volume H r) path dir parent) free)
            outside;
      })

  discard_may : (orphan : Id) (op : Op) → DiscardRule (history_view volume H r) orphan (Ok op) → MayBeDone volume H r op
  discard_may orphan op (is_orphan, (no_directory, (left, is))) = subst (MayBeDone volume H r) (sym is) (record {
    left = omega arith;
    bytes = tt;
    allowed = may_discard volume H r lawful orphan is_orphan no_directory;
  })

  pub change_may : (change : Change) (op : Op) → ChangeRule (history_view volume H r) change (Ok op) →
      MayBeDone volume H r op
  change_may (MkDir path) op rule = make_may path Dir op rule
  change_may (Create path kind) op rule = make_may path kind op rule
  change_may (Symlink path text) op rule = symlink_may path text op rule
  change_may (Write path text) op (file, walk, (settled, limits)) =
      within_may path (λ fits. fits) (λ found. record {
        in_reach = file_in_reach volume H r lawful file found.at;
        versioned = file_versioned volume H r lawful file found;
        settled = λ conflict. settled (file_visible volume H r found.at, conflict);
      }) walk limits
  change_may (Settle path text) op (file, walk, (conflict, limits)) =
      within_may path (λ fits. fits) (may_settle conflict) walk limits
  change_may (Resolve path) op (file, walk, (conflict, (text, resolved, limits))) =
      within_may path (λ fits. fits) (may_settle conflict) walk limits
  change_may (Rm path) op rule = remove_may path op rule
  change_may (Ln from path) op rule = link_may from path op rule
  change_may (Mv from path) op rule = rename_may from path op rule
  change_may (Adopt orphan path) op rule = adopt_may orphan path op rule
  change_may (Discard orphan) op rule = discard_may orphan op rule

-- In each of these a replica stands for a lawful history.
module _ {volume : Volume} {H : List Event} {r : ℕ} {old : Replica} (lawful : IsLawful volume H)
    (several : 2 ≤ volume.members) (stands : StandsFor volume H r old) (change : Change) where
  pub changed_after : (next : Next) → Changed old change next → ChangedAfter volume H r change next
  changed_after next changed =
      let answer = change_along (stands_same lawful stands.saved) change (Ok next.op) changed.answer in
      let may = change_may volume H r lawful change next.op answer in
      let comes : MayCome volume H (Update r next.op) =
      record { member = stands.saved.member; left = may.left; bytes = may.bytes; allowed = may.allowed } in
      let longer = lawful_more volume H (Update r next.op) lawful comes in
      record {
        answer = answer;
        after = record {
          lawful = comes;
          stands = record {
            saved = applied_stands next.op longer several stands.saved changed.applied;
            ask = rw changed.ask (open_kept H r old.ask (Update r next.op) (λ closes. closes) stands.ask);
          };
        };
      }

  change_stands : (result : Result Next Refusal) → ChangeGives old change result → ChangeStands volume H r change result
  change_stands (Ok next) gives = changed_after next gives
  change_stands (Err refusal) gives =
      change_answer_along (stands_same lawful stands.saved) change (Err refusal) gives

-- so it does over every lawful history for which the replica stands
pub change_holds : (old : Replica) (change : Change) (result : Result Next Refusal) →
    FitsImage old.saved → ChangeGives old change result → (volume : Volume) (H : List Event) → IsLawful volume H →
    StandsFor volume H old.saved.me old → ChangeStands volume H old.saved.me change result
change_holds old change result fits gives volume H lawful stands =
    let count = subst IsCount stands.saved.members fits.members in
    change_stands lawful count.at_least stands change result gives

-- the operation that the rule gives, done
pub change_done : (old : Replica) (change : Change) (op : Op) (next : Next) →
    ChangeRule (tables_view old.saved) change (Ok op) → next.op ≡ op → Applied old.saved op next.replica.saved →
    next.replica.ask ≡ old.ask → Changed old change next
change_done old change op next rule is applied ask = record { answer = rw is rule; applied = rw is applied; ask = ask }
