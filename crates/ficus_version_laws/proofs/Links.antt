-- An object whose text stays has one version, and who removes its last name has heard of that.
use Rattle.std.proofs.Common.{zero, suc, ◌≡◌, ◌≢◌, ℕ, ◌+◌, ◌<◌, ◌≤◌, List, [], length, Some, refl, sym, ap, subst, ◌∙◌, inl, inr, ◌⊎◌, arith}
use Rattle.std.specs.Prelude.{Contains, codes}
use Rattle.std.proofs.lemmas.Option.{same_Some}
use Rattle.ficus_ids.specs.Kind.{sort_of}
use Rattle.ficus_ids.specs.ListLaws.{here_or_there, not_inside_none}
use Rattle.ficus_ids.specs.declared.id.Id.{Id}
use Rattle.ficus_ids.specs.declared.id.TheConstants.{ATTIC}
use Rattle.ficus_ids.specs.declared.kind.Kind.{Kind}
use Rattle.ficus_ids.specs.declared.kind.Kind.TheVariants.{Dir}
use Rattle.ficus_ids.specs.declared.kind.Sort.TheVariants.{Versioned, Fixed}
use Rattle.ficus_model.specs.declared.event.Event.{Event}
use Rattle.ficus_model.specs.declared.event.Event.TheVariants.{Update}
use Rattle.ficus_model.specs.declared.event.Op.{Op}
use Rattle.ficus_model.specs.declared.event.Op.TheVariants.{Make, Remove, Move, Write, Settle, Resolve, Discard}
use Rattle.ficus_model.specs.Events.{IsUpdate, before}
use Rattle.ficus_model.specs.Known.{Knows, HasInPast}
use Rattle.ficus_model.specs.Lawful.{Volume, IsLawful, MayUpdate, AreNames}
use Rattle.ficus_model.specs.Live.{ModelEntry, IsEntered, IsMade, IsVersioned, HasName, entered_by, entry_of, removed_by}
use Rattle.ficus_model.specs.Versions.{IsVersion, IsCovering, IsInConflict, made_file, version_of}
use Rattle.ficus_model.specs.View.{IsFilled, HasUnseen, IsOrphan}
use Rattle.ficus_laws.proofs.Issued.{entered_once, made_once}
use Rattle.ficus_laws.proofs.Knowledge.{knows_within}
use Rattle.ficus_laws.proofs.Lawful.{lawful_before}
use Rattle.ficus_laws.proofs.Past.{update_same}
use Rattle.ficus_laws.proofs.Places.{entered_target, within_past}
use Rattle.ficus_laws.proofs.Positions.{agree_before, at_from_before, of_at}
use Rattle.ficus_laws.proofs.Shown.{entered_within}
use Rattle.ficus_laws.proofs.Updates.{agree_update, update_once}
use Rattle.ficus_version_laws.proofs.Objects.{made_file_is, none_is}
use Rattle.ficus_version_laws.proofs.Orphaned.{one_no_conflict}

-- an object whose text stays isn't one whose versions change
pub fixed_stays : (kind : Kind) → sort_of kind ≡ Fixed → sort_of kind ≡ Versioned → ⊥
fixed_stays kind fixed changes = let clash : Versioned ≡ Fixed = sym changes ∙ fixed in cc

-- In these an object is made whose versions don't change.
module _ (volume : Volume) (H : List Event) (lawful : IsLawful volume H) {replica : ℕ} {object : Id} {kind : Kind}
    (stays : sort_of kind ≡ Versioned → ⊥) (made : IsMade H (Knows H replica) object kind) where
  may : {position : ℕ} {number : Id} {op : Op} → IsUpdate H position number op →
      MayUpdate volume (before position H) number.replica op
  may {position} {number} {op} u = lawful.each position (Update number.replica op) u.at

  later : {position : ℕ} {number : Id} {op : Op} (n : ℕ) → IsUpdate (before n H) position number op →
      IsUpdate H position number op
  later n u = agree_update (agree_before n H) (at_from_before n u.at).0 u

  -- where it is made, it is so here
  made_here : {V : ℕ → Type 0} {other : Kind} (n : ℕ) (m : IsMade (before n H) V object other) →
      (m.position ≡ made.position) × (other ≡ kind)
  made_here {other = other} n m =
      let is = update_once made.update (later n m.update) in
      let same : Make made.dir made.name kind made.text ≡ Make m.dir m.name other m.text = is.1 in
      let kinds : other ≡ kind = cc in
      (sym is.0, kinds)

  unversioned : {V : ℕ → Type 0} (n : ℕ) → IsVersioned (before n H) V object → ⊥
  unversioned n versioned = stays (ap sort_of (sym (made_here n versioned.made).1) ∙ versioned.changes)

  -- its one version is that of its Make
  pub one_version : {position : ℕ} → IsVersion H object position → position ≡ made.position
  one_version {position} version = go version.number version.op version.update version.versions
    where
      go : (number : Id) (op : Op) → IsUpdate H position number op → version_of number op ≡ Some object →
          position ≡ made.position
      go number (Make dir name other text) u e =
          let is = made_file_is number object other e in
          (update_once (subst (λ id. IsUpdate H position id (Make dir name other text)) is.0 u) made.update).0
      go number (Write file bytes) u e = absurd (unversioned position
          (subst (IsVersioned (before position H) (Knows (before position H) number.replica)) (same_Some file object e)
          (may u).allowed.versioned))
      go number (Settle file bytes) u e = absurd (unversioned position
          (subst (IsVersioned (before position H) (Knows (before position H) number.replica)) (same_Some file object e)
          (may u).allowed.versioned))
      go number (Resolve file bytes) u e = absurd (unversioned position
          (subst (IsVersioned (before position H) (Knows (before position H) number.replica)) (same_Some file object e)
          (may u).allowed.versioned))
      go number op u e = absurd (none_is object e)

  -- and a directory has none
  pub no_version : {position : ℕ} → kind ≡ Dir → IsVersion H object position → ⊥
  no_version {position} directory version =
      let at = subst (λ p. IsUpdate H p version.number version.op) (one_version version) version.update in
      let same = update_same at made.update in
      let named : version_of object version.op ≡ Some object =
      subst (λ id. version_of id version.op ≡ Some object) same.0 version.versions in
      let makes : made_file object kind ≡ Some object =
      subst (λ (op : Op). version_of object op ≡ Some object) same.1 named in
      (made_file_is object object kind makes).1 directory

  pub never_in_conflict : IsInConflict H (Knows H replica) object → ⊥
  never_in_conflict conflict =
      one_no_conflict {only = made.position} (λ position shown. one_version shown.version) conflict

  -- who knew of it before an update has its Make in the past of that
  make_in_past : {position : ℕ} {number : Id} {op : Op} {other : Kind} → IsUpdate H position number op →
      IsMade (before position H) (Knows (before position H) number.replica) object other →
      HasInPast H position made.position
  make_in_past {position} {number} u m = record {
    replica = number.replica;
    own = of_at u.at;
    known = subst (Knows (before position H) number.replica) (made_here position m).0 m.known;
  }

  module _ (nameless : HasName H (Knows H replica) object → ⊥) (unseen : HasUnseen H (Knows H replica) object) where
    -- no known update covers it that had heard of its Make
    uncovered : {position : ℕ} → IsCovering H object position → Knows H replica position →
        HasInPast H position made.position → ⊥
    uncovered {position} covering known past = unseen.uncovered.uncovered position covering known
        (subst (HasInPast H position) (sym (one_version unseen.uncovered.version)) past)

    -- a known entry of it
    module _ (entry : ModelEntry) (e : IsEntered H (Knows H replica) entry) (leads : entry.target ≡ object) where
      -- that is among the names which an update removes
      module _ {position : ℕ} {number : Id} {op : Op} (known : Knows H replica position)
          (u : IsUpdate H position number op) {entries : List Id} {target : Id}
          (names : AreNames (before position H) (Knows (before position H) number.replica) entries target)
          (inside : Contains entries entry.id) where
        found_then : (found : ModelEntry) × IsEntered (before position H) (Knows (before position H) number.replica) found ×
            (found.id ≡ entry.id) × (found.target ≡ target)
        found_then =
            let is = (names.all entry.id).0 inside in
            (is.bound.entry, is.bound.live.entered, is.by, is.bound.leads)

        same_entry : found_then.0 ≡ entry
        same_entry = entered_once (entered_within (within_past (of_at u.at) known) found_then.1) e found_then.2

        pub target_is : target ≡ object
        target_is = sym found_then.3 ∙ ap (λ (found : ModelEntry). found.target) same_entry ∙ leads

        pub entered_before : e.position < position
        entered_before =
            let then_at = later position found_then.1.update in
            let again = subst (λ id. IsUpdate H found_then.1.position id found_then.1.op) found_then.2 then_at in
            let same : found_then.1.position ≡ e.position = (update_once again e.update).0 in
            let sooner = (at_from_before position found_then.1.update.at).0 in
            omega arith

        pub known_then : HasInPast H position made.position
        known_then =
            let is = entered_target volume (before position H) (lawful_before volume H position lawful) found_then.1 in
            make_in_past u (subst (λ o. IsMade (before position H) (Knows (before position H) number.replica) o is.0)
            (found_then.3 ∙ target_is) is.1)

      -- a removal of it
      not_removed : ((other : ModelEntry) (f : IsEntered H (Knows H replica) other) → other.target ≡ object →
          e.position < f.position → ⊥) → (position : ℕ) (number : Id) (op : Op) → Knows H replica position →
          IsUpdate H position number op → Contains (removed_by number op) entry.id → ⊥
      not_removed none_later position number (Remove entries target) known u inside =
          let names = (may u).allowed.names in
          uncovered
          (record {
            number = number;
            op = Remove entries target;
            update = u;
            covers = ap Some (target_is known u names inside);
          })
          known (known_then known u names inside)
      not_removed none_later position number (Move entries dir name target) known u inside =
          let names = (may u).allowed.names in
          none_later (entry_of number dir name target)
          (record { position = position; op = Move entries dir name target; known = known; update = u; enters = refl })
          (target_is known u names inside) (entered_before known u names inside)
      not_removed none_later position number (Discard file) known u inside =
          let is = own_number inside in
          let again = subst (λ id. IsUpdate H position id (Discard file)) (sym is) u in
          let same = (update_once e.update again).1 in
          let enters : Some (entry_of entry.id ATTIC (codes "discarded") file) ≡ Some entry =
          subst (λ (op : Op). entered_by entry.id op ≡ Some entry) same e.enters in
          let target : file ≡ entry.target =
          ap (λ (found : ModelEntry). found.target) (same_Some (entry_of entry.id ATTIC (codes "discarded") file) entry enters) in
          let file_is : file ≡ object = target ∙ leads in
          let m = (may u).allowed.is_file in
          uncovered (record { number = number; op = Discard file; update = u; covers = ap Some file_is }) known
          (make_in_past u
          (subst (λ o. IsMade (before position H) (Knows (before position H) number.replica) o m.kind) file_is m.made))
        where
          own_number : {number : Id} → Contains (removed_by number (Discard file)) entry.id → entry.id ≡ number
          own_number {number} inside = elim (here_or_there number entry.id [] inside) [
            | inl is ↦ is
            | inr none ↦ absurd (not_inside_none entry.id none)
          ]
      not_removed none_later position number op known u inside = absurd (not_inside_none entry.id inside)

    -- the last known entry of it would be live
    none_leads : (bound : ℕ) (entry : ModelEntry) (e : IsEntered H (Knows H replica) entry) → entry.target ≡ object →
        length H ≤ e.position + bound → ⊥
    none_leads zero entry e leads room = let within = knows_within e.known in omega arith
    none_leads (suc bound) entry e leads room = nameless (record {
      entry = entry;
      live = record {
        entered = e;
        not_removed = λ r. not_removed entry e leads
            (λ other f led sooner. none_leads bound other f led (omega arith))
            r.position r.number r.op r.known r.update r.removes;
      };
      leads = leads;
    })

    pub no_unseen : ⊥
    no_unseen = none_leads (length H) (entry_of object made.dir made.name object)
        (record {
          position = made.position;
          op = Make made.dir made.name kind made.text;
          known = made.known;
          update = made.update;
          enters = refl;
        })
        refl (omega arith)

  pub never_orphan : kind ≢ Dir → IsOrphan H (Knows H replica) object → ⊥
  never_orphan no_directory orphan = go orphan.kept
    where
      go : IsFilled H (Knows H replica) object ⊎ HasUnseen H (Knows H replica) object → ⊥
      go (inl filled) = no_directory (made_once made filled.made)
      go (inr unseen) = no_unseen orphan.nameless unseen
