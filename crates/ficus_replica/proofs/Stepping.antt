-- The tables that the code makes are what the operation makes of the replica's, and fit.
use Rattle.std.proofs.Common.{◌≡◌, ◌≢◌, Bool, true, false, if◌then◌else◌, ℕ, ◌+◌, ◌≤◌, List, [], ◌∷◌, length, inl, inr, Result, Ok, Err, refl, sym, ap, subst, ◌∙◌, arith}
use Rattle.std.specs.Prelude.{Contains, codes, nat_le}
use Rattle.std.specs.List.{AllByRecursion}
use Rattle.std.proofs.lemmas.Bool.Decides.{leb_tells}
use Rattle.std.proofs.lemmas.Bool.{eqb-true, eq-eqb, false≢true}
use Rattle.std.proofs.lemmas.List.Elements.{All-contains, All-from_recursion, All-weaker}
use Rattle.ficus_ids.specs.ListLaws.{here, here_or_there, not_inside_none}
use Rattle.ficus_ids.specs.Members.{IsMember}
use Rattle.ficus_ids.specs.Name.{IsName, IsNameByte}
use Rattle.ficus_ids.specs.declared.id.Id.{Id}
use Rattle.ficus_ids.specs.declared.id.TheConstants.{ATTIC}
use Rattle.ficus_ids.specs.declared.kind.Kind.{Kind}
use Rattle.ficus_ids.specs.Rising.{Adds}
use Rattle.ficus_vectors.specs.Vector.{count_of}
use Rattle.ficus_entry.specs.Entry.{IsRising, AddsEntry, Holds as HoldsEntry}
use Rattle.ficus_entry.specs.Kill.{AreKilled, IsJustKilled}
use Rattle.ficus_entry.specs.declared.entry.Entry.{Entry}
use Rattle.ficus_entry.specs.declared.entry.State.{State}
use Rattle.ficus_entry.specs.declared.entry.State.TheVariants.{Live, Dead}
use Rattle.ficus_entry.proofs.KilledAll.{killed_none}
use Rattle.ficus_file.specs.File.{MayAdvance, made_file, advanced, covered_file}
use Rattle.ficus_file.specs.Files.{AreFiles, Holds, HoldsFile, IsChanged}
use Rattle.ficus_file.specs.Version.{join_all}
use Rattle.ficus_file.specs.declared.file.FileReplica.{FileReplica}
use Rattle.ficus_model.specs.declared.event.Op.{Op}
use Rattle.ficus_model.specs.declared.event.Op.TheVariants.{Make, Remove, Move, Write, Settle, Resolve, Discard}
use Rattle.ficus_model.specs.Live.{entry_of}
use Rattle.ficus_durable_state.specs.Saved.{FitsImage, IsEntryOfPast, IsFileOfPast}
use Rattle.ficus_durable_state.specs.Laws.{FitsReplica}
use Rattle.ficus_durable_state.specs.Tables.{FitsAttic, FitsFile, FitsState, HasObjectsIn}
use Rattle.ficus_durable_state.specs.declared.saved.Saved.{Saved}
use Rattle.ficus_durable_state.specs.Limits.{update_limit}
use Rattle.ficus_durable_state.proofs.ChangedTables.{made_tables_fit, entered_tables_fit, written_tables_fit, covered_tables_fit, held_changed}
use Rattle.ficus_durable_state.proofs.KilledTables.{killed_tables_fit}
use Rattle.ficus_durable_state.proofs.MergedTables.{objects_in}
use Rattle.ficus_durable_state.proofs.CountFits.{join_all_at_most}
use Rattle.ficus_laws.proofs.AfterUpdate.{enters_none}
use Rattle.ficus_held_laws.specs.Entries.{AreEntriesStepped}
use Rattle.ficus_version_laws.specs.Operations.GivesUp.{ByRemove, ByDiscard}
use Rattle.ficus_held_file_laws.specs.Laws.{Names, Overwrites}
use Rattle.ficus_held_file_laws.specs.Laws.Names.{Links as LinksOnly, Moves, Adopts as AdoptsOnly}
use Rattle.ficus_held_file_laws.proofs.Stepping.{make_steps, write_steps, cover_steps, name_steps}
use Rattle.ficus_deciding.specs.View.{held_as, held_live}
use Rattle.ficus_replica.specs.Effect.{GivesName, IsStepped, attic_place, MayMakeObject, MayLink, MayRemove, MayMove, MayWrite, next_id}
use Rattle.ficus_replica.specs.Effect.GivesName.{Links, Adopts}
use Rattle.ficus_replica.proofs.Tables.{tables_of, entered_none, entered_one, entered_removed}

-- what writes enters no entry and removes none
enters_nothing : (by : ℕ) (number : Id) (entries : List Entry) (op : Op) (file : Id) (bytes : List ℕ) →
    Overwrites op file bytes → AreEntriesStepped by number op entries entries
enters_nothing by number entries (Write f b) file bytes overwrites =
    entered_none by number (Write f b) (killed_none by entries) enters_none
enters_nothing by number entries (Settle f b) file bytes overwrites =
    entered_none by number (Settle f b) (killed_none by entries) enters_none
enters_nothing by number entries (Resolve f b) file bytes overwrites =
    entered_none by number (Resolve f b) (killed_none by entries) enters_none
enters_nothing by number entries op file bytes overwrites = elim overwrites [ ]

-- what gives a name gives no other, and leaves the files
names : {op : Op} {dir target : Id} {name : List ℕ} → GivesName op dir name target → Names op
names Links = LinksOnly
names Adopts = AdoptsOnly

-- and enters one entry, live
entered_by_name : (by : ℕ) (number : Id) {op : Op} {dir target : Id} {name : List ℕ} {entries after : List Entry} →
    GivesName op dir name target → AddsEntry entries after (held_live (entry_of number dir name target)) →
    AreEntriesStepped by number op entries after
entered_by_name by number {op} {dir} {target} {name} {entries} Links adds =
    entered_one by number op (killed_none by entries) (entry_of number dir name target) refl (not_inside_none number) adds
entered_by_name by number {op} {dir} {target} {name} {entries} Adopts adds =
    entered_one by number op (killed_none by entries) (entry_of number dir name target) refl (not_inside_none number) adds

-- what was given is one thing
pub same_ok : {A E : Type 0} (a b : A) →
    (let R : Type 0 = Result A E in let one : R = Ok a in let other : R = Ok b in one ≡ other) → a ≡ b
same_ok {A} {E} a b is = ap (value_or a) is
  where
    value_or : A → Result A E → A
    value_or other (Ok value) = value
    value_or other (Err e) = other

-- entries that fit beside the old files, and files that fit beside the old entries, fit together where what was held is
fit_together : (members me next : ℕ) (entries after : List Entry) (files more : List FileReplica) →
    FitsReplica members me next after files → FitsReplica members me next entries more →
    ((id : Id) → Holds files id → Holds more id) → FitsReplica members me next after more
fit_together members me next entries after files more with_old with_new stays = record {
  tables = record {
    rising = with_old.tables.rising;
    each = with_old.tables.each;
    rising_files = with_new.tables.rising_files;
    each_file = with_new.tables.each_file;
    objects = All-weaker (HasObjectsIn files) (HasObjectsIn more)
        (λ entry has. objects_in files more entry (stays entry.target) (stays entry.dir) has) after
        with_old.tables.objects;
  };
  past = record { each = with_old.past.each; each_file = with_new.past.each_file };
}

-- what a list of one item has is that item
only_one : (one other : Id) → Contains (one ∷ []) other → other ≡ one
only_one one other inside = elim (here_or_there one other [] inside) [
  | inl is ↦ is
  | inr none ↦ absurd (not_inside_none other none)
]

-- what is removed may lie in the attic
removed_in_attic : (by : ℕ) (state : State) → IsJustKilled by state → FitsAttic ATTIC state
removed_in_attic by Live killed = absurd killed
removed_in_attic by (Dead one two) killed = tt

-- no byte is below the digits, as those are that no name has
abbrev are_above_signs : List ℕ → Bool
are_above_signs [] = true
are_above_signs (byte ∷ bytes) = if nat_le 48 byte then are_above_signs bytes else false

are_of_names : (bytes : List ℕ) → are_above_signs bytes ≡ true → AllByRecursion IsNameByte bytes
are_of_names [] above = tt
are_of_names (byte ∷ bytes) above = elim (leb_tells 48 byte) [
  | inl digit ↦ (
    record {
      not_zero = λ is. omega (arith, digit.1);
      not_slash = λ is. omega (arith, digit.1);
      not_number_sign = λ is. omega (arith, digit.1);
    },
    are_of_names bytes (rw digit.0 at above),
  )
  | inr sign ↦ let clash : false ≡ true = rw sign.0 at above in cc
]

-- the name of the attic's entries is one
pub attic_name_is : IsName (codes "discarded")
attic_name_is = record {
  not_empty = omega arith;
  within_limit = omega arith;
  not_here = λ is. omega (arith, ap (λ (bytes : List ℕ). length bytes) is);
  not_above = λ is. omega (arith, ap (λ (bytes : List ℕ). length bytes) is);
  each = All-from_recursion IsNameByte (codes "discarded") (are_of_names (codes "discarded") refl);
}

module _ {saved : Saved} (fits : FitsImage saved) where
  most : saved.me ≤ 8
  most = omega (arith, fits.me.at_most, fits.members.at_most)

  -- nothing has the number of the next update
  next_is_new : Holds saved.files (next_id saved) → ⊥
  next_is_new held =
      let past = All-contains (IsFileOfPast saved.me saved.next) saved.files held.item fits.past.each_file
      held.inside in
      let own : held.item.id.replica ≡ saved.me = ap (λ (id : Id). id.replica) held.has_id in
      let number : held.item.id.number ≡ saved.next = ap (λ (id : Id). id.number) held.has_id in
      omega (arith, past.id own, number)

  -- with a new object and its entry
  pub made_steps : (dir : Id) (name : List ℕ) (kind : Kind) (text : List ℕ) (entries : List Entry)
      (files : List FileReplica) → saved.next ≤ saved.ids → MayMakeObject saved dir kind text → IsName name → IsRising entries →
      AddsEntry saved.entries entries (held_live (entry_of (next_id saved) dir name (next_id saved))) →
      AreFiles files → Adds saved.files files (made_file (next_id saved) kind saved.me text) →
      IsStepped saved (Make dir name kind text) entries files
  made_steps dir name kind text entries files left may is_name rising adds held adds_file = record {
    stepped = record {
      rising = rising;
      stepped = entered_one saved.me (next_id saved) (Make dir name kind text) (killed_none saved.me saved.entries)
          (entry_of (next_id saved) dir name (next_id saved)) refl (not_inside_none (next_id saved)) adds;
      held = held;
      stepped_files = make_steps fits.me.at_least most (next_id saved) dir name kind text saved.files files next_is_new
          adds_file;
    };
    fits = made_tables_fit saved.members saved.me saved.next dir name kind text saved.entries entries saved.files files
        fits.me fits.next_at_least (omega (arith, fits.ids_at_most)) is_name may.fits may.lies.place
        may.lies.no_attic (tables_of fits) rising adds held adds_file;
  }

  -- the files that fit are files
  are_files : AreFiles saved.files
  are_files = record {
    rising = fits.tables.rising_files;
    each = λ file inside.
        let fit = All-contains (FitsFile saved.members) saved.files file fits.tables.each_file inside in
        record {
          well_formed = fit.well_formed;
          not_root = λ is. let zero : file.id.replica ≡ 0 = ap (λ (id : Id). id.replica) is in
              omega (arith, fit.id.replica.at_least);
          not_attic = λ is. let zero : file.id.replica ≡ 0 = ap (λ (id : Id). id.replica) is in
              omega (arith, fit.id.replica.at_least);
        };
  }

  -- with one version of a file in place of all
  pub written_steps : (op : Op) (file : Id) (bytes : List ℕ) (files : List FileReplica) →
      saved.next ≤ saved.ids → MayWrite saved file bytes → Overwrites op file bytes →
      AreFiles files → IsChanged saved.files files file (advanced saved.me bytes) →
      IsStepped saved op saved.entries files
  written_steps op file bytes files left may overwrites held changed = record {
    stepped = record {
      rising = fits.tables.rising;
      stepped = enters_nothing saved.me (next_id saved) saved.entries op file bytes overwrites;
      held = held;
      stepped_files = write_steps fits.me.at_least most (next_id saved) saved.files files are_files overwrites changed;
    };
    fits = written_tables_fit saved.members saved.me saved.next file bytes saved.entries saved.files files fits.me
        fits.next_at_least (omega (arith, fits.ids_at_most)) may.one_file may.held (tables_of fits) held changed;
  }

  -- a file that may be written can count one more update of the replica
  pub may_advance : (file : Id) (bytes : List ℕ) → MayWrite saved file bytes →
      HoldsFile saved.files file (MayAdvance saved.me)
  may_advance file bytes may =
      let found = may.held in
      let past = All-contains (IsFileOfPast saved.me saved.next) saved.files found.file fits.past.each_file
      found.inside in
      let within : count_of (join_all found.file.versions) saved.me ≤ saved.next =
      join_all_at_most found.file.versions saved.me saved.next
      (λ version inside. omega (arith, past.versions version inside)) in
      record {
        file = found.file;
        inside = found.inside;
        has_id = found.has_id;
        fit = record { changes = found.fit; room = omega (arith, fits.next_at_most, fits.ids_at_most) };
      }

  -- no entry has the number of the next update
  entry_is_earlier : (entry : Entry) → Contains saved.entries entry → entry.id ≢ next_id saved
  entry_is_earlier entry inside is =
      let past = All-contains (IsEntryOfPast saved.me saved.next) saved.entries entry fits.past.each inside in
      let own : entry.id.replica ≡ saved.me = ap (λ (id : Id). id.replica) is in
      let number : entry.id.number ≡ saved.next = ap (λ (id : Id). id.number) is in
      omega (arith, past.id own, number)

  pub next_is_free : {left : List Entry} (ids : List Id) → AreKilled saved.entries left ids saved.me →
      HoldsEntry left (next_id saved) → ⊥
  next_is_free ids killed held =
      let found = killed.from held.item held.inside in
      entry_is_earlier found.entry found.inside (sym (ap (λ (e : Entry). e.id) found.is.same) ∙ held.has_id)

  next_not_removed : {ids : List Id} {target : Id} → MayRemove saved ids target → Contains ids (next_id saved) → ⊥
  next_not_removed may inside =
      let live = may.live (next_id saved) inside in
      entry_is_earlier live.entry live.inside live.has_id

  next_in_room : saved.next ≤ saved.ids → saved.next ≤ update_limit
  next_in_room left = omega (arith, fits.ids_at_most)

  -- with one more entry of an object
  pub named_steps : (op : Op) (dir : Id) (name : List ℕ) (target : Id) (entries : List Entry) →
      saved.next ≤ saved.ids → MayLink saved dir target → GivesName op dir name target → IsName name →
      IsRising entries → AddsEntry saved.entries entries (held_live (entry_of (next_id saved) dir name target)) →
      IsStepped saved op entries saved.files
  named_steps op dir name target entries left may gives is_name rising adds = record {
    stepped = record {
      rising = rising;
      stepped = entered_by_name saved.me (next_id saved) gives adds;
      held = are_files;
      stepped_files = name_steps (next_id saved) saved.files (names gives);
    };
    fits = entered_tables_fit saved.members saved.me saved.next dir name target Live saved.entries entries saved.files
        fits.me fits.next_at_least (next_in_room left) is_name may.lies.place tt may.lies.no_attic may.held
        (tables_of fits) rising adds;
  }

  -- with entries removed and what they lead to covered
  pub removed_steps : (ids : List Id) (target : Id) (entries : List Entry) (files : List FileReplica) →
      saved.next ≤ saved.ids → IsRising entries → AreKilled saved.entries entries ids saved.me → AreFiles files →
      IsChanged saved.files files target covered_file → IsStepped saved (Remove ids target) entries files
  removed_steps ids target entries files left rising killed held changed = record {
    stepped = record {
      rising = rising;
      stepped = entered_none saved.me (next_id saved) (Remove ids target) killed enters_none;
      held = held;
      stepped_files = cover_steps (next_id saved) saved.files files are_files ByRemove changed;
    };
    fits = covered_tables_fit saved.members saved.me saved.next target entries saved.files files fits.me
        fits.next_at_least (next_in_room left)
        (killed_tables_fit saved.members saved.me saved.next ids saved.entries entries saved.files fits.me
        (tables_of fits) rising killed) held changed;
  }

  -- with entries removed and one entered in their place
  pub moved_steps : (ids : List Id) (dir : Id) (name : List ℕ) (target : Id) (left entries : List Entry) →
      saved.next ≤ saved.ids → MayMove saved ids dir target → IsName name →
      IsRising left → AreKilled saved.entries left ids saved.me →
      IsRising entries → AddsEntry left entries (held_live (entry_of (next_id saved) dir name target)) →
      IsStepped saved (Move ids dir name target) entries saved.files
  moved_steps ids dir name target left entries room may is_name left_rising killed rising adds = record {
    stepped = record {
      rising = rising;
      stepped = entered_one saved.me (next_id saved) (Move ids dir name target) killed
          (entry_of (next_id saved) dir name target) refl (next_not_removed may.removes) adds;
      held = are_files;
      stepped_files = name_steps (next_id saved) saved.files Moves;
    };
    fits = entered_tables_fit saved.members saved.me saved.next dir name target Live left entries saved.files
        fits.me fits.next_at_least (next_in_room room) is_name may.lies.place tt may.lies.no_attic may.removes.held
        (killed_tables_fit saved.members saved.me saved.next ids saved.entries left saved.files fits.me
        (tables_of fits) left_rising killed) rising adds;
  }

  -- a removal that the replica alone knows of fits
  killed_fits : (state : State) → IsJustKilled saved.me state → FitsState saved.members state
  killed_fits Live killed = absurd killed
  killed_fits (Dead one two) killed = record {
    first = λ peer inside. subst (IsMember saved.members)
        (sym (eqb-true peer saved.me (sym (killed.0 peer) ∙ inside))) fits.me;
    second = λ peer inside. absurd (false≢true (sym (killed.1 peer) ∙ inside));
    somebody = saved.me;
    knows = killed.0 saved.me ∙ eq-eqb saved.me saved.me refl;
  }

  -- with an entry of the attic, removed at once, and the file covered
  pub discarded_steps : (file : Id) (state : State) (entries : List Entry) (files : List FileReplica) →
      saved.next ≤ saved.ids → Holds saved.files file → IsJustKilled saved.me state → IsRising entries →
      AddsEntry saved.entries entries (held_as (attic_place (next_id saved) file) state) → AreFiles files →
      IsChanged saved.files files file covered_file → IsStepped saved (Discard file) entries files
  discarded_steps file state entries files left held killed rising adds are changed = record {
    stepped = record {
      rising = rising;
      stepped = entered_removed saved.me (next_id saved) (Discard file) (attic_place (next_id saved) file) refl
          (here (next_id saved) []) killed
          (λ entry inside removed. entry_is_earlier entry inside (only_one (next_id saved) entry.id removed)) adds;
      held = are;
      stepped_files = cover_steps (next_id saved) saved.files files are_files ByDiscard changed;
    };
    fits = fit_together saved.members saved.me (saved.next + 1) saved.entries entries saved.files files
        (entered_tables_fit saved.members saved.me saved.next ATTIC (codes "discarded") file state saved.entries entries
        saved.files fits.me fits.next_at_least (next_in_room left) attic_name_is (inr (inr refl)) (killed_fits state killed)
        (removed_in_attic saved.me state killed) held (tables_of fits) rising adds)
        (covered_tables_fit saved.members saved.me saved.next file saved.entries saved.files files fits.me
        fits.next_at_least (next_in_room left) (tables_of fits) are changed)
        (held_changed saved.files files file covered_file (λ f. refl) changed);
  }
