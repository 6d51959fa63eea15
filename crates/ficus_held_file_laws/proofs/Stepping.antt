-- What an update makes of the files that its replica holds.
use Rattle.std.proofs.Common.{◌≡◌, ◌≢◌, ◌⊎◌, ℕ, ◌≤◌, List, [], set, refl, sym, ap, ◌∙◌, subst, inl, inr}
use Rattle.std.specs.Prelude.{Contains}
use Rattle.ficus_ids.specs.IdLaws.{same_id_or_not}
use Rattle.ficus_ids.specs.ListLaws.{into_map, from_map}
use Rattle.ficus_ids.specs.RisingLaws.{one_item}
use Rattle.ficus_ids.specs.declared.id.Id.{Id}
use Rattle.ficus_ids.specs.declared.kind.Kind.{Kind}
use Rattle.ficus_ids.specs.declared.kind.Kind.TheVariants.{Dir}
use Rattle.ficus_ids.specs.Rising.{Adds}
use Rattle.ficus_vectors.specs.VectorLaws.{count_of-none}
use Rattle.ficus_file.specs.File.{made_file, first_versions, advanced, covered_file}
use Rattle.ficus_file.specs.Files.{id_of, AreFiles, Holds, IsChanged}
use Rattle.ficus_file.specs.declared.file.FileReplica.{FileReplica}
use Rattle.ficus_model.specs.declared.event.Op.{Op}
use Rattle.ficus_model.specs.declared.event.Op.TheVariants.{Make}
use Rattle.ficus_version_laws.specs.Listed.{advanced as advanced_items}
use Rattle.ficus_version_laws.specs.Operations.{Writes, GivesUp}
use Rattle.ficus_version_laws.specs.Operations.Writes.{ByMake, ByWrite, BySettle, ByResolve}
use Rattle.ficus_version_laws.specs.Operations.GivesUp.{ByRemove, ByDiscard}
use Rattle.ficus_held_laws.specs.Objects.{KeptObject, IsObjectStepped, IsObjectMade, IsFromObject, HasStepped, AreObjectsStepped, first_versions as first_items}
use Rattle.ficus_file_laws.specs.Items.{items_of}
use Rattle.ficus_file_laws.proofs.Counted.{written_counts, covered_counts}
use Rattle.ficus_held_file_laws.specs.Tables.{object_of, objects_of}
use Rattle.ficus_held_file_laws.specs.Laws.{Names, Overwrites}
use Rattle.ficus_held_file_laws.specs.Laws.Names.{Links, Moves, Adopts}
use Rattle.ficus_held_file_laws.specs.Laws.Overwrites.{Writes as Rewrites, Settles, Resolves}
use Rattle.ficus_held_file_laws.proofs.Lists.{old_inside, new_inside, from_set, into_set}

-- an object that an update neither writes nor gives up stays as it is
stays : {by : ℕ} {number : Id} {op : Op} (object : KeptObject) →
    ((bytes : List ℕ) → Writes number op object.id bytes → ⊥) → (GivesUp op object.id → ⊥) →
    IsObjectStepped by number op object object
stays object unwritten uncovered = record {
  id = refl;
  kind = refl;
  written = λ bytes writes. absurd (unwritten bytes writes);
  unwritten = λ none. refl;
  covered = λ gives_up. absurd (uncovered gives_up);
  uncovered = λ none. refl;
}

-- a Make writes its own object alone, and gives none up
made_writes : {number dir object : Id} {name text bytes : List ℕ} {kind : Kind} →
    Writes number (Make dir name kind text) object bytes → object ≡ number
made_writes (ByMake is_file) = refl

made_gives_up : {dir object : Id} {name text : List ℕ} {kind : Kind} → GivesUp (Make dir name kind text) object → ⊥
made_gives_up gives_up = elim gives_up [ ]

module _ {by : ℕ} (one : 1 ≤ by) (most : by ≤ 8) where
  first_counted : (kind : Kind) (text : List ℕ) → items_of (first_versions kind by text) ≡ first_items by text kind
  first_counted Dir text = refl
  first_counted kind text = written_counts by text [] one most

  module _ (number dir : Id) (name : List ℕ) (kind : Kind) (text : List ℕ) (files after : List FileReplica)
      (none : Holds files number → ⊥) (adds : Adds files after (made_file number kind by text)) where
    unwritten : {file : FileReplica} → Contains files file →
        IsObjectStepped by number (Make dir name kind text) (object_of file) (object_of file)
    unwritten {file} inside = stays (object_of file)
        (λ bytes writes. none (record { item = file; inside = inside; has_id = made_writes writes }))
        made_gives_up

    made_listed : Contains (objects_of after) (object_of (made_file number kind by text))
    made_listed = into_map object_of after (made_file number kind by text) ((adds (made_file number kind by text)).1 (inr refl))

    made_object : IsObjectMade by number (Make dir name kind text) (object_of (made_file number kind by text))
    made_object = record {
      dir = dir;
      name = name;
      text = text;
      makes = refl;
      id = refl;
      versions = first_counted kind text;
      cover = λ i replica. count_of-none replica i;
    }

    from_file : (file : FileReplica) → Contains files file ⊎ (file ≡ made_file number kind by text) →
        IsFromObject by number (Make dir name kind text) (objects_of files) (object_of file) ⊎
        IsObjectMade by number (Make dir name kind text) (object_of file)
    from_file file (inl inside) = inl (record {
      object = object_of file;
      inside = into_map object_of files file inside;
      stepped = unwritten inside;
    })
    from_file file (inr is) =
        inr (subst (λ new. IsObjectMade by number (Make dir name kind text) (object_of new)) (sym is) made_object)

    pub make_steps : AreObjectsStepped by number (Make dir name kind text) (objects_of files) (objects_of after)
    make_steps = record {
      from = λ object inside.
          let found = from_map object_of after object inside in
          subst (λ o. IsFromObject by number (Make dir name kind text) (objects_of files) o ⊎
          IsObjectMade by number (Make dir name kind text) o) found.2 (from_file found.0 ((adds found.0).0 found.1));
      kept = λ object inside.
          let found = from_map object_of files object inside in
          subst (λ o. HasStepped by number (Make dir name kind text) o (objects_of after)) found.2 (record {
            next = object_of found.0;
            inside = into_map object_of after found.0 ((adds found.0).1 (inl found.1));
            stepped = unwritten found.1;
          });
      made = λ any_dir any_name any_kind any_text is.
          record { object = object_of (made_file number kind by text); inside = made_listed; named = refl };
    }

-- an operation that overwrites a file writes these bytes to it and nothing else, gives nothing up and makes nothing
overwrites_once : {number file other : Id} {op : Op} {bytes again : List ℕ} → Overwrites op file bytes →
    Writes number op other again → (other ≡ file) × (again ≡ bytes)
overwrites_once Rewrites ByWrite = (refl, refl)
overwrites_once Settles BySettle = (refl, refl)
overwrites_once Resolves ByResolve = (refl, refl)

overwrites_writes : {number file : Id} {op : Op} {bytes : List ℕ} → Overwrites op file bytes →
    Writes number op file bytes
overwrites_writes Rewrites = ByWrite
overwrites_writes Settles = BySettle
overwrites_writes Resolves = ByResolve

overwrites_gives_up : {file other : Id} {op : Op} {bytes : List ℕ} → Overwrites op file bytes → GivesUp op other → ⊥
overwrites_gives_up Rewrites gives_up = elim gives_up [ ]
overwrites_gives_up Settles gives_up = elim gives_up [ ]
overwrites_gives_up Resolves gives_up = elim gives_up [ ]

overwrites_makes : {file dir : Id} {op : Op} {bytes name text : List ℕ} {kind : Kind} → Overwrites op file bytes →
    op ≡ Make dir name kind text → ⊥
overwrites_makes Rewrites is = cc
overwrites_makes Settles is = cc
overwrites_makes Resolves is = cc

-- an update that changes one file, makes nothing, and neither writes nor gives up another
module _ {by : ℕ} {number : Id} {op : Op} {file : Id} (into : FileReplica → FileReplica)
    (files after : List FileReplica) (are : AreFiles files) (change : IsChanged files after file into)
    (keeps_id : (into change.file).id ≡ change.file.id)
    (stepped : IsObjectStepped by number op (object_of change.file) (object_of (into change.file)))
    (others : (object : KeptObject) → object.id ≢ file → IsObjectStepped by number op object object)
    (makes_none : (dir : Id) (name : List ℕ) (kind : Kind) (text : List ℕ) → op ≡ Make dir name kind text → ⊥) where
  -- the file, before and after
  abbrev old : FileReplica
  old = change.file

  abbrev new : FileReplica
  new = into change.file

  -- each other file stays
  left : (other : FileReplica) → other.id ≢ old.id → IsObjectStepped by number op (object_of other) (object_of other)
  left other differs = others (object_of other) (λ is. differs (is ∙ sym change.has_id))

  was_inside : Contains files old
  was_inside = old_inside id_of files are.rising change.index old new change.at

  inside_after : (next : FileReplica) → Contains (set files change.index new) next → Contains after next
  inside_after next inside = subst (λ list. Contains list next) (sym change.is) inside

  is_inside : Contains after new
  is_inside = inside_after new (new_inside id_of files are.rising change.index old new change.at)

  -- a file of the new list is the changed one, or an old one with another identifier
  from_after : (next : FileReplica) → Contains after next →
      (next ≡ new) ⊎ (Contains files next × (next.id ≢ old.id))
  from_after next inside = from_set id_of files are.rising change.index old new change.at next
      (subst (λ list. Contains list next) change.is inside)

  was_file : (next : FileReplica) → (next ≡ new) ⊎ (Contains files next × (next.id ≢ old.id)) →
      IsFromObject by number op (objects_of files) (object_of next)
  was_file next (inl is) = record {
    object = object_of old;
    inside = into_map object_of files old was_inside;
    stepped = subst (λ (f : FileReplica). IsObjectStepped by number op (object_of old) (object_of f)) (sym is)
        stepped;
  }
  was_file next (inr (inside, differs)) = record {
    object = object_of next;
    inside = into_map object_of files next inside;
    stepped = left next differs;
  }

  becomes : (other : FileReplica) → Contains files other → (other.id ≡ old.id) ⊎ (other.id ≢ old.id) →
      HasStepped by number op (object_of other) (objects_of after)
  becomes other inside (inl same) = record {
    next = object_of new;
    inside = into_map object_of after new is_inside;
    stepped = subst (λ (f : FileReplica). IsObjectStepped by number op (object_of f) (object_of new))
        (one_item id_of files old other are.rising was_inside inside (sym same))
        stepped;
  }
  becomes other inside (inr differs) = record {
    next = object_of other;
    inside = into_map object_of after other
        (inside_after other (into_set id_of files are.rising change.index old new change.at other inside differs));
    stepped = left other differs;
  }

  pub change_steps : AreObjectsStepped by number op (objects_of files) (objects_of after)
  change_steps = record {
    from = λ object inside.
        let found = from_map object_of after object inside in
        inl (subst (IsFromObject by number op (objects_of files)) found.2
        (was_file found.0 (from_after found.0 found.1)));
    kept = λ object inside.
        let found = from_map object_of files object inside in
        subst (λ o. HasStepped by number op o (objects_of after)) found.2
        (becomes found.0 found.1 (same_id_or_not found.0.id old.id));
    made = λ dir name kind text is. absurd (makes_none dir name kind text is);
  }

module _ {by : ℕ} (one : 1 ≤ by) (most : by ≤ 8) (number : Id) {op : Op} {file : Id} {bytes : List ℕ}
    (files after : List FileReplica) (are : AreFiles files) (overwrites : Overwrites op file bytes)
    (change : IsChanged files after file (advanced by bytes)) where
  written : IsObjectStepped by number op (object_of change.file) (object_of (advanced by bytes change.file))
  written = record {
    id = refl;
    kind = refl;
    written = λ again writes.
        let same = sym (overwrites_once overwrites writes).1 in
        written_counts by bytes change.file.versions one most
        ∙ ap (λ b. advanced_items by b (items_of change.file.versions)) same;
    unwritten = λ none. absurd (none bytes
        (subst (λ id. Writes number op id bytes) (sym change.has_id) (overwrites_writes overwrites)));
    covered = λ gives_up. absurd (overwrites_gives_up overwrites gives_up);
    uncovered = λ none. refl;
  }

  pub write_steps : AreObjectsStepped by number op (objects_of files) (objects_of after)
  write_steps = change_steps (advanced by bytes) files after are change refl written
      (λ object differs. stays object
      (λ again writes. differs (overwrites_once overwrites writes).0) (overwrites_gives_up overwrites))
      (λ dir name kind text is. overwrites_makes overwrites is)

-- an operation that gives the file up writes nothing and makes nothing
gives_up_once : {op : Op} {file other : Id} → GivesUp op file → GivesUp op other → other ≡ file
gives_up_once ByRemove ByRemove = refl
gives_up_once ByDiscard ByDiscard = refl

gives_up_writes : {number file other : Id} {op : Op} {bytes : List ℕ} → GivesUp op file →
    Writes number op other bytes → ⊥
gives_up_writes ByRemove writes = elim writes [ ]
gives_up_writes ByDiscard writes = elim writes [ ]

gives_up_makes : {file dir : Id} {op : Op} {name text : List ℕ} {kind : Kind} → GivesUp op file →
    op ≡ Make dir name kind text → ⊥
gives_up_makes ByRemove is = cc
gives_up_makes ByDiscard is = cc

module _ {by : ℕ} (number : Id) {op : Op} {file : Id} (files after : List FileReplica) (are : AreFiles files)
    (gives_up : GivesUp op file) (change : IsChanged files after file covered_file) where
  covered : IsObjectStepped by number op (object_of change.file) (object_of (covered_file change.file))
  covered = record {
    id = refl;
    kind = refl;
    written = λ again writes. absurd (gives_up_writes gives_up writes);
    unwritten = λ none. refl;
    covered = λ given. covered_counts change.file;
    uncovered = λ none. absurd (none (subst (GivesUp op) (sym change.has_id) gives_up));
  }

  pub cover_steps : AreObjectsStepped by number op (objects_of files) (objects_of after)
  cover_steps = change_steps covered_file files after are change refl covered
      (λ object differs. stays object (λ again writes. gives_up_writes gives_up writes)
      (λ given. differs (gives_up_once gives_up given)))
      (λ dir name kind text is. gives_up_makes gives_up is)

-- an operation that gives an object one more name writes nothing, gives nothing up and makes nothing
names_writes : {number file : Id} {op : Op} {bytes : List ℕ} → Names op → Writes number op file bytes → ⊥
names_writes Links writes = elim writes [ ]
names_writes Moves writes = elim writes [ ]
names_writes Adopts writes = elim writes [ ]

names_gives_up : {file : Id} {op : Op} → Names op → GivesUp op file → ⊥
names_gives_up Links gives_up = elim gives_up [ ]
names_gives_up Moves gives_up = elim gives_up [ ]
names_gives_up Adopts gives_up = elim gives_up [ ]

names_makes : {dir : Id} {op : Op} {name text : List ℕ} {kind : Kind} → Names op →
    op ≡ Make dir name kind text → ⊥
names_makes Links is = cc
names_makes Moves is = cc
names_makes Adopts is = cc

pub name_steps : {by : ℕ} (number : Id) {op : Op} (files : List FileReplica) → Names op →
    AreObjectsStepped by number op (objects_of files) (objects_of files)
name_steps {by} number {op} files names = record {
  from = λ object inside. inl (record { object = object; inside = inside; stepped = unchanged object });
  kept = λ object inside. record { next = object; inside = inside; stepped = unchanged object };
  made = λ dir name kind text is. absurd (names_makes names is);
}
  where
    unchanged : (object : KeptObject) → IsObjectStepped by number op object object
    unchanged object = stays object (λ bytes writes. names_writes names writes) (names_gives_up names)
