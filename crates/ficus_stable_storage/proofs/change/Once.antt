-- An operation makes one thing of what a replica saves.
use Rattle.std.proofs.Common.{◌≡◌, ◌≢◌, ◌⊎◌, inl, inr, ℕ, ◌+◌, Bool, true, false, List, [], ◌∷◌, refl, sym, ◌∙◌, ap, ap₂, subst, arith}
use Rattle.std.specs.Prelude.{Contains, IsTrue, length}
use Rattle.std.proofs.lemmas.List.Elements.{All-contains}
use Rattle.ficus_ids.specs.IdLaws.{same_id_or_not}
use Rattle.ficus_ids.specs.ListLaws.{into_map, from_map}
use Rattle.ficus_ids.specs.Marks.{has}
use Rattle.ficus_ids.specs.MarksLaws.{same_marks}
use Rattle.ficus_ids.specs.RisingLaws.{same_items}
use Rattle.ficus_ids.specs.declared.id.Id.{Id}
use Rattle.ficus_ids.specs.declared.kind.Kind.{Kind}
use Rattle.ficus_ids.specs.declared.kind.Kind.TheVariants.{Dir}
use Rattle.ficus_vectors.specs.VectorLaws.{same_vector}
use Rattle.ficus_entry.specs.Entry.{IsRising}
use Rattle.ficus_entry.specs.declared.entry.Entry.{Entry}
use Rattle.ficus_entry.specs.declared.entry.State.{State}
use Rattle.ficus_entry.specs.declared.entry.State.TheVariants.{Live, Dead}
use Rattle.ficus_file.specs.Files.{AreFiles, id_of}
use Rattle.ficus_file.specs.declared.file.FileReplica.{FileReplica}
use Rattle.ficus_file.specs.declared.version.Version.{Version}
use Rattle.ficus_model.specs.declared.event.Op.{Op}
use Rattle.ficus_model.specs.declared.event.Op.TheVariants.{Make, Remove, Write, Settle, Resolve, Discard}
use Rattle.ficus_model.specs.Live.{removed_by}
use Rattle.ficus_model.specs.Versions.{bytes_of}
use Rattle.ficus_durable_state.specs.Saved.{FitsImage, IsFileOfPast}
use Rattle.ficus_durable_state.specs.declared.saved.Saved.{Saved}
use Rattle.ficus_version_laws.specs.Listed.{Item}
use Rattle.ficus_version_laws.specs.Operations.{Writes, GivesUp}
use Rattle.ficus_version_laws.specs.Operations.Writes.{ByMake, ByWrite, BySettle, ByResolve}
use Rattle.ficus_version_laws.specs.Operations.GivesUp.{ByRemove, ByDiscard}
use Rattle.ficus_merge_laws.specs.States.{IsKilled}
use Rattle.ficus_held_laws.specs.Entries.{AreEntriesStepped, IsJustRemoved, IsSteppedTo, place_of}
use Rattle.ficus_held_laws.proofs.Standing.{inside_decided, same_kept}
use Rattle.ficus_held_laws.specs.Objects.{KeptObject, AreObjectsStepped, IsObjectMade, IsObjectStepped, first_versions}
use Rattle.ficus_file_laws.specs.Items.{item_of, items_of}
use Rattle.ficus_held_file_laws.specs.Tables.{object_of, objects_of}
use Rattle.ficus_replica.specs.Effect.{Applied, next_id}

same_truth : (x y : Bool) → (IsTrue x → IsTrue y) → (IsTrue y → IsTrue x) → x ≡ y
same_truth true true into back = refl
same_truth false false into back = refl
same_truth true false into back = sym (into refl)
same_truth false true into back = back refl

-- the marks that a removal leaves
killed_once : (by one two first second : ℕ) → IsKilled by one two → IsKilled by first second
    → (one ≡ first) × (two ≡ second)
killed_once by one two first second a b = (
  same_marks one first (λ r. same_truth (has one r) (has first r) (λ t. (b.first r).1 ((a.first r).0 t))
      (λ t. (a.first r).1 ((b.first r).0 t))),
  same_marks two second (λ r. same_truth (has two r) (has second r) (λ t. absurd (a.second r t))
      (λ t. absurd (b.second r t))),
)

removed_once : (by : ℕ) (a b : State) → IsJustRemoved by a → IsJustRemoved by b → a ≡ b
removed_once by Live b removed again = absurd removed
removed_once by (Dead one two) Live removed again = absurd again
removed_once by (Dead one two) (Dead first second) removed again =
    let same = killed_once by one two first second removed again in
    ap₂ (λ (m n : ℕ). let state : State = Dead m n in state) same.0 same.1

-- an entry becomes one entry
entry_once : (by : ℕ) (removes : List Id) (e a b : Entry) → IsSteppedTo by removes e a → IsSteppedTo by removes e b
    → a ≡ b
entry_once by removes e a b first second =
    let place : place_of a ≡ place_of b = first.same ∙ sym second.same in
    let state : a.state ≡ b.state = elim (inside_decided removes e.id) [
      | inl inside ↦ removed_once by a.state b.state (first.removed inside) (second.removed inside)
      | inr out ↦ first.left out ∙ sym (second.left out)
    ] in
    same_kept place state

entries_into : (by : ℕ) (number : Id) (op : Op) (entries after other : List Entry)
    → AreEntriesStepped by number op entries after → AreEntriesStepped by number op entries other
    → (entry : Entry) → Contains after entry → Contains other entry
entries_into by number op entries after other first second entry inside =
    let from = first.from entry inside in
    let has = second.all from.entry from.from in
    subst (λ (e : Entry). Contains other e)
    (entry_once by (removed_by number op) from.entry has.next entry has.stepped from.stepped) has.inside

pub entries_once : (by : ℕ) (number : Id) (op : Op) (entries after other : List Entry) → IsRising after
    → IsRising other → AreEntriesStepped by number op entries after → AreEntriesStepped by number op entries other
    → after ≡ other
entries_once by number op entries after other rising rising_too first second =
    same_items (λ (e : Entry). e.id) after other rising rising_too (λ entry. (
      entries_into by number op entries after other first second entry,
      entries_into by number op entries other after second first entry,
    ))

-- whether an object is written
made_is : {number dir object : Id} {name text bytes : List ℕ} {kind : Kind} → Writes number (Make dir name kind text) object bytes
    → (object ≡ number) × (kind ≢ Dir)
made_is (ByMake is_file) = (refl, is_file)

write_is : {number file object : Id} {bytes again : List ℕ} → Writes number (Write file bytes) object again → object ≡ file
write_is ByWrite = refl

settle_is : {number file object : Id} {bytes again : List ℕ} → Writes number (Settle file bytes) object again → object ≡ file
settle_is BySettle = refl

resolve_is : {number file object : Id} {bytes again : List ℕ} → Writes number (Resolve file bytes) object again → object ≡ file
resolve_is ByResolve = refl

writes_or_not : (number : Id) (op : Op) (object : Id)
    → ((bytes : List ℕ) × Writes number op object bytes) ⊎ ((bytes : List ℕ) → Writes number op object bytes → ⊥)
writes_or_not number (Make dir name Dir text) object = inr (λ bytes writes. (made_is writes).1 refl)
writes_or_not number (Make dir name kind text) object = elim (same_id_or_not object number) [
  | inl same ↦ inl (text, subst (λ (o : Id). Writes number (Make dir name kind text) o text) (sym same) (ByMake (λ is. cc)))
  | inr differs ↦ inr (λ bytes writes. differs (made_is writes).0)
]
writes_or_not number (Write file bytes) object = elim (same_id_or_not object file) [
  | inl same ↦ inl (bytes, subst (λ (o : Id). Writes number (Write file bytes) o bytes) (sym same) ByWrite)
  | inr differs ↦ inr (λ again writes. differs (write_is writes))
]
writes_or_not number (Settle file bytes) object = elim (same_id_or_not object file) [
  | inl same ↦ inl (bytes, subst (λ (o : Id). Writes number (Settle file bytes) o bytes) (sym same) BySettle)
  | inr differs ↦ inr (λ again writes. differs (settle_is writes))
]
writes_or_not number (Resolve file bytes) object = elim (same_id_or_not object file) [
  | inl same ↦ inl (bytes, subst (λ (o : Id). Writes number (Resolve file bytes) o bytes) (sym same) ByResolve)
  | inr differs ↦ inr (λ again writes. differs (resolve_is writes))
]
writes_or_not number op object = inr (λ bytes writes. elim writes [ ])

remove_is : {entries : List Id} {target object : Id} → GivesUp (Remove entries target) object → object ≡ target
remove_is ByRemove = refl

discard_is : {file object : Id} → GivesUp (Discard file) object → object ≡ file
discard_is ByDiscard = refl

gives_up_or_not : (op : Op) (object : Id) → GivesUp op object ⊎ (GivesUp op object → ⊥)
gives_up_or_not (Remove entries target) object = elim (same_id_or_not object target) [
  | inl same ↦ inl (subst (λ (o : Id). GivesUp (Remove entries target) o) (sym same) ByRemove)
  | inr differs ↦ inr (λ gives. differs (remove_is gives))
]
gives_up_or_not (Discard file) object = elim (same_id_or_not object file) [
  | inl same ↦ inl (subst (λ (o : Id). GivesUp (Discard file) o) (sym same) ByDiscard)
  | inr differs ↦ inr (λ gives. differs (discard_is gives))
]
gives_up_or_not op object = inr (λ gives. elim gives [ ])

-- an object becomes one object
object_once : (by : ℕ) (number : Id) (op : Op) (o a b : KeptObject) → IsObjectStepped by number op o a
    → IsObjectStepped by number op o b → a ≡ b
object_once by number op o a b first second =
    let id : a.id ≡ b.id = first.id ∙ sym second.id in
    let kind : a.kind ≡ b.kind = first.kind ∙ sym second.kind in
    let versions : a.versions ≡ b.versions = elim (writes_or_not number op o.id) [
      | inl writes ↦ first.written writes.0 writes.1 ∙ sym (second.written writes.0 writes.1)
      | inr none ↦ first.unwritten none ∙ sym (second.unwritten none)
    ] in
    let cover : a.cover ≡ b.cover = elim (gives_up_or_not op o.id) [
      | inl gives ↦ first.covered gives ∙ sym (second.covered gives)
      | inr none ↦ first.uncovered none ∙ sym (second.uncovered none)
    ] in
    λ i. record { id = id i; kind = kind i; versions = versions i; cover = cover i }

-- a Make has one kind and one text
make_once : {dir other_dir : Id} {name other_name text other_text : List ℕ} {kind other_kind : Kind}
    → (let one : Op = Make dir name kind text in let other : Op = Make other_dir other_name other_kind other_text in one ≡ other)
    → (kind ≡ other_kind) × (text ≡ other_text)
make_once {dir} {other_dir} {name} {other_name} {text} {other_text} {kind} {other_kind} is =
    let same : Make dir name kind text ≡ Make other_dir other_name other_kind other_text = is in
    let kinds : kind ≡ other_kind = cc in
    let texts : text ≡ other_text = cc in
    (kinds, texts)

made_once : (by : ℕ) (number : Id) (op : Op) (a b : KeptObject) → IsObjectMade by number op a
    → IsObjectMade by number op b → a ≡ b
made_once by number op a b first second =
    let id : a.id ≡ b.id = first.id ∙ sym second.id in
    let makes = make_once (sym first.makes ∙ second.makes) in
    let kind : a.kind ≡ b.kind = makes.0 in
    let versions : a.versions ≡ b.versions =
    first.versions ∙ ap₂ (first_versions by) makes.1 kind ∙ sym second.versions in
    let cover : a.cover ≡ b.cover = first.cover ∙ sym second.cover in
    λ i. record { id = id i; kind = kind i; versions = versions i; cover = cover i }

-- an object that is made isn't one that was held
module _ (by : ℕ) (number : Id) (op : Op) (objects after other : List KeptObject)
    (first : AreObjectsStepped by number op objects after) (second : AreObjectsStepped by number op objects other)
    (fresh : (object : KeptObject) → Contains objects object → object.id ≡ number → ⊥) where
  made_inside : (object : KeptObject) → IsObjectMade by number op object → Contains other object
  made_inside object made =
      let has = second.made made.dir made.name object.kind made.text made.makes in
      elim (second.from has.object has.inside) [
        | inl from ↦ absurd (fresh from.object from.inside (sym from.stepped.id ∙ has.named))
        | inr again ↦ subst (λ (o : KeptObject). Contains other o) (made_once by number op has.object object again made)
            has.inside
      ]

  pub objects_into : (object : KeptObject) → Contains after object → Contains other object
  objects_into object inside =
      elim (first.from object inside) [
        | inl from ↦
            let has = second.kept from.object from.inside in
            subst (λ (o : KeptObject). Contains other o)
            (object_once by number op from.object has.next object has.stepped from.stepped) has.inside
        | inr made ↦ made_inside object made
      ]

-- a file is told by its object
items_once : (one other : List Version) → items_of one ≡ items_of other → one ≡ other
items_once [] [] same = refl
items_once [] (w ∷ ws) same = absurd (cc)
items_once (v ∷ vs) [] same = absurd (cc)
items_once (v ∷ vs) (w ∷ ws) same =
    let first : item_of v ≡ item_of w = cc in
    let rest : items_of vs ≡ items_of ws = cc in
    let vector : v.vector ≡ w.vector =
    same_vector v.vector w.vector (λ r. ap (λ (item : Item). item.vector r) first) in
    let bytes : v.bytes ≡ w.bytes = ap (λ (item : Item). item.bytes) first in
    let version : v ≡ w = λ i. record { vector = vector i; bytes = bytes i } in
    ap₂ (λ (x : Version) (xs : List Version). x ∷ xs) version (items_once vs ws rest)

file_once : (one other : FileReplica) → object_of one ≡ object_of other → one ≡ other
file_once one other same =
    let id : one.id ≡ other.id = ap (λ (o : KeptObject). o.id) same in
    let kind : one.kind ≡ other.kind = ap (λ (o : KeptObject). o.kind) same in
    let versions : one.versions ≡ other.versions =
    items_once one.versions other.versions (ap (λ (o : KeptObject). o.versions) same) in
    let covered : one.covered ≡ other.covered =
    same_vector one.covered other.covered (λ r. ap (λ (o : KeptObject). o.cover r) same) in
    λ i. record { id = id i; kind = kind i; versions = versions i; covered = covered i }

files_into : (by : ℕ) (number : Id) (op : Op) (files after other : List FileReplica)
    → AreObjectsStepped by number op (objects_of files) (objects_of after)
    → AreObjectsStepped by number op (objects_of files) (objects_of other)
    → ((object : KeptObject) → Contains (objects_of files) object → object.id ≡ number → ⊥)
    → (file : FileReplica) → Contains after file → Contains other file
files_into by number op files after other first second fresh file inside =
    let object = objects_into by number op (objects_of files) (objects_of after) (objects_of other) first second fresh
    (object_of file) (into_map object_of after file inside) in
    let found = from_map object_of other (object_of file) object in
    subst (λ (f : FileReplica). Contains other f) (file_once found.0 file found.2) found.1

pub files_once : (by : ℕ) (number : Id) (op : Op) (files after other : List FileReplica) → AreFiles after
    → AreFiles other → AreObjectsStepped by number op (objects_of files) (objects_of after)
    → AreObjectsStepped by number op (objects_of files) (objects_of other)
    → ((object : KeptObject) → Contains (objects_of files) object → object.id ≡ number → ⊥) → after ≡ other
files_once by number op files after other are are_too first second fresh =
    same_items id_of after other are.rising are_too.rising (λ file. (
      files_into by number op files after other first second fresh file,
      files_into by number op files other after second first fresh file,
    ))

-- nothing that is held has the next number
next_is_fresh : (old : Saved) → FitsImage old → (object : KeptObject) → Contains (objects_of old.files) object
    → object.id ≡ next_id old → ⊥
next_is_fresh old fits object inside is =
    let found = from_map object_of old.files object inside in
    let of = All-contains (IsFileOfPast old.me old.next) old.files found.0 fits.past.each_file found.1 in
    let same : found.0.id ≡ next_id old = ap (λ (o : KeptObject). o.id) found.2 ∙ is in
    let mine : found.0.id.replica ≡ old.me = ap (λ (id : Id). id.replica) same in
    let number : found.0.id.number ≡ old.next = ap (λ (id : Id). id.number) same in
    let less = of.id mine in
    omega arith

pub change_once : (old one other : Saved) (op : Op) → FitsImage old → Applied old op one → Applied old op other
    → one ≡ other
change_once old one other op fits first second =
    let entries = entries_once old.me (next_id old) op old.entries first.entries second.entries first.stepped.rising
    second.stepped.rising first.stepped.stepped second.stepped.stepped in
    let files = files_once old.me (next_id old) op old.files first.files second.files first.stepped.held
    second.stepped.held first.stepped.stepped_files second.stepped.stepped_files (next_is_fresh old fits) in
    let with_tables : List Entry → List FileReplica → Saved = λ es fs. record old {
      next = old.next + 1;
      used = old.used + length (bytes_of op);
      generation = old.generation + 1;
      entries = es;
      files = fs;
    } in
    first.saved ∙ ap₂ with_tables entries files ∙ sym second.saved
