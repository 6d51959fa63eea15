-- An operation that fits the tables as a record can be done, and has a spelling.
use Rattle.std.proofs.Common.{◌≡◌, ◌≢◌, ◌↔◌, Some, inl, inr, ◌<◌, ◌^◌, List, [], ◌∷◌, length, refl, sym, ◌∙◌, ap, subst, arith}
use Rattle.std.specs.Prelude.{Contains}
use Rattle.std.proofs.lemmas.List.Elements.{All-contains, All-contains_itself, All-weaker, recursion_from_All}
use Rattle.ficus_ids.specs.Kind.{FitsKind}
use Rattle.ficus_ids.specs.ListLaws.{here}
use Rattle.ficus_ids.specs.Rising.{HoldsBy, HoldsUnderBy, IsRisingBy}
use Rattle.ficus_ids.specs.RisingLaws.{one_item}
use Rattle.ficus_ids.specs.declared.id.Id.{Id}
use Rattle.ficus_ids.specs.declared.id.TheConstants.{ATTIC}
use Rattle.ficus_entry.specs.declared.entry.Entry.{Entry}
use Rattle.ficus_entry.specs.Entry.{IsRising}
use Rattle.ficus_entry.specs.declared.entry.State.TheVariants.{Live}
use Rattle.ficus_file.specs.Files.{AreFiles, Holds, HoldsFile, HoldsUnder, id_of}
use Rattle.ficus_file.specs.declared.file.FileReplica.{FileReplica}
use Rattle.ficus_formats.specs.Format.{id as id_format}
use Rattle.ficus_model.specs.declared.event.Op.{Op}
use Rattle.ficus_model.specs.declared.event.Op.TheVariants.{Make, Link, Remove, Move, Write, Settle, Resolve, Adopt, Discard}
use Rattle.ficus_record.specs.Record.{FitsOp, ids}
use Rattle.ficus_record.proofs.Making.{fitting_kind, making_fits}
use Rattle.ficus_durable_state.specs.Saved.{FitsImage}
use Rattle.ficus_durable_state.specs.Tables.{FitsEntry, FitsFile, HasObjectsIn, IsIssuable}
use Rattle.ficus_durable_state.specs.declared.saved.Saved.{Saved}
use Rattle.ficus_durable_state.proofs.Countable.{tables_countable}
use Rattle.ficus_replica.specs.Effect.{HasName, IsPossible, IsReady, MayMake, MayRemove}
use Rattle.ficus_replica.specs.Makes.{AreNames, FitsOpIn, FitsUpdate, IsNameOf, IsPlace}
use Rattle.ficus_replica.proofs.Counting.{no_more_ids}

-- what the operation lists rises, and what it makes may have its text
abbrev pub HasForm : Op → Type 0
HasForm (Make dir called kind text) = FitsKind kind text
HasForm (Link dir called target) = Unit {0}
HasForm (Remove entries target) = IsRisingBy (λ (id : Id). id) entries
HasForm (Move entries dir called target) = IsRisingBy (λ (id : Id). id) entries
HasForm (Write file bytes) = Unit {0}
HasForm (Settle file bytes) = Unit {0}
HasForm (Resolve file bytes) = Unit {0}
HasForm (Adopt file dir called) = Unit {0}
HasForm (Discard file) = Unit {0}

-- so it is with what has a spelling
pub spelled_form : (op : Op) → FitsOp op → HasForm op
spelled_form (Make dir called kind text) spelled = fitting_kind dir called kind text spelled
spelled_form (Remove entries target) spelled = spelled.1.1
spelled_form (Move entries dir called target) spelled = spelled.1.1.1.1
spelled_form op spelled = tt

held_as_any : {fit : FileReplica → Type 0} (files : List FileReplica) (id : Id) → HoldsFile files id fit → Holds files id
held_as_any files id has = record { item = has.file; inside = has.inside; has_id = has.has_id }

module _ {old : Saved} (fits : FitsImage old) where
  -- the objects that are held have identifiers that some member may have issued
  held_issuable : (id : Id) → Holds old.files id → IsIssuable old.members id
  held_issuable id held =
      subst (IsIssuable old.members) held.has_id
      (All-contains (FitsFile old.members) old.files held.item fits.tables.each_file held.inside).id

  no_attic : {id : Id} → Holds old.files id → id ≢ ATTIC
  no_attic {id} held is =
      omega (arith, (held_issuable id held).replica.at_least, ap (λ (i : Id). i.replica) is)

  -- a new entry may lie in a place
  place_makes : {dir : Id} → IsPlace old dir → MayMake old dir
  place_makes {dir} (inl root) = record {
    place = inr (inl root);
    no_attic = λ attic. omega (arith, ap (λ (id : Id). id.number) (sym root ∙ attic));
  }
  place_makes {dir} (inr has) =
      let held = held_as_any old.files dir has in
      record { place = inl held; no_attic = no_attic held }

  -- what an entry leads to is held
  pub held_target : (entry : Entry) → Contains old.entries entry → Holds old.files entry.target
  held_target entry inside =
      (All-contains (HasObjectsIn old.files) old.entries entry fits.tables.objects inside).target

  names_target : (entries : List Id) (target : Id) → AreNames old entries target → Holds old.files target
  names_target [] target names = absurd (names.some refl)
  names_target (id ∷ entries) target names =
      let name = names.each id (here id entries) in
      subst (Holds old.files) name.leads (held_target name.entry name.inside)

  names_removed : (entries : List Id) (target : Id) → IsRisingBy (λ (id : Id). id) entries
      → AreNames old entries target → MayRemove old entries target
  names_removed entries target rising names = record {
    live = λ id inside.
        let name = names.each id inside in
        record { entry = name.entry; inside = name.inside; has_id = name.has_id; live = name.live };
    rising = rising;
    held = names_target entries target names;
  }

  possible : (op : Op) → HasForm op → FitsOpIn old op → IsPossible old op
  possible (Make dir called kind text) form fit =
      record { lies = place_makes fit.place; fits = form; left = fit.left }
  possible (Link dir called target) form fit =
      record { lies = place_makes fit.0; held = held_as_any old.files target fit.1 }
  possible (Remove entries target) form fit = names_removed entries target form fit
  possible (Move entries dir called target) form fit =
      record { removes = names_removed entries target form fit.0; lies = place_makes fit.1 }
  possible (Adopt file dir called) form fit = record { lies = place_makes fit.0; held = fit.1 }
  possible (Discard file) form fit = held_as_any old.files file fit
  possible op form fit = fit

  -- what fits is ready to be done
  pub update_ready : (op : Op) → HasForm op → FitsUpdate old op → IsReady old op
  update_ready op form update = record { left = update.left; possible = possible op form update.fits }

  -- the numbers of identifiers take four bytes at most
  held_short : (id : Id) → Holds old.files id → id_format.fits id
  held_short id held = (tt, omega (arith, (held_issuable id held).at_most))

  place_short : (dir : Id) → IsPlace old dir → id_format.fits dir
  place_short dir (inl root) = (tt, omega (arith, ap (λ (id : Id). id.number) root))
  place_short dir (inr has) = held_short dir (held_as_any old.files dir has)

  name_short : (entries : List Id) (target id : Id) → AreNames old entries target → Contains entries id
      → id_format.fits id
  name_short entries target id names inside =
      let name = names.each id inside in
      let issuable = (All-contains (FitsEntry old.members) old.entries name.entry fits.tables.each name.inside).id in
      (tt, omega (arith, issuable.at_most, ap (λ (i : Id). i.number) name.has_id))

  -- and so does the count of entries that are held
  names_few : (entries : List Id) (target : Id) → IsRisingBy (λ (id : Id). id) entries → AreNames old entries target
      → length entries < 2 ^ 32
  names_few entries target rising names =
      let held : (id : Id) → Contains entries id → HoldsBy (λ (entry : Entry). entry.id) old.entries id =
      λ id inside.
      let name = names.each id inside in
      record { item = name.entry; inside = name.inside; has_id = name.has_id } in
      let few = tables_countable old.members old.entries old.files fits.members fits.tables in
      omega (
        arith,
        few.few_entries,
        no_more_ids (λ (entry : Entry). entry.id) old.entries entries fits.tables.rising rising held,
      )

  names_spelled : (entries : List Id) (target : Id) → IsRisingBy (λ (id : Id). id) entries
      → AreNames old entries target → ids.fits entries
  names_spelled entries target rising names = (
    (
      names_few entries target rising names,
      recursion_from_All id_format.fits entries
          (All-weaker (Contains entries) id_format.fits (λ id inside. name_short entries target id names inside) entries
          (All-contains_itself entries)),
    ),
    rising,
  )

  -- what fits has a spelling, where the name that it gives is one
  pub op_spelled : (op : Op) → HasName op → HasForm op → FitsOpIn old op → FitsOp op
  op_spelled (Make dir called kind text) name form fit = making_fits dir called kind text (place_short dir fit.place) name form
  op_spelled (Link dir called target) name form fit =
      (place_short dir fit.0, (name, held_short target (held_as_any old.files target fit.1)))
  op_spelled (Remove entries target) name form fit =
      (held_short target (names_target entries target fit), names_spelled entries target form fit)
  op_spelled (Move entries dir called target) name form fit = (
    held_short target (names_target entries target fit.0),
    (place_short dir fit.1, (name, names_spelled entries target form fit.0)),
  )
  op_spelled (Write file bytes) name form fit =
      (held_short file (held_as_any old.files file fit.held), omega (arith, fit.one_file))
  op_spelled (Settle file bytes) name form fit =
      (held_short file (held_as_any old.files file fit.held), omega (arith, fit.one_file))
  op_spelled (Resolve file bytes) name form fit =
      (held_short file (held_as_any old.files file fit.held), omega (arith, fit.one_file))
  op_spelled (Adopt file dir called) name form fit = (held_short file fit.1, (place_short dir fit.0, name))
  op_spelled (Discard file) name form fit = held_short file (held_as_any old.files file fit)

-- the file that is held under an identifier tells of all that is held under it
pub file_told : {fit : FileReplica → Type 0} (files : List FileReplica) (id : Id) (file : FileReplica) → AreFiles files
    → HoldsUnder files id (Some file) → HoldsFile files id fit ↔ fit file
file_told {fit} files id file are found = (
  λ has. subst fit
      (one_item id_of files has.file file are.rising has.inside found.0 (has.has_id ∙ sym found.1)) has.fit,
  λ so. record { file = file; inside = found.0; has_id = found.1; fit = so },
)

-- and so does the entry
pub name_told : (old : Saved) (target id : Id) (entry : Entry) → IsRising old.entries
    → HoldsUnderBy (λ (e : Entry). e.id) old.entries id (Some entry)
    → IsNameOf old target id ↔ ((entry.state ≡ Live) × (entry.target ≡ target))
name_told old target id entry rising found = (
  λ name.
      let same = one_item (λ (e : Entry). e.id) old.entries name.entry entry rising name.inside found.0
      (name.has_id ∙ sym found.1) in (
        subst (λ (e : Entry). e.state ≡ Live) same name.live,
        subst (λ (e : Entry). e.target ≡ target) same name.leads,
      ),
  λ so. record { entry = entry; inside = found.0; has_id = found.1; live = so.0; leads = so.1 },
)
