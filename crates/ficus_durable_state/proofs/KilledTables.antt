-- What fits tables fits with some of its entries removed by a member.
use Rattle.std.specs.Prelude.{◌≡◌, ◌⊎◌, ℕ, List, Option, Some, None, All, Contains}
use Rattle.std.proofs.Common.{refl, sym, subst, ap, ◌∙◌, inl, inr}
use Rattle.std.proofs.lemmas.Bool.{eqb-true, eq-eqb, false≢true}
use Rattle.std.proofs.lemmas.List.Elements.{All-contains, All-contains_itself, All-weaker}
use Rattle.ficus_ids.specs.Members.{IsMember}
use Rattle.ficus_ids.specs.Rising.{HoldsUnderBy}
use Rattle.ficus_ids.specs.RisingLaws.{held_or_not}
use Rattle.ficus_ids.specs.declared.id.Id.{Id}
use Rattle.ficus_entry.specs.Kill.{AreKilled, IsLeftAs, IsJustKilled}
use Rattle.ficus_entry.specs.declared.entry.Entry.{Entry}
use Rattle.ficus_entry.specs.declared.entry.State.{State}
use Rattle.ficus_entry.specs.declared.entry.State.TheVariants.{Live, Dead}
use Rattle.ficus_file.specs.declared.file.FileReplica.{FileReplica}
use Rattle.ficus_durable_state.specs.Laws.{KilledTablesFit}
use Rattle.ficus_durable_state.specs.Saved.{IsEntryOfPast}
use Rattle.ficus_durable_state.specs.Tables.{FitsEntry, FitsState, FitsAttic, HasObjectsIn}

-- an identifier is one of these or not
among_or_not : (ids : List Id) (id : Id) → Contains ids id ⊎ (Contains ids id → ⊥)
among_or_not ids id = by (held_or_not (λ (i : Id). i) ids id)
  where
    by : (found : Option Id) × HoldsUnderBy (λ (i : Id). i) ids id found → Contains ids id ⊎ (Contains ids id → ⊥)
    by (Some other, held) = inl (subst (Contains ids) held.1 held.0)
    by (None, none) = inr (λ inside. none (record { item = id; inside = inside; has_id = refl }))

module _ (members me next : ℕ) (files : List FileReplica) (member : IsMember members me) where
  -- an entry of tables that fit
  record FitsAsEntry (entry : Entry) : Type 0 where
    tables : FitsEntry members entry
    past : IsEntryOfPast me next entry
    objects : HasObjectsIn files entry

  killed_state : (state : State) → IsJustKilled me state → FitsState members state
  killed_state (Dead one two) killed = record {
    first = λ replica inside.
        let own = eqb-true replica me (sym (killed.0 replica) ∙ inside) in
        subst (IsMember members) (sym own) member;
    second = λ replica inside. absurd (false≢true (sym (killed.1 replica) ∙ inside));
    somebody = me;
    knows = killed.0 me ∙ eq-eqb me me refl;
  }
  killed_state Live killed = absurd killed

  killed_attic : (dir : Id) (state : State) → IsJustKilled me state → FitsAttic dir state
  killed_attic dir (Dead one two) killed = tt
  killed_attic dir Live killed = absurd killed

  with_state : (entry : Entry) (state : State) → FitsAsEntry entry → FitsState members state →
      FitsAttic entry.dir state → FitsAsEntry (record entry { state = state })
  with_state entry state fits state_fits attic = record {
    tables = record {
      id = fits.tables.id;
      dir = fits.tables.dir;
      name = fits.tables.name;
      target = fits.tables.target;
      state = state_fits;
      attic = attic;
    };
    past = record { id = fits.past.id; dir = fits.past.dir; target = fits.past.target };
    objects = record { target = fits.objects.target; dir = fits.objects.dir };
  }

  left_fits : (ids : List Id) (entry after : Entry) → IsLeftAs ids me entry after →
      Contains ids entry.id ⊎ (Contains ids entry.id → ⊥) → FitsAsEntry entry → FitsAsEntry after
  left_fits ids entry after is (inl inside) fits =
      let killed = is.removed inside in
      subst FitsAsEntry (sym is.same)
      (with_state entry after.state fits (killed_state after.state killed) (killed_attic entry.dir after.state killed))
  left_fits ids entry after is (inr outside) fits =
      let same : after ≡ entry = is.same ∙ ap (λ (s : State). let made : Entry = record entry { state = s } in made) (is.left outside) in
      subst FitsAsEntry (sym same) fits

  all_left : (ids : List Id) (entries after : List Entry) → AreKilled entries after ids me →
      ((entry : Entry) → Contains entries entry → FitsAsEntry entry) → All FitsAsEntry after
  all_left ids entries after killed each =
      All-weaker (Contains after) FitsAsEntry (λ left inside.
      let found = killed.from left inside in
      left_fits ids found.entry left found.is (among_or_not ids found.entry.id) (each found.entry found.inside))
      after (All-contains_itself after)

pub killed_tables_fit : KilledTablesFit
killed_tables_fit members me next ids entries after files member fits rising killed =
    let left = all_left members me next files member ids entries after killed (λ entry inside. record {
      tables = All-contains (FitsEntry members) entries entry fits.tables.each inside;
      past = All-contains (IsEntryOfPast me next) entries entry fits.past.each inside;
      objects = All-contains (HasObjectsIn files) entries entry fits.tables.objects inside;
    }) in
    record {
      tables = record {
        rising = rising;
        each = λ k d within. (left k d within).tables;
        rising_files = fits.tables.rising_files;
        each_file = fits.tables.each_file;
        objects = λ k d within. (left k d within).objects;
      };
      past = record { each = λ k d within. (left k d within).past; each_file = fits.past.each_file };
    }
