-- What the index notes through removals, and once they are folded in.
use Rattle.std.proofs.Common.{◌≡◌, ◌⊎◌, ◌↔◌, ℕ, ◌+◌, ◌<◌, false, List, [], ◌∷◌, length, get_or, set, drop, Some, slice_get, ◌∙◌, refl, sym, ap, subst, arith, inl, inr}
use Rattle.std.specs.Prelude.{AllPairs, Contains}
use Rattle.std.specs.List.{insert}
use Rattle.std.proofs.lemmas.Bool.{cases_eq}
use Rattle.std.proofs.lemmas.List.{ext_get_or, length-set, get_or-set_same, get_or-set_other, get_or-drop, length-drop}
use Rattle.std.proofs.lemmas.Option.{get_or_from_slice_get, slice_get_within}
use Rattle.ficus_ids.specs.ListLaws.{here, there, here_or_there, not_inside_none}
use Rattle.ficus_ids.specs.RisingLaws.{same_items, set_puts, insert_puts, IsRisingBy-set, IsRisingBy-insert}
use Rattle.ficus_ids.specs.Rising.{IsFoundAtBy, IsPlaceBy}
use Rattle.ficus_index.specs.declared.place.Note.{Note}
use Rattle.ficus_index.specs.Place.{TakesOne, AddsRow}
use Rattle.ficus_index.specs.NoteLaws.{notes_set, notes_with}
use Rattle.ficus_entry.specs.declared.entry.Entry.{Entry}
use Rattle.ficus_entry.specs.declared.entry.State.{State}
use Rattle.ficus_entry.specs.declared.entry.State.TheVariants.{Live}
use Rattle.ficus_entry.specs.Entry.{IsRising, PutsEntry}
use Rattle.ficus_entry.specs.Kill.{is_live}
use Rattle.ficus_entry.specs.Place.{note_of, alive, AreNoted, IsNotedAs, AreNotedBut, ReplacesNote}

dead_not_live : (entry : Entry) → is_live entry ≡ false → entry.state ≡ Live → ⊥
dead_not_live entry dead live = let passes : is_live entry ≡ is_live (record entry { state = Live }) =
    ap (λ (s : State). is_live (record entry { state = s })) live in cc (passes, dead)

-- entries that are noted as they are
pub noted_whole : (entries : List Entry) (notes : List Note) → AreNoted entries notes → AreNotedBut entries [] notes
noted_whole entries notes noted = record {
  before = entries;
  noted = noted;
  lengths = refl;
  within = λ index inside. absurd (not_inside_none index inside);
  each = λ index d _. record {
    dead = λ inside. absurd (not_inside_none index inside);
    earlier = λ inside. absurd (not_inside_none index inside);
    same = λ _. refl;
  };
}

pub whole_noted : (entries : List Entry) (notes : List Note) → AreNotedBut entries [] notes → AreNoted entries notes
whole_noted [] notes noted = by noted.before noted.lengths noted.noted
  where
    by : (before : List Entry) → length before ≡ 0 → AreNoted before notes → AreNoted [] notes
    by [] none is = is
    by (_ ∷ _) some is = absurd (omega (arith, some))
whole_noted (entry ∷ rest) notes noted =
    subst (λ (l : List Entry). AreNoted l notes)
    (ext_get_or entry noted.before (entry ∷ rest) noted.lengths
    (λ i within. (noted.each i entry (rw (← noted.lengths) within)).same (not_inside_none i)))
    noted.noted

module _ (entries : List Entry) (edited : List ℕ) (notes : List Note) (noted : AreNotedBut entries edited notes) where
  not_edited : (index : ℕ) (entry : Entry) → index < length entries → get_or entries index entry ≡ entry →
      entry.state ≡ Live → Contains edited index → ⊥
  not_edited index entry within is live inside =
      dead_not_live entry (rw is at ((noted.each index entry within).dead inside)) live

  was_same : (index : ℕ) (entry : Entry) → index < length entries → get_or entries index entry ≡ entry →
      entry.state ≡ Live → get_or noted.before index entry ≡ entry
  was_same index entry within is live =
      (noted.each index entry within).same (not_edited index entry within is live) ∙ is

  -- an edited entry is one of the entries
  pub edit_within : (place index : ℕ) → slice_get edited place ≡ Some index → index < length entries
  edit_within place index at =
      noted.within index
      (place, slice_get_within edited place index at, get_or_from_slice_get edited place index index at)

  -- a live entry is noted as itself
  pub live_noted : (entry : Entry) → Contains entries entry → entry.state ≡ Live → Contains noted.before entry
  live_noted entry (k, within, is) live = (k, rw noted.lengths within, was_same k entry within is live)

  -- a live entry that becomes dead is noted as while it lived
  pub noted_edited : (more : List ℕ) (index : ℕ) (was dead : Entry) → slice_get entries index ≡ Some was →
      was.state ≡ Live → is_live dead ≡ false → was ≡ alive dead →
      ((other : ℕ) → Contains more other ↔ (Contains edited other ⊎ (other ≡ index))) →
      AreNotedBut (set entries index dead) more notes
  noted_edited more index was dead at live is_dead is_alive edits =
      let inside : index < length entries = slice_get_within entries index was at in
      record {
        before = noted.before;
        noted = noted.noted;
        lengths = noted.lengths ∙ sym (length-set entries index dead);
        within = λ k held. rw (length-set entries index dead) (elim ((edits k).0 held) [
          | inl earlier ↦ noted.within k earlier
          | inr is ↦ rw is inside
        ]);
        each = λ k d within. elim (cases_eq k index) [
          | inl is ↦ rw (is, get_or-set_same entries index dead d inside) (edited_here d inside)
          | inr elsewhere ↦ rw (get_or-set_other entries index k dead d elsewhere)
              (edited_elsewhere k d (rw (length-set entries index dead) at within) elsewhere)
        ];
      }
    where
      edited_here : (d : Entry) → index < length entries → IsNotedAs more index dead (get_or noted.before index d)
      edited_here d inside =
          let stands : get_or entries index d ≡ was = get_or_from_slice_get entries index was d at in
          let itself : get_or entries index was ≡ was = get_or_from_slice_get entries index was was at in
          record {
            dead = λ _. is_dead;
            earlier = λ _. (noted.each index d inside).same (not_edited index was inside itself live) ∙ stands ∙ is_alive;
            same = λ missing. absurd (missing ((edits index).1 (inr refl)));
          }

      edited_elsewhere : (k : ℕ) (d : Entry) → k < length entries → (k ≡ index → ⊥) →
          IsNotedAs more k (get_or entries k d) (get_or noted.before k d)
      edited_elsewhere k d within elsewhere =
          let how = noted.each k d within in
          let back : Contains more k → Contains edited k = λ held. elim ((edits k).0 held) [
            | inl earlier ↦ earlier
            | inr is ↦ absurd (elsewhere is)
          ] in
          record {
            dead = λ held. how.dead (back held);
            earlier = λ held. how.earlier (back held);
            same = λ missing. how.same (λ held. missing ((edits k).1 (inl held)));
          }

-- once an edited entry is noted as it is, fewer edits are left
pub noted_folded : (entries : List Entry) (index : ℕ) (later : List ℕ) (notes more : List Note) (entry : Entry) →
    AreNotedBut entries (index ∷ later) notes → (Contains later index → ⊥) → slice_get entries index ≡ Some entry →
    TakesOne notes (note_of entry) more → AreNotedBut entries later more
noted_folded entries index later notes more entry noted once at taken =
    let inside : index < length entries = slice_get_within entries index entry at in
    let stands : index < length noted.before = rw noted.lengths inside in
    let was : get_or noted.before index (alive entry) ≡ alive entry =
    (noted.each index (alive entry) inside).earlier (here index later)
    ∙ ap alive (get_or_from_slice_get entries index entry (alive entry) at) in
    let dead : is_live entry ≡ false =
    subst (λ (e : Entry). is_live e ≡ false) (get_or_from_slice_get entries index entry entry at)
    ((noted.each index entry inside).dead (here index later)) in
    record {
      before = set noted.before index entry;
      noted = notes_set is_live note_of noted.before index (alive entry) notes more stands was taken entry more
          noted.noted (rw dead refl);
      lengths = length-set noted.before index entry ∙ noted.lengths;
      within = λ k held. noted.within k (there index k later held);
      each = λ k d within. elim (cases_eq k index) [
        | inl same ↦ rw (
          same,
          get_or-set_same noted.before index entry d stands,
          get_or_from_slice_get entries index entry d at,
        ) (record {
          dead = λ held. absurd (once held);
          earlier = λ held. absurd (once held);
          same = λ _. refl;
        })
        | inr elsewhere ↦ rw (get_or-set_other noted.before index k entry d elsewhere)
            (let how = noted.each k d within in record {
              dead = λ held. how.dead (there index k later held);
              earlier = λ held. how.earlier (there index k later held);
              same = λ missing. how.same (λ held. elim (here_or_there index k later held) [
                | inl is_it ↦ elsewhere is_it
                | inr behind ↦ missing behind
              ]);
            })
      ];
    }

-- of different numbers none comes again
pub none_again : (numbers : List ℕ) (n number : ℕ) → AllPairs (λ one other. one ≡ other → ⊥) numbers →
    n < length numbers → get_or numbers n number ≡ number → Contains (drop (n + 1) numbers) number → ⊥
none_again numbers n number once within is (k, inside, again) =
    let there_too : n + 1 + k < length numbers = omega (arith, inside, length-drop (n + 1) numbers) in
    once n (n + 1 + k) number (omega arith) there_too
    (is ∙ sym again ∙ get_or-drop (n + 1) numbers k number)

-- the notes with that of an entry in place of the one with its identifier
pub noted_put : (entries more : List Entry) (index : ℕ) (old entry : Entry) (notes noted : List Note) →
    IsRising entries → AreNoted entries notes → IsFoundAtBy (λ (e : Entry). e.id) entries entry.id index →
    slice_get entries index ≡ Some old → ReplacesNote notes old entry noted → IsRising more →
    PutsEntry entries more entry → AreNoted more noted
noted_put entries more index old entry notes noted rising are found at is rises puts =
    let id_of : Entry → _ = λ e. e.id in
    let same : set entries index entry ≡ more =
    same_items (λ (e : Entry). e.id) (set entries index entry) more
    (IsRisingBy-set (λ (e : Entry). e.id) entries entry index rising found) rises
    (λ other. let one = set_puts (λ (e : Entry). e.id) entries entry index rising found other in
    (λ inside. (puts other).1 (one.0 inside), λ inside. one.1 ((puts other).0 inside))) in
    subst (λ (l : List Entry). AreNoted l noted) same
    (notes_set is_live note_of entries index old notes is.others found.0
    (get_or_from_slice_get entries index old old at) is.taken entry noted are is.added)

-- the notes with that of an entry whose identifier none has
pub noted_insert : (entries more : List Entry) (index : ℕ) (entry : Entry) (notes noted : List Note) →
    IsRising entries → AreNoted entries notes → IsPlaceBy (λ (e : Entry). e.id) entries entry.id index →
    AddsRow is_live note_of notes entry noted → IsRising more → PutsEntry entries more entry → AreNoted more noted
noted_insert entries more index entry notes noted rising are place is rises puts =
    let same : insert entries index entry ≡ more =
    same_items (λ (e : Entry). e.id) (insert entries index entry) more
    (IsRisingBy-insert (λ (e : Entry). e.id) entries entry index rising place) rises
    (λ other. let one = insert_puts (λ (e : Entry). e.id) entries entry index place other in
    (λ inside. (puts other).1 (one.0 inside), λ inside. one.1 ((puts other).0 inside))) in
    subst (λ (l : List Entry). AreNoted l noted) same
    (notes_with is_live note_of entries index entry notes noted are is)
