-- What stays where the entries and files leave that a collection gives up.
use Rattle.std.proofs.Common.{◌≡◌, ◌⊎◌, ◌↔◌, ◌∙◌, ℕ, List, Option, Some, None, length, refl, sym, ap, subst, arith, inl, inr}
use Rattle.std.specs.Prelude.{Contains}
use Rattle.ficus_ids.specs.declared.id.Id.{Id}
use Rattle.ficus_ids.specs.Rising.{HoldsBy, HoldsUnderBy, LeavesOutBy}
use Rattle.ficus_ids.specs.RisingLaws.{held_or_not, one_item, same_items}
use Rattle.ficus_entry.specs.Entry.{IsRising}
use Rattle.ficus_entry.specs.Kill.{NoneIsLive}
use Rattle.ficus_entry.specs.declared.entry.Entry.{Entry}
use Rattle.ficus_entry.specs.declared.entry.State.{State}
use Rattle.ficus_entry.specs.declared.entry.State.TheVariants.{Live, Dead}
use Rattle.ficus_file.specs.Files.{id_of, Holds}
use Rattle.ficus_file.specs.declared.file.FileReplica.{FileReplica}
use Rattle.ficus_file.specs.declared.orphan.Orphan.{Orphan}
use Rattle.ficus_mentions.specs.Touched.{touched_by}
use Rattle.ficus_collection.specs.Chosen.{AreOfKnown, HoldsOrphan, IsUnneeded, AreUnneeded}
use Rattle.ficus_collection.specs.Reclaim.{IsFullyKnown, AreUndropped, AreFilesLeft, IsReclaimed}
use Rattle.ficus_collection.specs.declared.reclaiming.Reclaimed.{Reclaimed}

-- a fully known entry of the list has the identifier
pub record HoldsKnown (members : ℕ) (entries : List Entry) (id : Id) : Type 0 where
  pub entry : Entry
  pub inside : Contains entries entry
  pub has_id : entry.id ≡ id
  pub known : IsFullyKnown members entry.state

module _ (members : ℕ) (entries : List Entry) where
  pub not_known : IsRising entries → (entry : Entry) → Contains entries entry →
      (IsFullyKnown members entry.state → ⊥) → HoldsKnown members entries entry.id → ⊥
  not_known rising entry inside unknown held =
      unknown (subst (λ (e : Entry). IsFullyKnown members e.state)
      (one_item (λ (e : Entry). e.id) entries held.entry entry rising held.inside inside held.has_id) held.known)

  pub of_known : IsRising entries → (ids : List Id) →
      ((id : Id) → Contains ids id ↔ (HoldsBy (λ (e : Entry). e.id) entries id × HoldsKnown members entries id)) →
      AreOfKnown members entries ids
  of_known rising ids are entry inside = (
    λ named.
        let held = ((are entry.id).0 named).1 in
        subst (λ (e : Entry). IsFullyKnown members e.state)
        (one_item (λ (e : Entry). e.id) entries held.entry entry rising held.inside inside held.has_id) held.known,
    λ known. (are entry.id).1 (
      record { item = entry; inside = inside; has_id = refl },
      record { entry = entry; inside = inside; has_id = refl; known = known },
    ),
  )

  live_not_known : (state : State) → state ≡ Live → IsFullyKnown members state → ⊥
  live_not_known Live is known = known
  live_not_known (Dead one two) is known = cc

  module _ (ids : List Id) (of_them : AreOfKnown members entries ids) where
    pub none_is_live : NoneIsLive entries ids
    none_is_live id named held =
        live_not_known held.entry.state held.live
        ((of_them held.entry held.inside).0 (subst (Contains ids) (sym held.has_id) named))

    pub undropped : (after : List Entry) → LeavesOutBy (λ (e : Entry). e.id) entries ids after →
        AreUndropped members entries after
    undropped after left entry = (
      λ inside.
          let was = (left entry).0 inside in
          (was.0, λ known. was.1 ((of_them entry was.0).1 known)),
      λ kept. (left entry).1 (kept.0, λ named. kept.1 ((of_them entry kept.0).0 named)),
    )

module _ (entries : List Entry) (files : List FileReplica) (orphans : List Orphan) where
  -- an object is needed or not
  needed : (id : Id) → (IsUnneeded entries orphans id → ⊥) →
      Contains (touched_by entries) id ⊎ HoldsOrphan orphans id
  needed id is =
      by (held_or_not (λ (i : Id). i) (touched_by entries) id) (held_or_not (λ (o : Orphan). o.id) orphans id)
    where
      by : (found : Option Id) × HoldsUnderBy (λ (i : Id). i) (touched_by entries) id found →
          (orphan : Option Orphan) × HoldsUnderBy (λ (o : Orphan). o.id) orphans id orphan →
          Contains (touched_by entries) id ⊎ HoldsOrphan orphans id
      by (Some one, held) orphan = inl (subst (Contains (touched_by entries)) held.1 held.0)
      by (None, none) (Some orphan, held) = inr (record { item = orphan; inside = held.0; has_id = held.1 })
      by (None, none) (None, none_too) = absurd (is (record {
        untouched = λ inside. none (record { item = id; inside = inside; has_id = refl });
        no_orphan = none_too;
      }))

  pub files_left : (ids : List Id) → AreUnneeded entries files orphans ids → (after : List FileReplica) →
      LeavesOutBy id_of files ids after → AreFilesLeft files entries orphans after
  files_left ids of_them after left file = (
    λ inside.
        let was = (left file).0 inside in
        (was.0, needed file.id (λ is. was.1 ((of_them file was.0).1 is))),
    λ kept. (left file).1 (
      kept.0,
      λ named.
          let is = (of_them file kept.0).0 named in
          elim kept.1 [ inl touched ↦ is.untouched touched | inr orphan ↦ is.no_orphan orphan ],
    ),
  )

  pub unneeded_are : (loose touched ids : List Id) →
      ((id : Id) → Contains loose id ↔ (Holds files id × (HoldsOrphan orphans id → ⊥))) →
      ((id : Id) → Contains touched id ↔ (Contains loose id × Contains (touched_by entries) id)) →
      ((id : Id) → Contains ids id ↔ (Contains loose id × (Contains touched id → ⊥))) →
      AreUnneeded entries files orphans ids
  unneeded_are loose touched ids are_loose are_touched are file inside = (
    λ named.
        let is = (are file.id).0 named in
        record {
          untouched = λ touches. is.1 ((are_touched file.id).1 (is.0, touches));
          no_orphan = ((are_loose file.id).0 is.0).1;
        },
    λ is. (are file.id).1 (
      (are_loose file.id).1 (record { item = file; inside = inside; has_id = refl }, is.no_orphan),
      λ touches. is.untouched ((are_touched file.id).0 touches).1,
    ),
  )

module _ (members : ℕ) (entries : List Entry) (files : List FileReplica) (orphans : List Orphan) (one other : Reclaimed)
    (is : IsReclaimed members entries files orphans one) (is_too : IsReclaimed members entries files orphans other) where
  same_left : one.entries ≡ other.entries
  same_left = same_items (λ (e : Entry). e.id) one.entries other.entries is.rising is_too.rising
      (λ entry. (
        λ inside. (is_too.undropped entry).1 ((is.undropped entry).0 inside),
        λ inside. (is.undropped entry).1 ((is_too.undropped entry).0 inside),
      ))

  same_files : one.files ≡ other.files
  same_files =
      let left_too : AreFilesLeft files one.entries orphans other.files =
      subst (λ (l : List Entry). AreFilesLeft files l orphans other.files) (sym same_left) is_too.left in
      same_items id_of one.files other.files is.held.rising is_too.held.rising
      (λ file. (
        λ inside. (left_too file).1 ((is.left file).0 inside),
        λ inside. (is.left file).1 ((left_too file).0 inside),
      ))

  -- a collection has one answer
  pub one_answer : one ≡ other
  one_answer =
      let dropped : one.dropped_entries ≡ other.dropped_entries =
      omega (arith, is.entries_counted, is_too.entries_counted, ap length same_left) in
      let files_dropped : one.dropped_files ≡ other.dropped_files =
      omega (arith, is.files_counted, is_too.files_counted, ap length same_files) in
      ap (λ (e : List Entry). record one { entries = e }) same_left
      ∙ ap (λ (f : List FileReplica). record one { entries = other.entries; files = f }) same_files
      ∙ ap (λ n. record other { dropped_entries = n; dropped_files = one.dropped_files }) dropped
      ∙ ap (λ n. record other { dropped_files = n }) files_dropped
