-- What becomes of a world where a member keeps an event of its own, or is put down.
use Rattle.std.proofs.Common.{◌≡◌, ◌≢◌, ℕ, ◌-◌, ◌+◌, ◌≤◌, List, [], ◌∷◌, ◌++◌, length, Result, Ok, Err, Some, sym, ap, ap₂, subst, ◌∙◌, OnOk, OnErr, arith}
use Rattle.std.specs.Prelude.{slice_set}
use Rattle.std.proofs.lemmas.List.{length-set, length_push}
use Rattle.ficus_model.specs.declared.event.Event.{Event}
use Rattle.ficus_model.specs.Events.{actor}
use Rattle.ficus_disk.specs.declared.disk.Disk.{Ghosts as Disk}
use Rattle.ficus_disk.specs.declared.pair.Pair.{Pair}
use Rattle.ficus_ids.specs.declared.refusal.Refusal.{Refusal}
use Rattle.ficus_ids.specs.declared.refusal.Refusal.TheVariants.{Memory, Store}
use Rattle.ficus_keeper.specs.declared.keep.Keep.{Ghosts as Keep}
use Rattle.ficus_runs.specs.Outcome.{IsSaved, SaveFails}
use Rattle.ficus_world.specs.Acts.{SavesNext}
use Rattle.ficus_world.specs.Disks.{DisksComeTo}
use Rattle.ficus_runs.specs.Numbered.{IsNumbered}
use Rattle.ficus_opening.specs.declared.member.Member.{Member}
use Rattle.ficus_opening.specs.declared.member.MemberState.TheVariants.{Up, Down}
use Rattle.ficus_opening.specs.declared.member.Pending.{Pending}
use Rattle.ficus_world.specs.Moves.{advanced, downed, parts_after}
use Rattle.ficus_world.specs.World.{Whole, IsSoundMember, IsSoundNext, IsWorld, whole_of}
use Rattle.ficus_world.proofs.SoundWorlds.{held_sound, plain_with, put_down_sound, world_after}

module _ (old : Whole) (by : ℕ) (next : Pending) (members : List Member) (events : List Event) where
  -- the members, where one keeps it, and where it is put down
  abbrev pub Held : Type 0
  Held = (was : Member) → IsNumbered old.members by was
      → members ≡ slice_set old.members (by - 1) (record was { replica = next.replica; parts = parts_after next.event was.parts })

  abbrev pub PutDown : Type 0
  PutDown = (was : Member) → IsNumbered old.members by was
      → members ≡ slice_set old.members (by - 1) (record was { state = Down (Some next) })

  -- the world is one still
  pub kept_world : {T E : Type 0} {noted : List ℕ} (result : Result T E) (was : Member) → IsNumbered old.members by was
      → was.state ≡ Up → IsSoundNext (length old.members) (length old.events) by noted was.replica next.replica
      → actor next.event ≡ by → IsWorld old → OnOk result Held → OnOk result (events ≡ old.events ++ next.event ∷ []) → OnErr result PutDown
      → OnErr result (events ≡ old.events) → IsWorld (whole_of members events old.post)
  kept_world (Ok done) was is up sound own world held stored down kept =
      let now : Member = record was { replica = next.replica; parts = parts_after next.event was.parts } in
      let grown = length_push old.events next.event in
      let now_sound = subst (λ n. IsSoundMember (length old.members) n by now) (sym grown) (held_sound was (parts_after next.event was.parts) up sound) in
      subst (λ list. IsWorld (whole_of members list old.post)) (sym stored)
      (world_after old (old.events ++ next.event ∷ []) by was now is world now_sound (omega (arith, grown))
      (plain_with world next.event is.member own) members (held was is))
  kept_world (Err failed) was is up sound own world held stored down kept =
      let now : Member = record was { state = Down (Some next) } in
      let now_sound = put_down_sound (world.sound by was is) sound own in
      subst (λ list. IsWorld (whole_of members list old.post)) (sym kept)
      (world_after old old.events by was now is world now_sound (omega arith) world.plain members (down was is))

  -- it is the one with the event
  pub kept_advanced : {T E : Type 0} (result : Result T E) → OnOk result Held
      → OnOk result (events ≡ old.events ++ next.event ∷ [])
      → OnOk result ((was : Member) → IsNumbered old.members by was
      → whole_of members events old.post ≡ advanced old by was next.replica next.event)
  kept_advanced (Ok done) held stored =
      λ was is. ap₂ (λ (list : List Member) (more : List Event). whole_of list more old.post) (held was is) stored
  kept_advanced (Err failed) held stored = tt

  -- or the one where it is pending
  pub kept_downed : {T E : Type 0} (result : Result T E) → OnErr result PutDown → OnErr result (events ≡ old.events)
      → OnErr result ((was : Member) → IsNumbered old.members by was
      → whole_of members events old.post ≡ downed old by was (Some next))
  kept_downed (Ok done) down kept = tt
  kept_downed (Err failed) down kept =
      λ was is. ap₂ (λ (list : List Member) (more : List Event). whole_of list more old.post) (down was is) kept

  -- there are as many members
  pub kept_count : {T E : Type 0} (result : Result T E) (was : Member) → IsNumbered old.members by was
      → OnOk result Held → OnErr result PutDown → length members ≡ length old.members
  kept_count (Ok done) was is held down =
      ap (λ (list : List Member). length list) (held was is) ∙ length-set old.members (by - 1) _
  kept_count (Err failed) was is held down =
      ap (λ (list : List Member). length list) (down was is) ∙ length-set old.members (by - 1) _

  -- and one event more at most
  pub kept_grows : {T E : Type 0} (result : Result T E) → OnOk result (events ≡ old.events ++ next.event ∷ [])
      → OnErr result (events ≡ old.events) → length events ≤ length old.events + 1
  kept_grows (Ok done) stored kept =
      let grown = ap (λ (list : List Event). length list) stored ∙ length_push old.events next.event in
      omega (arith, grown)
  kept_grows (Err failed) stored kept =
      let same = ap (λ (list : List Event). length list) kept in omega (arith, same)

-- what became of a save, by what was kept
pub saves_next : {K D : Type 0} (keep : Keep K) (disk : Disk D) (old new : Whole) (by : ℕ) (next : Pending)
    (x y : List (Pair D)) (result : Result (Unit {0}) Refusal)
    → OnOk result ((was : Member) → IsNumbered old.members by was → new ≡ advanced old by was next.replica next.event)
    → OnOk result (DisksComeTo keep disk (IsSaved by ∷ []) old.members new.members x y)
    → OnErr result ((was : Member) → IsNumbered old.members by was → new ≡ downed old by was (Some next))
    → OnErr result (DisksComeTo keep disk (SaveFails by ∷ []) old.members new.members x y)
    → OnErr result (result ≡ Err Store) → SavesNext keep disk by next result old new x y
saves_next keep disk old new by next x y (Ok done) saved followed failed counted refused = (saved, followed)
saves_next keep disk old new by next x y (Err r) saved followed failed counted refused =
    subst (λ (z : Result (Unit {0}) Refusal). SavesNext keep disk by next z old new x y) (sym refused) (failed, counted)

-- a refusal that is another is no want of memory
pub refused_not : {A : Type 0} {r : Refusal} (result : Result A Refusal) → OnErr result (result ≡ Err r)
    → (r ≡ Memory → ⊥) → result ≢ Err Memory
refused_not (Ok done) refused differs = λ is. cc
refused_not {r = r} (Err other) refused differs = λ is.
    let both = sym refused ∙ is in
    differs (let same : r ≡ Memory = cc in same)
