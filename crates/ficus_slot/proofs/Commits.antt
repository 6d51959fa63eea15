-- What saved bytes come to for the keeper whose commit they are.
use Rattle.std.proofs.Common.{◌≡◌, ℕ, Bool, Option, Result, List, is_ok, Vec, sym, ap₂, subst}
use Rattle.std.specs.declared.alloc.Global.{Global}
use Rattle.ficus_disk.specs.declared.disk.Disk.{Ghosts as Disk}
use Rattle.ficus_disk.specs.declared.fuse.Pick.{Pick}
use Rattle.ficus_disk.specs.declared.pair.Pair.{Pair}
use Rattle.ficus_keeper.specs.Calls.{Commits, CommitsBytes}
use Rattle.ficus_keeper.specs.Fuses.{FusedSave}
use Rattle.ficus_keeper.specs.Kept.{Kept, Settled, after_commit, found_in}
use Rattle.ficus_keeper.proofs.Results.{in_ok}
use Rattle.ficus_keeper.proofs.Sides.{Saves, committed, fused, staying, with_disk, written}
use Rattle.ficus_slot.specs.Calls.{SavesBytes}

module _ {K D T E : Type 0} (disk : Disk D) (kept : List ℕ → List ℕ → Option Kept) (fits : K → List ℕ → List ℕ → Type 0)
    (Regular : List ℕ → List ℕ → Type 0) {Leaves : Bool → List ℕ → List ℕ → Type 0} (on_a : Bool) {after : Option Kept}
    {keeper was : K} (old : Pair D) {new : D} {calls : ℕ} {buffer buffer_now : Vec ℕ Global} {result : Result T E}
    (saved : SavesBytes disk Leaves calls buffer buffer_now (written on_a old) new result)
    (settled : Settled fits disk.seen disk.may_leave was old)
    (saves : Saves kept fits Regular (λ is_found c. Leaves is_found (disk.seen (written on_a old)) c) on_a after keeper
    (disk.seen (written on_a old)) (disk.seen (staying on_a old))) where
  pub save_told : ((d : D) (c : List ℕ) → disk.left_since d (disk.moment d) c → disk.may_leave d c)
      → ((d : D) → disk.may_leave d (disk.seen d)) → disk.tells
      → Commits kept fits Regular disk.seen disk.may_leave disk.moment disk.left_since after keeper old
      (with_disk on_a old new) result
  save_told only_now now_left told =
      committed kept fits Regular (λ is_found c. Leaves is_found (disk.seen (written on_a old)) c) disk.seen disk.may_leave
      disk.moment disk.left_since on_a after keeper old new result only_now now_left settled saves (saved.saved told)
      (saved.durable told) (saved.crash told) (saved.moments told)

  pub save_fused : ((d : D) (pick : Pick) → disk.may_leave d (disk.image d pick)) → disk.tells_fuse → disk.tells
      → {calls_now : ℕ} {is_on_a : Bool} → calls_now ≡ calls → is_on_a ≡ on_a
      → FusedSave kept disk.seen disk.image disk.fuse calls_now is_on_a old (with_disk on_a old new) (is_ok result) after
  save_fused may_be_left tells told {calls_now} {is_on_a} number side =
      fused kept fits Regular (λ is_found c. Leaves is_found (disk.seen (written on_a old)) c) disk.seen disk.may_leave
      disk.image disk.fuse on_a after keeper calls calls_now is_on_a old new result may_be_left settled saves number side
      (saved.made.by_fuse tells) (saved.made.falls tells) (saved.made.pick tells) (saved.found tells told)

-- a keeper that stands for the same, and saves the same bytes
module _ {K D : Type 0} (disk : Disk D) (kept : List ℕ → List ℕ → Option Kept) (fits : K → List ℕ → List ℕ → Type 0)
    {now after : K} (stands : (a b : List ℕ) → fits now a b → fits after a b) where
  pub settled_same : {pair : Pair D} → Settled fits disk.seen disk.may_leave now pair
      → Settled fits disk.seen disk.may_leave after pair
  settled_same settled = record {
    holds = stands _ _ settled.holds;
    synced_a = settled.synced_a;
    synced_b = settled.synced_b;
  }

  pub saves_same : {T E : Type 0} {wants_image : K → Bool} {calls : ℕ → ℕ} {is_on_a : ℕ → Bool}
      {Regular : List ℕ → List ℕ → Type 0} {generation : ℕ} {bytes same : List ℕ} {was before : K} {old new : Pair D}
      {result : Result T E} → bytes ≡ same → wants_image before ≡ wants_image was
      → CommitsBytes kept fits wants_image calls is_on_a Regular disk generation bytes was now old new result
      → CommitsBytes kept fits wants_image calls is_on_a Regular disk generation same before after old new result
  saves_same {wants_image = wants_image} {calls = calls} {is_on_a = is_on_a} {Regular = Regular} {generation = generation}
      {bytes = bytes} {same = same} {was = was} {before = before} {old = old} {new = new} {result = result} is wants saves =
      let found = found_in kept disk.seen old in
      let next : after_commit (wants_image was) generation bytes found ≡ after_commit (wants_image before) generation same found =
      ap₂ (λ (b : Bool) (l : List ℕ). after_commit b generation l found) (sym wants) is in
      record {
        told = λ told.
            let commits = saves.told told in
            subst
            (λ (k : Option Kept). Commits kept fits Regular disk.seen disk.may_leave disk.moment disk.left_since k after old new result)
            next
            (record {
              kept = commits.kept;
              settled = in_ok result (settled_same {pair = new}) commits.settled;
              crash = commits.crash;
              between = commits.between;
              regular = commits.regular;
            });
        spans = saves.spans;
        other = saves.other;
        counts = saves.counts;
        by_fuse = λ fused told regular.
            subst
            (λ (k : Option Kept). FusedSave kept disk.seen disk.image disk.fuse (calls generation) (is_on_a generation) old new
            (is_ok result) k)
            next (saves.by_fuse fused told regular);
      }
