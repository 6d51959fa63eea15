-- A commit writes one of the disks of a pair, and the other stays: one statement of either.
use Rattle.std.proofs.Common.{◌≡◌, ◌⊎◌, inl, inr, ⊎_elim, ℕ, Bool, true, false, Option, Result, OnOk, OnErr, is_ok, if◌then◌else◌, List, sym, ◌∙◌, ap, subst, arith}
use Rattle.ficus_disk.specs.Crash.{Only}
use Rattle.ficus_disk.specs.Fuse.{pick_of}
use Rattle.ficus_disk.specs.declared.fuse.Fuse.{Fuse}
use Rattle.ficus_disk.specs.declared.fuse.Pick.{Pick}
use Rattle.ficus_disk.specs.declared.pair.Pair.{Pair}
use Rattle.ficus_keeper.specs.Calls.{Commits}
use Rattle.ficus_keeper.specs.Fuses.{Fuses, FusedSave, after_calls, finds, lasts}
use Rattle.ficus_keeper.specs.Kept.{Kept, Settled}
use Rattle.ficus_keeper.specs.Moments.{LeavesOnly}
use Rattle.ficus_keeper.proofs.Results.{both_ok, in_ok, of_err, of_ok}

-- the disk that is written, `a` or `b`
abbrev pub written : {D : Type 0} → Bool → Pair D → D
written true pair = pair.a
written false pair = pair.b

-- and the one that stays
abbrev pub staying : {D : Type 0} → Bool → Pair D → D
staying true pair = pair.b
staying false pair = pair.a

-- the pair afterwards
abbrev pub with_disk : {D : Type 0} → Bool → Pair D → D → Pair D
with_disk true pair disk = record { a = disk; b = pair.b }
with_disk false pair disk = record { a = pair.a; b = disk }

-- what is kept, by the bytes of the one that is written and of the other
abbrev pub kept_at : (List ℕ → List ℕ → Option Kept) → Bool → List ℕ → List ℕ → Option Kept
kept_at kept true mine other = kept mine other
kept_at kept false mine other = kept other mine

-- what is known of both, by the same
abbrev pub KnownAt : (List ℕ → List ℕ → Type 0) → Bool → List ℕ → List ℕ → Type 0
KnownAt Known true mine other = Known mine other
KnownAt Known false mine other = Known other mine

-- what a rule promises of a save, by what it may leave of the disk that it writes, where it is found and where it isn't
pub record Saves {K : Type 0} (kept : List ℕ → List ℕ → Option Kept) (fits : K → List ℕ → List ℕ → Type 0)
    (Regular : List ℕ → List ℕ → Type 0) (Leaves : Bool → List ℕ → Type 0) (on_a : Bool) (after : Option Kept)
    (keeper : K) (mine other : List ℕ) : Type 0 where
  pub unchanged : Leaves false mine
  pub keeps : (is_found : Bool) (c : List ℕ) → Leaves is_found c
      → kept_at kept on_a c other ≡ (if is_found then after else kept_at kept on_a mine other)
  pub holds : (c : List ℕ) → Leaves true c → KnownAt (fits keeper) on_a c other
  pub regular : KnownAt Regular on_a mine other → (is_found : Bool) (c : List ℕ) → Leaves is_found c
      → KnownAt Regular on_a c other

-- what a crash leaves of that disk, either way
abbrev pub Either : (Bool → List ℕ → Type 0) → List ℕ → Type 0
Either Leaves c = Leaves false c ⊎ Leaves true c

module _ {K : Type 0} (kept : List ℕ → List ℕ → Option Kept) (fits : K → List ℕ → List ℕ → Type 0)
    (Regular : List ℕ → List ℕ → Type 0) (Leaves : Bool → List ℕ → Type 0) where
  module _ (on_a : Bool) (after : Option Kept) (keeper : K) (mine other : List ℕ)
      (saves : Saves kept fits Regular Leaves on_a after keeper mine other) where
    one : (c now : List ℕ) → now ≡ other → Either Leaves c
        → (kept_at kept on_a c now ≡ kept_at kept on_a mine other) ⊎ (kept_at kept on_a c now ≡ after)
    one c now same (inl old) = inl (ap (kept_at kept on_a c) same ∙ saves.keeps false c old)
    one c now same (inr new) = inr (ap (kept_at kept on_a c) same ∙ saves.keeps true c new)

    still_regular : KnownAt Regular on_a mine other → (c now : List ℕ) → now ≡ other → Either Leaves c
        → KnownAt Regular on_a c now
    still_regular is c now same (inl old) = subst (KnownAt Regular on_a c) (sym same) (saves.regular is false c old)
    still_regular is c now same (inr new) = subst (KnownAt Regular on_a c) (sym same) (saves.regular is true c new)

  -- what a commit comes to, and what a crash leaves of it
  pub committed : {D T E : Type 0} (seen : D → List ℕ) (may_leave : D → List ℕ → Type 0) (moment : D → ℕ)
      (left_since : D → ℕ → List ℕ → Type 0) (on_a : Bool) (after : Option Kept) (keeper : K) (old : Pair D) (disk : D) (result : Result T E)
      → ((d : D) (c : List ℕ) → left_since d (moment d) c → may_leave d c) → ((d : D) → may_leave d (seen d))
      → {was : K} → Settled fits seen may_leave was old
      → Saves kept fits Regular Leaves on_a after keeper (seen (written on_a old)) (seen (staying on_a old))
      → OnOk result (Leaves true (seen disk)) → OnOk result (Only (seen disk) (may_leave disk))
      → (Only (seen (written on_a old)) (may_leave (written on_a old)) → (c : List ℕ) → may_leave disk c → Either Leaves c)
      → (Only (seen (written on_a old)) (may_leave (written on_a old)) → LeavesOnly (moment (written on_a old))
      (moment disk) (left_since (written on_a old)) (left_since disk) (Either Leaves))
      → Commits kept fits Regular seen may_leave moment left_since after keeper old (with_disk on_a old disk) result
  committed seen may_leave moment left_since true after keeper old disk result only_now now_left settled saves saved durable
      crash time = record {
        kept = in_ok result (saves.keeps true (seen disk)) saved;
        settled = both_ok result
            (λ is only. record { holds = saves.holds (seen disk) is; synced_a = only; synced_b = settled.synced_b }) saved durable;
        crash = record {
          each = λ x y left_x left_y. one true after keeper _ _ saves x y (settled.synced_b y left_y) (crash settled.synced_a x left_x);
        };
        between = record {
          each = λ x y left_x left_y. one true after keeper _ _ saves x y (settled.synced_b y (only_now old.b y left_y))
              (⊎_elim (λ past. inl (subst (Leaves false) (sym (settled.synced_a x (only_now old.a x past))) saves.unchanged)) (λ is. is)
              ((time settled.synced_a).nothing_else _ x (omega arith) left_x));
        };
        regular = λ was. record {
          each = λ x y left_x left_y. still_regular true after keeper _ _ saves
              (was.each _ _ (now_left old.a) (now_left old.b)) x y (settled.synced_b y left_y) (crash settled.synced_a x left_x);
        };
      }
  committed seen may_leave moment left_since false after keeper old disk result only_now now_left settled saves saved durable
      crash time = record {
        kept = in_ok result (saves.keeps true (seen disk)) saved;
        settled = both_ok result
            (λ is only. record { holds = saves.holds (seen disk) is; synced_a = settled.synced_a; synced_b = only }) saved durable;
        crash = record {
          each = λ x y left_x left_y. one false after keeper _ _ saves y x (settled.synced_a x left_x) (crash settled.synced_b y left_y);
        };
        between = record {
          each = λ x y left_x left_y. one false after keeper _ _ saves y x (settled.synced_a x (only_now old.a x left_x))
              (⊎_elim (λ past. inl (subst (Leaves false) (sym (settled.synced_b y (only_now old.b y past))) saves.unchanged)) (λ is. is)
              ((time settled.synced_b).nothing_else _ y (omega arith) left_y));
        };
        regular = λ was. record {
          each = λ x y left_x left_y. still_regular false after keeper _ _ saves
              (was.each _ _ (now_left old.a) (now_left old.b)) y x (settled.synced_a x left_x) (crash settled.synced_b y left_y);
        };
      }

  -- what it comes to by the fuse of the disk that is written
  pub fused : {D T E : Type 0} (seen : D → List ℕ) (may_leave : D → List ℕ → Type 0) (image : D → Pick → List ℕ)
      (fuse : D → Fuse) (on_a : Bool) (after : Option Kept) (keeper : K) (calls calls_now : ℕ) (is_on_a : Bool) (old : Pair D) (disk : D) (result : Result T E)
      → ((d : D) (pick : Pick) → may_leave d (image d pick)) → {was : K} → Settled fits seen may_leave was old
      → Saves kept fits Regular Leaves on_a after keeper (seen (written on_a old)) (seen (staying on_a old))
      → calls_now ≡ calls → is_on_a ≡ on_a
      → is_ok result ≡ lasts calls (fuse (written on_a old))
      → OnOk result (fuse disk ≡ after_calls calls (fuse (written on_a old)))
      → OnErr result (pick_of (fuse disk) ≡ pick_of (fuse (written on_a old)))
      → (Only (seen (written on_a old)) (may_leave (written on_a old)) → OnErr result
      (Leaves (finds calls (fuse (written on_a old))) (image disk (pick_of (fuse (written on_a old))))))
      → FusedSave kept seen image fuse calls_now is_on_a old (with_disk on_a old disk) (is_ok result) after
  fused seen may_leave image fuse on_a after keeper calls calls_now is_on_a old disk result may_be_left settled saves number
      side by falls pick found =
      subst (λ (n : ℕ). FusedSave kept seen image fuse n is_on_a old (with_disk on_a old disk) (is_ok result) after)
      (sym number)
      (subst (λ (b : Bool). FusedSave kept seen image fuse calls b old (with_disk on_a old disk) (is_ok result) after)
      (sym side) (at on_a saves by falls pick found))
    where
      at : (b : Bool)
          → Saves kept fits Regular Leaves b after keeper (seen (written b old)) (seen (staying b old))
          → is_ok result ≡ lasts calls (fuse (written b old))
          → OnOk result (fuse disk ≡ after_calls calls (fuse (written b old)))
          → OnErr result (pick_of (fuse disk) ≡ pick_of (fuse (written b old)))
          → (Only (seen (written b old)) (may_leave (written b old))
          → OnErr result (Leaves (finds calls (fuse (written b old))) (image disk (pick_of (fuse (written b old))))))
          → FusedSave kept seen image fuse calls b old (with_disk b old disk) (is_ok result) after
      at true saves by falls pick found = record {
        saved = by;
        falls = λ is. ap (λ (f : Fuse). let fuses : Fuses = record { a = f; b = fuse old.b } in fuses) (of_ok result falls is);
        found = λ is. ap (λ p. kept (image disk p) (image old.b (pick_of (fuse old.b)))) (of_err result pick is)
            ∙ ap (kept (image disk (pick_of (fuse old.a)))) (settled.synced_b _ (may_be_left old.b _))
            ∙ saves.keeps (finds calls (fuse old.a)) _ (of_err result (found settled.synced_a) is);
      }
      at false saves by falls pick found = record {
        saved = by;
        falls = λ is. ap (λ (f : Fuse). let fuses : Fuses = record { a = fuse old.a; b = f } in fuses) (of_ok result falls is);
        found = λ is. ap (λ p. kept (image old.a (pick_of (fuse old.a))) (image disk p)) (of_err result pick is)
            ∙ ap (λ (l : List ℕ). kept l (image disk (pick_of (fuse old.b)))) (settled.synced_a _ (may_be_left old.a _))
            ∙ saves.keeps (finds calls (fuse old.b)) _ (of_err result (found settled.synced_b) is);
      }
