-- The pairs of no member stay, and a crash might have left what is read, while one pair after the other is touched.
use Rattle.std.proofs.Common.{ℕ, ◌+◌, ◌<◌, ◌≤◌, List, refl, sym, subst, ◌∙◌, inl, inr, arith}
use Rattle.std.specs.Prelude.{slice_set}
use Rattle.std.proofs.lemmas.List.{length-set}
use Rattle.ficus_disk.specs.declared.disk.Disk.{Ghosts as Disk}
use Rattle.ficus_disk.specs.declared.pair.Pair.{Pair}
use Rattle.ficus_ids.specs.Members.{IsMember}
use Rattle.ficus_keeper.specs.Pairs.{PairLeft}
use Rattle.ficus_runs.specs.Numbered.{IsNumbered}
use Rattle.ficus_runs.proofs.Numbers.{number_exists, number_once}
use Rattle.ficus_opening.specs.Rests.{AllRest, AreLeft, OthersRest, OthersStay, PairRests}
use Rattle.ficus_opening.proofs.Rests.{rests_none, rests_then}
use Rattle.ficus_opening.proofs.Steadies.{set_at}

module _ {D : Type 0} where
  pub others_none : (count : ℕ) (disks : List (Pair D)) → OthersStay count disks disks
  others_none count disks = record { pairs = refl; each = λ r was now past at at_now. number_once at_now at }

  -- one pair of a member is set
  pub others_set : (count : ℕ) (old mid : List (Pair D)) (index : ℕ) (after : Pair D) → OthersStay count old mid
      → index < count → OthersStay count old (slice_set mid index after)
  others_set count old mid index after others within = record {
    pairs = length-set mid index after ∙ others.pairs;
    each = λ r was now past at at_now. elim (set_at mid index r after now at_now) [
      | inl (number, is) ↦ absurd (omega (arith, number, past, within))
      | inr (differs, kept) ↦ others.each r was now past at kept
    ];
  }

  pub others_one : (count : ℕ) (disks : List (Pair D)) (index : ℕ) (after : Pair D) → index < count
      → OthersStay count disks (slice_set disks index after)
  others_one count disks index after within =
      others_set count disks disks index after (others_none count disks) within

  pub others_then : (count : ℕ) (old mid new : List (Pair D)) → OthersStay count old mid → OthersStay count mid new
      → OthersStay count old new
  others_then count old mid new first second = record {
    pairs = second.pairs ∙ first.pairs;
    each = λ r was now past at at_now.
        let found = number_exists mid r (subst (λ n. IsMember n r) (sym first.pairs) at.member) in
        second.each r found.0 now past found.1 at_now ∙ first.each r was found.0 past at found.1;
  }

  -- of more members there are fewer others
  pub others_within : (few many : ℕ) (old new : List (Pair D)) → few ≤ many → OthersStay few old new
      → OthersStay many old new
  others_within few many old new fewer others = record {
    pairs = others.pairs;
    each = λ r was now past at at_now. others.each r was now (omega (arith, past, fewer)) at at_now;
  }

module _ {D : Type 0} (seen : D → List ℕ) (may_leave : D → List ℕ → Type 0)
    (seen_may : (d : D) → may_leave d (seen d)) where
  left_same : (pair : Pair D) → PairLeft seen may_leave pair pair
  left_same pair = record { a = seen_may pair.a; b = seen_may pair.b }

  pub left_none : (disks : List (Pair D)) → AreLeft seen may_leave disks disks
  left_none disks = record {
    count = refl;
    each = λ r was now at at_now.
        subst (λ (p : Pair D). PairLeft seen may_leave was p) (number_once at at_now) (left_same was);
  }

  -- one pair is opened again
  pub left_one : (disks : List (Pair D)) (index : ℕ) (before after : Pair D) → IsNumbered disks (index + 1) before
      → PairLeft seen may_leave before after → AreLeft seen may_leave disks (slice_set disks index after)
  left_one disks index before after is left = record {
    count = length-set disks index after;
    each = λ r was now at at_now. elim (set_at disks index r after now at_now) [
      | inl (number, here) ↦
          subst (λ (p : Pair D). PairLeft seen may_leave p now)
          (number_once is (subst (λ k. IsNumbered disks k was) number at))
          (subst (λ (p : Pair D). PairLeft seen may_leave before p) (sym here) left)
      | inr (differs, kept) ↦
          subst (λ (p : Pair D). PairLeft seen may_leave was p) (number_once at kept) (left_same was)
    ];
  }

module _ {D : Type 0} (disk : Disk D) (count : ℕ) where
  -- nothing is written on what stays
  pub stay_rests : (old new : List (Pair D)) → OthersStay count old new → OthersRest disk count old new
  stay_rests old new others = record {
    pairs = others.pairs;
    each = λ r was now past at at_now.
        subst (λ (p : Pair D). PairRests disk was p) (sym (others.each r was now past at at_now)) (rests_none disk was);
  }

  pub all_others_rest : (old new : List (Pair D)) → AllRest disk old new → OthersRest disk count old new
  all_others_rest old new rests = record {
    pairs = rests.count;
    each = λ r was now past at at_now. rests.each r was now at at_now;
  }

  pub others_rest_then : ((d : D) (t u : ℕ) (c : List ℕ) → t ≤ u → disk.left_since d u c → disk.left_since d t c)
      → (old mid new : List (Pair D)) → OthersRest disk count old mid → OthersRest disk count mid new
      → OthersRest disk count old new
  others_rest_then earlier old mid new first second = record {
    pairs = second.pairs ∙ first.pairs;
    each = λ r was now past at at_now.
        let found = number_exists mid r (subst (λ n. IsMember n r) (sym first.pairs) at.member) in
        rests_then disk earlier was found.0 now (first.each r was found.0 past at found.1)
        (second.each r found.0 now past found.1 at_now);
  }
