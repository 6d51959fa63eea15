-- What a crash might have left since a trail began, it might have left between some two neighbours of it.
use Rattle.std.proofs.Common.{◌≡◌, ℕ, ◌≤◌, List, length, sym, subst, ◌∙◌, inl, inr, ⊎_elim, Option}
use Rattle.ficus_disk.specs.declared.disk.Disk.{Ghosts as Disk}
use Rattle.ficus_disk.specs.declared.pair.Pair.{Pair}
use Rattle.ficus_ids.specs.Members.{IsMember}
use Rattle.ficus_keeper.specs.Kept.{Kept}
use Rattle.ficus_keeper.specs.Moments.{PairSpans, Spans}
use Rattle.ficus_model.specs.Lawful.{Volume}
use Rattle.ficus_runs.specs.ModelWorld.{ModelWorld}
use Rattle.ficus_runs.specs.Numbered.{IsNumbered}
use Rattle.ficus_runs.proofs.Numbers.{number_exists}
use Rattle.ficus_opening.proofs.Rests.{spans_then}
use Rattle.ficus_loop.specs.Trail.{Covers, LeftOn, Somewhere, Trail}
use Rattle.ficus_loop.specs.Trail.Trail.{Joined, Link, Still}

module _ {D : Type 0} (kept : List ℕ → List ℕ → Option Kept) (disk : Disk D) (volume : Volume)
    (earlier : (d : D) (t u : ℕ) (c : List ℕ) → t ≤ u → disk.left_since d u c → disk.left_since d t c)
    (moments : disk.tells_moments) where
  trail_count : {V U : ModelWorld} {x y : List (Pair D)} → Trail kept disk volume V U x y → length y ≡ length x
  trail_count (Still rests) = rests.count
  trail_count (Link step crosses spared) = crosses.count
  trail_count (Joined one two) = trail_count two ∙ trail_count one

  -- the pair between two parts of a trail
  middle_pair : {V M : ModelWorld} {x mid : List (Pair D)} → Trail kept disk volume V M x mid → (r : ℕ) (was : Pair D)
      → IsNumbered x r was → (pair : Pair D) × IsNumbered mid r pair
  middle_pair {mid = mid} one r was is =
      number_exists mid r (subst (λ n. IsMember n r) (sym (trail_count one)) is.member)

  pub trail_spans : {V U : ModelWorld} {x y : List (Pair D)} → Trail kept disk volume V U x y → (r : ℕ)
      (was now : Pair D) → IsNumbered x r was → IsNumbered y r now → PairSpans disk.moment disk.left_since was now
  trail_spans (Still rests) r was now is_was is_now = (rests.each r was now is_was is_now).spans moments
  trail_spans (Link step crosses spared) r was now is_was is_now = (crosses.each r was now is_was is_now).spans moments
  trail_spans (Joined one two) r was now is_was is_now =
      let mid = middle_pair one r was is_was in
      spans_then disk earlier was mid.0 now (trail_spans one r was mid.0 is_was mid.1)
      (trail_spans two r mid.0 now mid.1 is_now)

  module _ (side : Pair D → D) (of_side : (was now : Pair D) → PairSpans disk.moment disk.left_since was now
      → Spans (disk.moment (side was)) (disk.moment (side now)) (disk.left_since (side was))
      (disk.left_since (side now))) where
    covered : {V U : ModelWorld} {x y : List (Pair D)} (trail : Trail kept disk volume V U x y) (r : ℕ)
        (was now : Pair D) (c : List ℕ) → IsNumbered x r was → IsNumbered y r now
        → disk.left_since (side now) (disk.moment (side was)) c → Somewhere (LeftOn disk side r c) trail
    covered (Still rests) r was now c is_was is_now left = (was, now, is_was, is_now, left)
    covered (Link step crosses spared) r was now c is_was is_now left = (was, now, is_was, is_now, left)
    covered (Joined one two) r was now c is_was is_now left =
        let mid = middle_pair one r was is_was in
        let first = of_side was mid.0 (trail_spans one r was mid.0 is_was mid.1) in
        let second = of_side mid.0 now (trail_spans two r mid.0 now mid.1 is_now) in
        ⊎_elim (λ past. inl (covered one r was mid.0 c is_was mid.1 past))
        (λ since. inr (covered two r mid.0 now c mid.1 is_now since))
        (second.splits (disk.moment (side was)) c first.later left)

  pub covers : {V U : ModelWorld} {x y : List (Pair D)} (trail : Trail kept disk volume V U x y) → Covers trail
  covers trail = record {
    on_a = λ r was now c is_was is_now left. covered (λ (p : Pair D). p.a) (λ p q spans. spans.a) trail r was now c
        is_was is_now left;
    on_b = λ r was now c is_was is_now left. covered (λ (p : Pair D). p.b) (λ p q spans. spans.b) trail r was now c
        is_was is_now left;
  }
