-- Runs of machines, one behind the other; and what one process does alone is such a run, where what came to it was posted.
use Rattle.std.proofs.Common.{ℕ, ◌-◌, List, [], ◌∷◌, ◌++◌, sym, subst, append_assoc}
use Rattle.std.specs.Prelude.{slice_set}
use Rattle.std.proofs.lemmas.List.{append-nil}
use Rattle.ficus_runs.specs.Numbered.{IsNumbered}
use Rattle.ficus_runs.proofs.Numbers.{number_more}
use Rattle.ficus_world.specs.World.{Whole}
use Rattle.ficus_world.proofs.Lifting.Sets.{set_again, set_same}
use Rattle.ficus_world.specs.Machines.Together.{Alone, Together, Told, WerePosted}
use Rattle.ficus_world.specs.Machines.Together.Alone.{Acted, Ended, Heard, Renewed}
use Rattle.ficus_world.specs.Machines.Together.Together.{Rest, Does, Comes, Begins}
use Rattle.ficus_world.proofs.machines.Parts.{number_put}

posted_more : (came sent : List (List ℕ)) (more : List (List ℕ)) → WerePosted came sent
    → WerePosted came (sent ++ more)
posted_more [] sent more posted = tt
posted_more (bytes ∷ came) sent more posted =
    ((posted.0.0, kept more sent posted.0.1), posted_more came sent more posted.1)
  where
    kept : (more sent : List (List ℕ)) → IsNumbered sent posted.0.0 bytes → IsNumbered (sent ++ more) posted.0.0 bytes
    kept [] sent is =
        subst (λ (s : List (List ℕ)). IsNumbered s posted.0.0 bytes) (sym (append-nil sent)) is
    kept (next ∷ more) sent is =
        subst (λ (s : List (List ℕ)). IsNumbered s posted.0.0 bytes) (append_assoc sent (next ∷ []) more)
        (kept more (sent ++ next ∷ []) (number_more sent next is))

module _ {tells disks_tell : Type 0} where
  pub one_behind : {machines middle last : List Whole} {sent mid_sent last_sent : List (List ℕ)} {told more : List Told}
      → Together tells disks_tell machines sent told middle mid_sent
      → Together tells disks_tell middle mid_sent more last last_sent
      → Together tells disks_tell machines sent (told ++ more) last last_sent
  one_behind Rest behind = behind
  one_behind (Does after outcomes more is may does posted rest) behind =
      Does after outcomes more is may does posted (one_behind rest behind)
  one_behind (Comes after is posted hears rest) behind = Comes after is posted hears (one_behind rest behind)
  one_behind (Begins after is renews rest) behind = Begins after is renews (one_behind rest behind)

  -- what the machines are once one of them has become this and then that
  module _ (machines : List Whole) (r : ℕ) (machine : Whole) (is : IsNumbered machines r machine) where
    back : (sent last_sent : List (List ℕ)) (told : List Told) (middle after : Whole)
        → Together tells disks_tell (slice_set machines (r - 1) middle) sent told (slice_set (slice_set machines (r - 1) middle) (r - 1) after)
        last_sent → Together tells disks_tell (slice_set machines (r - 1) middle) sent told (slice_set machines (r - 1) after) last_sent
    back sent last_sent told middle after together =
        subst (λ (last : List Whole). Together tells disks_tell (slice_set machines (r - 1) middle) sent told last last_sent)
        (set_again machines (r - 1) middle after) together

  pub alone_together : {r : ℕ} {machine after : Whole} {came posted : List (List ℕ)} {told : List Told}
      → Alone tells disks_tell r machine came posted told after → (machines : List Whole) (sent : List (List ℕ))
      → IsNumbered machines r machine → WerePosted came sent
      → Together tells disks_tell machines sent told (slice_set machines (r - 1) after) (sent ++ posted)
  alone_together {r = r} {machine = machine} Ended machines sent is genuine =
      subst (λ (s : List (List ℕ)). Together tells disks_tell machines sent [] (slice_set machines (r - 1) machine) s)
      (sym (append-nil sent))
      (subst (λ (last : List Whole). Together tells disks_tell machines sent [] last sent)
      (sym (set_same machines r machine is)) Rest)
  alone_together {r = r} {machine = machine} {after = after}
      (Acted {posted = posted} {told = told} middle outcomes more may does posts rest) machines sent is
      genuine =
      Does middle outcomes more is may does posts
      (subst (λ (s : List (List ℕ)). Together tells disks_tell (slice_set machines (r - 1) middle) (sent ++ more) told
      (slice_set machines (r - 1) after) s) (append_assoc sent more posted)
      (back machines r machine is (sent ++ more) ((sent ++ more) ++ posted) told middle after
      (alone_together rest (slice_set machines (r - 1) middle) (sent ++ more) (number_put machines r middle is.member)
      (posted_more _ sent more genuine))))
  alone_together {r = r} {machine = machine} {after = after}
      (Heard {posted = posted} {told = told} middle hears rest) machines sent is genuine =
      Comes middle is genuine.0.1 hears
      (back machines r machine is sent (sent ++ posted) told middle after
      (alone_together rest (slice_set machines (r - 1) middle) sent (number_put machines r middle is.member) genuine.1))
  alone_together {r = r} {machine = machine} {after = after} {posted = posted} {told = told}
      (Renewed middle renews rest) machines sent is genuine =
      Begins middle is renews
      (back machines r machine is sent (sent ++ posted) told middle after
      (alone_together rest (slice_set machines (r - 1) middle) sent (number_put machines r middle is.member) genuine))
