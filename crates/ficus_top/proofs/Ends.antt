-- What was served over a link that never fails, and over disks.
use Rattle.std.proofs.Common.{◌≡◌, ◌⊎◌, ℕ, ◌≤◌, Bool, List, ◌++◌, length, drop, take, Option, refl, sym, subst, ◌∙◌, inl, inr, arith}
use Rattle.std.proofs.lemmas.Bool.{cases_lt}
use Rattle.ficus_disk.specs.declared.disk.Disk.{Ghosts as Disk}
use Rattle.ficus_disk.specs.declared.pair.Pair.{Pair}
use Rattle.ficus_ids.specs.Members.{IsMember}
use Rattle.ficus_keeper.specs.declared.keep.Keep.{Ghosts as Keep}
use Rattle.ficus_model.specs.Lawful.{Volume}
use Rattle.ficus_model.specs.declared.event.Event.{Event}
use Rattle.ficus_script.specs.declared.command.Command.{Command}
use Rattle.ficus_script.specs.declared.answer.Answer.{Answer}
use Rattle.ficus_runs.specs.Fuses.{FuseState, FusesAllowAll, Keeping}
use Rattle.ficus_runs.specs.ModelWorld.{ModelWorld}
use Rattle.ficus_runs.specs.Outcome.{Outcome, is_link_failure, is_store_failure, link_failures, store_failures}
use Rattle.ficus_runs.specs.Run.{Run, EachDone}
use Rattle.ficus_runs.specs.Start.{start}
use Rattle.ficus_runs.specs.Outcomes.{all_outcomes}
use Rattle.ficus_runs.proofs.Outcomes.{count_append}
use Rattle.ficus_runs.proofs.Numbers.{number_exists}
use Rattle.ficus_runs.proofs.Up.{run_up}
use Rattle.ficus_world.specs.Disks.{DisksFollow}
use Rattle.ficus_top.specs.Summary.Keeper.{keeping, kept_in}
use Rattle.ficus_world.specs.Fuses.{FusesPermit, keeping_of}
use Rattle.ficus_opening.specs.Opening.{Steady}
use Rattle.ficus_world.specs.Stand.{ArePending, DisksOutlast, DisksStand}
use Rattle.ficus_world.specs.World.{Whole, WorldStandsFor}
use Rattle.ficus_world.proofs.Disks.{follows_steady, follows_then}
use Rattle.ficus_keeper.specs.Kept.{Kept}
use Rattle.ficus_loop.specs.Trail.{FrontOn, RunOn}
use Rattle.ficus_top.specs.Killed.{EndsFrontOn, EndsOn}
use Rattle.ficus_top.specs.Ends.{AllUp, Ends, EndsFront, LeavesDisks, NoneFailed, StandNow}
use Rattle.ficus_loop.specs.Serving.{ServesWorld, ServesWorldFront}
use Rattle.ficus_loop.proofs.Places.{none_caused}
use Rattle.ficus_top.proofs.Members.{run_spares}
use Rattle.ficus_loop.proofs.Serves.{front_where}

-- a world that is opened over a link on which nothing was posted stands so
pub opened_stands : {volume : Volume} (H : List Event) {total : ℕ} (fused : List Bool) {world : Whole} → total ≡ 0
    → WorldStandsFor volume (start H volume.members total fused) world
    → WorldStandsFor volume (start H volume.members 0 fused) world
opened_stands {volume} H {total} fused {world} nothing stands =
    subst (λ n. WorldStandsFor volume (start H volume.members n fused) world) nothing stands

member_or_not : (members r : ℕ) → IsMember members r ⊎ (IsMember members r → ⊥)
member_or_not members r =
    elim (cases_lt 0 r) [
      | inl some ↦ elim (cases_lt members r) [
        | inl beyond ↦ inr (λ member. omega (arith, beyond, member.at_most))
        | inr within ↦ inl (record { at_least = omega arith; at_most = within })
      ]
      | inr none ↦ inr (λ member. omega (arith, none, member.at_least))
    ]

module _ {D : Type 0} {disk_faults : D → ℕ} {armings : D → Option ℕ} where
  -- where no disk has failed, none of a member has
  pub none_at : {outcomes : List Outcome} {old new : List (Pair D)} (r : ℕ) → IsMember (length old) r
      → DisksFollow disk_faults armings outcomes old new → NoneFailed disk_faults old new
      → store_failures r outcomes ≡ 0
  none_at {outcomes} {old} {new} r member follows none =
      let was = number_exists old r member in
      let now = number_exists new r (subst (λ n. IsMember n r) (sym follows.count) member) in
      let same = none.steady.each r was.0 now.0 was.1 now.1 in
      let below = none.each r now.0 now.1 in
      let risen = (follows.each r was.0 now.0 was.1 now.1).rose.sum below.0 below.1 in
      omega (arith, risen, same.a, same.b)

  -- where neither the link nor a disk has failed, all was done
  pub done_where_none : {volume : Volume} {W after : ModelWorld} {commands : List Command}
      {outcomes : List (List Outcome)} {answers : List Answer} {old new : List (Pair D)}
      → Run volume W commands outcomes answers after → AllUp W → length W.standings ≤ length old
      → link_failures (all_outcomes outcomes) ≡ 0 → DisksFollow disk_faults armings (all_outcomes outcomes) old new
      → NoneFailed disk_faults old new → EachDone outcomes
  done_where_none {W = W} {outcomes = outcomes} {old = old} run up pairs linked follows none =
      (run_up run (record { each = up }) (record {
        link = linked;
        stores = λ r. elim (member_or_not (length W.standings) r) [
          | inl member ↦
              none_at r (record { at_least = member.at_least; at_most = omega (arith, pairs, member.at_most) }) follows
              none
          | inr other ↦ run_spares run refl r other
        ];
      })).0

  -- so it is of some first commands, whatever was asked behind them
  pub front_done_where_none : {volume : Volume} {W after : ModelWorld} {commands : List Command}
      {outcomes : List (List Outcome)} {answers : List Answer} {old new : List (Pair D)} (more : List Outcome)
      → Run volume W commands outcomes answers after → AllUp W → length W.standings ≤ length old
      → link_failures (all_outcomes outcomes ++ more) ≡ 0
      → DisksFollow disk_faults armings (all_outcomes outcomes ++ more) old new
      → NoneFailed disk_faults old new → EachDone outcomes
  front_done_where_none {W = W} {outcomes = outcomes} {old = old} more run up pairs linked follows none =
      (run_up run (record { each = up }) (record {
        link = omega (arith, linked, count_append is_link_failure (all_outcomes outcomes) more);
        stores = λ r. elim (member_or_not (length W.standings) r) [
          | inl member ↦
              let all =
              none_at r (record { at_least = member.at_least; at_most = omega (arith, pairs, member.at_most) }) follows
              none in
              omega (arith, all, count_append (is_store_failure r) (all_outcomes outcomes) more)
          | inr other ↦ run_spares run refl r other
        ];
      })).0

-- what the fuses permit of the journal
pub permitted : {K D : Type 0} (keep : Keep K) (disk : Disk D) (before : Whole) (disks : List (Pair D))
    → keeping_of keep ≡ keeping → disk.tells → (outcomes : List Outcome)
    → FusesPermit keep disk outcomes before.members disks → (F : ℕ → FuseState) → StandNow keep disk before disks F
    → FusesAllowAll keeping F outcomes
permitted keep disk before disks slots told outcomes permit F stands =
    subst (λ (keeping : Keeping). FusesAllowAll keeping F outcomes) slots (permit.all stands.0 told F stands.1)

module _ {K D : Type 0} {tells : Type 0} {keep : Keep K} {disk : Disk D} {volume : Volume} {W : ModelWorld}
    {before : Whole} {commands : List Command} {world : Whole} {old new : List ℕ}
    {old_disks new_disks : List (Pair D)} (slots : keeping_of keep ≡ keeping) (told : disk.tells)
    (nothing : world.post.faults ≡ 0)
    (stand : (M : ModelWorld) → WorldStandsFor volume M world → DisksStand kept_in disk.seen volume M new_disks)
    (outlast : (M : ModelWorld) → WorldStandsFor volume M world
    → DisksOutlast kept_in disk.may_leave volume M new_disks)
    (pend : (M : ModelWorld) → WorldStandsFor volume M world → ArePending volume M)
  where
    -- what was served over a link that hasn't failed, from a world in which all are up
    abbrev pub served_ends : AllUp W → length W.standings ≤ length old_disks
        → ServesWorld tells keep disk volume W before commands world old new old_disks new_disks
        → Ends tells disk (StandNow keep disk before old_disks) volume W commands old new old_disks new_disks
    served_ends up pairs served =
        let linked = none_caused nothing served.caused in
        record {
          after = served.after;
          serves = served.serves;
          leaves = record {
            linked = linked;
            disks = served.disks;
            done = done_where_none served.serves.run up pairs linked served.disks;
            fuses = permitted keep disk before old_disks slots told (all_outcomes served.serves.outcomes)
                served.fuses.permit;
            standings = served.stands.standings;
            pending = pend served.after served.stands;
            stand = stand served.after served.stands;
            outlasts = outlast served.after served.stands;
          };
        }

    -- and of first commands
    abbrev pub front_ends : {may : Type 0} → AllUp W → length W.standings ≤ length old_disks
        → ServesWorldFront tells may keep disk volume W before commands world old new old_disks new_disks
        → EndsFront tells may disk (StandNow keep disk before old_disks) volume W commands old new old_disks new_disks
    front_ends up pairs front =
        let linked = none_caused nothing front.caused in
        record {
          after = front.after;
          serves = front.serves;
          leaves = record {
            linked = linked;
            disks = front.disks;
            done = front_done_where_none front.serves.more_outcomes front.serves.run up pairs linked front.disks;
            fuses = permitted keep disk before old_disks slots told
                (all_outcomes front.serves.outcomes ++ front.serves.more_outcomes) front.fuses;
            standings = front.stands.standings;
            pending = pend front.after front.stands;
            stand = stand front.after front.stands;
            outlasts = outlast front.after front.stands;
          };
        }

    -- each command with the disks
    module _ (same : keep.kept ≡ kept_in) where
      pub served_on : AllUp W → length W.standings ≤ length old_disks
          → ServesWorld tells keep disk volume W before commands world old new old_disks new_disks
          → EndsOn tells disk (StandNow keep disk before old_disks) volume W commands old new old_disks new_disks
      served_on up pairs served = record {
        ends = served_ends up pairs served;
        runs = subst (λ (kept : List ℕ → List ℕ → Option Kept). RunOn kept disk volume W commands
            served.serves.outcomes served.serves.answers served.after old_disks new_disks) same (served.runs told);
      }

      pub front_on : {may : Type 0} → AllUp W → length W.standings ≤ length old_disks
          → ServesWorldFront tells may keep disk volume W before commands world old new old_disks new_disks
          → EndsFrontOn tells may disk (StandNow keep disk before old_disks) volume W commands old new old_disks
          new_disks
      front_on up pairs front = record {
        ends = front_ends up pairs front;
        runs = subst (λ (kept : List ℕ → List ℕ → Option Kept). FrontOn kept disk volume W
            (take front.serves.count commands) (drop front.serves.count commands) front.serves.outcomes (front.serves.whole ++ front.serves.last)
            front.serves.middle front.after old_disks new_disks) same (front.runs told);
      }

module _ {D : Type 0} (disk : Disk D) {old_disks mid_disks new_disks : List (Pair D)}
    (steady : Steady disk.faults old_disks mid_disks) (unarmed : Steady disk.armings old_disks mid_disks) where
  pub follows_behind : {outcomes : List Outcome} → DisksFollow disk.faults disk.armings outcomes mid_disks new_disks
      → DisksFollow disk.faults disk.armings outcomes old_disks new_disks
  follows_behind follows =
      follows_then (follows_steady steady.count (λ r was now is_was is_now.
      (steady.each r was now is_was is_now, unarmed.each r was now is_was is_now))) follows

  pub none_behind : NoneFailed disk.faults old_disks new_disks → NoneFailed disk.faults mid_disks new_disks
  none_behind none = record {
    steady = record {
      count = none.steady.count ∙ sym steady.count;
      each = λ r was now is_was is_now.
          let first = number_exists old_disks r (subst (λ n. IsMember n r) steady.count is_was.member) in
          let before = steady.each r first.0 was first.1 is_was in
          let both = none.steady.each r first.0 now first.1 is_now in
          record { a = both.a ∙ sym before.a; b = both.b ∙ sym before.b };
    };
    each = none.each;
  }

  module _ {Rest Before : (ℕ → FuseState) → Type 0} {volume : Volume} (rests : (F : ℕ → FuseState) → Before F → Rest F)
    where
      -- what became of what was asked of disks to which nothing had happened before
      pub leaves_behind : {after : ModelWorld} {outcomes : List (List Outcome)} {all : List Outcome}
          → LeavesDisks disk Rest volume after outcomes all mid_disks new_disks
          → LeavesDisks disk Before volume after outcomes all old_disks new_disks
      leaves_behind leaves = record {
        linked = leaves.linked;
        disks = follows_behind leaves.disks;
        done = λ none. leaves.done (none_behind none);
        fuses = λ F before. leaves.fuses F (rests F before);
        standings = leaves.standings;
        pending = leaves.pending;
        stand = leaves.stand;
        outlasts = leaves.outlasts;
      }

      -- what was served over such disks
      module _ {tells : Type 0} {W : ModelWorld} {commands : List Command} {old new : List ℕ} where
        abbrev pub ends_behind : Ends tells disk Rest volume W commands old new mid_disks new_disks
            → Ends tells disk Before volume W commands old new old_disks new_disks
        ends_behind ends = record { after = ends.after; serves = ends.serves; leaves = leaves_behind ends.leaves }

        abbrev pub front_ends_behind : {may : Type 0}
            → EndsFront tells may disk Rest volume W commands old new mid_disks new_disks
            → EndsFront tells may disk Before volume W commands old new old_disks new_disks
        front_ends_behind front =
            record { after = front.after; serves = front.serves; leaves = leaves_behind front.leaves }

-- what may be may be wherever this is so
abbrev pub front_ends_where : {may other : Type 0} → (may → other) → {D : Type 0} {tells : Type 0} {disk : Disk D}
    {Rest : (ℕ → FuseState) → Type 0} {volume : Volume} {W : ModelWorld} {commands : List Command} {old new : List ℕ}
    {old_disks new_disks : List (Pair D)}
    → EndsFront tells may disk Rest volume W commands old new old_disks new_disks
    → EndsFront tells other disk Rest volume W commands old new old_disks new_disks
front_ends_where further ends =
    record { after = ends.after; serves = front_where further ends.serves; leaves = ends.leaves }
