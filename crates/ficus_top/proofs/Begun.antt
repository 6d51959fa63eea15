-- Fresh volumes, one after the other, and what they run.
use Rattle.std.proofs.Common.{◌≡◌, ◌⊎◌, ℕ, ◌+◌, ◌-◌, ◌≤◌, List, [], ◌∷◌, ◌++◌, length, get_or, map, take, refl, sym, ap, ◌∙◌, subst, inl, inr, arith, length-append}
use Rattle.std.specs.Prelude.{Vec, vec_items}
use Rattle.std.specs.declared.alloc.Global.{Global}
use Rattle.std.specs.Prelude.{◌<◌, ⊤}
use Rattle.std.proofs.lemmas.List.{append-nil, length-map, length-set, length_push, take_more}
use Rattle.ficus_disk.specs.contracts.mem_disk.MemDiskDisk
use Rattle.ficus_disk.specs.declared.mem_disk.MemDisk.{MemDisk}
use Rattle.ficus_disk.specs.declared.pair.Pair.{Pair}
use Rattle.ficus_ids.specs.Members.{IsCount, IsMember}
use Rattle.ficus_model.specs.Events.{raised}
use Rattle.ficus_model.specs.Lawful.{Volume}
use Rattle.ficus_runs.proofs.Numbers.{number_cases, number_exists, number_once}
use Rattle.ficus_runs.proofs.Replaced.{replaced}
use Rattle.ficus_runs.proofs.Starts.{length_restarts}
use Rattle.ficus_runs.specs.Numbered.{IsNumbered}
use Rattle.ficus_runs.specs.Run.Run.{End}
use Rattle.ficus_top.specs.Summary.Keeper.{Keeper, keeper}
use Rattle.ficus_world.specs.World.{Backed, Whole, WorldStandsFor}
use Rattle.ficus_loop.proofs.Places.{none_caused, tells_for}
use Rattle.ficus_loop.specs.Serving.{serving_limit}
use Rattle.ficus_world.specs.Fuses.{at_rest}
use Rattle.ficus_script.specs.declared.volume_line.VolumeLine.{VolumeLine}
use Rattle.ficus_top.specs.Graft.Answered.{AreAnswered, Sent}
use Rattle.ficus_top.specs.Graft.Answered.AreAnswered.{None}
use Rattle.ficus_world.specs.Disks.{IsBacked}
use Rattle.ficus_top.specs.Graft.Runs.{AnswersFront, AnswersLines, Disks, EachRuns, HaveRoom, IsNextCut}
use Rattle.ficus_top.specs.Graft.Serving.{Told}
use Rattle.ficus_top.specs.Fresh.{AnswersFresh, AnswersFreshFront, AreFresh, AreUnfailed, IsFresh, RunsFresh, begun}

-- it stores one event for each member at most
pub few_events : (volume : Volume) (world : Whole) → IsCount volume.members
    → WorldStandsFor volume (begun volume.members) world → length world.events ≤ 8
few_events volume world count stands =
    let earlier = stands.stored.earlier in
    omega (
      arith,
      length_restarts volume.members,
      ap length stands.stored.is,
      length-append earlier (map (raised (length earlier)) world.events),
      length-map world.events (raised (length earlier)),
      count.at_most,
    )

module _ (volume : Volume) (worlds : List (Backed Keeper)) (disks : Disks MemDisk) (world : Backed Keeper)
    (pairs : Vec (Pair MemDisk) Global) where
  -- one volume more
  pub fresh_more : IsBacked keeper MemDiskDisk.TheImpl.ghosts world (vec_items pairs)
      → IsFresh volume world (vec_items pairs) → AreFresh volume worlds disks
      → AreFresh volume (worlds ++ world ∷ []) (disks ++ pairs ∷ [])
  fresh_more held fresh are = record {
    held = record {
      count = omega (arith, are.held.count, length_push worlds world, length_push disks pairs);
      each = λ v own own_pairs is of.
          elim (number_cases worlds world is) [
            | inl before ↦ elim (number_cases disks pairs of) [
              | inl too ↦ are.held.each v own own_pairs before too
              | inr last ↦ absurd (omega (arith, last.0, before.member.at_most, are.held.count))
            ]
            | inr last ↦ elim (number_cases disks pairs of) [
              | inl before ↦ absurd (omega (arith, last.0, before.member.at_most, are.held.count))
              | inr too ↦
                  subst (λ (w : Backed Keeper). IsBacked keeper MemDiskDisk.TheImpl.ghosts w
                  (vec_items own_pairs)) (sym last.1)
                  (subst (λ (p : Vec (Pair MemDisk) Global). IsBacked keeper
                  MemDiskDisk.TheImpl.ghosts world (vec_items p)) (sym too.1) held)
            ]
          ];
    };
    each = λ v own own_pairs is of.
        elim (number_cases worlds world is) [
          | inl before ↦ elim (number_cases disks pairs of) [
            | inl too ↦ are.each v own own_pairs before too
            | inr last ↦ absurd (omega (arith, last.0, before.member.at_most, are.held.count))
          ]
          | inr last ↦ elim (number_cases disks pairs of) [
            | inl before ↦ absurd (omega (arith, last.0, before.member.at_most, are.held.count))
            | inr too ↦
                subst (λ (w : Backed Keeper). IsFresh volume w (vec_items own_pairs)) (sym last.1)
                (subst (λ (p : Vec (Pair MemDisk) Global). IsFresh volume world (vec_items p)) (sym too.1) fresh)
          ]
        ];
  }

-- the link of one more volume hasn't failed
pub unfailed_more : (worlds : List (Backed Keeper)) (index : ℕ) (world : Backed Keeper) → index < length worlds
    → world ≡ get_or worlds index world → world.whole.post.faults ≡ 0 → AreUnfailed (take index worlds)
    → AreUnfailed (take (index + 1) worlds)
unfailed_more worlds index world within is none before v own at =
    let behind : take (index + 1) worlds ≡ take index worlds ++ world ∷ [] =
    take_more worlds index world within ∙ ap (λ (w : Backed Keeper). take index worlds ++ w ∷ []) (sym is) in
    elim (number_cases (take index worlds) world
    (subst (λ (w : List (Backed Keeper)). IsNumbered w v own) behind at)) [
      | inl earlier ↦ before v own earlier
      | inr last ↦ subst (λ (w : Backed Keeper). w.whole.post.faults ≡ 0) (sym last.1) none
    ]

-- each volume has run what was sent to it from its beginning, where its link has never failed
pub runs_fresh : (volume : Volume) (sent : List Sent) (old new : List (Backed Keeper)) (disks later : Disks MemDisk)
    (link told : Type 0) → told → AreFresh volume old disks
    → EachRuns link told keeper MemDiskDisk.TheImpl.ghosts sent old new disks later → AreUnfailed new
    → (v : ℕ) → IsMember (length old) v → RunsFresh volume v sent
runs_fresh volume sent old new disks later link told is_told are runs unfailed v member =
    let world = number_exists old v member in
    let next = number_exists new v (subst (λ n. IsMember n v) (sym runs.count) member) in
    let of : IsMember (length disks) v = subst (λ n. IsMember n v) (sym are.held.count) member in
    let pairs = number_exists disks v of in
    let becomes = number_exists later v (subst (λ n. IsMember n v) (sym runs.lists) of) in
    let fresh = are.each v world.0 pairs.0 world.1 pairs.1 in
    let run = runs.each is_told v volume (begun volume.members) world.0 next.0 pairs.0 becomes.0 world.1 next.1 pairs.1
    becomes.1 fresh.stands in
    record {
      outcomes = run.outcomes;
      after = run.after;
      run = run.run;
      linked = none_caused (unfailed v next.0 next.1) run.caused;
      fuses = run.fuses.permit.all tt tt (λ r. at_rest 0) (fresh.fuses (λ r. at_rest 0) (λ r. refl));
    }

-- there is room for what a script stores
pub room_of : (volume : Volume) (worlds : List (Backed Keeper)) (disks : Disks MemDisk) → AreFresh volume worlds disks
    → HaveRoom serving_limit worlds
room_of volume worlds disks are v world is =
    let pairs = number_exists disks v (subst (λ n. IsMember n v) (sym are.held.count) is.member) in
    let few = (are.each v world pairs.0 is pairs.1).few in
    omega (arith, few)

-- links and disks in memory tell what they hold
told_always : (lines : List VolumeLine) → Told ⊤ ⊤ lines
told_always lines = record { posts = tt; held = λ k d within. tells_for tt _ }

-- what was answered over fresh volumes
module _ (tells : Type 0) (volume : Volume) (count : ℕ) (lines : List VolumeLine) (worlds old new : List (Backed Keeper))
    (disks later : Disks MemDisk) (was now : List ℕ) (same : old ≡ worlds) (counted : length worlds ≡ count)
    (are : AreFresh volume worlds disks) (unfailed : AreUnfailed new) where
  fresh : AreFresh volume old disks
  fresh = subst (λ (w : List (Backed Keeper)). AreFresh volume w disks) (sym same) are

  number : length old ≡ count
  number = ap length same ∙ counted

  pub answers_fresh : AnswersLines tells ⊤ (Told ⊤ ⊤ lines) keeper MemDiskDisk.TheImpl.ghosts lines old
      new disks later was now → AnswersFresh tells volume count lines was now
  answers_fresh answers = record {
    sent = answers.sent;
    answers = answers.answers;
    answered = subst (λ n. AreAnswered n lines answers.sent answers.answers) number answers.answered;
    each = λ v member.
        runs_fresh volume answers.sent old new disks later ⊤ (Told ⊤ ⊤ lines) (told_always lines) fresh answers.runs unfailed
        v (subst (λ n. IsMember n v) (sym number) member);
    put = answers.put;
  }

  module _ (front : AnswersFront tells ⊤ (Told ⊤ ⊤ lines) keeper MemDiskDisk.TheImpl.ghosts lines old
      new disks later was now) where
    -- no link had failed before the last line was cut short
    unfailed_before : AreUnfailed front.worlds
    unfailed_before v world is = go front.left
      where
        go : ((new ≡ front.worlds) × (later ≡ front.disks))
            ⊎ IsNextCut ⊤ keeper MemDiskDisk.TheImpl.ghosts lines front.count front.last front.worlds
            new front.disks later → world.whole.post.faults ≡ 0
        go (inl as_before) =
            unfailed v world (subst (λ (w : List (Backed Keeper)). IsNumbered w v world) (sym as_before.0) is)
        go (inr next) =
            let cut = next.cut.cut in
            let still : length new ≡ length front.worlds =
            ap length cut.set ∙ length-set front.worlds (next.cut.volume - 1) cut.next in
            let own = number_exists new v (subst (λ n. IsMember n v) (sym still) is.member) in
            elim (replaced front.worlds next.cut.volume v cut.next own.0 cut.member.at_least
            (subst (λ (w : List (Backed Keeper)). IsNumbered w v own.0) cut.set own.1)) [
              | inl mine ↦
                  let of_old : IsMember (length old) v = subst (λ n. IsMember n v) front.runs.count is.member in
                  let first = number_exists old v of_old in
                  let of : IsMember (length disks) v = subst (λ n. IsMember n v) (sym fresh.held.count) of_old in
                  let pairs = number_exists disks v of in
                  let between = number_exists front.disks v (subst (λ n. IsMember n v) (sym front.runs.lists) of) in
                  let begins = (fresh.each v first.0 pairs.0 first.1 pairs.1).stands in
                  let run = front.runs.each (told_always lines) v volume (begun volume.members) first.0 world pairs.0 between.0
                  first.1 is pairs.1 between.1 begins in
                  let stop = cut.stops tt volume run.after world between.0
                  (subst (λ n. IsNumbered front.worlds n world) mine.0 is)
                  (subst (λ n. IsNumbered front.disks n between.0) mine.0 between.1) run.stands in
                  let none = unfailed v own.0 own.1 in
                  let ends : own.0.whole.post.faults ≡ cut.next.whole.post.faults =
                  ap (λ (w : Backed Keeper). w.whole.post.faults) mine.1 in
                  omega (arith, stop.stops.caused.risen, ends, none)
              | inr others ↦
                  let as_then : own.0 ≡ world = number_once others.1 is in
                  subst (λ (w : Backed Keeper). w.whole.post.faults ≡ 0) as_then (unfailed v own.0 own.1)
            ]

    pub front_fresh : AnswersFreshFront tells volume count lines was now
    front_fresh = record {
      some = front.count;
      within = front.within;
      sent = front.sent;
      whole = front.whole;
      last = front.last;
      at_most_one = front.at_most_one;
      answered = subst (λ n. AreAnswered n (take front.count lines) front.sent (front.whole ++ front.last)) number
          front.answered;
      each = λ v member.
          runs_fresh volume front.sent old front.worlds disks front.disks ⊤ (Told ⊤ ⊤ lines) (told_always lines) fresh
          front.runs unfailed_before v (subst (λ n. IsMember n v) (sym number) member);
      put = front.put;
    }

-- where no volume was made nothing was answered
pub none_fresh : (tells : Type 0) (volume : Volume) (count : ℕ) (lines : List VolumeLine) (was : List ℕ)
    → AnswersFreshFront tells volume count lines was was
none_fresh tells volume count lines was = record {
  some = 0;
  within = omega arith;
  sent = [];
  whole = [];
  last = [];
  at_most_one = omega arith;
  answered = None;
  each = λ v member. record {
    outcomes = [];
    after = begun volume.members;
    run = End;
    linked = refl;
    fuses = tt;
  };
  put = λ tell. record { front = []; rest = []; is = refl; put = sym (append-nil was) ∙ sym (append-nil (was ++ [])) };
}
