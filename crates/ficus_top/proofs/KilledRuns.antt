-- What is left of the disks of a run that was killed, and what the next run begins with.
use Rattle.std.proofs.Common.{◌≡◌, ℕ, ◌+◌, ◌<◌, ◌≤◌, ◌^◌, List, ◌++◌, length, Option, refl, inl, inr, ◌⊎◌, ⊎_elim, arith}
use Rattle.std.proofs.lemmas.List.{length-append}
use Rattle.ficus_disk.specs.declared.disk.Disk.{Ghosts as Disk}
use Rattle.ficus_disk.specs.declared.pair.Pair.{Pair}
use Rattle.ficus_ids.specs.Members.{IsCount}
use Rattle.ficus_keeper.specs.Kept.{Kept}
use Rattle.ficus_model.specs.Lawful.{IsLawful, Volume}
use Rattle.ficus_model.specs.declared.event.Event.{Event}
use Rattle.ficus_script.specs.declared.answer.Answer.{Answer}
use Rattle.ficus_script.specs.declared.command.Command.{Command}
use Rattle.ficus_runs.specs.ModelWorld.{ModelWorld}
use Rattle.ficus_runs.specs.Outcome.{Outcome}
use Rattle.ficus_runs.proofs.Extending.{Extends, as_it_was, further, step_extends}
use Rattle.ficus_runs.proofs.Runs.{run_lawful, step_lawful}
use Rattle.ficus_opening.specs.Opening.{StandsOn}
use Rattle.ficus_loop.specs.Trail.{AreKilled, DuringAt, IsEither, IsPendingIn, KeepsBetween, KeepsFrom, Killed, SomePending, Somewhere, Trail, whole}
use Rattle.ficus_loop.specs.Trail.Trail.{Joined, Link, Still}
use Rattle.ficus_loop.proofs.During.{during}
use Rattle.ficus_loop.proofs.KilledDisks.{killed_disks}
use Rattle.ficus_top.proofs.Members.{run_count, step_count}

extends_so : {H K : List Event} (since : List Event) → K ≡ H ++ since → Extends H K
extends_so since is = record { later = since; is = is }

module _ {D : Type 0} {kept : List ℕ → List ℕ → Option Kept} {disk : Disk D} {volume : Volume} where
  -- what holds of every world of a trail
  trail_extends : {V U : ModelWorld} {x y : List (Pair D)} → Trail kept disk volume V U x y → Extends V.events U.events
  trail_extends (Still {W = W} rests) = as_it_was W.events
  trail_extends (Link step crosses spared) = step_extends step
  trail_extends (Joined one two) = further (trail_extends one) (trail_extends two)

  trail_lawful : {V U : ModelWorld} {x y : List (Pair D)} → Trail kept disk volume V U x y → IsLawful volume V.events
      → IsLawful volume U.events
  trail_lawful (Still rests) lawful = lawful
  trail_lawful (Link step crosses spared) lawful = step_lawful step lawful
  trail_lawful (Joined one two) lawful = trail_lawful two (trail_lawful one lawful)

  trail_standings : {V U : ModelWorld} {x y : List (Pair D)} → Trail kept disk volume V U x y
      → length V.standings ≡ volume.members → length U.standings ≡ volume.members
  trail_standings (Still rests) count = count
  trail_standings (Link step crosses spared) count = step_count step count
  trail_standings (Joined one two) count = trail_standings two (trail_standings one count)

  -- what is kept in a world of a trail, which goes on from that before it, and from which that after it goes on
  kept_there : {V U : ModelWorld} {x y : List (Pair D)} (trail : Trail kept disk volume V U x y) (left : List (Pair D))
      (there : ModelWorld) → Somewhere (IsEither there) trail → Extends V.events there.events
      → Extends there.events U.events → KeepsFrom kept disk.seen volume there left → KeepsBetween trail left
  kept_there trail left there on before after keeps = record {
    there = there;
    on = on;
    since = before.later;
    rest = after.later;
    so_far = before.is;
    within = after.is;
    keeps = keeps;
  }

  -- what is kept in a first part of a trail, or in what is behind it
  kept_first : {V M U : ModelWorld} {x mid y : List (Pair D)} (one : Trail kept disk volume V M x mid)
      (two : Trail kept disk volume M U mid y) (left : List (Pair D)) → KeepsBetween one left
      → KeepsBetween (Joined one two) left
  kept_first one two left keeps =
      kept_there (Joined one two) left keeps.there (inl keeps.on) (extends_so keeps.since keeps.so_far)
      (further (extends_so keeps.rest keeps.within) (trail_extends two)) keeps.keeps

  kept_behind : {V M U : ModelWorld} {x mid y : List (Pair D)} (one : Trail kept disk volume V M x mid)
      (two : Trail kept disk volume M U mid y) (left : List (Pair D)) → KeepsBetween two left
      → KeepsBetween (Joined one two) left
  kept_behind one two left keeps =
      kept_there (Joined one two) left keeps.there (inr keeps.on)
      (further (trail_extends one) (extends_so keeps.since keeps.so_far)) (extends_so keeps.rest keeps.within) keeps.keeps

  module _ (told : disk.tells) (moments : disk.tells_moments) (left : List (Pair D))
      (pairs : volume.members ≤ length left) where
    -- a moment of a trail is one of two neighbours, each with a world on the way
    pub killed_between : {V U : ModelWorld} {x y : List (Pair D)} (trail : Trail kept disk volume V U x y)
        → IsLawful volume V.events → length V.standings ≡ volume.members
        → Somewhere (AreKilled disk left) trail → KeepsBetween trail left
    killed_between (Still {W = W} {old = x} {new = y} rests) lawful count there =
        ⊎_elim
        (λ before. kept_there (Still rests) left W (inl refl) (as_it_was W.events) (as_it_was W.events) before)
        (λ after. kept_there (Still rests) left W (inl refl) (as_it_was W.events) (as_it_was W.events) after.2)
        (killed_disks kept disk volume W W x y left told moments lawful lawful count count
        (omega (arith, pairs, there.count)) there.count rests there.each)
    killed_between (Link {V = V} {U = U} {old = x} {new = y} step crosses spared) lawful count there =
        ⊎_elim
        (λ before. kept_there (Link step crosses spared) left V (inl refl) (as_it_was V.events) (step_extends step) before)
        (λ after. kept_there (Link step crosses spared) left U (inr refl) (step_extends step) (as_it_was U.events) after.2)
        (killed_disks kept disk volume V U x y left told moments lawful (step_lawful step lawful) count
        (step_count step count) (omega (arith, pairs, there.count)) there.count crosses there.each)
    killed_between (Joined one two) lawful count (inl there) =
        kept_first one two left (killed_between one lawful count there)
    killed_between (Joined one two) lawful count (inr there) =
        kept_behind one two left (killed_between two (trail_lawful one lawful) (trail_standings one count) there)

    -- a moment of a run is one of its openings, or one of a command
    pub killed_in_run : {W after : ModelWorld} {commands : List Command} {outcomes : List (List Outcome)}
        {answers : List Answer} {entry now : List (Pair D)}
        (killed : Killed kept disk volume W commands outcomes answers after entry now) → IsLawful volume W.events
        → length W.standings ≡ volume.members
        → Somewhere (AreKilled disk left) (whole (Still killed.opens) killed.run)
        → KeepsBetween (Still killed.opens) left
        ⊎ ((k : ℕ) × (during : DuringAt kept disk volume (AreKilled disk left) W commands outcomes answers k)
        × KeepsBetween during.does.trail left)
    killed_in_run killed lawful count there =
        ⊎_elim (λ first. inl (killed_between (Still killed.opens) lawful count first))
        (λ later.
        let at = later.1 in
        inr (
          later.0,
          at,
          killed_between at.does.trail (run_lawful at.ran lawful) (run_count at.ran count) at.there,
        ))
        (during (AreKilled disk left) (Still killed.opens) killed.run there)

-- the next run begins with what the pairs keep
pub kept_stands : {D : Type 0} (kept : List ℕ → List ℕ → Option Kept) (seen : D → List ℕ) (volume : Volume)
    (W : ModelWorld) (disks : List (Pair D)) → IsCount volume.members → length W.events + volume.members < 2 ^ 62
    → KeepsFrom kept seen volume W disks
    → (more : List Event) × SomePending (IsPendingIn W) volume.members more
    × StandsOn kept seen volume (W.events ++ more) disks
kept_stands kept seen volume W disks count few keeps = (
  keeps.more,
  keeps.pending,
  record {
    count = count;
    lawful = keeps.lawful;
    few = omega (arith, few, keeps.few, length-append W.events keeps.more);
    keeps = keeps.keeps;
  },
)
