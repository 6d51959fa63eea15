-- What a call of a disk that stands in for one is to the disk which may be either.
use Rattle.std.proofs.Common.{◌≡◌, ◌≤◌, ℕ, List, length, Result, subst, sym}
use Rattle.std.specs.Prelude.{⊤}
use Rattle.ficus_disk.specs.Calls.{Counts, Keeps, Reopens, Stays, Writes}
use Rattle.ficus_disk.specs.declared.disk.Disk.{Ghosts as Disk}
use Rattle.ficus_here_or_away.specs.HereOrAway.{either}
use Rattle.ficus_here_or_away.specs.StandIn.{MayBeLeft, MightBeLeft, armings_of, faults_of, moment_of, room_of, seen_of}
use Rattle.ficus_here_or_away.specs.declared.here_or_away.HereOrAway.{HereOrAway}
use Rattle.ficus_here_or_away.specs.declared.here_or_away.HereOrAway.TheVariants.{Away}
use Rattle.ficus_here_or_away.specs.declared.stand_in.StandIn.{StandIn}

module _ {D : Type 0} (disk : Disk D) (was now : StandIn) (old : HereOrAway D) (is : old ≡ Away was) where
  pub keeps_away : Keeps ⊤ seen_of MayBeLeft moment_of MightBeLeft room_of was now
      → Keeps disk.tells (either disk.seen seen_of) (either disk.may_leave MayBeLeft) (either disk.moment moment_of)
      (either disk.left_since MightBeLeft) (either disk.room room_of) old (Away now)
  keeps_away keeps = subst
      (λ (d : HereOrAway D). Keeps disk.tells (either disk.seen seen_of) (either disk.may_leave MayBeLeft)
      (either disk.moment moment_of) (either disk.left_since MightBeLeft) (either disk.room room_of) d (Away now))
      (sym is) (record {
        seen = λ _. keeps.seen tt;
        crash = keeps.crash;
        moments = keeps.moments;
        room = keeps.room;
      })

  module _ {A E : Type 0} (result : Result A E) where
    pub stays_away : Stays ⊤ seen_of MayBeLeft moment_of MightBeLeft room_of faults_of armings_of was now result
        → Stays disk.tells (either disk.seen seen_of) (either disk.may_leave MayBeLeft) (either disk.moment moment_of)
        (either disk.left_since MightBeLeft) (either disk.room room_of) (either disk.faults faults_of)
        (either disk.armings armings_of) old (Away now) result
    stays_away stays = record {
      keeps = keeps_away stays.keeps;
      counts = subst
          (λ (d : HereOrAway D). Counts (either disk.faults faults_of) (either disk.armings armings_of) d (Away now)
          result)
          (sym is) (record {
            failed = stays.counts.failed;
            steady = stays.counts.steady;
            risen = stays.counts.risen;
            armings = stays.counts.armings;
          });
    }

    pub writes_away : (at : ℕ) (bytes : List ℕ) → (disk.tells → at ≤ length (either disk.seen seen_of old))
        → Writes (at ≤ length (seen_of was)) seen_of MayBeLeft moment_of MightBeLeft room_of at bytes was now result
        → Writes disk.tells (either disk.seen seen_of) (either disk.may_leave MayBeLeft) (either disk.moment moment_of)
        (either disk.left_since MightBeLeft) (either disk.room room_of) at bytes old (Away now) result
    writes_away at bytes place writes =
        let fits : disk.tells → at ≤ length (seen_of was) = λ told.
        subst (λ (d : HereOrAway D). at ≤ length (either disk.seen seen_of d)) is (place told) in
        subst
        (λ (d : HereOrAway D). Writes disk.tells (either disk.seen seen_of) (either disk.may_leave MayBeLeft)
        (either disk.moment moment_of) (either disk.left_since MightBeLeft) (either disk.room room_of) at bytes d
        (Away now) result)
        (sym is) (record {
          written = λ told. writes.written (fits told);
          begun = λ told. writes.begun (fits told);
          crash = writes.crash;
          moments = writes.moments;
          room = writes.room;
        })

    pub reopens_away : Reopens ⊤ seen_of MayBeLeft moment_of MightBeLeft room_of was now result
        → Reopens disk.tells (either disk.seen seen_of) (either disk.may_leave MayBeLeft) (either disk.moment moment_of)
        (either disk.left_since MightBeLeft) (either disk.room room_of) old (Away now) result
    reopens_away reopens = subst
        (λ (d : HereOrAway D). Reopens disk.tells (either disk.seen seen_of) (either disk.may_leave MayBeLeft)
        (either disk.moment moment_of) (either disk.left_since MightBeLeft) (either disk.room room_of) d (Away now)
        result)
        (sym is) (record {
          left = λ _. reopens.left tt;
          durable = λ _. reopens.durable tt;
          begun = λ _. reopens.begun tt;
          crash = reopens.crash;
          moments = reopens.moments;
          room = reopens.room;
        })
