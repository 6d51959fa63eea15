-- What the disks of each replica are judged to be, one after the other, and how a check ends.
use Rattle.std.proofs.Common.{◌≡◌, ◌≢◌, ◌⊎◌, ℕ, ◌+◌, ◌-◌, ◌<◌, ◌≤◌, List, length, Result, Ok, Err, refl, sym, ap, subst, ◌∙◌, inl, inr, arith}
use Rattle.std.specs.Prelude.{IsErrOf, slice_set}
use Rattle.std.proofs.lemmas.Option.{get_or_from_slice_get}
use Rattle.ficus_opening.specs.Check.Judged.{IsJudged}
use Rattle.ficus_opening.specs.declared.check.checked.Checked.{Checked}
use Rattle.ficus_opening.proofs.check.Judging.{judged_same}
use Rattle.ficus_disk.specs.declared.disk.Disk.{Ghosts as Disk}
use Rattle.ficus_disk.specs.declared.pair.Pair.{Pair}
use Rattle.ficus_ids.specs.Members.{IsMember}
use Rattle.ficus_top.specs.Summary.Keeper.{kept_in}
use Rattle.ficus_runs.proofs.Numbers.{number_exists}
use Rattle.ficus_runs.specs.Numbered.{IsNumbered}
use Rattle.ficus_opening.specs.Rests.{AllRest, RestsAt}
use Rattle.ficus_opening.specs.Opening.{IsAtFault, IsUnfailed, SeenSame, Steady}
use Rattle.ficus_opening.specs.declared.fault.WorldFault.{WorldFault}
use Rattle.ficus_opening.specs.declared.fault.WorldFault.TheVariants.{Image, Memory, Occupied, Store}
use Rattle.ficus_opening.proofs.Rests.{all_rest_none, all_rest_one, all_rest_then}
use Rattle.ficus_opening.proofs.Steadies.{fault_behind, set_at, steady_none, steady_trans}
use Rattle.ficus_top.specs.Codes.{IsCode, IsIdleCode, IsUntouchedCode, NamesReplica}
use Rattle.ficus_top.specs.Ends.{NoneFailed}
use Rattle.ficus_top.specs.Modes.Check.{AreJudged, DoesCheck, FailsAs, IsCheckCode, PutsJudgements, PutsJudgementsFront, StaysUnwritten}
use Rattle.ficus_top.specs.Program.{EndsAsAny}
use Rattle.ficus_top.specs.Seen.{Seen, SinkFailed, disks_after, disks_before, put_after, put_before}
use Rattle.ficus_top.specs.Status.{code_of}
use Rattle.ficus_top.specs.declared.fault.Fault.TheVariants.{Storing}
use Rattle.ficus_top.specs.declared.status.Status.{Status}
use Rattle.ficus_top.proofs.Earlier.{not_at_fault}

module _ {D : Type 0} (disk : Disk D) where
  -- nothing is asked of the disks
  pub unwritten_none : (disks : List (Pair D)) → StaysUnwritten disk disks disks
  unwritten_none disks = record {
    rests = all_rest_none disk disks;
    same = λ tells. steady_none disk.seen disks;
    unarmed = steady_none disk.armings disks;
  }

  -- on one pair nothing is written, and the others stay
  all_rest_at : (by : ℕ) (old new : List (Pair D)) → RestsAt disk by old new → AllRest disk old new
  all_rest_at by old new at =
      subst (λ (disks : List (Pair D)). AllRest disk old disks) (sym at.set)
      (all_rest_one disk old (by - 1) at.was at.now
      (omega (arith, at.is.member.at_least, at.is.member.at_most))
      (sym (get_or_from_slice_get old (by - 1) at.was at.was at.is.is)) at.rests)

  -- and then one pair is asked
  pub unwritten_then : ((d : D) (t u : ℕ) (c : List ℕ) → t ≤ u → disk.left_since d u c → disk.left_since d t c)
      → (by : ℕ) (old mid new : List (Pair D)) → StaysUnwritten disk old mid → RestsAt disk by mid new
      → (disk.tells → SeenSame disk.seen mid new) → Steady disk.armings mid new → StaysUnwritten disk old new
  unwritten_then earlier by old mid new first rests same unarmed = record {
    rests = all_rest_then disk earlier old mid new first.rests (all_rest_at by mid new rests);
    same = λ tells. steady_trans disk.seen old mid new (first.same tells) (same tells);
    unarmed = steady_trans disk.armings old mid new first.unarmed unarmed;
  }

module _ {D : Type 0} (faults : D → ℕ) where
  -- behind others that haven't failed
  pub fails_behind : {T : Type 0} (ended : Result T WorldFault) (old mid new : List (Pair D)) → Steady faults old mid
      → FailsAs faults ended mid new → FailsAs faults ended old new
  fails_behind (Ok done) old mid new steady fails = steady_trans faults old mid new steady fails
  fails_behind (Err Memory) old mid new steady fails = steady_trans faults old mid new steady fails
  fails_behind (Err (Store r)) old mid new steady fails = fault_behind faults old mid new r steady fails
  fails_behind (Err (Occupied r)) old mid new steady fails = fails
  fails_behind (Err (Image r)) old mid new steady fails = fails

  -- as it is told of one check whose fault is handed on
  pub fails_of : {S T : Type 0} (one : Result S WorldFault) (two : Result T WorldFault) (fault given : WorldFault)
      (number : ℕ) (old new : List (Pair D)) → one ≡ Err fault → two ≡ Err given → given ≡ fault
      → ((r : ℕ) → IsErrOf one (Store r) → (r ≡ number) × IsAtFault faults old new r)
      → ((r : ℕ) → IsErrOf one (Occupied r) → ⊥) → ((r : ℕ) → IsErrOf one (Image r) → ⊥)
      → ((other : WorldFault) → IsUnfailed other → IsErrOf one other → Steady faults old new)
      → FailsAs faults two old new
  fails_of {S} {T} one two fault given number old new was is same failed occupied image spared =
      subst (λ (ended : Result T WorldFault). FailsAs faults ended old new)
      (sym (is ∙ ap (λ (f : WorldFault). Err f) same)) (go fault was)
    where
      go : (other : WorldFault) → one ≡ Err other → FailsAs {T = T} faults (Err other) old new
      go (Store r) so = (failed r so).1
      go Memory so = spared Memory tt so
      go (Occupied r) so = occupied r so
      go (Image r) so = image r so

-- the pairs of these first replicas are judged to be what is noted of them
pub record AreJudgedSo {D : Type 0} (tells : Type 0) (seen : D → List ℕ) (disks : List (Pair D))
    (judgements : List Checked) (count : ℕ) : Type 0 where
  pub each : tells → (r : ℕ) (pair : Pair D) (told : Checked) → r ≤ count → IsNumbered disks r pair
      → IsNumbered judgements r told → IsJudged kept_in seen r pair told

module _ {D : Type 0} (tells : Type 0) (seen : D → List ℕ) (old now : List (Pair D)) (judgements : List Checked) where
  pub judged_none : AreJudgedSo tells seen old judgements 0
  judged_none = record {
    each = λ told r pair checked most at noted. absurd (omega (arith, most, at.member.at_least));
  }

  -- one replica more
  pub judged_more : (before : ℕ) (next : Checked) → (tells → Steady seen old now)
      → AreJudgedSo tells seen old judgements before
      → (tells → (pair : Pair D) → IsNumbered now (before + 1) pair → IsJudged kept_in seen (before + 1) pair next)
      → AreJudgedSo tells seen old (slice_set judgements before next) (before + 1)
  judged_more before next same behind judged = record {
    each = λ told r pair checked most at noted. elim (set_at judgements before r next checked noted) [
      | inl (number, is) ↦
          let found = number_exists now r (subst (λ n. IsMember n r) (sym (same told).count) at.member) in
          let here = subst (λ k. IsNumbered now k found.0) number found.1 in
          let so = judged_same kept_in seen (before + 1) pair found.0 ((same told).each r pair found.0 at found.1) next
          (judged told found.0 here) in
          subst (λ (c : Checked). IsJudged kept_in seen r pair c) (sym is)
          (subst (λ k. IsJudged kept_in seen k pair next) (sym number) so)
      | inr (differs, kept) ↦ behind.each told r pair checked (omega (arith, most, differs)) at kept
    ];
  }

-- where a check ended with another code than that of a fault of the disks, none has failed
pub stored_unfailed : {D : Type 0} (faults : D → ℕ) (old new : List (Pair D)) (fault : WorldFault)
    → FailsAs {T = Unit {0}} faults (Err fault) old new
    → (code_of {Done = Unit {0}} (Err (Storing fault)) ≡ 6 → ⊥) → Steady faults old new
stored_unfailed faults old new Memory steady other = steady
stored_unfailed faults old new (Store r) failed other = absurd (other refl)
stored_unfailed faults old new (Occupied r) none other = absurd none
stored_unfailed faults old new (Image r) none other = absurd none

check_code : {code : ℕ} → IsCheckCode code → IsCode code
check_code (inl zero) = inl zero
check_code (inr (inl three)) = inr (inr (inr (inl three)))
check_code (inr (inr (inl five))) = inr (inr (inr (inr (inr (inl five)))))
check_code (inr (inr (inr six))) = inr (inr (inr (inr (inr (inr (inl six))))))

untouched_none : {code : ℕ} → IsCheckCode code → IsUntouchedCode code → ⊥
untouched_none codes untouched = grind arith

idle_six : {code : ℕ} → IsCheckCode code → IsIdleCode code → code ≡ 6
idle_six codes idle = grind arith

module _ {S K D : Type 0} (seen : Seen S K D) (status : Status) (codes : IsCheckCode status.code)
    (unread : seen.input.new ≡ seen.input.old)
    (unwritten : StaysUnwritten seen.disk (disks_before seen) (disks_after seen))
    (silent : (status.code ≡ 3) ⊎ (status.code ≡ 6) → seen.output.new ≡ seen.output.old)
    (write_fault : status.code ≡ 5 → SinkFailed seen)
    (store_fault : status.code ≡ 6 → IsAtFault seen.disk.faults (disks_before seen) (disks_after seen) status.replica)
  where
    complete : (SinkFailed seen → ⊥) → NoneFailed seen.disk.faults (disks_before seen) (disks_after seen)
        → (status.code ≡ 0) ⊎ (status.code ≡ 3)
    complete no_sink none = elim codes [
      | inl zero ↦ inl zero
      | inr (inl three) ↦ inr three
      | inr (inr (inl five)) ↦ absurd (no_sink (write_fault five))
      | inr (inr (inr six)) ↦ absurd (not_at_fault none status.replica (store_fault six))
    ]

    pub check_of : (status.code ≢ 6 → Steady seen.disk.faults (disks_before seen) (disks_after seen))
        → (seen.sink.tells → status.code ≡ 0
        → PutsJudgements seen.disk.tells seen.disk.seen (disks_before seen) (put_before seen) (put_after seen))
        → (seen.sink.tells → status.code ≡ 5
        → PutsJudgementsFront seen.disk.tells seen.disk.seen (disks_before seen) (put_before seen) (put_after seen))
        → DoesCheck seen status
    check_of unfailed told prefix = record {
      codes = codes;
      unread = unread;
      unwritten = unwritten;
      unfailed = unfailed;
      told = told;
      prefix = prefix;
      silent = silent;
      complete = complete;
    }

    pub check_ends : (seen.sink.faults seen.output.old < seen.sink.faults seen.output.new → status.code ≡ 5)
        → status.line ≡ 0 → (status.code ≢ 6 → status.replica ≡ 0)
        → seen.sink.faults seen.output.old ≤ seen.sink.faults seen.output.new → EndsAsAny seen status
    check_ends comes line replica counted = record {
      read_fault = λ four. absurd (untouched_none codes (inl (inr (inl four))));
      read_fault_comes = λ rose. absurd (omega (arith, rose, ap seen.source.faults unread));
      write_fault = write_fault;
      write_fault_comes = comes;
      store_fault = store_fault;
      codes = check_code codes;
      idle = λ idle. silent (inr (idle_six codes idle));
      untouched = λ untouched. absurd (untouched_none codes untouched);
      unarmed = λ idle. unwritten.unarmed;
      pairs = unwritten.unarmed.count;
      line = λ other. line;
      replica = λ none. replica (λ six. none (inl six));
      counted = (omega (arith, ap seen.source.faults unread), counted);
    }

    pub check_used : status.code ≢ 1
    check_used one = untouched_none codes (inl (inl one))
