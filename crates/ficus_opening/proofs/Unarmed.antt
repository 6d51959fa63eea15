-- Disks of which none is armed don't fail, while one pair after the other is asked.
use Rattle.std.proofs.Common.{◌≡◌, ℕ, ◌+◌, List, Result, sym, ap, subst, ◌∙◌, inl, inr, arith}
use Rattle.std.specs.Prelude.{slice_set, IsErrOf}
use Rattle.ficus_disk.specs.declared.fuse.Fuse.{Fuse}
use Rattle.ficus_disk.specs.declared.pair.Pair.{Pair}
use Rattle.ficus_keeper.specs.Fuses.{IsRegularIn, both_unarmed, fuses_of}
use Rattle.ficus_runs.specs.Numbered.{IsNumbered}
use Rattle.ficus_opening.specs.declared.fault.WorldFault.{WorldFault}
use Rattle.ficus_opening.specs.declared.fault.WorldFault.TheVariants.{Store}
use Rattle.ficus_opening.specs.Fuses.{AreRegular, AreUnarmed}
use Rattle.ficus_opening.specs.Opening.{PairUnfailing, Unfailing}
use Rattle.ficus_opening.proofs.Steadies.{set_at}

-- the faults of one answer are those of the other
abbrev pub SameStores : {A B : Type 0} → Result A WorldFault → Result B WorldFault → Type 0
SameStores one two = (r : ℕ) → IsErrOf two (Store r) → IsErrOf one (Store r)

module _ {D : Type 0} (fuse : D → Fuse) where
  -- one pair is set
  pub unarmed_set : (disks : List (Pair D)) (index : ℕ) (after : Pair D) → AreUnarmed fuse disks
      → fuses_of fuse after ≡ both_unarmed → AreUnarmed fuse (slice_set disks index after)
  unarmed_set disks index after none is = record {
    each = λ r pair at. elim (set_at disks index r after pair at) [
      | inl (number, same) ↦ ap (λ p. fuses_of fuse p) same ∙ is
      | inr (differs, kept) ↦ none.each r pair kept
    ];
  }

  -- behind others of which none is armed either, one pair is asked
  pub unfailing_set : {A B : Type 0} (one : Result A WorldFault) (two : Result B WorldFault)
      (old disks : List (Pair D)) (index : ℕ) (before after : Pair D) → (AreUnarmed fuse old → AreUnarmed fuse disks)
      → IsNumbered disks (index + 1) before → PairUnfailing fuse one before after → SameStores one two
      → Unfailing fuse two old (slice_set disks index after)
  unfailing_set one two old disks index before after unarmed at pair same = record {
    unarmed = λ none.
        unarmed_set disks index after (unarmed none) (pair.unarmed ((unarmed none).each (index + 1) before at));
    unfailing = λ none r is. pair.unfailing ((unarmed none).each (index + 1) before at) r (same r is);
  }

  -- or all of them are
  pub unfailing_behind : {A B : Type 0} (one : Result A WorldFault) (two : Result B WorldFault)
      (old middle new : List (Pair D)) → (AreUnarmed fuse old → AreUnarmed fuse middle)
      → Unfailing fuse one middle new → SameStores one two → Unfailing fuse two old new
  unfailing_behind one two old middle new unarmed then same = record {
    unarmed = λ none. then.unarmed (unarmed none);
    unfailing = λ none r is. then.unfailing (unarmed none) r (same r is);
  }

  -- or no disk has failed
  pub unfailing_none : {A : Type 0} (result : Result A WorldFault) (old new : List (Pair D))
      → (AreUnarmed fuse old → AreUnarmed fuse new) → ((r : ℕ) → IsErrOf result (Store r) → ⊥)
      → Unfailing fuse result old new
  unfailing_none result old new unarmed never = record { unarmed = unarmed; unfailing = λ none r is. never r is }

module _ {D : Type 0} (Regular : List ℕ → List ℕ → Type 0) (seen : D → List ℕ) where
  -- none yet
  pub regular_none : (disks : List (Pair D)) → AreRegular Regular seen disks 0
  regular_none disks = record {
    each = λ r pair at most. absurd (omega (arith, at.member.at_least, most));
  }

  -- one member more
  pub regular_more : (disks : List (Pair D)) (before : ℕ) (after : Pair D) → AreRegular Regular seen disks before
      → IsRegularIn Regular seen after → AreRegular Regular seen (slice_set disks before after) (before + 1)
  regular_more disks before after regular is = record {
    each = λ r pair at most. elim (set_at disks before r after pair at) [
      | inl (number, same) ↦ subst (λ p. IsRegularIn Regular seen p) (sym same) is
      | inr (differs, kept) ↦ regular.each r pair kept (omega (arith, most, differs))
    ];
  }
