-- Disks that nobody wrote, as the program's keeper sees them.
use Rattle.std.proofs.Common.{◌≡◌, ℕ, List, [], sym, subst}
use Rattle.ficus_journal.specs.Logs.{IsTrim}
use Rattle.ficus_top.specs.Summary.Keeper.{IsRegular}

none_trim : IsTrim []
none_trim = record { few = λ saved is. absurd (cc is); shut = λ saved is. absurd (cc is) }

none_regular : IsRegular [] []
none_regular = record {
  even = λ saved is. absurd (cc is);
  odd = λ saved is. absurd (cc is);
  trim_a = none_trim;
  trim_b = none_trim;
}

pub nothing_regular : {a b : List ℕ} → a ≡ [] → b ≡ [] → IsRegular a b
nothing_regular {a} {b} no_a no_b =
    subst (λ (x : List ℕ). IsRegular x b) (sym no_a)
    (subst (λ (y : List ℕ). IsRegular [] y) (sym no_b) none_regular)
