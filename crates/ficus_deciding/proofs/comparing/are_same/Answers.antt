use Rattle.std.specs.Bool.{Decides}
use Rattle.std.specs.Prelude.{◌&&◌, nat_eq}
use Rattle.std.proofs.Common.{◌≡◌, ap}
use Rattle.std.proofs.lemmas.Bool.Decides.{Decides-and, Decides-eqb}
use Rattle.std.proofs.lemmas.Slice.Eq.{slice_eq-Decides}
use Rattle.ficus_ids.specs.declared.id.Id.{Id}
use Rattle.ficus_deciding.proofs.comparing.are_same.Goals as goal

-- the test of two identifiers
same_ids : (a b : Id) → Decides (nat_eq a.replica b.replica && nat_eq a.number b.number) (a ≡ b)
same_ids a b =
    let both = Decides-and (nat_eq a.replica b.replica) (nat_eq a.number b.number)
    (Decides-eqb a.replica b.replica) (Decides-eqb a.number b.number) in (
      λ is. let parts = both.0 is in λ i. record { replica = parts.0 i; number = parts.1 i },
      λ same. both.1 (ap (λ (id : Id). id.replica) same, ap (λ (id : Id). id.number) same),
    )

pub returns : goal.returns
returns c = slice_eq-Decides same_ids _ _ _ c.eq.ensures
