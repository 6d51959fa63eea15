-- Laws of names that lead to several objects, for the proofs of this crate and of those above it.
use Rattle.std.specs.Prelude.{◌≡◌, ◌↔◌, ℕ, List, None, Err}
use Rattle.std.specs.Cmp.{IsTotalOrder}
use Rattle.std.specs.declared.cmp.Ordering.TheVariants.{Less}
use Rattle.std.proofs.lemmas.Cmp.{then_total, on_total, nat_list_cmp_total, tied_itself}
use Rattle.ficus_ids.specs.IdLaws.{id_cmp_total}
use Rattle.ficus_ids.specs.ListLaws.{same_rising}
use Rattle.ficus_ids.specs.declared.id.Id.{Id}
use Rattle.ficus_ids.specs.declared.refusal.Refusal.TheVariants.{Ambiguous}
use Rattle.ficus_names.specs.Clash.{AreNameClashes, clash_cmp}
use Rattle.ficus_names.specs.Find.{LeadsToSeveral}
use Rattle.ficus_names.specs.FindLaws.{FindAnswer-along}
use Rattle.ficus_names.specs.declared.clash.NameClash.{NameClash}

pub clash_cmp_total : IsTotalOrder clash_cmp
clash_cmp_total =
    then_total (on_total (λ place. place.dir) id_cmp_total) (on_total (λ place. place.name) nat_list_cmp_total)

-- ways of binding that agree everywhere have the same names lead to several objects
pub several-along : {binds others : List ℕ → Id → Type 0} →
    ((name : List ℕ) (target : Id) → binds name target ↔ others name target) → (name : List ℕ) →
    LeadsToSeveral binds name ↔ LeadsToSeveral others name
several-along same name = (
  FindAnswer-along same name None (Err Ambiguous),
  FindAnswer-along (λ name target. ((same name target).1, (same name target).0)) name None (Err Ambiguous),
)

module _ {binds others : Id → List ℕ → Id → Type 0}
    (same : (dir : Id) (name : List ℕ) (target : Id) → binds dir name target ↔ others dir name target) where
  pub AreNameClashes-along : {clashes : List NameClash} → AreNameClashes binds clashes → AreNameClashes others clashes
  AreNameClashes-along are = record {
    all = λ clash.
        let either = several-along (same clash.dir) clash.name in
        (λ inside. either.0 ((are.all clash).0 inside), λ several. (are.all clash).1 (either.1 several));
    rising = are.rising;
  }

-- there is one such list
pub one_list_of_clashes : {binds : Id → List ℕ → Id → Type 0} (clashes others : List NameClash) →
    AreNameClashes binds clashes → AreNameClashes binds others → clashes ≡ others
one_list_of_clashes clashes others are also =
    same_rising (λ a b. clash_cmp a b ≡ Less) (λ clash below. cc (below, tied_itself clash_cmp_total clash))
    clash_cmp_total.trans clashes others are.rising also.rising
    (λ clash inside. (also.all clash).1 ((are.all clash).0 inside))
    (λ clash inside. (are.all clash).1 ((also.all clash).0 inside))
