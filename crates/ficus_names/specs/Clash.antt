-- Names that lead to several objects.
use Rattle.std.specs.Prelude.{◌≡◌, ◌↔◌, ℕ, List, AllPairs, Contains}
use Rattle.std.specs.Cmp.Lexicographic.{slice_cmp}
use Rattle.std.specs.declared.cmp.Ordering.{Ordering}
use Rattle.std.specs.declared.cmp.Ordering.TheVariants.{Less}
use Rattle.std.specs.Ordering.{nat_cmp, ordering_then}
use Rattle.ficus_ids.specs.Id.{id_cmp}
use Rattle.ficus_ids.specs.declared.id.Id.{Id}
use Rattle.ficus_names.specs.Find.{LeadsToSeveral}
use Rattle.ficus_names.specs.declared.clash.Lead.{Lead}
use Rattle.ficus_names.specs.declared.clash.NameClash.{NameClash}

-- by directory, then by the bytes of the name
abbrev pub clash_cmp : NameClash → NameClash → Ordering
clash_cmp a b = ordering_then (id_cmp a.dir b.dir) (slice_cmp nat_cmp a.name b.name)

-- by place, then by object
abbrev pub lead_cmp : Lead → Lead → Ordering
lead_cmp a b = ordering_then (clash_cmp a.place b.place) (id_cmp a.target b.target)

-- one of the leads is from the name in the directory to the object
abbrev pub LeadsFrom : List Lead → Id → List ℕ → Id → Type 0
LeadsFrom leads dir name target = Contains leads (record { place = record { dir = dir; name = name }; target = target })

-- exactly the names that lead to several objects, each once, by directory, then by the bytes of the name. `binds` says
-- of each directory which names lead to which objects.
pub record AreNameClashes (binds : Id → List ℕ → Id → Type 0) (clashes : List NameClash) : Type 0 where
  pub all : (clash : NameClash) → Contains clashes clash ↔ LeadsToSeveral (binds clash.dir) clash.name
  pub rising : AllPairs (λ a b. clash_cmp a b ≡ Less) clashes
