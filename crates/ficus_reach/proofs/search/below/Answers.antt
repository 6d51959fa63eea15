use Rattle.std.proofs.Common.{◌≡◌, [], ◌∷◌, Contains, sym, subst, inl, inr}
use Rattle.ficus_ids.specs.ListLaws.{here, here_or_there, not_inside_none}
use Rattle.ficus_ids.specs.declared.id.Id.{Id}
use Rattle.ficus_reach.specs.ReachedLaws.{IsReached-along}
use Rattle.ficus_reach.proofs.search.below.Goals as goal

only_base : (dir base : Id) → Contains (dir ∷ []) base → base ≡ dir
only_base dir base inside =
    elim (here_or_there dir base [] inside) [ inl is ↦ is | inr later ↦ absurd (not_inside_none base later) ]

base_inside : (dir base : Id) → base ≡ dir → Contains (dir ∷ []) base
base_inside dir base is = subst (Contains (dir ∷ [])) (sym is) (here dir [])

pub returns : goal.returns
returns c =
    let exact = c.in_ok-found.ensures.exact c.args.object in (
      λ is. IsReached-along (λ dir target leads. leads) (only_base c.args.dir) (exact.0 (c.has.ensures.0 is)),
      λ reached. c.has.ensures.1 (exact.1
          (IsReached-along (λ dir target leads. leads) (base_inside c.args.dir) reached)),
    )
