-- Entries that name the objects with their own identifiers.
use Rattle.std.specs.Prelude.{◌≡◌, ◌↔◌, List, [], ◌∷◌, All, Contains}
use Rattle.std.proofs.Common.{sym, subst, inl, inr}
use Rattle.std.proofs.lemmas.List.Elements.{All-contains}
use Rattle.ficus_ids.specs.declared.id.Id.{Id}
use Rattle.ficus_ids.specs.ListLaws.{here, there, here_or_there, not_inside_none}
use Rattle.ficus_entry.specs.declared.entry.Entry.{Entry}
use Rattle.ficus_mentions.specs.Touched.{touched_by}

-- the object that an entry of the list names is touched
pub named_is_touched : (entries : List Entry) (entry : Entry) → Contains entries entry →
    Contains (touched_by entries) entry.target
named_is_touched [] entry inside = absurd (not_inside_none entry inside)
named_is_touched (first ∷ later) entry inside = elim (here_or_there first entry later inside) [
  | inl is ↦
      subst (λ (e : Entry). Contains (touched_by (first ∷ later)) e.target) (sym is)
      (here first.target (first.dir ∷ touched_by later))
  | inr behind ↦
      there first.target entry.target (first.dir ∷ touched_by later)
      (there first.dir entry.target (touched_by later) (named_is_touched later entry behind))
]

-- where each of the identifiers is among the others, all of them are those that are
pub all_are : (others ids kept : List Id) → kept ≡ ids → All (Contains others) ids → (id : Id) →
    Contains kept id ↔ (Contains ids id × Contains others id)
all_are others ids kept same all id = (
  λ inside. let is = subst (λ (l : List Id). Contains l id) same inside in
      (is, All-contains (Contains others) ids id all is),
  λ both. subst (λ (l : List Id). Contains l id) (sym same) both.0,
)
