-- What a rule makes of two lists, identifier by identifier.
use Rattle.std.specs.Prelude.{◌≡◌, List, Option, IfSome}
use Rattle.ficus_ids.specs.declared.id.Id.{Id}
use Rattle.ficus_ids.specs.Rising.{HoldsUnderBy}

-- under each identifier, what the list holds is what the rule makes of what the two lists hold
pub record IsMadeBy {S : Type 0} (id_of : S → Id) (makes : Option S → Option S → Option S → Type 0)
    (mine theirs made : List S) : Type 0 where
  pub each : (id : Id) (at_mine at_theirs after : Option S) → HoldsUnderBy id_of mine id at_mine →
      HoldsUnderBy id_of theirs id at_theirs → HoldsUnderBy id_of made id after → makes at_mine at_theirs after

-- the item, if there is one, has the identifier
abbrev pub HasId : {S : Type 0} → (S → Id) → Id → Option S → Type 0
HasId id_of id item = IfSome item (λ x. id_of x ≡ id)
