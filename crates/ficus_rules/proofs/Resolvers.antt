-- Replicas that know the same versions of a file resolve it alike.
use Rattle.std.proofs.Common.{◌≡◌, ℕ, List, length, Result, refl}
use Rattle.ficus_ids.specs.declared.id.Id.{Id}
use Rattle.ficus_ids.specs.declared.kind.Kind.{Kind}
use Rattle.ficus_ids.specs.declared.refusal.Refusal.{Refusal}
use Rattle.ficus_model.specs.declared.event.Event.{Event}
use Rattle.ficus_model.specs.Known.{Knows}
use Rattle.ficus_model.specs.Lawful.{Volume}
use Rattle.ficus_model.specs.Live.{IsMade}
use Rattle.ficus_laws.proofs.Issued.{made_once}
use Rattle.ficus_laws.proofs.Knowledge.{knows_within}
use Rattle.ficus_laws.proofs.Positions.{AgreeBelow}
use Rattle.ficus_laws.proofs.Updates.{agree_update}
use Rattle.ficus_file_laws.proofs.Resolving.{one_list_of_same}
use Rattle.ficus_rules.specs.Laws.{KnowSameVersions}
use Rattle.ficus_rules.specs.Resolved.{ResolvedRule}
use Rattle.ficus_rules.specs.View.{history_view}
use Rattle.ficus_rules.proofs.Resolved.{resolved_alike}

-- an object is of the same kind in a longer history
one_kind_later : {H K : List Event} {replica other : ℕ} {object : Id} {kind again : Kind} →
    AgreeBelow (length H) H K → IsMade H (Knows H replica) object kind → IsMade K (Knows K other) object again →
    kind ≡ again
one_kind_later {H} {K} {replica} {other} {object} {kind} {again} agree made made_too =
    let later : IsMade K (Knows H replica) object kind = record {
      position = made.position;
      dir = made.dir;
      name = made.name;
      text = made.text;
      known = made.known;
      update = agree_update agree (knows_within made.known) made.update;
    } in
    made_once later made_too

-- where the same versions of the file are known, also in a longer history, it is resolved alike
pub resolvers_agree : (volume : Volume) (H K : List Event) (replica other : ℕ) (file : Id)
    (one again : Result (List ℕ) Refusal) → AgreeBelow (length H) H K →
    KnowSameVersions K (Knows H replica) (Knows K other) file →
    ResolvedRule (history_view volume H replica) file one → ResolvedRule (history_view volume K other) file again →
    one ≡ again
resolvers_agree volume H K replica other file one again agree same =
    resolved_alike (history_view volume H replica) (history_view volume K other) file
    (λ kind kind_too made made_too. one_kind_later agree made.1 made_too.1)
    (λ versions others are are_too. one_list_of_same versions others agree same are.1 are_too.1)
    one again

-- a history agrees with itself
pub agree_itself : (H : List Event) → AgreeBelow (length H) H H
agree_itself H = record { same = λ position within. refl }
