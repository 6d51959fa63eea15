-- Rewrites are updates.
use Rattle.std.proofs.Common.{◌≡◌, List, ℕ, Some, None, refl, sym, ap, subst, ◌∙◌}
use Rattle.ficus_ids.specs.declared.id.Id.{Id}
use Rattle.ficus_model.specs.declared.event.Event.{Event}
use Rattle.ficus_model.specs.declared.event.Event.TheVariants.{Update}
use Rattle.ficus_model.specs.declared.event.Op.{Op}
use Rattle.ficus_model.specs.Events.{IsAt, actor}
use Rattle.ficus_laws.proofs.Positions.{at_same}
use Rattle.ficus_why.specs.Rewrites.{IsRewrite, rewritten_by, rewritten_in}

rewriting : (event : Event) (file : Id) → rewritten_in event ≡ Some file
    → (op : Op) × (event ≡ Update (actor event) op) × (rewritten_by op ≡ Some file)
rewriting (Update by op) file is = (op, refl, is)
rewriting event file is = absurd (cc)

-- the operation of a rewrite
pub record IsUpdateOf (H : List Event) (file : Id) (position : ℕ) : Type 0 where
  pub by : ℕ
  pub op : Op
  pub at : IsAt H position (Update by op)
  pub rewrites : rewritten_by op ≡ Some file

pub update_of : {H : List Event} {file : Id} {position : ℕ} → IsRewrite H file position → IsUpdateOf H file position
update_of {H} {file} {position} is =
    let found = rewriting is.event file is.rewrites in
    record {
      by = actor is.event;
      op = found.0;
      at = subst (λ event. IsAt H position event) found.1 is.at;
      rewrites = found.2;
    }

-- an event that rewrites nothing is no rewrite
pub none_rewritten : {H : List Event} {file : Id} {position : ℕ} {event : Event} → IsAt H position event
    → rewritten_in event ≡ None → IsRewrite H file position → ⊥
none_rewritten {file = file} at none is =
    let both : None ≡ Some file = sym none ∙ ap rewritten_in (at_same at is.at) ∙ is.rewrites in
    cc
