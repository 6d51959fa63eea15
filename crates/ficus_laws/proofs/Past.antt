-- The past of an event, and facts on updates that don't depend on what follows.
use Rattle.std.proofs.Common.{◌≡◌, ◌⊎◌, ℕ, ◌+◌, ◌<◌, List, length-take, refl, sym, ap, ◌∙◌, subst, inl, inr, arith}
use Rattle.ficus_ids.specs.declared.id.Id.{Id}
use Rattle.ficus_model.specs.declared.event.Event.{Event}
use Rattle.ficus_model.specs.declared.event.Event.TheVariants.{Update, Accept}
use Rattle.ficus_model.specs.declared.event.Op.{Op}
use Rattle.ficus_model.specs.Events.{IsAt, IsUpdate, before, count_of}
use Rattle.ficus_model.specs.Known.{HasSeen, Knows, HasInPast}
use Rattle.ficus_model.specs.Known.HasSeen.{Itself, Earlier, Heard}
use Rattle.ficus_model.specs.Versions.{IsVersion, IsCovering, HasBytes}
use Rattle.ficus_laws.proofs.Positions.{AgreeBelow, agree_of, agree_take, at_same, of_before}
use Rattle.ficus_laws.proofs.Updates.{id_of, agree_update}
use Rattle.ficus_laws.proofs.Seen.{seen_before}
use Rattle.ficus_laws.proofs.Knowledge.{knows_within, knows_past}
use Rattle.ficus_laws.proofs.Places.{seen_past}

-- the past is earlier
pub past_earlier : {H : List Event} {position earlier : ℕ} → HasInPast H position earlier → earlier < position
past_earlier {H} {position} p = omega (arith, knows_within p.known, length-take position H)

-- an event has seen its past
pub past_seen : {H : List Event} {position earlier : ℕ} → HasInPast H position earlier → HasSeen H position earlier
past_seen p = seen_past p.own p.known

-- and an update has seen no more, but itself
pub update_seen : {H : List Event} {position seen replica : ℕ} {op : Op} →
    IsAt H position (Update replica op) → HasSeen H position seen → (seen ≡ position) ⊎ HasInPast H position seen
update_seen a (Itself o) = inl refl
update_seen a (Earlier {old = old} {replica = replica} o p l s) =
    inr (record { replica = replica; own = o; known = record { last = old; own = of_before l p; seen = seen_before l s } })
update_seen {replica = replica} {op = op} a (Heard {served = served} {piece = piece} {replica = taker} b l s) =
    absurd (let e : Update replica op ≡ Accept taker served piece = at_same a b in cc)

-- the past of what is in the past is in the past
pub past_through : {H : List Event} {position middle earlier : ℕ} →
    HasInPast H position middle → HasInPast H middle earlier → HasInPast H position earlier
past_through p q = record {
  replica = p.replica;
  own = p.own;
  known = knows_past p.known (seen_before (past_earlier p) (past_seen q));
}

-- and known where the event is
pub past_known : {H : List Event} {replica position earlier : ℕ} →
    Knows H replica position → HasInPast H position earlier → Knows H replica earlier
past_known k p = knows_past k (past_seen p)

-- the past of an event doesn't depend on what follows
pub agree_past : {n : ℕ} {H K : List Event} {position earlier : ℕ} →
    AgreeBelow n H K → position < n → HasInPast H position earlier → HasInPast K position earlier
agree_past {earlier = earlier} g h p = record {
  replica = p.replica;
  own = agree_of g h p.own;
  known = subst (λ earlier_events. Knows earlier_events p.replica earlier) (agree_take g (omega arith)) p.known;
}

-- nor do a version event, what covers, and the bytes of an update
pub agree_version : {n : ℕ} {H K : List Event} {file : Id} {position : ℕ} →
    AgreeBelow n H K → position < n → IsVersion H file position → IsVersion K file position
agree_version g h v = record { number = v.number; op = v.op; update = agree_update g h v.update; versions = v.versions }

pub agree_covering : {n : ℕ} {H K : List Event} {object : Id} {position : ℕ} →
    AgreeBelow n H K → position < n → IsCovering H object position → IsCovering K object position
agree_covering g h c = record { number = c.number; op = c.op; update = agree_update g h c.update; covers = c.covers }

pub agree_bytes : {n : ℕ} {H K : List Event} {position : ℕ} {bytes : List ℕ} →
    AgreeBelow n H K → position < n → HasBytes H position bytes → HasBytes K position bytes
agree_bytes g h b = record { number = b.number; op = b.op; update = agree_update g h b.update; are = b.are }

-- each update has a number
pub update_numbered : {H : List Event} {position replica : ℕ} {op : Op} → IsAt H position (Update replica op) →
    IsUpdate H position (id_of replica (count_of replica (before position H) + 1)) op
update_numbered a = record { at = a; counted = refl }

-- and one number and one operation
pub update_same : {H : List Event} {position : ℕ} {number other : Id} {op done : Op} →
    IsUpdate H position number op → IsUpdate H position other done → (number ≡ other) × (op ≡ done)
update_same {H} {position} {number} {other} {op} {done} u v =
    let event : Update number.replica op ≡ Update other.replica done = at_same u.at v.at in
    let by : number.replica ≡ other.replica = cc in
    let count : number.number ≡ other.number =
    u.counted ∙ ap (λ replica. count_of replica (before position H) + 1) by ∙ sym v.counted in
    (ap (λ (by : ℕ). id_of by number.number) by ∙ ap (λ (count : ℕ). id_of other.replica count) count, cc)
