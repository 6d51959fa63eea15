use Rattle.std.proofs.Common.{rules, ◌≤◌, Err, Some, List, ℕ, length, refl, sym, ap, subst, ◌∙◌, arith}
use Rattle.std.proofs.lemmas.List.{length_push}
use Rattle.std.proofs.lemmas.Result.{err_from_is_err_and}
use Rattle.ficus_model.specs.declared.event.Event.TheVariants.{Ask}
use Rattle.ficus_keeper.specs.Framed.{body_in}
use Rattle.ficus_stable_storage.specs.Leads.Holds.{Leads}
use Rattle.ficus_stable_storage.proofs.Framed.{has_head}
use Rattle.ficus_runs.proofs.Numbers.{number_once}
use Rattle.ficus_opening.specs.declared.member.Member.{Member}
use Rattle.ficus_world.specs.Disks.{CarriedOn}
use Rattle.ficus_world.specs.Moves.{AsksWith, HasRoomFor, KeepsAsk, advanced, ask_of, downed, parts_after, pending_of, with_post}
use Rattle.ficus_world.specs.World.{Whole, IsWorld, backed_by, smallest_message, whole_of}
use Rattle.ficus_world.proofs.Fuses.{comes_then}
use Rattle.ficus_world.proofs.Sending.{as_reserved, ask_sent, ask_size, some_bytes, unready, unsaved}
use Rattle.ficus_world.proofs.SoundWorlds.{held_sound, plain_with, put_down_sound, sent_counts, world_after, world_posted}
use Rattle.ficus_why.specs.Plain.{IsPlain}
use Rattle.ficus_world.specs.Acts.{Acts}
use Rattle.ficus_world.proofs.Acting.{kept_acts, ready_acts}
use Rattle.ficus_world.proofs.Kills.{rests_then_writes}
use Rattle.ficus_world.proofs.Keeps.{refused_not}
use Rattle.ficus_world.proofs.Moved.{same_refusal}
use Rattle.ficus_ids.specs.declared.refusal.Refusal.TheVariants.{Memory}
use Rattle.ficus_world.proofs.group.Group.send_asking.Goals as goal

pub make_ready-requires-clause-stable : goal.make_ready-requires-clause-stable
make_ready-requires-clause-stable g c =
    let member = c.requires.asking.1.is.member in
    record { at_least = member.at_least; at_most = omega (arith, member.at_most, c.requires.stables) }

pub make_ready-requires-clause-pair : goal.make_ready-requires-clause-pair
make_ready-requires-clause-pair g c =
    let member = c.requires.asking.1.is.member in
    record { at_least = member.at_least; at_most = omega (arith, member.at_most, c.requires.backed.pairs) }

pub make_ready-requires-clause-fits : goal.make_ready-requires-clause-fits
make_ready-requires-clause-fits g c = c.requires.asking.2.sound.fits

pub make_ready-requires-clause-head : goal.make_ready-requires-clause-head
make_ready-requires-clause-head g c = has_head c.args.noted.items c.requires.asking.2.leads

pub returns-in_err-make_ready-clause-asks : goal.returns-in_err-make_ready-clause-asks
returns-in_err-make_ready-clause-asks g c =
    let refused = err_from_is_err_and c.from_residual.result c.from_residual.ensures.1 in
    let r = c.in_err-make_ready.field-0.0 in
    let by = c.args.by in
    let to = c.args.to in
    let tells = g.L.Link.tells in
    let x = c.args.disks.now.items in
    let y = c.make_ready.new.disks.items in
    let old = whole_of c.self.inside.members.items c.self.inside.history.events c.self.inside.post.now in
    let asking = subst (AsksWith by to (body_in c.args.noted.items) c.args.asking.replica) (sym c.self.view_is) c.requires.asking in
    let message = c.requires.message in
    let moves = unready tells old by to asking.0 c.args.asking.replica asking.1 x y
    (c.in_err-make_ready.ensures.stays.follows old.members)
    (length c.args.asking.message.items) (ap (λ (bytes : List ℕ). length bytes) message) r
    c.in_err-make_ready.ensures.full in
    rw (refused.1, refused.2, c.in_err-make_ready.ensures.events, c.in_err-make_ready.ensures.post)
    (subst (λ (w : Whole). CarriedOn g.K.Keep g.D.Disk (KeepsAsk tells by to) (Err r) w old x y)
    c.self.view_is moves)

pub invariant_of-self-in_err-commit_next : goal.invariant_of-self-in_err-commit_next
invariant_of-self-in_err-commit_next g c =
    let by = c.args.by in
    let old = whole_of c.self.inside.members.items c.self.inside.history.events c.self.inside.post.now in
    let asking = subst (AsksWith by c.args.to (body_in c.args.noted.items) c.args.asking.replica) (sym c.self.view_is)
    c.requires.asking in
    let was = asking.0 in
    let world : IsWorld old = c.self.invariant in
    let sound = put_down_sound {pending = pending_of c.args.asking.replica (Ask by c.args.to)}
    (world.sound by was asking.1.is) asking.2 refl in
    let next = world_after old old.events by was _ asking.1.is world sound (omega arith) world.plain c.commit_next.new.members.items
    (c.in_err-commit_next.ensures.pending was asking.1.is) in
    rw (c.in_err-commit_next.ensures.kept, c.in_ok-make_ready.ensures.events, c.in_ok-make_ready.ensures.post) next

pub returns-in_err-commit_next-clause-asks : goal.returns-in_err-commit_next-clause-asks
returns-in_err-commit_next-clause-asks g c =
    let refused = err_from_is_err_and c.from_residual-in_err-commit_next.result c.from_residual-in_err-commit_next.ensures.1 in
    let r = c.in_err-commit_next.field-0.0 in
    let by = c.args.by in
    let to = c.args.to in
    let tells = g.L.Link.tells in
    let x = c.args.disks.now.items in
    let z = c.commit_next.new.disks.items in
    let old = whole_of c.self.inside.members.items c.self.inside.history.events c.self.inside.post.now in
    let asking = subst (AsksWith by to (body_in c.args.noted.items) c.args.asking.replica) (sym c.self.view_is) c.requires.asking in
    let message = c.requires.message in
    let was = asking.0 in
    let room : HasRoomFor old (ask_size by to c.args.asking.replica) =
    omega (arith, c.in_ok-make_ready.ensures.small, ap (λ (bytes : List ℕ). length bytes) message) in
    let moves = unsaved tells old by to was c.args.asking.replica asking.1 x c.make_ready.new.disks.items
    (c.in_ok-make_ready.ensures.stays.follows old.members) room z r c.in_err-commit_next.ensures.refused
    (rw (c.in_err-commit_next.ensures.pending was asking.1.is) at c.in_err-commit_next.ensures.counted) in
    rw (
      refused.1,
      refused.2,
      c.in_err-commit_next.ensures.pending was asking.1.is,
      c.in_err-commit_next.ensures.kept,
      c.in_ok-make_ready.ensures.events,
      c.in_ok-make_ready.ensures.post,
    )
    (subst (λ (w : Whole). CarriedOn g.K.Keep g.D.Disk (KeepsAsk tells by to) (Err r) w
    (downed old by was (Some (pending_of c.args.asking.replica (Ask by to)))) x z) c.self.view_is moves)

pub invariant_of-self-2 : goal.invariant_of-self-2
invariant_of-self-2 g c =
    let by = c.args.by in
    let to = c.args.to in
    let asked = c.args.asking.replica in
    let old = whole_of c.self.inside.members.items c.self.inside.history.events c.self.inside.post.now in
    let asking = subst (AsksWith by to (body_in c.args.noted.items) asked) (sym c.self.view_is) c.requires.asking in
    let message = c.requires.message in
    let was = asking.0 in
    let world : IsWorld old = c.self.invariant in
    let events = rw c.in_ok-make_ready.ensures.events at c.in_ok-commit_next.ensures.stored in
    let longer = ap length events ∙ length_push c.self.inside.history.events (Ask by to) in
    let sound = rw (sym longer) at (held_sound was (parts_after (Ask by to) was.parts) asking.1.up asking.2) in
    let next = world_after old c.commit_next.new.history.events by was _ asking.1.is world sound (omega (arith, longer))
    (subst IsPlain (sym events) (plain_with world (Ask by to) asking.1.is.member refl))
    c.commit_next.new.members.items (c.in_ok-commit_next.ensures.held was asking.1.is) in
    let some : smallest_message ≤ length c.args.asking.message.items =
    subst (λ bytes. smallest_message ≤ length bytes) (sym message) (some_bytes (ask_of by to asked)) in
    let sent = rw c.in_ok-make_ready.ensures.post at c.send.ensures.sent in
    let failed = rw c.in_ok-make_ready.ensures.post at c.send.ensures.failed in
    world_posted _ next c.send.new.self.now
    (sent_counts _ next g.L.Link.tells _ _ c.send.new.self.now c.send.result some c.in_ok-make_ready.ensures.small sent failed)

pub returns-clause-asks : goal.returns-clause-asks
returns-clause-asks g c =
    let by = c.args.by in
    let to = c.args.to in
    let tells = g.L.Link.tells in
    let asked = c.args.asking.replica in
    let x = c.args.disks.now.items in
    let z = c.commit_next.new.disks.items in
    let old = whole_of c.self.inside.members.items c.self.inside.history.events c.self.inside.post.now in
    let asking = subst (AsksWith by to (body_in c.args.noted.items) asked) (sym c.self.view_is) c.requires.asking in
    let message = c.requires.message in
    let was = asking.0 in
    let room : HasRoomFor old (ask_size by to asked) =
    omega (arith, c.in_ok-make_ready.ensures.small, ap (λ (bytes : List ℕ). length bytes) message) in
    let sent = rw (c.len.ensures.value, message, c.in_ok-make_ready.ensures.post, c.in_ok-make_ready.ensures.events)
    at c.send.ensures.sent in
    let failed = rw c.in_ok-make_ready.ensures.post at c.send.ensures.failed in
    let moves = ask_sent tells old by to was asked asking.1 room c.send.new.self.now x z
    (comes_then (c.in_ok-make_ready.ensures.stays.follows old.members)
    (rw (c.in_ok-commit_next.ensures.held was asking.1.is) at c.in_ok-commit_next.ensures.followed)) c.send.result sent failed
    c.send.ensures.refused in
    rw (c.in_ok-commit_next.ensures.held was asking.1.is, c.in_ok-commit_next.ensures.stored, c.in_ok-make_ready.ensures.events)
    (subst (λ (w : Whole). CarriedOn g.K.Keep g.D.Disk (KeepsAsk tells by to) c.send.result w
    (with_post (advanced old by was asked (Ask by to)) c.send.new.self.now) x z) c.self.view_is moves)

pub commit_next-requires-clause-pair : goal.commit_next-requires-clause-pair
commit_next-requires-clause-pair g c =
    let member = c.requires.asking.1.is.member in
    let count = (c.make_ready.ensures.stays.follows c.self.inside.members.items).disks.count in
    record { at_least = member.at_least; at_most = omega (arith, member.at_most, c.requires.backed.pairs, count) }

pub commit_next-requires-clause-prepared : goal.commit_next-requires-clause-prepared
commit_next-requires-clause-prepared g c =
    let asking = subst (AsksWith c.args.by c.args.to (body_in c.args.noted.items) c.args.asking.replica) (sym c.self.view_is)
    c.requires.asking in (
      body_in c.args.noted.items,
      c.in_ok-make_ready.ensures.prepared,
      λ was is. subst (λ (m : Member). Leads (body_in c.args.noted.items) m.replica.saved c.args.asking.replica.saved)
          (number_once asking.1.is is) asking.2.leads,
    )

pub returns-in_err-make_ready-clause-acts : goal.returns-in_err-make_ready-clause-acts
returns-in_err-make_ready-clause-acts g c =
    let same = as_reserved c.self.inside.members.items c.in_err-make_ready.ensures.events
    c.in_err-make_ready.ensures.post ∙ c.self.view_is in
    subst (λ (w : Whole). Acts g.K.Keep g.D.Disk 1 c.from_residual.result
    (backed_by c.args.self.now c.args.stables.now.items) (backed_by w c.make_ready.new.stables.items)
    c.args.disks.now.items c.make_ready.new.disks.items) (sym same)
    (ready_acts c.requires.asking.1.is.member c.make_ready.ensures.stays c.requires.backed)

pub returns-in_err-commit_next-clause-acts : goal.returns-in_err-commit_next-clause-acts
returns-in_err-commit_next-clause-acts g c =
    let refused = err_from_is_err_and c.from_residual-in_err-commit_next.result c.from_residual-in_err-commit_next.ensures.1 in
    rw (refused.1, refused.2)
    (kept_acts c.make_ready.new.post.now c.self.view_is c.in_ok-make_ready.ensures.events c.requires.asking.0
    c.requires.asking.1.is c.requires.stables c.requires.backed c.make_ready.ensures.stays c.commit_next.ensures
    (rests_then_writes g.K.Keep g.D.Disk c.args.by g.met.D.Disk.only_now g.met.D.Disk.seen_may_be_left
    g.met.D.Disk.left_now g.met.D.Disk.left_earlier)
    (λ is. refused_not (Err c.in_err-commit_next.field-0.0) c.in_err-commit_next.ensures.refused (λ e. cc)
    (same_refusal c.in_err-commit_next.field-0.0 Memory is)))

pub returns-clause-acts : goal.returns-clause-acts
returns-clause-acts g c =
    kept_acts c.send.new.self.now c.self.view_is c.in_ok-make_ready.ensures.events c.requires.asking.0 c.requires.asking.1.is
    c.requires.stables c.requires.backed c.make_ready.ensures.stays c.commit_next.ensures
    (rests_then_writes g.K.Keep g.D.Disk c.args.by g.met.D.Disk.only_now g.met.D.Disk.seen_may_be_left
    g.met.D.Disk.left_now g.met.D.Disk.left_earlier)
    (refused_not c.send.result c.send.ensures.refused (λ e. cc))

pub commit_next-requires-clause-disks : goal.commit_next-requires-clause-disks
commit_next-requires-clause-disks g c =
    let backed = rw (← c.self.view_is) at c.requires.backed in
    c.make_ready.ensures.stays.disks c.self.inside.members.items c.self.inside.members.items refl backed.disks

pub commit_next-requires-clause-stables : goal.commit_next-requires-clause-stables
commit_next-requires-clause-stables g c =
    c.make_ready.ensures.stays.count ∙ c.requires.stables ∙ sym (ap (λ (w : Whole). length w.members) c.self.view_is)

pub invariant_of-self : goal.invariant_of-self
invariant_of-self g c = search rules
