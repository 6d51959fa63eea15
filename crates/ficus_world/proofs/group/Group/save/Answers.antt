use Rattle.std.proofs.Common.{rules, refl, sym, ap, ◌∙◌, arith}
use Rattle.std.proofs.lemmas.Result.{err_from_is_err_and, on_err_weaker, on_ok_weaker}
use Rattle.ficus_keeper.specs.Framed.{body_in}
use Rattle.ficus_stable_storage.proofs.Framed.{has_head}
use Rattle.ficus_runs.specs.Numbered.{IsNumbered}
use Rattle.ficus_world.specs.World.{Whole, backed_by, whole_of}
use Rattle.ficus_world.proofs.Fuses.{comes_then}
use Rattle.ficus_world.proofs.Sending.{as_reserved}
use Rattle.ficus_world.proofs.Kills.{rests_then_writes}
use Rattle.ficus_world.proofs.Keeps.{kept_advanced, kept_downed, kept_world, refused_not, saves_next}
use Rattle.std.proofs.Common.{List, length, subst}
use Rattle.ficus_model.specs.declared.event.Event.{Event}
use Rattle.ficus_world.specs.Acts.{Acts}
use Rattle.ficus_world.proofs.Acting.{acts_none, kept_acts, ready_acts}
use Rattle.ficus_world.proofs.group.Group.save.Goals as goal

pub prepare_at-requires-clause-fits : goal.prepare_at-requires-clause-fits
prepare_at-requires-clause-fits g c = let next = c.requires.next c.requires.up.member c.requires.up.is in next.sound.fits

pub prepare_at-requires-clause-head : goal.prepare_at-requires-clause-head
prepare_at-requires-clause-head g c =
    has_head c.args.noted.items (c.requires.next c.requires.up.member c.requires.up.is).leads

pub invariant_of-self-2 : goal.invariant_of-self-2
invariant_of-self-2 g c =
    let old = whole_of c.self.inside.members.items c.self.inside.history.events c.self.inside.post.now in
    let is = rw (← c.self.view_is) at c.requires.up.is in
    let sound = rw (← c.self.view_is) at (c.requires.next c.requires.up.member c.requires.up.is) in
    let stored = rw c.reserve.ensures.events at c.commit_next.ensures.stored in
    let kept = rw c.reserve.ensures.events at c.commit_next.ensures.kept in
    kept_world old c.args.by c.args.next c.commit_next.new.members.items c.commit_next.new.history.events c.commit_next.result
    c.requires.up.member is c.requires.up.up sound c.requires.own c.self.invariant c.commit_next.ensures.held stored c.commit_next.ensures.pending kept

pub commit_next-requires-clause-pair : goal.commit_next-requires-clause-pair
commit_next-requires-clause-pair g c =
    let member = c.requires.up.is.member in
    let count = (c.prepare_at.ensures.stays.follows c.self.inside.members.items).disks.count in
    record { at_least = member.at_least; at_most = omega (arith, member.at_most, c.requires.backed.pairs, count) }

pub commit_next-requires-clause-prepared : goal.commit_next-requires-clause-prepared
commit_next-requires-clause-prepared g c = (
  body_in c.args.noted.items,
  c.in_ok-prepare_at.ensures.prepared,
  λ was is. (c.requires.next was (subst (λ (w : Whole). IsNumbered w.members c.args.by was) c.self.view_is is)).leads,
)

pub returns : goal.returns
returns g c =
    let old = whole_of c.self.inside.members.items c.self.inside.history.events c.self.inside.post.now in
    let stored = rw c.reserve.ensures.events at c.commit_next.ensures.stored in
    let kept = rw c.reserve.ensures.events at c.commit_next.ensures.kept in
    let before = c.prepare_at.ensures.stays.follows c.self.inside.members.items in
    record {
      saves =
          rw (← c.self.view_is)
          (saves_next g.K.Keep g.D.Disk old
          (whole_of c.commit_next.new.members.items c.commit_next.new.history.events c.self.inside.post.now) c.args.by c.args.next
          c.args.disks.now.items c.commit_next.new.disks.items c.commit_next.result
          (kept_advanced old c.args.by c.args.next c.commit_next.new.members.items c.commit_next.new.history.events c.commit_next.result
          c.commit_next.ensures.held stored)
          (on_ok_weaker c.commit_next.result (comes_then before) c.commit_next.ensures.followed)
          (kept_downed old c.args.by c.args.next c.commit_next.new.members.items c.commit_next.new.history.events c.commit_next.result
          c.commit_next.ensures.pending kept)
          (on_err_weaker c.commit_next.result (comes_then before) c.commit_next.ensures.counted) c.commit_next.ensures.refused);
      acts =
          kept_acts c.self.inside.post.now c.self.view_is c.reserve.ensures.events c.requires.up.member c.requires.up.is
          c.requires.stables c.requires.backed c.prepare_at.ensures.stays c.commit_next.ensures
          (rests_then_writes g.K.Keep g.D.Disk c.args.by g.met.D.Disk.only_now g.met.D.Disk.seen_may_be_left
          g.met.D.Disk.left_now g.met.D.Disk.left_earlier)
          (refused_not c.commit_next.result c.commit_next.ensures.refused (λ e. cc));
    }

pub returns-in_err-prepare_at : goal.returns-in_err-prepare_at
returns-in_err-prepare_at g c =
    let wanted = err_from_is_err_and c.from_residual-in_err-prepare_at.result c.from_residual-in_err-prepare_at.ensures.1 in
    let same = as_reserved c.self.inside.members.items c.reserve.ensures.events refl ∙ c.self.view_is in
    record {
      saves = rw (wanted.1, wanted.2) tt;
      acts =
          subst (λ (w : Whole). Acts g.K.Keep g.D.Disk 1 c.from_residual-in_err-prepare_at.result
          (backed_by c.args.self.now c.args.stables.now.items) (backed_by w c.prepare_at.new.stables.items)
          c.args.disks.now.items c.prepare_at.new.disks.items) (sym same)
          (ready_acts c.requires.up.is.member c.prepare_at.ensures.stays c.requires.backed);
    }

pub returns-in_err-reserve : goal.returns-in_err-reserve
returns-in_err-reserve g c =
    let wanted = err_from_is_err_and c.from_residual.result c.from_residual.ensures.1 in
    let same = ap (λ (events : List Event). whole_of c.self.inside.members.items events c.self.inside.post.now)
    c.in_err-reserve.ensures.events ∙ c.self.view_is in
    record {
      saves = rw (wanted.1, wanted.2) tt;
      acts =
          subst (λ (w : Whole). Acts g.K.Keep g.D.Disk 1 c.from_residual.result
          (backed_by c.args.self.now c.args.stables.now.items) (backed_by w c.args.stables.now.items) c.args.disks.now.items
          c.args.disks.now.items) (sym same) (acts_none c.requires.backed);
    }

pub commit_next-requires-clause-disks : goal.commit_next-requires-clause-disks
commit_next-requires-clause-disks g c =
    let backed = rw (← c.self.view_is) at c.requires.backed in
    c.prepare_at.ensures.stays.disks c.self.inside.members.items c.self.inside.members.items refl backed.disks

pub commit_next-requires-clause-stables : goal.commit_next-requires-clause-stables
commit_next-requires-clause-stables g c =
    c.prepare_at.ensures.stays.count ∙ c.requires.stables ∙ sym (ap (λ (w : Whole). length w.members) c.self.view_is)

pub prepare_at-requires-clause-member : goal.prepare_at-requires-clause-member
prepare_at-requires-clause-member g c =
    let member = c.requires.up.is.member in
    record { at_least = member.at_least; at_most = omega (arith, member.at_most, c.requires.stables) }

pub prepare_at-requires-clause-pair : goal.prepare_at-requires-clause-pair
prepare_at-requires-clause-pair g c =
    let member = c.requires.up.is.member in
    record { at_least = member.at_least; at_most = omega (arith, member.at_most, c.requires.backed.pairs) }

pub invariant_of-self : goal.invariant_of-self
invariant_of-self g c = search rules

pub invariant_of-self-in_err-prepare_at : goal.invariant_of-self-in_err-prepare_at
invariant_of-self-in_err-prepare_at g c = search rules
