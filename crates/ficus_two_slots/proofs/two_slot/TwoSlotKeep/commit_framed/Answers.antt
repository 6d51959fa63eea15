use Rattle.std.proofs.Common.{inl, refl, rules, true, false}
use Rattle.ficus_keeper.specs.Framed.{body_in}
use Rattle.ficus_slot.proofs.Commits.{save_fused, save_told}
use Rattle.ficus_two_slots.specs.Slots.{IsRegular, kept_in}
use Rattle.ficus_two_slots.specs.TwoSlot.{Fits}
use Rattle.ficus_two_slots.proofs.Commits.{saves, side, stands_on}
use Rattle.ficus_two_slots.proofs.Tails.{old_or_shut}
use Rattle.ficus_two_slots.proofs.two_slot.TwoSlotKeep.commit_framed.Goals as goal

pub returns-then-self-clause-saves : goal.returns-then-self-clause-saves
returns-then-self-clause-saves g c =
    let k = c.args.self.now in
    let body = body_in c.args.framed.now.items in
    let stands = λ (told : g.D.Disk.tells). stands_on true k _ _ c.if-self.true (c.requires.settled told).holds in
    record {
      told = λ told.
          save_told g.D.Disk kept_in Fits IsRegular false c.args.disks.now c.save_slot.ensures (c.requires.settled told)
          (saves false _ c.args.generation _ body _ _ (stands told) (c.requires.next told) _ refl refl refl)
          g.met.D.Disk.only_now (g.met.D.Disk.seen_may_be_left told) told;
      spans = search rules;
      other = search rules;
      counts = search rules;
      by_fuse = λ tells told regular.
          save_fused g.D.Disk kept_in Fits IsRegular false c.args.disks.now c.save_slot.ensures (c.requires.settled told)
          (saves false _ c.args.generation _ body _ _ (stands told) (c.requires.next told)
          (record k { on_a = false; generation = c.args.generation; shut = false }) refl refl refl)
          (g.met.D.Disk.image_may_be_left tells) tells told refl
          (side false _ c.args.generation _ body _ _ (stands told) (c.requires.next told) regular);
    }

pub returns-else-self-clause-saves : goal.returns-else-self-clause-saves
returns-else-self-clause-saves g c =
    let k = c.args.self.now in
    let body = body_in c.args.framed.now.items in
    let stands = λ (told : g.D.Disk.tells). stands_on false k _ _ c.if-self.false (c.requires.settled told).holds in
    record {
      told = λ told.
          save_told g.D.Disk kept_in Fits IsRegular true c.args.disks.now c.save_slot-else-self.ensures (c.requires.settled told)
          (saves true _ c.args.generation _ body _ _ (stands told) (c.requires.next told) _ refl refl refl)
          g.met.D.Disk.only_now (g.met.D.Disk.seen_may_be_left told) told;
      spans = search rules;
      other = search rules;
      counts = search rules;
      by_fuse = λ tells told regular.
          save_fused g.D.Disk kept_in Fits IsRegular true c.args.disks.now c.save_slot-else-self.ensures (c.requires.settled told)
          (saves true _ c.args.generation _ body _ _ (stands told) (c.requires.next told)
          (record k { on_a = true; generation = c.args.generation; shut = false }) refl refl refl)
          (g.met.D.Disk.image_may_be_left tells) tells told refl
          (side true _ c.args.generation _ body _ _ (stands told) (c.requires.next told) regular);
    }

pub returns-then-self-clause-tails : goal.returns-then-self-clause-tails
returns-then-self-clause-tails g c =
    record {
      a = λ told c_left left. inl left;
      b = λ told c_left left.
          old_or_shut (g.D.Disk.may_leave c.args.disks.now.b) _ _ c_left (g.met.D.Disk.seen_may_be_left told _)
          (c.save_slot.ensures.crash told (c.requires.settled told).synced_b c_left left);
    }

pub returns-else-self-clause-tails : goal.returns-else-self-clause-tails
returns-else-self-clause-tails g c =
    record {
      a = λ told c_left left.
          old_or_shut (g.D.Disk.may_leave c.args.disks.now.a) _ _ c_left (g.met.D.Disk.seen_may_be_left told _)
          (c.save_slot-else-self.ensures.crash told (c.requires.settled told).synced_a c_left left);
      b = λ told c_left left. inl left;
    }
