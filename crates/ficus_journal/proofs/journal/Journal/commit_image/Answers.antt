use Rattle.std.proofs.Common.{◌+◌, ◌∙◌, ℕ, List, refl, ap, true, false, length}
use Rattle.ficus_keeper.specs.Framed.{body_in}
use Rattle.ficus_slot.proofs.Commits.{save_fused, save_told}
use Rattle.ficus_journal.specs.Journal.{Fits}
use Rattle.ficus_journal.specs.Logs.{HaveNoOpenGate, IsRegular, kept_in}
use Rattle.ficus_journal.proofs.Gates.{image_gates}
use Rattle.ficus_journal.proofs.Saving.{fits_on, image_saves, image_turns}
use Rattle.ficus_journal.proofs.journal.Journal.commit_image.Goals as goal

pub returns-then-self-clause-told : goal.returns-then-self-clause-told
returns-then-self-clause-told g c told =
    let fits = fits_on true c.args.self.now _ _ c.if-self.true (c.requires.settled told).holds in
    save_told g.D.Disk kept_in Fits IsRegular false c.args.disks.now c.save_slot.ensures (c.requires.settled told)
    (image_saves true _ _ _ fits c.args.generation (body_in c.args.framed.now.items) (c.requires.next told) c.requires.image _ refl refl refl
    (ap (λ (n : ℕ). n + 17) (c.body_size.ensures.size ∙ ap (λ (l : List ℕ). length (body_in l)) c.deref.ensures.value)) refl refl)
    g.met.D.Disk.only_now (g.met.D.Disk.seen_may_be_left told) told

pub returns-then-self-clause-by_fuse : goal.returns-then-self-clause-by_fuse
returns-then-self-clause-by_fuse g c tells told regular =
    let k = c.args.self.now in
    let fits = fits_on true k _ _ c.if-self.true (c.requires.settled told).holds in
    let turns = image_turns true k _ _ fits c.args.generation (body_in c.args.framed.now.items) (c.requires.next told) c.requires.image regular in
    save_fused g.D.Disk kept_in Fits IsRegular false c.args.disks.now c.save_slot.ensures (c.requires.settled told)
    (image_saves true k _ _ fits c.args.generation (body_in c.args.framed.now.items) (c.requires.next told) c.requires.image
    (record k { generation = c.args.generation; on_a = false; shut = false; end = length (body_in c.args.framed.now.items) + 17; count = 0; stuck = false })
    refl refl refl refl refl refl)
    (g.met.D.Disk.image_may_be_left tells) tells told turns.0 turns.1

pub returns-else-self-clause-told : goal.returns-else-self-clause-told
returns-else-self-clause-told g c told =
    let fits = fits_on false c.args.self.now _ _ c.if-self.false (c.requires.settled told).holds in
    save_told g.D.Disk kept_in Fits IsRegular true c.args.disks.now c.save_slot-else-self.ensures (c.requires.settled told)
    (image_saves false _ _ _ fits c.args.generation (body_in c.args.framed.now.items) (c.requires.next told) c.requires.image _ refl refl refl
    (ap (λ (n : ℕ). n + 17) (c.body_size.ensures.size ∙ ap (λ (l : List ℕ). length (body_in l)) c.deref.ensures.value)) refl refl)
    g.met.D.Disk.only_now (g.met.D.Disk.seen_may_be_left told) told

pub returns-else-self-clause-by_fuse : goal.returns-else-self-clause-by_fuse
returns-else-self-clause-by_fuse g c tells told regular =
    let k = c.args.self.now in
    let fits = fits_on false k _ _ c.if-self.false (c.requires.settled told).holds in
    let turns = image_turns false k _ _ fits c.args.generation (body_in c.args.framed.now.items) (c.requires.next told) c.requires.image regular in
    save_fused g.D.Disk kept_in Fits IsRegular true c.args.disks.now c.save_slot-else-self.ensures (c.requires.settled told)
    (image_saves false k _ _ fits c.args.generation (body_in c.args.framed.now.items) (c.requires.next told) c.requires.image
    (record k { generation = c.args.generation; on_a = true; shut = false; end = length (body_in c.args.framed.now.items) + 17; count = 0; stuck = false })
    refl refl refl refl refl refl)
    (g.met.D.Disk.image_may_be_left tells) tells told turns.0 turns.1

pub returns-then-self-clause-gates : goal.returns-then-self-clause-gates
returns-then-self-clause-gates g c told was =
    let fits = fits_on true c.args.self.now _ _ c.if-self.true (c.requires.settled told).holds in
    let saves = image_saves true _ _ _ fits c.args.generation (body_in c.args.framed.now.items) (c.requires.next told) c.requires.image
    (record c.args.self.now {
      generation = c.args.generation;
      on_a = false;
      shut = false;
      end = length (body_in c.args.framed.now.items) + 17;
      count = 0;
      stuck = false;
    })
    refl refl refl refl refl refl in
    (save_told g.D.Disk kept_in Fits HaveNoOpenGate false c.args.disks.now c.save_slot.ensures (c.requires.settled told)
    (image_gates false _ _ _ _ _ saves) g.met.D.Disk.only_now (g.met.D.Disk.seen_may_be_left told) told).regular was

pub returns-else-self-clause-gates : goal.returns-else-self-clause-gates
returns-else-self-clause-gates g c told was =
    let fits = fits_on false c.args.self.now _ _ c.if-self.false (c.requires.settled told).holds in
    let saves = image_saves false _ _ _ fits c.args.generation (body_in c.args.framed.now.items) (c.requires.next told) c.requires.image
    (record c.args.self.now {
      generation = c.args.generation;
      on_a = true;
      shut = false;
      end = length (body_in c.args.framed.now.items) + 17;
      count = 0;
      stuck = false;
    })
    refl refl refl refl refl refl in
    (save_told g.D.Disk kept_in Fits HaveNoOpenGate true c.args.disks.now c.save_slot-else-self.ensures (c.requires.settled told)
    (image_gates true _ _ _ _ _ saves) g.met.D.Disk.only_now (g.met.D.Disk.seen_may_be_left told) told).regular was
