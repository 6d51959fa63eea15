use Rattle.std.proofs.Common.{◌+◌, ◌∙◌, ℕ, List, refl, ap, true, false, length, arith}
use Rattle.ficus_keeper.specs.Framed.{body_in}
use Rattle.ficus_slot.proofs.Commits.{save_fused, save_told}
use Rattle.ficus_journal.specs.Journal.{Fits}
use Rattle.ficus_journal.specs.Logs.{HaveNoOpenGate, IsRegular, kept_in}
use Rattle.ficus_journal.proofs.Saving.{fits_on, record_gates, record_place, record_saves, record_turns}
use Rattle.ficus_journal.proofs.journal.Journal.commit_record.Goals as goal

pub returns-then-self-clause-told : goal.returns-then-self-clause-told
returns-then-self-clause-told g c told =
    let fits = fits_on true c.args.self.now _ _ c.if-self.true (c.requires.settled told).holds in
    save_told g.D.Disk kept_in Fits IsRegular true c.args.disks.now c.append.ensures (c.requires.settled told)
    (record_saves true _ _ _ fits c.args.generation (body_in c.args.framed.now.items) (c.requires.next told) c.requires.record_ (omega arith)
    c.requires.room.takes _ c.if-self.true refl refl
    (ap (λ (n : ℕ). c.args.self.now.end + n + 13) (c.body_size.ensures.size ∙ ap (λ (l : List ℕ). length (body_in l)) c.deref.ensures.value)) refl refl)
    g.met.D.Disk.only_now (g.met.D.Disk.seen_may_be_left told) told

pub returns-then-self-clause-by_fuse : goal.returns-then-self-clause-by_fuse
returns-then-self-clause-by_fuse g c tells told regular =
    let k = c.args.self.now in
    let fits = fits_on true k _ _ c.if-self.true (c.requires.settled told).holds in
    let turns = record_turns true k _ _ fits c.args.generation (body_in c.args.framed.now.items) (c.requires.next told) c.requires.record_
    (omega arith) c.requires.room.takes regular in
    save_fused g.D.Disk kept_in Fits IsRegular true c.args.disks.now c.append.ensures (c.requires.settled told)
    (record_saves true k _ _ fits c.args.generation (body_in c.args.framed.now.items) (c.requires.next told) c.requires.record_ (omega arith)
    c.requires.room.takes (record k { end = k.end + length (body_in c.args.framed.now.items) + 13; count = k.count + 1 }) c.if-self.true
    refl refl refl refl refl)
    (g.met.D.Disk.image_may_be_left tells) tells told turns.0 turns.1

pub append-requires-clause-gate : goal.append-requires-clause-gate
append-requires-clause-gate g c told =
    record_place true _ _ _ (fits_on true _ _ _ c.if-self.true (c.requires.settled told).holds) c.args.generation (body_in c.args.framed.now.items)
    (c.requires.next told) c.requires.record_ (omega arith) c.requires.room.takes

pub returns-else-self-clause-told : goal.returns-else-self-clause-told
returns-else-self-clause-told g c told =
    let fits = fits_on false c.args.self.now _ _ c.if-self.false (c.requires.settled told).holds in
    save_told g.D.Disk kept_in Fits IsRegular false c.args.disks.now c.append-else-self.ensures (c.requires.settled told)
    (record_saves false _ _ _ fits c.args.generation (body_in c.args.framed.now.items) (c.requires.next told) c.requires.record_ (omega arith)
    c.requires.room.takes _ c.if-self.false refl refl
    (ap (λ (n : ℕ). c.args.self.now.end + n + 13) (c.body_size.ensures.size ∙ ap (λ (l : List ℕ). length (body_in l)) c.deref.ensures.value)) refl refl)
    g.met.D.Disk.only_now (g.met.D.Disk.seen_may_be_left told) told

pub returns-else-self-clause-by_fuse : goal.returns-else-self-clause-by_fuse
returns-else-self-clause-by_fuse g c tells told regular =
    let k = c.args.self.now in
    let fits = fits_on false k _ _ c.if-self.false (c.requires.settled told).holds in
    let turns = record_turns false k _ _ fits c.args.generation (body_in c.args.framed.now.items) (c.requires.next told) c.requires.record_
    (omega arith) c.requires.room.takes regular in
    save_fused g.D.Disk kept_in Fits IsRegular false c.args.disks.now c.append-else-self.ensures (c.requires.settled told)
    (record_saves false k _ _ fits c.args.generation (body_in c.args.framed.now.items) (c.requires.next told) c.requires.record_ (omega arith)
    c.requires.room.takes (record k { end = k.end + length (body_in c.args.framed.now.items) + 13; count = k.count + 1 }) c.if-self.false
    refl refl refl refl refl)
    (g.met.D.Disk.image_may_be_left tells) tells told turns.0 turns.1

pub append-requires-else-self-clause-gate : goal.append-requires-else-self-clause-gate
append-requires-else-self-clause-gate g c told =
    record_place false _ _ _ (fits_on false _ _ _ c.if-self.false (c.requires.settled told).holds) c.args.generation (body_in c.args.framed.now.items)
    (c.requires.next told) c.requires.record_ (omega arith) c.requires.room.takes

pub returns-then-self-clause-gates : goal.returns-then-self-clause-gates
returns-then-self-clause-gates g c told was =
    let k = c.args.self.now in
    let fits = fits_on true k _ _ c.if-self.true (c.requires.settled told).holds in
    let saves = record_saves true k _ _ fits c.args.generation (body_in c.args.framed.now.items) (c.requires.next told) c.requires.record_
    (omega arith) c.requires.room.takes (record k { end = k.end + length (body_in c.args.framed.now.items) + 13; count = k.count + 1 })
    c.if-self.true refl refl refl refl refl in
    (save_told g.D.Disk kept_in Fits HaveNoOpenGate true c.args.disks.now c.append.ensures (c.requires.settled told)
    (record_gates true k _ _ fits c.args.generation (body_in c.args.framed.now.items) (c.requires.next told) c.requires.record_
    (omega arith) c.requires.room.takes _ _ saves) g.met.D.Disk.only_now (g.met.D.Disk.seen_may_be_left told) told).regular was

pub returns-else-self-clause-gates : goal.returns-else-self-clause-gates
returns-else-self-clause-gates g c told was =
    let k = c.args.self.now in
    let fits = fits_on false k _ _ c.if-self.false (c.requires.settled told).holds in
    let saves = record_saves false k _ _ fits c.args.generation (body_in c.args.framed.now.items) (c.requires.next told) c.requires.record_
    (omega arith) c.requires.room.takes (record k { end = k.end + length (body_in c.args.framed.now.items) + 13; count = k.count + 1 })
    c.if-self.false refl refl refl refl refl in
    (save_told g.D.Disk kept_in Fits HaveNoOpenGate false c.args.disks.now c.append-else-self.ensures (c.requires.settled told)
    (record_gates false k _ _ fits c.args.generation (body_in c.args.framed.now.items) (c.requires.next told) c.requires.record_
    (omega arith) c.requires.room.takes _ _ saves) g.met.D.Disk.only_now (g.met.D.Disk.seen_may_be_left told) told).regular was
