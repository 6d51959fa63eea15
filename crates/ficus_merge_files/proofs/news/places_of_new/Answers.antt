use Rattle.std.proofs.Common.{rules, ◌≡◌, ◌+◌, ℕ, subst, sym}
use Rattle.ficus_merge_files.proofs.Beside.{AreNewsSoFar, nothing_so_far, news_more, all_new, all_inside}
use Rattle.ficus_merge_files.proofs.news.places_of_new.Goals as goal

pub loop-next-init : goal.loop-next-init
loop-next-init c =
    let walk = c.of-walk.ensures in
    rw c.in_ok-places.ensures.items
    (nothing_so_far c.args.mine.now c.args.theirs.now c.of-walk.result walk.mine walk.theirs walk.theirs_passed
    walk.rising)

pub loop-next-preserved-in-Some-theirs : goal.loop-next-preserved-in-Some-theirs
loop-next-preserved-in-Some-theirs c =
    let next : c.in_ok-place.place ≡ c.loop-next.place + 1 = search rules in
    subst (λ (place : ℕ). AreNewsSoFar c.args.mine.now c.args.theirs.now c.next_pair.new.self c.note.new.places.items place)
    (sym next)
    (news_more c.args.mine.now c.args.theirs.now c.loop-next.walk c.next_pair.new.self c.loop-next.places.items
    c.note.new.places.items c.loop-next.place c.in-Some.next.mine c.in-Some-theirs.file c.loop-next.invariant
    (rw c.in-Some-theirs.is at c.in-Some.ensures.some) c.in_ok-note.ensures)

pub returns-clause-new : goal.returns-clause-new
returns-clause-new c =
    all_new c.args.mine.now c.args.theirs.now c.loop-next.walk c.loop-next.places.items c.loop-next.place
    c.loop-next.invariant c.in_default.ensures.none

pub returns-clause-inside : goal.returns-clause-inside
returns-clause-inside c =
    all_inside c.args.mine.now c.args.theirs.now c.loop-next.walk c.loop-next.places.items c.loop-next.place
    c.loop-next.invariant c.in_default.ensures.none
