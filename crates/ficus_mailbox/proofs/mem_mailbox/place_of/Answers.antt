use Rattle.std.proofs.Common.{rules, arith, ◌≡◌, ◌≢◌}
use Rattle.ficus_mailbox.specs.MemMailbox.{IsOther}
use Rattle.ficus_mailbox.proofs.Inbox.{at_place}
use Rattle.ficus_mailbox.proofs.mem_mailbox.place_of.Goals as goal
use borrow.Author.Count.{below_more}

pub returns-then-eq-clause-first : goal.returns-then-eq-clause-first
returns-then-eq-clause-first c = record {
  there = omega arith;
  here = at_place (λ filed. filed.name ≡ c.args.name.now) c.args.inbox.now _ _ (omega arith) c.index-inbox-place.is (search rules);
  earlier = c.loop-place.invariant;
}

pub loop-place-preserved : goal.loop-place-preserved
loop-place-preserved c =
    below_more (IsOther c.args.inbox.now c.args.name.now) c.loop-place.place c.loop-place.invariant
    (at_place (λ filed. filed.name ≢ c.args.name.now) c.args.inbox.now _ _ (omega arith) c.index-inbox-place.is (search rules))
