use Rattle.std.proofs.Common.{◌≡◌, ◌+◌, ◌<◌, ◌≤◌, ◌^◌, length}
use Rattle.std.specs.Prelude.{sum_by}
use Rattle.std.specs.Vec.Iter.{into_iter_items}
use Rattle.ficus_runs.specs.Exchange.{total_limit}
use Rattle.ficus_world.specs.Post.{HasRoom}
use Rattle.ficus_world.proofs.Sending.{HasSent}
use Rattle.ficus_world.proofs.post.Post.send_each.Given as goal

-- the messages so far are posted, and there is room for those that are left
abbrev pub invariant-loop-message : goal.invariant-loop-message
invariant-loop-message g l = record {
  sent : HasSent g.L.Link.tells l.position l.fn.messages.items l.index (into_iter_items l.message-iterator) l.fn.self.now
      l.self.now;
  room : HasRoom l.self (length (into_iter_items l.message-iterator));
  few : length l.self.now.posts + length (into_iter_items l.message-iterator) < 2 ^ 32;
  fits : l.self.now.total + sum_by length (into_iter_items l.message-iterator) ≤ total_limit;
  counted : l.index + length (into_iter_items l.message-iterator) ≡ length l.fn.messages.items;
}
