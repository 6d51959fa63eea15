use Rattle.std.proofs.Common.{◌≡◌, ◌++◌, length, List, ℕ}
use Rattle.ficus_loop.proofs.put.put_all.Given as goal

-- a front of the bytes was put, and the rest is left; no fault was counted
abbrev pub invariant-loop-rest : goal.invariant-loop-rest
invariant-loop-rest g l = record {
  front : g.K.Sink.tells → (front : List ℕ) × (l.bytes ≡ front ++ l.rest)
      × (g.K.Sink.written l.output ≡ g.K.Sink.written l.fn.output ++ front);
  steady : g.K.Sink.faults l.output ≡ g.K.Sink.faults l.fn.output;
}

abbrev pub decreases-loop-rest : goal.decreases-loop-rest
decreases-loop-rest g l = length l.rest
