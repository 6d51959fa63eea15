use Rattle.std.proofs.Common.{append_assoc}
use Rattle.ficus_generator.proofs.step.Step.line.Goals as goal

pub returns-in_ok-format-in-Create : goal.returns-in_ok-format-in-Create
returns-in_ok-format-in-Create c =
    let line = rw c.dir-dir.ensures at c.in_ok-format-in-Create.ensures.ok in
    rw c.in-Create.is (simp append_assoc line)

pub returns-in_ok-format-in-Resolve : goal.returns-in_ok-format-in-Resolve
returns-in_ok-format-in-Resolve c =
    let line = rw c.dir-dir.ensures at c.in_ok-format-in-Resolve.ensures.ok in
    rw c.in-Resolve.is (simp append_assoc line)

pub returns-in_ok-format-in-Pull : goal.returns-in_ok-format-in-Pull
returns-in_ok-format-in-Pull c =
    let line = rw c.peer_of-peer.ensures at c.in_ok-format-in-Pull.ensures.ok in
    rw c.in-Pull.is (simp append_assoc line)
