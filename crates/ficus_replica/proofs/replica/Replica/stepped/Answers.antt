use Rattle.std.proofs.Common.{inl, inr}
use Rattle.ficus_held_file_laws.specs.Laws.{Overwrites}
use Rattle.ficus_held_file_laws.specs.Laws.Overwrites.{Writes, Settles, Resolves}
use Rattle.ficus_replica.specs.Effect.{GivesName}
use Rattle.ficus_replica.specs.Effect.GivesName.{Links, Adopts}
use Rattle.ficus_replica.proofs.replica.Replica.stepped.Goals as goal

pub returns-in-Write : goal.returns-in-Write
returns-in-Write c =
    let overwrites : Overwrites c.args.op.now c.in-Write.file c.in-Write.bytes =
    elim c.in-Write.is [
      | inl is ↦ rw is Writes
      | inr (inl is) ↦ rw is Settles
      | inr (inr is) ↦ rw is Resolves
    ] in
    c.written.ensures c.args.op.now (rw c.items-in-Write.ensures overwrites)

pub returns-in-Link : goal.returns-in-Link
returns-in-Link c =
    let gives : GivesName c.args.op.now c.in-Link.dir c.in-Link.name c.in-Link.target =
    elim c.in-Link.is [
      | inl is ↦ rw is Links
      | inr is ↦ rw is Adopts
    ] in
    c.named.ensures c.args.op.now gives
