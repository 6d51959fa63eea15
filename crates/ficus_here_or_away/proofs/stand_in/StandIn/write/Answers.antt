use Rattle.std.proofs.Common.{◌≤◌, ◌∙◌, ◌+◌, ℕ, ap, length, max, subst, sym}
use Rattle.ficus_disk.specs.declared.fuse.Pick.TheVariants.{Written}
use Rattle.ficus_here_or_away.proofs.Asking.{burns_of, length-patch, writes_of}
use Rattle.ficus_here_or_away.proofs.stand_in.StandIn.write.Goals as goal

-- What was written stands there, whether the call passed or not.
pub invariant_of-self-2 : goal.invariant_of-self-2
invariant_of-self-2 c =
    let was = c.args.self.now in
    let within = subst (λ (size : ℕ). c.args.at ≤ size) was.sized c.if-at-self.false in
    record {
      sized = c.max-self.ensures ∙ ap (λ (size : ℕ). max size (c.args.at + length c.args.bytes.now)) was.sized
          ∙ sym (length-patch _ c.args.bytes.now c.args.at within)
          ∙ sym (ap length ((c.write.ensures.by_fuse tt).images Written));
    }

pub returns-clause-writes : goal.returns-clause-writes
returns-clause-writes c = writes_of _ _ _ _ c.counted-answer.ensures.same _ _ c.write.ensures.writes

pub returns-clause-by_fuse : goal.returns-clause-by_fuse
returns-clause-by_fuse c = λ _. burns_of _ _ _ _ c.counted-answer.ensures.same _ _ (c.write.ensures.by_fuse tt)
