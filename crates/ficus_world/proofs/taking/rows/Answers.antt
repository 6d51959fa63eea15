use Rattle.std.proofs.Common.{◌≡◌, ◌≢◌, ◌∙◌, refl}
use Rattle.ficus_formats.specs.declared.fault.ReadFault.{ReadFault}
use Rattle.ficus_formats.specs.declared.fault.ReadFault.TheVariants.{Memory, Unspelled}
use Rattle.ficus_ids.specs.declared.refusal.Refusal.{Refusal}
use Rattle.ficus_ids.specs.declared.refusal.Refusal.TheVariants.{Memory as OutOfMemory}
use Rattle.ficus_world.proofs.taking.rows.Goals as goal

-- a fault that isn't told as want of memory is that the bytes spell nothing
unspelled_if : (fault : ReadFault) (refusal : Refusal) → (fault ≡ Memory → refusal ≡ OutOfMemory)
    → refusal ≢ OutOfMemory → fault ≡ Unspelled
unspelled_if Unspelled refusal memory other = refl
unspelled_if Memory refusal memory other = absurd (other (memory refl))

pub returns-in-Err-clause-refused : goal.returns-in-Err-clause-refused
returns-in-Err-clause-refused c = λ other.
    let is = unspelled_if c.in-Err.fault c.refusal_of.result c.refusal_of.ensures.memory other in (
      c.refusal_of.ensures.unspelled is,
      λ entries files fits same. c.in-Err.ensures is (entries, files) (record { fits = fits; is = c.new.ensures ∙ same }),
    )
