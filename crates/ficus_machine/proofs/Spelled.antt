-- What stands behind the tag of a message.
use Rattle.std.proofs.Common.{◌≡◌, ℕ, List, ◌++◌, drop, ap, subst, ◌∙◌}
use Rattle.std.proofs.Math.Seq.{drop-append_seam}
use Rattle.ficus_envelope.specs.Envelope.{sealed_bytes}
use Rattle.ficus_mailbox.specs.declared.found.Found.TheVariants.{Bytes}
use Rattle.ficus_tag.specs.Tag.{IsTag}
use Rattle.ficus_wire.specs.Message.{FitsMessage, message_bytes}
use Rattle.ficus_wire.specs.declared.message.Message.{Message}
use Rattle.ficus_world.specs.Machines.Part.{goes_to}
use Rattle.ficus_machine.specs.Came.{IsSealedFor}

module _ (tag bytes : List ℕ) (message : Message) (sealed : bytes ≡ sealed_bytes tag message) where
  -- the message stands behind the tag
  pub behind_tag : IsTag tag → drop 16 bytes ≡ message_bytes message
  behind_tag is =
      ap (λ (list : List ℕ). drop 16 list) sealed
      ∙ subst (λ n. drop n (tag ++ message_bytes message) ≡ message_bytes message) is.size
      (drop-append_seam tag (message_bytes message))

  -- it is for the member to whom it goes
  pub sealed_for : {members me : ℕ} → FitsMessage members message → goes_to message ≡ me
      → IsSealedFor tag members me (Bytes bytes) message
  sealed_for fits own = record { fits = fits; is = ap Bytes sealed; own = own }
