use Rattle.std.proofs.Common.{rules, ◌≡◌, ◌∙◌}
use Rattle.ficus_tag.specs.Tag.{IsTag}
use Rattle.ficus_wire.specs.declared.message.Message.{Message}
use Rattle.ficus_wire.specs.declared.message.Message.TheVariants.{Ask, Piece}
use Rattle.ficus_machine.proofs.Spelled.{behind_tag, sealed_for}
use Rattle.ficus_machine.proofs.coming.unsealed.Goals as goal

pub returns-in-Ok-Ask : goal.returns-in-Ok-Ask
returns-in-Ok-Ask c =
    let tag : IsTag c.args.tag = search rules in
    let own : c.in-Ok-Ask.to ≡ c.args.me = search rules in
    let fits = rw c.in-Ok-Ask.field-0-is at c.in-Ok-Ask.ensures.fits in
    let sealed = rw c.in-Ok-Ask.field-0-is at c.in-Ok-Ask.ensures.sealed in
    let message : Message = Ask c.in-Ok-Ask.from c.in-Ok-Ask.to c.in-Ok-Ask.number in (
      sealed_for c.args.tag c.args.bytes.now message sealed fits own,
      c.in_ok-spelled-in-Ok-Ask.ensures ∙ behind_tag c.args.tag c.args.bytes.now message sealed tag,
    )

pub returns-in-Ok-Piece : goal.returns-in-Ok-Piece
returns-in-Ok-Piece c =
    let tag : IsTag c.args.tag = search rules in
    let own : c.in-Ok-Piece.to ≡ c.args.me = search rules in
    let fits = rw c.in-Ok-Piece.field-0-is at c.in-Ok-Piece.ensures.fits in
    let sealed = rw c.in-Ok-Piece.field-0-is at c.in-Ok-Piece.ensures.sealed in
    let message : Message = Piece c.in-Ok-Piece.from c.in-Ok-Piece.to c.in-Ok-Piece.number c.in-Ok-Piece.state
    c.in-Ok-Piece.pieces c.in-Ok-Piece.index c.in-Ok-Piece.field-0-6 in (
      c.in-Ok-Piece.field-0-6,
      sealed_for c.args.tag c.args.bytes.now message sealed fits own,
      c.in_ok-spelled-in-Ok-Piece.ensures ∙ behind_tag c.args.tag c.args.bytes.now message sealed tag,
    )
